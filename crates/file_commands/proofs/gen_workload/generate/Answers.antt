use Rattle.std.proofs.Common.{◌≡◌, Some, Ok, sym, ◌∙◌, subst}
use Rattle.std.proofs.lemmas.Result.{err_from_is_err_and}
use Rattle.code_gen.specs.Programs.{program_in}
use Rattle.core_terms.specs.Programs.{meaning}
use Rattle.command_parts.specs.WorkloadAnswers.{generated_by, with_workload, workload_answer}
use Rattle.command_parts.specs.OutcomeAnswers.{outcome_told}
use Rattle.command_parts.specs.RoleInputs.{with_ended_init}
use Rattle.command_parts.specs.AnswerForms.{says}
use Rattle.file_commands.specs.GeneratedCalls.{numbers_of}
use Rattle.command_parts.specs.Halting.{FindsLines, InHand, ending_status}
use Rattle.command_parts.specs.ReadPrograms.{named_of}
use Rattle.command_parts.specs.RoleCalls.{kind_called, state_made}
use Rattle.command_parts.specs.RolesCalled.{EndsIn, IsEnded, role_of}
use Rattle.command_parts.specs.declared.roles.Callee.TheVariants.{Init}
use Rattle.workloads.specs.declared.workload.Workload.{Workload}
use Rattle.command_parts.proofs.LineSteps.{found_as, unfound, unfound_for}
use Rattle.file_commands.proofs.Workloads.{behind_first, behind_roles, first_is, outcome_found, state_found}
use Rattle.file_commands.proofs.gen_workload.generate.Goals as goal

pub returns-in_err-workload-clause-finds : goal.returns-in_err-workload-clause-finds
returns-in_err-workload-clause-finds c =
    let name = c.args.name.now in
    let numbers = numbers_of c.args.numbers in
    let q = c.program-program.result.now in
    let err = err_from_is_err_and c.from_residual.result c.from_residual.ensures.1 in
    subst (λ p. InHand (FindsLines (generated_by (named_of p) name numbers)) c.from_residual.result) c.program-program.ensures
    (unfound (with_workload (meaning q) name numbers.kept) (λ (w : Workload). w) (behind_roles (named_of q) name numbers) c.from_residual.result _ (cc) c.in_err-workload.ensures.goes)

pub returns-in_err-ended-clause-finds : goal.returns-in_err-ended-clause-finds
returns-in_err-ended-clause-finds c =
    let name = c.args.name.now in
    let numbers = numbers_of c.args.numbers in
    let p = program_in c.args.code.now in
    let w = c.in_ok-workload.workload in
    let call = c.first_call-call.result in
    let is = c.first_call-call.ensures in
    let err = err_from_is_err_and c.from_residual-in_err-ended.result c.from_residual-in_err-ended.ensures.1 in
    let goes = subst (λ p. generated_by (named_of p) name numbers ≡ behind_roles (named_of p) name numbers w) c.program-program.ensures
    (c.in_ok-workload.ensures.goes (behind_roles (named_of c.program-program.result.now) name numbers)) in
    found_as _ _ _ (goes ∙ first_is (named_of p) name call.role.now call.argument.now call.fuel.now is.role is.argument is.fuel (behind_first (named_of p) numbers w))
    (unfound_for (with_ended_init (named_of p) call.role.now call.argument.now call.fuel.now) (IsEnded Init p) (behind_first (named_of p) numbers w)
    c.from_residual-in_err-ended.result _ (cc) c.in_err-ended.ensures)

pub state_made-requires : goal.state_made-requires
state_made-requires c =
    let ended = c.in_ok-ended.ensures in
    (program_in c.args.code.now, Init, tt, (ended.0.outcome, ended.2.1))

pub run_and_tell-requires-clause-state : goal.run_and_tell-requires-clause-state
run_and_tell-requires-clause-state c =
    let p = program_in c.args.code.now in
    let ended = c.in_ok-ended.ensures in
    let made = c.in-Some.ensures p Init ended.0.outcome tt ended.2.1 in
    (state_made (kind_called (role_of p c.in_ok-ended.ended.called)) made.0, record { stands = made.2; limit = ended.2.1.limit })

pub returns-in_ok-run_and_tell-in-Some-clause-finds : goal.returns-in_ok-run_and_tell-in-Some-clause-finds
returns-in_ok-run_and_tell-in-Some-clause-finds c =
    let name = c.args.name.now in
    let numbers = numbers_of c.args.numbers in
    let p = program_in c.args.code.now in
    let w = c.in_ok-workload.workload in
    let call = c.first_call-call.result in
    let is = c.first_call-call.ensures in
    let ended = c.in_ok-ended.ensures in
    let r = role_of p c.in_ok-ended.ended.called in
    let made = c.in-Some.ensures p Init ended.0.outcome tt ended.2.1 in
    let report = c.in_ok-run_and_tell-in-Some.field-0 in
    let goes = subst (λ p. generated_by (named_of p) name numbers ≡ behind_roles (named_of p) name numbers w) c.program-program.ensures
    (c.in_ok-workload.ensures.goes (behind_roles (named_of c.program-program.result.now) name numbers)) in
    found_as (generated_by (named_of p) name numbers) (behind_first (named_of p) numbers w ended.0) (Ok report)
    (goes ∙ first_is (named_of p) name call.role.now call.argument.now call.fuel.now is.role is.argument is.fuel (behind_first (named_of p) numbers w)
    ∙ ended.1 (behind_first (named_of p) numbers w))
    (state_found (named_of p) numbers w ended.0 r made.0 report ended.2.0 made.1
    (c.in_ok-run_and_tell-in-Some.ensures.finds (state_made (kind_called r) made.0) (record { stands = made.2; limit = ended.2.1.limit })))

pub returns-in_ok-role_report-in-None-clause-finds : goal.returns-in_ok-role_report-in-None-clause-finds
returns-in_ok-role_report-in-None-clause-finds c =
    let name = c.args.name.now in
    let numbers = numbers_of c.args.numbers in
    let p = program_in c.args.code.now in
    let w = c.in_ok-workload.workload in
    let call = c.first_call-call.result in
    let is = c.first_call-call.ensures in
    let ended = c.in_ok-ended.ensures in
    let r = role_of p c.in_ok-ended.ended.called in
    let report = c.in_ok-role_report-in-None.field-0 in
    let goes = subst (λ p. generated_by (named_of p) name numbers ≡ behind_roles (named_of p) name numbers w) c.program-program.ensures
    (c.in_ok-workload.ensures.goes (behind_roles (named_of c.program-program.result.now) name numbers)) in
    found_as (generated_by (named_of p) name numbers) (behind_first (named_of p) numbers w ended.0) (Ok report)
    (goes ∙ first_is (named_of p) name call.role.now call.argument.now call.fuel.now is.role is.argument is.fuel (behind_first (named_of p) numbers w)
    ∙ ended.1 (behind_first (named_of p) numbers w))
    (outcome_found ended.0 r (λ s. Some (workload_answer (named_of p) numbers w s)) report ended.2.0
    (c.in-None.ensures p Init ended.0.outcome tt ended.2.1)
    (subst (λ q. outcome_told (role_of q c.in_ok-ended.ended.called) ended.0.outcome ≡ says (ending_status report.ending) report.text.items) c.program-program.ensures
    (c.in_ok-role_report-in-None.ensures.tells Init ended.0.outcome (subst (λ q. EndsIn Init q c.in_ok-ended.ended ended.0.outcome) (sym c.program-program.ensures) ended.2.1))))
