use Rattle.std.proofs.Common.{Some, ap, sym, ◌∙◌, subst}
use Rattle.std.proofs.lemmas.Result.{err_from_is_err_and}
use Rattle.code_gen.specs.Programs.{program_in}
use Rattle.command_parts.specs.Halting.{InHand}
use Rattle.command_parts.specs.OutcomeAnswers.{outcome_stored, storing_answer}
use Rattle.command_parts.specs.RoleInputs.{with_ended_init}
use Rattle.command_parts.specs.ReadPrograms.{named_of}
use Rattle.command_parts.specs.RolesCalled.{EndsIn, IsEnded, role_of}
use Rattle.command_parts.specs.Storing.{FindsOutput}
use Rattle.command_parts.specs.declared.roles.Callee.TheVariants.{Init}
use Rattle.command_parts.proofs.RoleSteps.{hand_unfound}
use Rattle.call_commands.proofs.init_state.make_state.Goals as goal

pub returns-in_err-ended-clause-finds : goal.returns-in_err-ended-clause-finds
returns-in_err-ended-clause-finds c = λ name.
    let words = c.args.words.now in
    let p = program_in c.args.code.now in
    let err = err_from_is_err_and c.from_residual.result c.from_residual.ensures.1 in
    hand_unfound name (with_ended_init (named_of p) words.role.now words.argument.now words.fuel.now) (IsEnded Init p) (λ ended. Some (storing_answer ended name)) c.from_residual.result _ (cc)
    c.in_err-ended.ensures

pub role_output-requires : goal.role_output-requires
role_output-requires c =
    let ended = c.in_ok-ended.ensures in
    (Init, tt, (ended.0.outcome, subst (λ p. EndsIn Init p c.in_ok-ended.ended ended.0.outcome) (sym c.program.ensures) ended.2.1))

pub returns-clause-finds : goal.returns-clause-finds
returns-clause-finds c = λ name.
    let ended = c.in_ok-ended.ensures in
    let found = c.role_output.ensures.finds name Init ended.0.outcome tt (subst (λ p. EndsIn Init p c.in_ok-ended.ended ended.0.outcome) (sym c.program.ensures) ended.2.1) in
    subst (λ answer. InHand (FindsOutput name answer) c.role_output.result) (sym (ended.1 (λ ended. Some (storing_answer ended name))))
    (subst (λ r. InHand (FindsOutput name (Some (outcome_stored r ended.0.outcome name))) c.role_output.result) (ap (λ p. role_of p c.in_ok-ended.ended.called) c.program.ensures ∙ sym ended.2.0) found)
