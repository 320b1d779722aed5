use Rattle.std.proofs.Common.{Some, ap, sym, ◌∙◌, subst}
use Rattle.std.proofs.lemmas.Result.{err_from_is_err_and}
use Rattle.code_gen.specs.Programs.{program_in}
use Rattle.command_parts.specs.OutcomeAnswers.{outcome_stored, storing_answer}
use Rattle.command_parts.specs.RoleInputs.{with_ended_call}
use Rattle.command_parts.specs.ReadPrograms.{named_of}
use Rattle.command_parts.specs.RolesCalled.{EndsIn, HasEnded, role_of}
use Rattle.command_parts.specs.Storing.{FindsOutput}
use Rattle.command_parts.specs.declared.roles.Callee.TheVariants.{Update}
use Rattle.command_parts.proofs.Reached.{output_reached}
use Rattle.command_parts.proofs.RoleSteps.{same_reached}
use Rattle.command_parts.proofs.Steps.{hand_cause, hand_found, output_halt}
use Rattle.call_commands.proofs.step_state.step_state.Goals as goal

pub returns-in_err-ended-clause-finds : goal.returns-in_err-ended-clause-finds
returns-in_err-ended-clause-finds g c = λ name told known.
    let err = err_from_is_err_and c.from_residual.result c.from_residual.ensures.1 in
    output_halt name _ c.from_residual.result _ (cc) (c.in_err-ended.ensures.goes told known (λ ended. Some (storing_answer ended name)))

pub returns-in_err-ended-clause-reached : goal.returns-in_err-ended-clause-reached
returns-in_err-ended-clause-reached g c = λ name.
    let err = err_from_is_err_and c.from_residual.result c.from_residual.ensures.1 in
    let words = c.args.words.now in
    same_reached (λ told. with_ended_call Update (named_of (program_in c.args.code.now)) words.role.now c.args.image.now words.argument.now words.fuel.now told (λ ended. Some (storing_answer ended name)))
    _ _ _ c.from_residual.result (cc) (c.in_err-ended.ensures.reached (λ ended. Some (storing_answer ended name)))

pub role_output-requires : goal.role_output-requires
role_output-requires g c = (Update, tt, subst (λ p. HasEnded Update p c.in_ok-ended.ended) (sym c.program.ensures) c.in_ok-ended.ensures.ended)

pub returns-clause-finds : goal.returns-clause-finds
returns-clause-finds g c = λ name told known.
    let ended = c.in_ok-ended.ensures.goes told known in
    let found = c.role_output.ensures.finds name Update ended.0.outcome tt (subst (λ p. EndsIn Update p c.in_ok-ended.ended ended.0.outcome) (sym c.program.ensures) ended.2.1) in
    subst (λ answer. FindsOutput name answer c.role_output.result) (sym (ended.1 (λ ended. Some (storing_answer ended name))))
    (subst (λ r. FindsOutput name (Some (outcome_stored r ended.0.outcome name)) c.role_output.result) (ap (λ p. role_of p c.in_ok-ended.ended.called) c.program.ensures ∙ sym ended.2.0)
    (hand_found name _ c.role_output.result found))

pub returns-clause-cause : goal.returns-clause-cause
returns-clause-cause g c =
    let ended = subst (λ p. HasEnded Update p c.in_ok-ended.ended) (sym c.program.ensures) c.in_ok-ended.ensures.ended in
    hand_cause (λ name. Some (outcome_stored (role_of c.program.result.now c.in_ok-ended.ended.called) ended.0 name)) c.role_output.result _ _
    (λ name. c.role_output.ensures.finds name Update ended.0 tt ended.1) c.in_ok-ended.ensures.cause

pub returns-clause-reached : goal.returns-clause-reached
returns-clause-reached g c = λ name.
    let ended = subst (λ p. HasEnded Update p c.in_ok-ended.ended) (sym c.program.ensures) c.in_ok-ended.ensures.ended in
    let words = c.args.words.now in
    output_reached name _ (λ told. with_ended_call Update (named_of (program_in c.args.code.now)) words.role.now c.args.image.now words.argument.now words.fuel.now told (λ ended. Some (storing_answer ended name)))
    _ _ c.role_output.result (c.role_output.ensures.finds name Update ended.0 tt ended.1)
