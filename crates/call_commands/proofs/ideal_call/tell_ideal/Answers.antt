use Rattle.std.proofs.Common.{Some, ap, sym, ◌∙◌, subst}
use Rattle.std.proofs.lemmas.Result.{err_from_is_err_and}
use Rattle.code_gen.specs.Programs.{program_in}
use Rattle.command_parts.specs.OutcomeAnswers.{outcome_told, role_answer}
use Rattle.command_parts.specs.RoleInputs.{with_ended_call}
use Rattle.command_parts.specs.ReadPrograms.{named_of}
use Rattle.command_parts.specs.RolesCalled.{EndsIn, HasEnded, role_of}
use Rattle.command_parts.specs.declared.roles.Callee.TheVariants.{OfState}
use Rattle.command_parts.proofs.RoleSteps.{same_reached}
use Rattle.command_parts.proofs.Steps.{finds_halt}
use Rattle.call_commands.proofs.ideal_call.tell_ideal.Goals as goal

pub returns-in_err-ended-clause-finds : goal.returns-in_err-ended-clause-finds
returns-in_err-ended-clause-finds g c = λ told known.
    let err = err_from_is_err_and c.from_residual.result c.from_residual.ensures.1 in
    finds_halt _ c.from_residual.result _ (cc) (c.in_err-ended.ensures.goes told known (λ ended. Some (role_answer ended)))

pub returns-in_err-ended-clause-reached : goal.returns-in_err-ended-clause-reached
returns-in_err-ended-clause-reached g c =
    let err = err_from_is_err_and c.from_residual.result c.from_residual.ensures.1 in
    let words = c.args.words.now in
    same_reached (λ told. with_ended_call OfState (named_of (program_in c.args.code.now)) words.role.now c.args.image.now words.argument.now words.fuel.now told (λ ended. Some (role_answer ended)))
    _ _ _ c.from_residual.result (cc) (c.in_err-ended.ensures.reached (λ ended. Some (role_answer ended)))

pub role_report-requires : goal.role_report-requires
role_report-requires g c = (OfState, subst (λ p. HasEnded OfState p c.in_ok-ended.ended) (sym c.program.ensures) c.in_ok-ended.ensures.ended)

pub returns-clause-finds : goal.returns-clause-finds
returns-clause-finds g c = λ told known.
    let ended = c.in_ok-ended.ensures.goes told known in
    let tells = c.in_ok-role_report.ensures.tells OfState ended.0.outcome (subst (λ p. EndsIn OfState p c.in_ok-ended.ended ended.0.outcome) (sym c.program.ensures) ended.2.1) in
    ended.1 (λ ended. Some (role_answer ended))
    ∙ ap (λ r. Some (outcome_told r ended.0.outcome)) (ended.2.0 ∙ ap (λ p. role_of p c.in_ok-ended.ended.called) (sym c.program.ensures))
    ∙ ap Some tells
