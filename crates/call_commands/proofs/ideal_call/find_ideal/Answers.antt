use Rattle.std.proofs.Common.{ℕ, List, Option, Some, ap, sym, ◌∙◌, subst}
use Rattle.std.proofs.lemmas.Result.{err_from_is_err_and}
use Rattle.lam_outside.specs.Told.{Contents}
use Rattle.code_gen.specs.Programs.{program_in}
use Rattle.command_parts.specs.Answer.{ideal_answer}
use Rattle.command_parts.specs.OutcomeAnswers.{role_answer}
use Rattle.command_parts.specs.RoleInputs.{with_ended_call}
use Rattle.command_parts.specs.FileInputs.{with_program_file}
use Rattle.command_parts.specs.AnswerForms.{Answer}
use Rattle.command_parts.specs.FueledRoles.{NamedProgram}
use Rattle.command_parts.specs.Halting.{Finds}
use Rattle.command_parts.specs.ReadPrograms.{named_of}
use Rattle.command_parts.specs.Reaching.{without}
use Rattle.command_parts.specs.declared.roles.Callee.TheVariants.{OfState}
use Rattle.command_parts.proofs.Reached.{faults_reached, is_missing}
use Rattle.command_parts.proofs.RoleSteps.{program_reached}
use Rattle.command_parts.proofs.Steps.{finds_halt}
use Rattle.call_commands.proofs.ideal_call.find_ideal.Goals as goal

-- what stands behind the program
abbrev behind_program : (role image argument fuel : List ℕ) → NamedProgram → Contents → Option Answer
behind_program role image argument fuel p files = with_ended_call OfState p role image argument fuel files (λ ended. Some (role_answer ended))

pub returns-in_err-code-clause-finds : goal.returns-in_err-code-clause-finds
returns-in_err-code-clause-finds g c = λ told known.
    let words = c.args.words.now in
    let err = err_from_is_err_and c.from_residual.result c.from_residual.ensures.1 in
    finds_halt _ c.from_residual.result _ (cc)
    (c.in_err-code.ensures.goes told known (λ p. behind_program words.role.now c.args.image.now words.argument.now words.fuel.now p told))

pub returns-clause-finds : goal.returns-clause-finds
returns-clause-finds g c = λ told known.
    let words = c.args.words.now in
    subst (λ answer. Finds answer c.tell_ideal.result)
    (sym (c.in_ok-code.ensures.goes told known (λ p. behind_program words.role.now c.args.image.now words.argument.now words.fuel.now p told)))
    (c.tell_ideal.ensures.finds told (c.in_ok-code.ensures.contents ∙ known))

pub returns-in_err-code-clause-reached : goal.returns-in_err-code-clause-reached
returns-in_err-code-clause-reached g c =
    let words = c.args.words.now in
    let program = words.program.now in
    let image = c.args.image.now in
    let err = err_from_is_err_and c.from_residual.result c.from_residual.ensures.1 in
    faults_reached (ideal_answer program words.role.now image words.argument.now words.fuel.now) program _ _ _ c.from_residual.result (cc)
    (λ files known. ap (λ file. with_program_file file (λ p. behind_program words.role.now image words.argument.now words.fuel.now p (without program files))) (is_missing program files))
    c.in_err-code.ensures.asked

pub returns-clause-reached : goal.returns-clause-reached
returns-clause-reached g c =
    let words = c.args.words.now in
    program_reached words.program.now (behind_program words.role.now c.args.image.now words.argument.now words.fuel.now) _ _ (named_of (program_in c.in_ok-code.code)) c.in_ok-code.ensures.goes
    _ c.tell_ideal.result c.in_ok-code.ensures.contents (c.tell_ideal.ensures.reached)
