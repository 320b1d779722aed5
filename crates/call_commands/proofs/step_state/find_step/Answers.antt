use Rattle.std.proofs.Common.{ℕ, List, Option, Some, ap, sym, ◌∙◌, subst}
use Rattle.std.proofs.lemmas.Result.{err_from_is_err_and}
use Rattle.lam_outside.specs.Told.{Contents}
use Rattle.code_gen.specs.Programs.{program_in}
use Rattle.command_parts.specs.Answer.{stepped_answer}
use Rattle.command_parts.specs.OutcomeAnswers.{storing_answer}
use Rattle.command_parts.specs.RoleInputs.{with_ended_call}
use Rattle.command_parts.specs.FileInputs.{with_program_file}
use Rattle.command_parts.specs.AnswerForms.{Answer}
use Rattle.command_parts.specs.FueledRoles.{NamedProgram}
use Rattle.command_parts.specs.ReadPrograms.{named_of}
use Rattle.command_parts.specs.Reaching.{without}
use Rattle.command_parts.specs.Storing.{FindsOutput}
use Rattle.command_parts.specs.declared.roles.Callee.TheVariants.{Update}
use Rattle.command_parts.proofs.Reached.{faults_reached, is_missing}
use Rattle.command_parts.proofs.RoleSteps.{program_reached}
use Rattle.command_parts.proofs.Steps.{output_halt}
use Rattle.call_commands.proofs.step_state.find_step.Goals as goal

-- what stands behind the program
abbrev behind_program : (role image argument fuel name : List ℕ) → NamedProgram → Contents → Option Answer
behind_program role image argument fuel name p files = with_ended_call Update p role image argument fuel files (λ ended. Some (storing_answer ended name))

pub returns-in_err-code-clause-finds : goal.returns-in_err-code-clause-finds
returns-in_err-code-clause-finds g c = λ name told known.
    let words = c.args.words.now in
    let err = err_from_is_err_and c.from_residual.result c.from_residual.ensures.1 in
    output_halt name _ c.from_residual.result _ (cc)
    (c.in_err-code.ensures.goes told known (λ p. behind_program words.role.now c.args.image.now words.argument.now words.fuel.now name p told))

pub returns-clause-finds : goal.returns-clause-finds
returns-clause-finds g c = λ name told known.
    let words = c.args.words.now in
    subst (λ answer. FindsOutput name answer c.step_state.result)
    (sym (c.in_ok-code.ensures.goes told known (λ p. behind_program words.role.now c.args.image.now words.argument.now words.fuel.now name p told)))
    (c.step_state.ensures.finds name told (c.in_ok-code.ensures.contents ∙ known))

pub returns-in_err-code-clause-reached : goal.returns-in_err-code-clause-reached
returns-in_err-code-clause-reached g c = λ name.
    let words = c.args.words.now in
    let program = words.program.now in
    let image = c.args.image.now in
    let err = err_from_is_err_and c.from_residual.result c.from_residual.ensures.1 in
    faults_reached (stepped_answer program words.role.now image words.argument.now words.fuel.now name) program _ _ _ c.from_residual.result (cc)
    (λ files known. ap (λ file. with_program_file file (λ p. behind_program words.role.now image words.argument.now words.fuel.now name p (without program files))) (is_missing program files))
    c.in_err-code.ensures.asked

pub returns-clause-reached : goal.returns-clause-reached
returns-clause-reached g c = λ name.
    let words = c.args.words.now in
    program_reached words.program.now (behind_program words.role.now c.args.image.now words.argument.now words.fuel.now name) _ _ (named_of (program_in c.in_ok-code.code)) c.in_ok-code.ensures.goes
    _ c.step_state.result c.in_ok-code.ensures.contents (c.step_state.ensures.reached name)
