use Rattle.std.proofs.Common.{List, ℕ, Option, Some, ap, sym, subst}
use Rattle.std.proofs.lemmas.Result.{err_from_is_err_and}
use Rattle.code_gen.specs.Programs.{program_in}
use Rattle.command_parts.specs.Answer.{initial_answer}
use Rattle.command_parts.specs.OutcomeAnswers.{storing_answer}
use Rattle.command_parts.specs.RoleInputs.{with_ended_init}
use Rattle.command_parts.specs.FileInputs.{with_program_file}
use Rattle.command_parts.specs.AnswerForms.{Answer}
use Rattle.command_parts.specs.FueledRoles.{NamedProgram}
use Rattle.command_parts.specs.ReadPrograms.{named_of}
use Rattle.command_parts.specs.Storing.{FindsOutput}
use Rattle.command_parts.proofs.Reached.{faults_reached, is_missing, output_reached}
use Rattle.command_parts.proofs.Steps.{hand_cause, hand_found, output_halt}
use Rattle.call_commands.proofs.init_state.find_initial.Goals as goal

-- what stands behind the program
abbrev behind_program : (role argument fuel name : List ℕ) → NamedProgram → Option Answer
behind_program role argument fuel name p = with_ended_init p role argument fuel (λ ended. Some (storing_answer ended name))

pub returns-in_err-code-clause-finds : goal.returns-in_err-code-clause-finds
returns-in_err-code-clause-finds g c = λ name told known.
    let words = c.args.words.now in
    let err = err_from_is_err_and c.from_residual.result c.from_residual.ensures.1 in
    output_halt name _ c.from_residual.result _ (cc) (c.in_err-code.ensures.goes told known (behind_program words.role.now words.argument.now words.fuel.now name))

pub returns-clause-finds : goal.returns-clause-finds
returns-clause-finds g c = λ name told known.
    let words = c.args.words.now in
    let next = behind_program words.role.now words.argument.now words.fuel.now name in
    subst (λ answer. FindsOutput name answer c.make_state.result) (sym (c.in_ok-code.ensures.goes told known next))
    (hand_found name (next (named_of (program_in c.in_ok-code.code))) c.make_state.result (c.make_state.ensures.finds name))

pub returns-clause-cause : goal.returns-clause-cause
returns-clause-cause g c =
    let words = c.args.words.now in
    hand_cause (λ name. behind_program words.role.now words.argument.now words.fuel.now name (named_of (program_in c.in_ok-code.code))) c.make_state.result _ _ c.make_state.ensures.finds
    c.in_ok-code.ensures.cause

pub returns-in_err-code-clause-reached : goal.returns-in_err-code-clause-reached
returns-in_err-code-clause-reached g c = λ name.
    let words = c.args.words.now in
    let program = words.program.now in
    let err = err_from_is_err_and c.from_residual.result c.from_residual.ensures.1 in
    faults_reached (initial_answer program words.role.now words.argument.now words.fuel.now name) program _ _ _ c.from_residual.result (cc)
    (λ files known. ap (λ file. with_program_file file (behind_program words.role.now words.argument.now words.fuel.now name)) (is_missing program files)) c.in_err-code.ensures.asked

pub returns-clause-reached : goal.returns-clause-reached
returns-clause-reached g c = λ name.
    let words = c.args.words.now in
    output_reached name _ (initial_answer words.program.now words.role.now words.argument.now words.fuel.now name) _ _ c.make_state.result (c.make_state.ensures.finds name)
