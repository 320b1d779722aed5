use Rattle.std.proofs.Common.{List, ℕ, Option, Some, ap, sym, subst}
use Rattle.std.proofs.lemmas.Result.{err_from_is_err_and}
use Rattle.command_parts.specs.Answer.{emitted_answer, object_answer, with_listed_file}
use Rattle.command_parts.specs.AnswerForms.{Answer}
use Rattle.command_parts.specs.FueledRoles.{ListedProgram}
use Rattle.command_parts.specs.ReadPrograms.{listed_of}
use Rattle.command_parts.specs.Storing.{FindsOutput}
use Rattle.command_parts.proofs.Reached.{faults_reached, is_missing, output_reached}
use Rattle.command_parts.proofs.Steps.{hand_cause, hand_found, output_halt}
use Rattle.file_commands.proofs.emit_object.find_object.Goals as goal

-- what stands behind the program
abbrev behind_program : List ℕ → ListedProgram → Option Answer
behind_program name p = Some (object_answer p name)

pub returns-in_err-program-clause-finds : goal.returns-in_err-program-clause-finds
returns-in_err-program-clause-finds g c = λ name told known.
    let err = err_from_is_err_and c.from_residual.result c.from_residual.ensures.1 in
    output_halt name _ c.from_residual.result _ (cc) (c.in_err-program.ensures.goes told known (behind_program name))

pub returns-clause-finds : goal.returns-clause-finds
returns-clause-finds g c = λ name told known.
    subst (λ answer. FindsOutput name answer c.emit_object.result) (sym (c.in_ok-program.ensures.goes told known (behind_program name)))
    (hand_found name (behind_program name (listed_of c.in_ok-program.program)) c.emit_object.result (c.emit_object.ensures.finds name))

pub returns-clause-cause : goal.returns-clause-cause
returns-clause-cause g c = hand_cause (λ name. behind_program name (listed_of c.in_ok-program.program)) c.emit_object.result _ _ c.emit_object.ensures.finds c.in_ok-program.ensures.cause

pub returns-in_err-program-clause-reached : goal.returns-in_err-program-clause-reached
returns-in_err-program-clause-reached g c = λ name.
    let program = c.args.program.now in
    let err = err_from_is_err_and c.from_residual.result c.from_residual.ensures.1 in
    faults_reached (emitted_answer program name) program _ _ _ c.from_residual.result (cc)
    (λ files known. ap (λ file. with_listed_file file (behind_program name)) (is_missing program files)) c.in_err-program.ensures.asked

pub returns-clause-reached : goal.returns-clause-reached
returns-clause-reached g c = λ name. output_reached name _ (emitted_answer c.args.program.now name) _ _ c.emit_object.result (c.emit_object.ensures.finds name)
