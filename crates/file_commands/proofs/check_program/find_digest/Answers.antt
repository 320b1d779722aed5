use Rattle.std.proofs.Common.{Some}
use Rattle.std.proofs.lemmas.Result.{err_from_is_err_and}
use Rattle.printed_lines.specs.Lines.{ok_line}
use Rattle.command_parts.specs.AnswerForms.{says}
use Rattle.command_parts.specs.declared.status.Status.TheVariants.{Done}
use Rattle.command_parts.proofs.Steps.{finds_halt}
use Rattle.command_parts.specs.Answer.{checked_answer}
use Rattle.command_parts.specs.FileInputs.{with_program_file}
use Rattle.std.proofs.Common.{ap}
use Rattle.command_parts.proofs.Reached.{faults_reached, is_missing}
use Rattle.file_commands.proofs.check_program.find_digest.Goals as goal

pub returns-in_err-program-clause-finds : goal.returns-in_err-program-clause-finds
returns-in_err-program-clause-finds g c = λ told known.
    let err = err_from_is_err_and c.from_residual.result c.from_residual.ensures.1 in
    finds_halt _ c.from_residual.result _ (cc) (c.in_err-program.ensures.goes told known (λ p. Some (says Done (ok_line p.digested.digest))))

pub returns-in_err-program-clause-reached : goal.returns-in_err-program-clause-reached
returns-in_err-program-clause-reached g c =
    let name = c.args.program.now in
    let err = err_from_is_err_and c.from_residual.result c.from_residual.ensures.1 in
    faults_reached (checked_answer name) name _ _ _ c.from_residual.result (cc)
    (λ files known. ap (λ file. with_program_file file (λ p. Some (says Done (ok_line p.digested.digest)))) (is_missing name files)) c.in_err-program.ensures.asked
