use Rattle.std.proofs.lemmas.Result.{err_from_is_err_and}
use Rattle.command_parts.specs.FileInputs.{with_object_or_text, with_program_bytes}
use Rattle.command_parts.specs.ReadPrograms.{named_of}
use Rattle.command_parts.proofs.Steps.{halts_first}
use Rattle.command_parts.proofs.programs.read_program_file.Goals as goal

pub returns-in_err-bytes-clause-goes : goal.returns-in_err-bytes-clause-goes
returns-in_err-bytes-clause-goes g c = λ told known.
    let halted = err_from_is_err_and c.from_residual.result c.from_residual.ensures.1 in
    halts_first (with_program_bytes (told c.args.name.now)) with_object_or_text named_of c.from_residual.result _ (cc) (c.in_err-bytes.ensures.goes told known)
