use Rattle.std.proofs.Common.{◌≡◌, ◌≤◌, ℕ, false, List, length, ap, sym, ◌∙◌, subst}
use Rattle.std.proofs.lemmas.Result.{err_from_is_err_and}
use Rattle.core_terms.specs.Limits.{most_program_bytes}
use Rattle.core_terms.specs.Programs.{meaning}
use Rattle.command_parts.specs.Answer.{with_listed}
use Rattle.command_parts.specs.FileInputs.{with_program_bytes}
use Rattle.command_parts.specs.FilePrograms.{begins_as_object}
use Rattle.command_parts.specs.ReadPrograms.{listed_of}
use Rattle.command_parts.proofs.FileReadings.{text_fits}
use Rattle.command_parts.proofs.PassedTrees.{text_is_written}
use Rattle.command_parts.proofs.Steps.{halts_first}
use Rattle.file_commands.proofs.emit_object.read_listed_program.Goals as goal

pub returns-in_err-bytes-clause-goes : goal.returns-in_err-bytes-clause-goes
returns-in_err-bytes-clause-goes g c = λ told known.
    let halted = err_from_is_err_and c.from_residual.result c.from_residual.ensures.1 in
    halts_first (with_program_bytes (told c.args.name.now)) with_listed listed_of c.from_residual.result _ (cc) (c.in_err-bytes.ensures.goes told known)

pub read_program-requires : goal.read_program-requires
read_program-requires g c =
    let bytes = c.in_ok-bytes.bytes.items in
    let begins : begins_as_object bytes ≡ false = ap begins_as_object (sym c.deref.ensures.value) ∙ sym c.begins_as_object.ensures ∙ c.if-begins_as_object.false in
    subst (λ (text : List ℕ). length text ≤ most_program_bytes) (sym c.deref-2.ensures.value) (text_fits bytes begins c.in_ok-bytes.ensures.fits)

pub returns-clause-written : goal.returns-clause-written
returns-clause-written g c = text_is_written c.deref-2.result.now (meaning c.in_ok-read_program.field-0) c.in_ok-read_program.ensures.answer
