use Rattle.std.proofs.Common.{sym, ap, ◌∙◌}
use Rattle.std.proofs.lemmas.Result.{err_from_is_err_and}
use Rattle.core_terms.specs.Limits.{most_file_bytes}
use Rattle.core_terms.specs.Programs.{meaning}
use Rattle.printed_lines.specs.declared.refusal.Argument.TheVariants.{Image}
use Rattle.command_parts.specs.FileInputs.{with_file, with_image}
use Rattle.command_parts.specs.ReadPrograms.{digested_of}
use Rattle.command_parts.specs.StoredStates.{IsStoredState}
use Rattle.command_parts.proofs.Steps.{goes_behind, halts_first_for}
use Rattle.command_parts.proofs.stored_states.load_image_file.Goals as goal

pub returns-in_err-image-clause-goes : goal.returns-in_err-image-clause-goes
returns-in_err-image-clause-goes g c = λ told known.
    let halted = err_from_is_err_and c.from_residual.result c.from_residual.ensures.1 in
    halts_first_for (with_file most_file_bytes Image (told c.args.name.now)) (with_image (digested_of c.args.program.now)) (IsStoredState (meaning c.args.program.now))
    c.from_residual.result _ (cc) (c.in_err-image.ensures.goes told known)

pub returns-clause-goes : goal.returns-clause-goes
returns-clause-goes g c = λ told known.
    goes_behind (with_file most_file_bytes Image (told c.args.name.now)) c.deref.result.now (with_image (digested_of c.args.program.now)) (IsStoredState (meaning c.args.program.now))
    c.load_state.result (λ go. c.in_ok-image.ensures.goes told known go ∙ ap go (sym c.deref.ensures.value)) c.load_state.ensures.goes
