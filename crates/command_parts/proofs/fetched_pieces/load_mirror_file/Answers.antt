use Rattle.std.proofs.Common.{ap, sym, ◌∙◌}
use Rattle.std.proofs.lemmas.Result.{err_from_is_err_and}
use Rattle.core_terms.specs.Limits.{most_file_bytes}
use Rattle.piece_mirror.specs.Tables.{bytes_of}
use Rattle.printed_lines.specs.declared.refusal.Argument.TheVariants.{Mirror}
use Rattle.command_parts.specs.Answer.{with_mirror}
use Rattle.command_parts.specs.FileInputs.{with_file}
use Rattle.command_parts.proofs.MirrorSteps.{goes_on_behind, mirror_inputs}
use Rattle.command_parts.proofs.Possible.{err_possible, hand_step_possible}
use Rattle.command_parts.proofs.Steps.{halts_first}
use Rattle.command_parts.proofs.fetched_pieces.load_mirror_file.Goals as goal

pub returns-in_err-bytes-clause-goes : goal.returns-in_err-bytes-clause-goes
returns-in_err-bytes-clause-goes g c = λ told known.
    let halted = err_from_is_err_and c.from_residual.result c.from_residual.ensures.1 in
    halts_first (with_file most_file_bytes Mirror (told c.args.name.now)) with_mirror (λ mirror. bytes_of mirror.pieces) c.from_residual.result _ (cc) (c.in_err-bytes.ensures.goes told known)

pub returns-clause-goes : goal.returns-clause-goes
returns-clause-goes g c = λ told known.
    goes_on_behind (with_file most_file_bytes Mirror (told c.args.name.now)) c.deref.result.now with_mirror (λ mirror. bytes_of mirror.pieces)
    c.load_mirror.result (λ go. c.in_ok-bytes.ensures.goes told known go ∙ ap go (sym c.deref.ensures.value)) c.load_mirror.ensures

pub returns-in_err-bytes-clause-possible : goal.returns-in_err-bytes-clause-possible
returns-in_err-bytes-clause-possible g c = λ command reads.
    let halted = err_from_is_err_and c.from_residual.result c.from_residual.ensures.1 in
    err_possible command c.from_residual.result _ (cc) (c.in_err-bytes.ensures.possible command reads)

pub returns-clause-possible : goal.returns-clause-possible
returns-clause-possible g c = λ command reads.
    hand_step_possible (with_mirror c.deref.result.now) (λ mirror. bytes_of mirror.pieces) (mirror_inputs c.deref.result.now) command c.load_mirror.result c.load_mirror.ensures
