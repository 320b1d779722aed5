use Rattle.std.proofs.Common.{ap, ◌∙◌}
use Rattle.piece_mirror.specs.Tables.{bytes_of}
use Rattle.printed_lines.specs.Lines.{pieces_line}
use Rattle.file_commands.proofs.MirrorOutputs.{file_refused, file_told}
use Rattle.file_commands.proofs.file_pieces.mirror_output.Goals as goal

pub returns-in_err-file-clause-finds : goal.returns-in_err-file-clause-finds
returns-in_err-file-clause-finds c = λ name.
    file_refused (bytes_of c.args.mirror.now.pieces) c.in_err-file.field-0.0 c.from_residual.result c.from_residual.ensures.1 c.in_err-file.ensures.saves name

pub returns-clause-finds : goal.returns-clause-finds
returns-clause-finds c = λ name.
    file_told (bytes_of c.args.mirror.now.pieces) c.in_ok-text.text c.in_ok-file.file (c.in_ok-text.ensures ∙ ap pieces_line c.count.ensures) c.in_ok-file.ensures.saves name
