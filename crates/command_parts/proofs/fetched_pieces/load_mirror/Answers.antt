use Rattle.piece_mirror.specs.Tables.{bytes_of}
use Rattle.command_parts.proofs.MirrorSteps.{mirror_goes, mirror_refused}
use Rattle.command_parts.proofs.fetched_pieces.load_mirror.Goals as goal

pub returns-in_err-load : goal.returns-in_err-load
returns-in_err-load c = mirror_refused c.args.bytes.now (λ mirror. bytes_of mirror.pieces) c.in_err-load.field-0.0 c.from_residual.result c.from_residual.ensures.1 c.in_err-load.ensures

pub returns : goal.returns
returns c = mirror_goes c.args.bytes.now _ c.in_ok-load.ensures
