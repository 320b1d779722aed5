use Rattle.std.proofs.Common.{sym}
use Rattle.shallow_codec.proofs.composites.read_head.Goals as goal

pub returns : goal.returns
returns c = (sym c.in-Some-field_types.ensures, c.in-Some.ensures.0, c.in-Some.ensures.1)
