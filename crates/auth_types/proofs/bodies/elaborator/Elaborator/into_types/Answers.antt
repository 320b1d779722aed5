use Rattle.std.proofs.Common.{refl}
use Rattle.auth_types.specs.Elaborators.{scope_of}
use Rattle.auth_types.proofs.bodies.elaborator.Elaborator.into_types.Goals as goal

pub returns-clause-format : goal.returns-clause-format
unfolding scope_of
returns-clause-format c = refl
