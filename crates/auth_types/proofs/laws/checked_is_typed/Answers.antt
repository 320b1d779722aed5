use Rattle.auth_types.proofs.SoundPrograms.{checked_is_typed}
use Rattle.auth_types.proofs.laws.checked_is_typed.Goals as goal

pub returns : goal.returns
returns c = checked_is_typed
