use Rattle.auth_types.proofs.SoundPrograms.{parsed_is_typed}
use Rattle.auth_types.proofs.laws.parsed_is_typed.Goals as goal

pub returns : goal.returns
returns c = parsed_is_typed
