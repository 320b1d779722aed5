use Rattle.auth_types.proofs.SoundPrograms.{checked_names_its_types}
use Rattle.auth_types.proofs.laws.checked_names_its_types.Goals as goal

pub returns : goal.returns
returns c = checked_names_its_types
