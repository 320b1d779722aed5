use Rattle.auth_types.proofs.SoundPrograms.{checked_names_differ}
use Rattle.auth_types.proofs.laws.checked_names_differ.Goals as goal

pub returns : goal.returns
returns c = checked_names_differ
