use Rattle.core_terms.proofs.KindsSound.{kinds_sound}
use Rattle.object_meaning.proofs.laws.kinds_are_accepted.Goals as goal

pub returns : goal.returns
returns c B passes = kinds_sound B passes
