use Rattle.images.proofs.PartsFound.{parts_are_found}
use Rattle.images.proofs.laws.parts_are_found.Goals as goal

pub returns : goal.returns
returns c = parts_are_found
