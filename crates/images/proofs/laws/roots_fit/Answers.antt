use Rattle.images.proofs.ImageRoots.{roots_fit}
use Rattle.images.proofs.laws.roots_fit.Goals as goal

pub returns : goal.returns
returns c = roots_fit
