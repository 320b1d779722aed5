use Rattle.fetched_verdicts.proofs.TrueOverStores.{tells_the_truth}
use Rattle.fetched_verdicts.proofs.laws.headline.Goals as goal

pub returns : goal.returns
returns c = tells_the_truth
