use Rattle.fetched_verdicts.proofs.TrueOverStores.{complete_over}
use Rattle.fetched_verdicts.proofs.laws.complete.Goals as goal

pub returns : goal.returns
returns c = complete_over
