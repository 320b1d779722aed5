use Rattle.ideal_meaning.proofs.Never.{never_stuck}
use Rattle.ideal_meaning.proofs.laws.never_stuck.Goals as goal

pub returns : goal.returns
returns g c = never_stuck g.row.C.Denot g.row.W.Denot
