use Rattle.ideal_meaning.proofs.Splitting.{one_split}
use Rattle.ideal_meaning.proofs.laws.one_split.Goals as goal

pub returns : goal.returns
returns c = one_split
