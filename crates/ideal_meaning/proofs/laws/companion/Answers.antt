use Rattle.ideal_meaning.proofs.Companion.{companion}
use Rattle.ideal_meaning.proofs.laws.companion.Goals as goal

pub returns : goal.returns
returns c = companion
