use Rattle.ideal_meaning.proofs.Headline.{agreement}
use Rattle.ideal_meaning.proofs.laws.agreement.Goals as goal

pub returns : goal.returns
returns c = agreement
