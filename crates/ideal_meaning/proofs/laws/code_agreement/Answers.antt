use Rattle.ideal_meaning.proofs.Agreed
use Rattle.ideal_meaning.proofs.laws.code_agreement.Goals as goal

pub returns : goal.returns
returns c = Agreed.code_agreement
