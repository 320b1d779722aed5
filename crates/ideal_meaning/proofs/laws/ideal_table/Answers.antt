use Rattle.ideal_meaning.proofs.Rules.{ideal_table}
use Rattle.ideal_meaning.proofs.laws.ideal_table.Goals as goal

pub returns : goal.returns
returns c = ideal_table
