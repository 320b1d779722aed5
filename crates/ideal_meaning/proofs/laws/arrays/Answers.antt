use Rattle.ideal_meaning.proofs.ArrayRules.{array_table}
use Rattle.ideal_meaning.proofs.laws.arrays.Goals as goal

pub returns : goal.returns
returns c = array_table
