use Rattle.ideal_meaning.proofs.Operations.{operation_table}
use Rattle.ideal_meaning.proofs.laws.operations.Goals as goal

pub returns : goal.returns
returns c = operation_table
