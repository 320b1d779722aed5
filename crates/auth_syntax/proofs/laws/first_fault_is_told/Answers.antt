use Rattle.auth_syntax.proofs.Told.{first_fault_is_told}
use Rattle.auth_syntax.proofs.laws.first_fault_is_told.Goals as goal

pub returns : goal.returns
returns c = first_fault_is_told
