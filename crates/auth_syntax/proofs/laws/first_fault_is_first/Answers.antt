use Rattle.auth_syntax.proofs.FrontPrograms.{first_fault_is_first}
use Rattle.auth_syntax.proofs.laws.first_fault_is_first.Goals as goal

pub returns : goal.returns
returns c = first_fault_is_first
