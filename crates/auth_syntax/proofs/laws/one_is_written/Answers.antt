use Rattle.auth_syntax.proofs.Exact.{one_is_written}
use Rattle.auth_syntax.proofs.laws.one_is_written.Goals as goal

pub returns : goal.returns
returns c = one_is_written
