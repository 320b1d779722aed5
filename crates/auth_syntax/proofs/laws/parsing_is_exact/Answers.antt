use Rattle.auth_syntax.proofs.Exact.{parsing_is_exact}
use Rattle.auth_syntax.proofs.laws.parsing_is_exact.Goals as goal

pub returns : goal.returns
returns c = parsing_is_exact
