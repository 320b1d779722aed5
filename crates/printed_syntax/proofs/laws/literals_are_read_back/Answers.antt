use Rattle.printed_syntax.proofs.LiteralsReadBack.{literals_are_read_back}
use Rattle.printed_syntax.proofs.laws.literals_are_read_back.Goals as goal

pub returns : goal.returns
returns c = literals_are_read_back
