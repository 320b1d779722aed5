use Rattle.printed_syntax.proofs.PrintedProgramsRead.{printed_is_read_back}
use Rattle.printed_syntax.proofs.laws.printed_is_read_back.Goals as goal

pub returns : goal.returns
returns c = printed_is_read_back
