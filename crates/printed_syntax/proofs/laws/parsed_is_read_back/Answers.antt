use Rattle.printed_syntax.proofs.PrintedProgramsRead.{parsed_is_read_back}
use Rattle.printed_syntax.proofs.laws.parsed_is_read_back.Goals as goal

pub returns : goal.returns
returns c = parsed_is_read_back
