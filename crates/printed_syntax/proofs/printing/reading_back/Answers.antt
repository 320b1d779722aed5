use Rattle.printed_syntax.proofs.PrintedValuesRead.{fitting_texts_are_short, printed_values_are_read_back}
use Rattle.printed_syntax.proofs.printing.reading_back.Goals as goal

pub returns : goal.returns
returns c = record { read_back = printed_values_are_read_back; short = fitting_texts_are_short }
