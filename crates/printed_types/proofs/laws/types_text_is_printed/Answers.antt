use Rattle.printed_types.proofs.TypesPrinted.{types_text_is_printed}
use Rattle.printed_types.proofs.laws.types_text_is_printed.Goals as goal

pub returns : goal.returns
returns c = types_text_is_printed
