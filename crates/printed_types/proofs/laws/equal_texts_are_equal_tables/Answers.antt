use Rattle.printed_types.proofs.TablesOfTexts.{equal_texts_are_equal_tables}
use Rattle.printed_types.proofs.laws.equal_texts_are_equal_tables.Goals as goal

pub returns : goal.returns
returns c = equal_texts_are_equal_tables c.parsed_is_read_back.ensures
