use Rattle.definition_rows.proofs.SecondFormatRows as rows
use Rattle.definition_rows.proofs.second_format_rows.Goals as goal

pub returns : goal.returns
returns c = rows.second_format_rows
