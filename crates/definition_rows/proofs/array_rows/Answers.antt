use Rattle.definition_rows.proofs.ArrayVerdictRows as rows
use Rattle.definition_rows.proofs.array_rows.Goals as goal

pub returns : goal.returns
returns c = rows.array_verdict_rows
