use Rattle.session_tables.proofs.Steps.{Before}
use Rattle.session_tables.proofs.table.place_of.Given as goal

abbrev pub invariant-loop-place : goal.invariant-loop-place
invariant-loop-place g l = Before l.number l.entries l.place
