-- The levels that are left decrease; of as many, a term is made of its parts last.
use Rattle.std.proofs.Common.{◌+◌, ◌*◌}
use Rattle.array_tests.proofs.maker.Maker.+making.Given as goal

abbrev pub decreases-term : goal.decreases-term
decreases-term l = 5 * l.levels

abbrev pub decreases-row : goal.decreases-row
decreases-row l = 5 * l.levels + 1

abbrev pub decreases-both : goal.decreases-both
decreases-both l = 5 * l.levels + 1

abbrev pub decreases-let_in : goal.decreases-let_in
decreases-let_in l = 5 * l.levels + 2

abbrev pub decreases-choice : goal.decreases-choice
decreases-choice l = 5 * l.levels + 2

abbrev pub decreases-matched : goal.decreases-matched
decreases-matched l = 5 * l.levels + 2

abbrev pub decreases-bool : goal.decreases-bool
decreases-bool l = 5 * l.levels + 2

abbrev pub decreases-int : goal.decreases-int
decreases-int l = 5 * l.levels + 2

abbrev pub decreases-constructed : goal.decreases-constructed
decreases-constructed l = 5 * l.levels + 2

abbrev pub decreases-array : goal.decreases-array
decreases-array l = 5 * l.levels + 2

abbrev pub decreases-made : goal.decreases-made
decreases-made l = 5 * l.levels + 3

abbrev pub decreases-call : goal.decreases-call
decreases-call l = 5 * l.levels + 4

abbrev pub decreases-element : goal.decreases-element
decreases-element l = 5 * l.levels + 4

abbrev pub decreases-part : goal.decreases-part
decreases-part l = 5 * l.levels + 4

abbrev pub decreases-opened : goal.decreases-opened
decreases-opened l = 5 * l.levels + 4
