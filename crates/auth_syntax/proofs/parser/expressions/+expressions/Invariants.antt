use Rattle.std.proofs.Common.{◌+◌, ◌*◌, map}
use Rattle.lexemes.specs.Tokens.{count}
use Rattle.lexemes.specs.Readings.{read_separator}
use Rattle.auth_syntax.specs.Parsing.{read_arm_separator, read_expression}
use Rattle.auth_syntax.specs.Arms.{read_arm}
use Rattle.auth_syntax.specs.Trees.{expression_of, arm_of}
use Rattle.lexemes.specs.Remaining.{remaining}
use Rattle.auth_syntax.proofs.Loops.{IsReadSoFar}
use Rattle.auth_syntax.proofs.ManyTurns.{AreManySoFar}
use Rattle.auth_syntax.proofs.parser.expressions.+expressions.Given as goal

abbrev pub decreases-expression : goal.decreases-expression
decreases-expression l = 6 * l.levels

abbrev pub decreases-expression_from : goal.decreases-expression_from
decreases-expression_from l = 6 * l.levels + 5

abbrev pub decreases-both : goal.decreases-both
decreases-both l = 6 * l.levels + 2

abbrev pub decreases-boxed : goal.decreases-boxed
decreases-boxed l = 6 * l.levels + 1

abbrev pub decreases-unit_or_pair : goal.decreases-unit_or_pair
decreases-unit_or_pair l = 6 * l.levels + 3

abbrev pub decreases-operands : goal.decreases-operands
decreases-operands l = 6 * l.levels + 2

abbrev pub decreases-expression_list : goal.decreases-expression_list
decreases-expression_list l = 6 * l.levels + 1

abbrev pub decreases-word : goal.decreases-word
decreases-word l = 6 * l.levels + 4

abbrev pub decreases-operation : goal.decreases-operation
decreases-operation l = 6 * l.levels + 3

abbrev pub decreases-operate : goal.decreases-operate
decreases-operate l = 6 * l.levels + 2

abbrev pub decreases-so_many : goal.decreases-so_many
decreases-so_many l = 6 * l.levels + 1

abbrev pub decreases-let_in : goal.decreases-let_in
decreases-let_in l = 6 * l.levels + 2

abbrev pub decreases-conditional : goal.decreases-conditional
decreases-conditional l = 6 * l.levels + 2

abbrev pub decreases-matching : goal.decreases-matching
decreases-matching l = 6 * l.levels + 3

abbrev pub decreases-arm_list : goal.decreases-arm_list
decreases-arm_list l = 6 * l.levels + 2

abbrev pub decreases-arm : goal.decreases-arm
decreases-arm l = 6 * l.levels + 1

abbrev pub invariant-expression_list-each : goal.invariant-expression_list-each
invariant-expression_list-each l = IsReadSoFar read_separator (read_expression l.levels) (remaining l.fn.parser) (map expression_of l.expressions.items) (remaining l.parser)

abbrev pub decreases-expression_list-each : goal.decreases-expression_list-each
decreases-expression_list-each l = count (remaining l.parser)

abbrev pub invariant-so_many-each : goal.invariant-so_many-each
invariant-so_many-each l = AreManySoFar l.levels l.others (remaining l.fn.parser) (map expression_of l.expressions.items) l.left (remaining l.parser)

abbrev pub decreases-so_many-each : goal.decreases-so_many-each
decreases-so_many-each l = l.left

abbrev pub invariant-arm_list-each : goal.invariant-arm_list-each
invariant-arm_list-each l = IsReadSoFar read_arm_separator (read_arm (read_expression l.levels)) (remaining l.fn.parser) (map arm_of l.arms.items) (remaining l.parser)

abbrev pub decreases-arm_list-each : goal.decreases-arm_list-each
decreases-arm_list-each l = count (remaining l.parser)
