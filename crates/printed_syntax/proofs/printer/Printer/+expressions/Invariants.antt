use denote.Param.Weighed.{most}
use Rattle.std.proofs.Common.{◌≡◌, ◌+◌, ◌*◌, max, map, take}
use Rattle.auth_syntax.specs.Grammar.{arms_tokens, expressions_tokens}
use Rattle.auth_syntax.specs.Parsing.{in_a_row}
use Rattle.printed_syntax.specs.LineViews.{line_of, with_tokens}
use Rattle.auth_syntax.specs.Trees.{arm_of, arms_in_a_row, expression_of}
use Rattle.auth_syntax.specs.declared.tree.ExpTree.TheViews.{size-ExpTree, size-Arm}
use Rattle.printed_syntax.proofs.printer.Printer.+expressions.Given as goal

-- the arms so far
abbrev pub invariant-arms-loop-arm : goal.invariant-arms-loop-arm
invariant-arms-loop-arm l = line_of l.self ≡ with_tokens (line_of l.fn.self) (arms_tokens (arms_in_a_row (map arm_of (take l.arm-index l.arms))))

-- the expressions so far
abbrev pub invariant-expressions-loop-index : goal.invariant-expressions-loop-index
invariant-expressions-loop-index l =
    line_of l.self ≡ with_tokens (line_of l.fn.self) (expressions_tokens (in_a_row (map expression_of (take l.index l.expressions))))

-- Four times the depth, and a little more for those who hand the same expressions on.
abbrev pub decreases-expression : goal.decreases-expression
decreases-expression l = 4 * goal.size-expression l

abbrev pub decreases-pair : goal.decreases-pair
decreases-pair l = 4 * max (size-ExpTree l.first.now) (size-ExpTree l.second.now) + 1

abbrev pub decreases-unary : goal.decreases-unary
decreases-unary l = 4 * size-ExpTree l.operand.now + 1

abbrev pub decreases-binary : goal.decreases-binary
decreases-binary l = 4 * max (size-ExpTree l.first.now) (size-ExpTree l.second.now) + 2

abbrev pub decreases-call : goal.decreases-call
decreases-call l = 4 * most size-ExpTree l.operands.now + 2

abbrev pub decreases-operate : goal.decreases-operate
decreases-operate l = 4 * most size-ExpTree l.operands.now + 2

abbrev pub decreases-let_in : goal.decreases-let_in
decreases-let_in l = 4 * max (size-ExpTree l.bound.now) (size-ExpTree l.body.now) + 1

abbrev pub decreases-condition : goal.decreases-condition
decreases-condition l = 4 * max (size-ExpTree l.test.now) (max (size-ExpTree l.first.now) (size-ExpTree l.other.now)) + 1

abbrev pub decreases-match_with : goal.decreases-match_with
decreases-match_with l = 4 * max (size-ExpTree l.subject.now) (most size-Arm l.arms.now) + 2

abbrev pub decreases-expressions : goal.decreases-expressions
decreases-expressions l = 4 * goal.size-expressions l + 1

abbrev pub decreases-operands : goal.decreases-operands
decreases-operands l = 4 * goal.size-operands l + 2

abbrev pub decreases-arms : goal.decreases-arms
decreases-arms l = 4 * goal.size-arms l + 1

abbrev pub decreases-arm : goal.decreases-arm
decreases-arm l = 4 * goal.size-arm l
