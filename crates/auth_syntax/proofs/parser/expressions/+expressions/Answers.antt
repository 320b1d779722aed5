use Rattle.std.proofs.Common.{◌∙◌, refl, ap, subst, sym, arith}
use Rattle.std.proofs.lemmas.Result.{err_from_is_err_and}
use Rattle.lexemes.specs.Readings.{Reading}
use Rattle.auth_syntax.specs.Parsing.{read_expression}
use Rattle.auth_syntax.specs.Parsing as parsing
use Rattle.auth_syntax.specs.Trees.{array_of, boxed_of, expression_of, expressions_of, arm_of, arms_of, name_of}
use Rattle.lexemes.specs.Remaining.{Reads, remaining}
use Rattle.auth_syntax.specs.Syntax.{ExpSyntax}
use Rattle.auth_syntax.proofs.Faults.{refused_part}
use Rattle.auth_syntax.proofs.PartsRead.{arm_is, binary_tree, call_is, constructor_is, if_is, if_tree, let_is, let_tree, match_is, match_tree, none_begun, operate_is, operate_tree, operation_is, pair_tree, seen_as, unary_tree, unit_or_pair_is}
use Rattle.auth_syntax.specs.Parts.{both_of, operands_of, operation_of, pattern_of}
use Rattle.auth_syntax.proofs.LevelSteps.{read_expression-step}
use Rattle.auth_syntax.proofs.Loops.{arms_by_one, expressions_by_one}
use Rattle.auth_syntax.proofs.ListTurns.{fewer_left, list_ends, list_goes_on, no_sign, no_thing}
use Rattle.auth_syntax.proofs.ManyTurns.{many_end, many_go_on, no_mark, no_operand}
use Rattle.auth_syntax.proofs.parser.expressions.+expressions.Goals as goal

pub expression-returns-in_err-at : goal.expression-returns-in_err-at
expression-returns-in_err-at t c =
    let p = err_from_is_err_and c.from_residual.result c.from_residual.ensures.1 in
    rw (p.1, p.2) (none_begun expression_of c.args.levels (remaining c.args.parser.now) (remaining c.expression_head.new.parser) (remaining c.expression_head.new.parser)
    c.in_err-at.field-0.0 c.in_err-at.ensures)

pub expression-returns : goal.expression-returns
expression-returns t c =
    let begun = c.in_ok-at.ensures in
    subst (λ (reading : Reading ExpSyntax). Reads expression_of reading c.expression_from.result (remaining c.expression_from.new.parser))
    (sym (ap (read_expression c.args.levels) begun.taken ∙ read_expression-step c.args.levels _ _ _ begun.nested))
    c.expression_from.ensures

pub expression_list-returns-in_err-next : goal.expression_list-returns-in_err-next
expression_list-returns-in_err-next t c =
    let r = c.from_residual in
    no_thing (expressions_by_one c.args.levels) expression_of (remaining c.args.parser.now) c.each.expressions.items (remaining c.each.parser) c.each.invariant
    expressions_of r.result _ (remaining c.expression.new.parser) r.ensures.1 c.in_err-next.ensures

pub expression_list-returns-in_err-listed : goal.expression_list-returns-in_err-listed
expression_list-returns-in_err-listed t c =
    let r = c.from_residual-in_err-listed in
    no_sign (expressions_by_one c.args.levels) expression_of (remaining c.args.parser.now) c.each.expressions.items (remaining c.each.parser) c.each.invariant
    (remaining c.expression.new.parser) (remaining c.listed.new.parser) c.in_ok-next.next c.in_ok-next.ensures expressions_of r.result _ r.ensures.1 c.in_err-listed.ensures.follows

pub expression_list-returns-then-not-branch : goal.expression_list-returns-then-not-branch
expression_list-returns-then-not-branch t c =
    list_ends (expressions_by_one c.args.levels) expression_of (remaining c.args.parser.now) c.each.expressions.items (remaining c.each.parser) c.each.invariant
    (remaining c.expression.new.parser) (remaining c.listed.new.parser) c.in_ok-next.next c.in_ok-next.ensures c.in_ok-listed.field-0 c.in_ok-listed.ensures.follows
    c.listed.new.expressions.items c.in_ok-listed.ensures.added c.if-not-branch.true

pub expression_list-each-smaller : goal.expression_list-each-smaller
expression_list-each-smaller t c =
    fewer_left (expressions_by_one c.args.levels) expression_of (remaining c.args.parser.now) c.each.expressions.items (remaining c.each.parser) c.each.invariant
    (remaining c.expression.new.parser) (remaining c.listed.new.parser) c.in_ok-next.next c.in_ok-next.ensures c.in_ok-listed.field-0 c.in_ok-listed.ensures.follows

pub expression_list-each-preserved : goal.expression_list-each-preserved
expression_list-each-preserved t c =
    list_goes_on (expressions_by_one c.args.levels) expression_of (remaining c.args.parser.now) c.each.expressions.items (remaining c.each.parser) c.each.invariant
    (remaining c.expression.new.parser) (remaining c.listed.new.parser) c.in_ok-next.next c.in_ok-next.ensures c.in_ok-listed.field-0 c.in_ok-listed.ensures.follows
    c.listed.new.expressions.items c.in_ok-listed.ensures.added c.if-not-branch.false

pub arm_list-returns-in_err-next : goal.arm_list-returns-in_err-next
arm_list-returns-in_err-next t c =
    let r = c.from_residual in
    no_thing (arms_by_one c.args.levels) arm_of (remaining c.args.parser.now) c.each.arms.items (remaining c.each.parser) c.each.invariant
    arms_of r.result _ (remaining c.arm.new.parser) r.ensures.1 c.in_err-next.ensures

pub arm_list-returns-in_err-arm_listed : goal.arm_list-returns-in_err-arm_listed
arm_list-returns-in_err-arm_listed t c =
    let r = c.from_residual-in_err-arm_listed in
    no_sign (arms_by_one c.args.levels) arm_of (remaining c.args.parser.now) c.each.arms.items (remaining c.each.parser) c.each.invariant
    (remaining c.arm.new.parser) (remaining c.arm_listed.new.parser) c.in_ok-next.next c.in_ok-next.ensures arms_of r.result _ r.ensures.1 c.in_err-arm_listed.ensures.follows

pub arm_list-returns-then-not-branch : goal.arm_list-returns-then-not-branch
arm_list-returns-then-not-branch t c =
    list_ends (arms_by_one c.args.levels) arm_of (remaining c.args.parser.now) c.each.arms.items (remaining c.each.parser) c.each.invariant
    (remaining c.arm.new.parser) (remaining c.arm_listed.new.parser) c.in_ok-next.next c.in_ok-next.ensures c.in_ok-arm_listed.field-0 c.in_ok-arm_listed.ensures.follows
    c.arm_listed.new.arms.items c.in_ok-arm_listed.ensures.added c.if-not-branch.true

pub arm_list-each-smaller : goal.arm_list-each-smaller
arm_list-each-smaller t c =
    fewer_left (arms_by_one c.args.levels) arm_of (remaining c.args.parser.now) c.each.arms.items (remaining c.each.parser) c.each.invariant
    (remaining c.arm.new.parser) (remaining c.arm_listed.new.parser) c.in_ok-next.next c.in_ok-next.ensures c.in_ok-arm_listed.field-0 c.in_ok-arm_listed.ensures.follows

pub arm_list-each-preserved : goal.arm_list-each-preserved
arm_list-each-preserved t c =
    list_goes_on (arms_by_one c.args.levels) arm_of (remaining c.args.parser.now) c.each.arms.items (remaining c.each.parser) c.each.invariant
    (remaining c.arm.new.parser) (remaining c.arm_listed.new.parser) c.in_ok-next.next c.in_ok-next.ensures c.in_ok-arm_listed.field-0 c.in_ok-arm_listed.ensures.follows
    c.arm_listed.new.arms.items c.in_ok-arm_listed.ensures.added c.if-not-branch.false

pub so_many-returns-in_err-next : goal.so_many-returns-in_err-next
so_many-returns-in_err-next t c =
    let r = c.from_residual in
    no_operand c.args.levels c.args.others (remaining c.args.parser.now) c.each.expressions.items c.each.left (remaining c.each.parser) c.each.invariant
    expressions_of r.result _ (remaining c.expression.new.parser) r.ensures.1 c.in_err-next.ensures

pub so_many-returns-in_err-counted : goal.so_many-returns-in_err-counted
so_many-returns-in_err-counted t c =
    let r = c.from_residual-in_err-counted in
    no_mark c.args.levels c.args.others (remaining c.args.parser.now) c.each.expressions.items c.each.left (remaining c.each.parser) c.each.invariant
    (remaining c.expression.new.parser) (remaining c.counted.new.parser) c.in_ok-next.next c.in_ok-next.ensures expressions_of r.result _ r.ensures.1 c.in_err-counted.ensures.behind

pub so_many-returns-then-left-eq0 : goal.so_many-returns-then-left-eq0
so_many-returns-then-left-eq0 t c =
    many_end c.args.levels c.args.others (remaining c.args.parser.now) c.each.expressions.items c.each.left (remaining c.each.parser) c.each.invariant
    (remaining c.expression.new.parser) (remaining c.counted.new.parser) c.in_ok-next.next c.in_ok-next.ensures c.in_ok-counted.ensures.behind
    c.counted.new.expressions.items c.in_ok-counted.ensures.added c.if-left-eq0.true

pub so_many-each-preserved : goal.so_many-each-preserved
so_many-each-preserved t c =
    many_go_on c.args.levels c.args.others (remaining c.args.parser.now) c.each.expressions.items c.each.left (remaining c.each.parser) c.each.invariant
    (remaining c.expression.new.parser) (remaining c.counted.new.parser) c.in_ok-next.next c.in_ok-next.ensures c.in_ok-counted.ensures.behind
    c.counted.new.expressions.items c.in_ok-counted.ensures.added c.if-left-eq0.false

-- where a part is refused
pub boxed-returns-in_err-part : goal.boxed-returns-in_err-part
boxed-returns-in_err-part t c =
    let r = c.from_residual in
    refused_part expression_of boxed_of _ _ _ (remaining c.expression.new.parser) r.result r.ensures.1 c.in_err-part.ensures

pub both-returns-in_err-first : goal.both-returns-in_err-first
both-returns-in_err-first t c =
    let r = c.from_residual in
    refused_part boxed_of both_of _ _ _ (remaining c.boxed.new.parser) r.result r.ensures.1 c.in_err-first.ensures

pub both-returns-in_err-second : goal.both-returns-in_err-second
both-returns-in_err-second t c =
    let r = c.from_residual-in_err-second in
    rw (c.in_ok-first.ensures)
    (refused_part boxed_of both_of _ _ _ (remaining c.boxed-2.new.parser) r.result r.ensures.1 c.in_err-second.ensures)

pub unit_or_pair-returns-in_err-if_mark : goal.unit_or_pair-returns-in_err-if_mark
unit_or_pair-returns-in_err-if_mark t c =
    let reads = read_expression c.args.levels in
    let r = c.from_residual in
    seen_as expression_of r.result (remaining c.if_mark.new.self) (unit_or_pair_is reads c.args.at (remaining c.args.parser.now))
    (refused_part (λ stands. stands) expression_of _ _ _ (remaining c.if_mark.new.self) r.result r.ensures.1 c.in_err-if_mark.ensures)

pub operation-returns-in_err-operand-in-Unary : goal.operation-returns-in_err-operand-in-Unary
operation-returns-in_err-operand-in-Unary t c =
    let reads = read_expression c.args.levels in
    let r = c.from_residual-in_err-operand-in-Unary in
    seen_as expression_of r.result (remaining c.boxed.new.parser)
    (operation_is reads c.args.at (parsing.unary_of c.args.keyword) (parsing.binary_of c.args.keyword) (remaining c.args.parser.now))
    (rw (c.in_ok-operator.ensures, c.in-Unary.is)
    (refused_part boxed_of expression_of _ _ _ (remaining c.boxed.new.parser) r.result r.ensures.1 c.in_err-operand-in-Unary.ensures))

pub operation-returns-in_err-first-in-Binary : goal.operation-returns-in_err-first-in-Binary
operation-returns-in_err-first-in-Binary t c =
    let reads = read_expression c.args.levels in
    let r = c.from_residual-in_err-first-in-Binary in
    seen_as expression_of r.result (remaining c.both.new.parser)
    (operation_is reads c.args.at (parsing.unary_of c.args.keyword) (parsing.binary_of c.args.keyword) (remaining c.args.parser.now))
    (rw (c.in_ok-operator.ensures, c.in-Binary.is)
    (refused_part both_of expression_of _ _ _ (remaining c.both.new.parser) r.result r.ensures.1 c.in_err-first-in-Binary.ensures))

pub operation-returns-in_ok-first-in-Binary : goal.operation-returns-in_ok-first-in-Binary
operation-returns-in_ok-first-in-Binary t c =
    let reads = read_expression c.args.levels in
    operation_is reads c.args.at (parsing.unary_of c.args.keyword) (parsing.binary_of c.args.keyword) (remaining c.args.parser.now)
    ∙ rw (c.in_ok-operator.ensures, c.in-Binary.is, c.in_ok-first-in-Binary.ensures, binary_tree) refl

pub operate-returns-in_err-operator : goal.operate-returns-in_err-operator
operate-returns-in_err-operator t c =
    let reads = read_expression c.args.levels in
    let r = c.from_residual in
    seen_as expression_of r.result (remaining c.array_operator.new.parser) (operate_is reads c.args.at c.args.keyword (remaining c.args.parser.now))
    (refused_part array_of expression_of _ _ _ (remaining c.array_operator.new.parser) r.result r.ensures.1 c.in_err-operator.ensures)

pub operate-returns-in_err-operands : goal.operate-returns-in_err-operands
operate-returns-in_err-operands t c =
    let reads = read_expression c.args.levels in
    let r = c.from_residual-in_err-operands in
    seen_as expression_of r.result (remaining c.so_many.new.parser) (operate_is reads c.args.at c.args.keyword (remaining c.args.parser.now))
    (rw (c.in_ok-operator.ensures, sym c.others_of.ensures)
    (refused_part expressions_of expression_of _ _ _ (remaining c.so_many.new.parser) r.result r.ensures.1 c.in_err-operands.ensures))

pub let_in-returns-in_err-name : goal.let_in-returns-in_err-name
let_in-returns-in_err-name t c =
    let reads = read_expression c.args.levels in
    let r = c.from_residual in
    seen_as expression_of r.result (remaining c.binding.new.parser) (let_is reads c.args.at (remaining c.args.parser.now))
    (refused_part name_of expression_of _ _ _ (remaining c.binding.new.parser) r.result r.ensures.1 c.in_err-name.ensures)

pub let_in-returns-in_err-bound : goal.let_in-returns-in_err-bound
let_in-returns-in_err-bound t c =
    let reads = read_expression c.args.levels in
    let r = c.from_residual-in_err-bound in
    seen_as expression_of r.result (remaining c.boxed.new.parser) (let_is reads c.args.at (remaining c.args.parser.now))
    (rw (c.in_ok-name.ensures)
    (refused_part boxed_of expression_of _ _ _ (remaining c.boxed.new.parser) r.result r.ensures.1 c.in_err-bound.ensures))

pub let_in-returns-in_err-body : goal.let_in-returns-in_err-body
let_in-returns-in_err-body t c =
    let reads = read_expression c.args.levels in
    let r = c.from_residual-in_err-body in
    seen_as expression_of r.result (remaining c.boxed-2.new.parser) (let_is reads c.args.at (remaining c.args.parser.now))
    (rw (c.in_ok-name.ensures, c.in_ok-bound.ensures)
    (refused_part boxed_of expression_of _ _ _ (remaining c.boxed-2.new.parser) r.result r.ensures.1 c.in_err-body.ensures))

pub conditional-returns-in_err-test : goal.conditional-returns-in_err-test
conditional-returns-in_err-test t c =
    let reads = read_expression c.args.levels in
    let r = c.from_residual in
    seen_as expression_of r.result (remaining c.boxed.new.parser) (if_is reads c.args.at (remaining c.args.parser.now))
    (refused_part boxed_of expression_of _ _ _ (remaining c.boxed.new.parser) r.result r.ensures.1 c.in_err-test.ensures)

pub conditional-returns-in_err-first : goal.conditional-returns-in_err-first
conditional-returns-in_err-first t c =
    let reads = read_expression c.args.levels in
    let r = c.from_residual-in_err-first in
    seen_as expression_of r.result (remaining c.boxed-2.new.parser) (if_is reads c.args.at (remaining c.args.parser.now))
    (rw (c.in_ok-test.ensures)
    (refused_part boxed_of expression_of _ _ _ (remaining c.boxed-2.new.parser) r.result r.ensures.1 c.in_err-first.ensures))

pub conditional-returns-in_err-other : goal.conditional-returns-in_err-other
conditional-returns-in_err-other t c =
    let reads = read_expression c.args.levels in
    let r = c.from_residual-in_err-other in
    seen_as expression_of r.result (remaining c.boxed-3.new.parser) (if_is reads c.args.at (remaining c.args.parser.now))
    (rw (c.in_ok-test.ensures, c.in_ok-first.ensures)
    (refused_part boxed_of expression_of _ _ _ (remaining c.boxed-3.new.parser) r.result r.ensures.1 c.in_err-other.ensures))

pub matching-returns-in_err-subject : goal.matching-returns-in_err-subject
matching-returns-in_err-subject t c =
    let reads = read_expression c.args.levels in
    let r = c.from_residual in
    seen_as expression_of r.result (remaining c.boxed.new.parser) (match_is reads c.args.at (remaining c.args.parser.now))
    (refused_part boxed_of expression_of _ _ _ (remaining c.boxed.new.parser) r.result r.ensures.1 c.in_err-subject.ensures)

pub matching-returns-in_err-mark : goal.matching-returns-in_err-mark
matching-returns-in_err-mark t c =
    let reads = read_expression c.args.levels in
    let r = c.from_residual-in_err-mark in
    seen_as expression_of r.result (remaining c.mark.new.self) (match_is reads c.args.at (remaining c.args.parser.now))
    (rw (c.in_ok-subject.ensures)
    (refused_part (λ (_ : Unit {0}). tt) expression_of _ _ _ (remaining c.mark.new.self) r.result r.ensures.1 c.in_err-mark.ensures))

pub matching-returns-in_err-arms : goal.matching-returns-in_err-arms
matching-returns-in_err-arms t c =
    let reads = read_expression c.args.levels in
    let r = c.from_residual-in_err-arms in
    seen_as expression_of r.result (remaining c.arm_list.new.parser) (match_is reads c.args.at (remaining c.args.parser.now))
    (rw (c.in_ok-subject.ensures, c.in_ok-mark.ensures)
    (refused_part arms_of expression_of _ _ _ (remaining c.arm_list.new.parser) r.result r.ensures.1 c.in_err-arms.ensures))

pub arm-returns-in_err-pattern : goal.arm-returns-in_err-pattern
arm-returns-in_err-pattern t c =
    let reads = read_expression c.args.levels in
    let r = c.from_residual in
    seen_as arm_of r.result (remaining c.arm_pattern.new.parser) (arm_is reads (remaining c.args.parser.now))
    (refused_part pattern_of arm_of _ _ _ (remaining c.arm_pattern.new.parser) r.result r.ensures.1 c.in_err-pattern.ensures)

pub arm-returns-in_err-body : goal.arm-returns-in_err-body
arm-returns-in_err-body t c =
    let reads = read_expression c.args.levels in
    let r = c.from_residual-in_err-body in
    seen_as arm_of r.result (remaining c.expression.new.parser) (arm_is reads (remaining c.args.parser.now))
    (rw (c.in_ok-pattern.ensures)
    (refused_part expression_of arm_of _ _ _ (remaining c.expression.new.parser) r.result r.ensures.1 c.in_err-body.ensures))

pub operands-returns-in_err-if_mark : goal.operands-returns-in_err-if_mark
operands-returns-in_err-if_mark t c =
    let r = c.from_residual in
    refused_part (λ stands. stands) operands_of _ _ _ (remaining c.if_mark.new.self) r.result r.ensures.1 c.in_err-if_mark.ensures

pub operands-returns-in_err-operands : goal.operands-returns-in_err-operands
operands-returns-in_err-operands t c =
    let r = c.from_residual-in_err-operands in
    rw (c.in_ok-if_mark.ensures, c.if-not-branch.false)
    (refused_part expressions_of operands_of _ _ _ (remaining c.expression_list.new.parser) r.result r.ensures.1 c.in_err-operands.ensures)

pub unit_or_pair-returns-in_err-first : goal.unit_or_pair-returns-in_err-first
unit_or_pair-returns-in_err-first t c =
    let reads = read_expression c.args.levels in
    let r = c.from_residual-in_err-first in
    seen_as expression_of r.result (remaining c.both.new.parser) (unit_or_pair_is reads c.args.at (remaining c.args.parser.now))
    (rw (c.in_ok-if_mark.ensures, c.if-branch.false)
    (refused_part both_of expression_of _ _ _ (remaining c.both.new.parser) r.result r.ensures.1 c.in_err-first.ensures))

pub operation-returns-in_err-operator : goal.operation-returns-in_err-operator
operation-returns-in_err-operator t c =
    let reads = read_expression c.args.levels in
    let r = c.from_residual in
    seen_as expression_of r.result (remaining c.operation_word.new.parser)
    (operation_is reads c.args.at (parsing.unary_of c.args.keyword) (parsing.binary_of c.args.keyword) (remaining c.args.parser.now))
    (refused_part operation_of expression_of _ _ _ (remaining c.operation_word.new.parser) r.result r.ensures.1 c.in_err-operator.ensures)

-- where all parts are read
pub unit_or_pair-returns : goal.unit_or_pair-returns
unit_or_pair-returns t c =
    let reads = read_expression c.args.levels in
    unit_or_pair_is reads c.args.at (remaining c.args.parser.now)
    ∙ rw (c.in_ok-if_mark.ensures, c.if-branch.false, c.in_ok-first.ensures, pair_tree) refl

pub operands-returns-then-not-branch : goal.operands-returns-then-not-branch
operands-returns-then-not-branch t c = rw (c.in_ok-if_mark.ensures, c.if-not-branch.true) refl

pub operands-returns : goal.operands-returns
operands-returns t c = rw (c.in_ok-if_mark.ensures, c.if-not-branch.false, c.in_ok-operands.ensures) refl

pub expression_from-returns-in-Lower : goal.expression_from-returns-in-Lower
expression_from-returns-in-Lower t c =
    let reads = read_expression c.args.levels in
    rw c.in-Lower.is (seen_as expression_of c.local_or_call.result (remaining c.operands.new.parser)
    (call_is reads c.args.at _ (remaining c.args.parser.now)) (c.local_or_call.ensures _ _ c.operands.ensures))

pub expression_from-returns-in-Upper : goal.expression_from-returns-in-Upper
expression_from-returns-in-Upper t c =
    let reads = read_expression c.args.levels in
    rw c.in-Upper.is (seen_as expression_of c.constructor.result (remaining c.operands-in-Upper.new.parser)
    (constructor_is reads c.args.at _ (remaining c.args.parser.now)) (c.constructor.ensures _ _ c.operands-in-Upper.ensures))

pub expression_from-returns-in-Keyword : goal.expression_from-returns-in-Keyword
expression_from-returns-in-Keyword t c = rw c.in-Keyword.is c.word.ensures

pub word-returns-in-Let : goal.word-returns-in-Let
word-returns-in-Let t c = rw c.in-Let.is c.let_in.ensures

pub word-returns-in-If : goal.word-returns-in-If
word-returns-in-If t c = rw c.in-If.is c.conditional.ensures

pub word-returns-in-Match : goal.word-returns-in-Match
word-returns-in-Match t c = rw c.in-Match.is c.matching.ensures

pub boxed-returns : goal.boxed-returns
boxed-returns t c = rw c.in_ok-part.ensures c.closed.ensures

pub both-returns : goal.both-returns
both-returns t c = rw (c.in_ok-first.ensures, c.in_ok-second.ensures) refl

pub operation-returns-in_ok-operand-in-Unary : goal.operation-returns-in_ok-operand-in-Unary
operation-returns-in_ok-operand-in-Unary t c =
    let reads = read_expression c.args.levels in
    operation_is reads c.args.at (parsing.unary_of c.args.keyword) (parsing.binary_of c.args.keyword) (remaining c.args.parser.now)
    ∙ rw (c.in_ok-operator.ensures, c.in-Unary.is, c.in_ok-operand-in-Unary.ensures, unary_tree) refl

pub operate-returns : goal.operate-returns
operate-returns t c =
    let reads = read_expression c.args.levels in
    operate_is reads c.args.at c.args.keyword (remaining c.args.parser.now)
    ∙ rw (c.in_ok-operator.ensures, sym c.others_of.ensures, c.in_ok-operands.ensures, operate_tree) refl

pub let_in-returns : goal.let_in-returns
let_in-returns t c =
    let reads = read_expression c.args.levels in
    let_is reads c.args.at (remaining c.args.parser.now)
    ∙ rw (c.in_ok-name.ensures, c.in_ok-bound.ensures, c.in_ok-body.ensures, let_tree) refl

pub conditional-returns : goal.conditional-returns
conditional-returns t c =
    let reads = read_expression c.args.levels in
    if_is reads c.args.at (remaining c.args.parser.now)
    ∙ rw (c.in_ok-test.ensures, c.in_ok-first.ensures, c.in_ok-other.ensures, if_tree) refl

pub matching-returns : goal.matching-returns
matching-returns t c =
    let reads = read_expression c.args.levels in
    match_is reads c.args.at (remaining c.args.parser.now)
    ∙ rw (c.in_ok-subject.ensures, c.in_ok-mark.ensures, c.in_ok-arms.ensures, match_tree) refl

-- a part has no more levels, or as many and less to hand on
pub boxed-expression-requires : goal.boxed-expression-requires
boxed-expression-requires t c = omega (arith, c.decreases)

pub both-boxed-requires : goal.both-boxed-requires
both-boxed-requires t c = omega (arith, c.decreases)

pub both-boxed-requires-2 : goal.both-boxed-requires-2
both-boxed-requires-2 t c = omega (arith, c.decreases)

pub unit_or_pair-both-requires : goal.unit_or_pair-both-requires
unit_or_pair-both-requires t c = omega (arith, c.decreases)

pub operands-expression_list-requires : goal.operands-expression_list-requires
operands-expression_list-requires t c = omega (arith, c.decreases)

pub expression_list-expression-requires : goal.expression_list-expression-requires
expression_list-expression-requires t c = omega (arith, c.decreases)

pub word-let_in-requires : goal.word-let_in-requires
word-let_in-requires t c = omega (arith, c.decreases)

pub word-conditional-requires : goal.word-conditional-requires
word-conditional-requires t c = omega (arith, c.decreases)

pub word-matching-requires : goal.word-matching-requires
word-matching-requires t c = omega (arith, c.decreases)

pub word-operate-requires : goal.word-operate-requires
word-operate-requires t c = omega (arith, c.decreases)

pub operate-so_many-requires : goal.operate-so_many-requires
operate-so_many-requires t c = omega (arith, c.decreases)

pub so_many-expression-requires : goal.so_many-expression-requires
so_many-expression-requires t c = omega (arith, c.decreases)

pub word-operation-requires : goal.word-operation-requires
word-operation-requires t c = omega (arith, c.decreases)

pub operation-boxed-requires : goal.operation-boxed-requires
operation-boxed-requires t c = omega (arith, c.decreases)

pub operation-both-requires : goal.operation-both-requires
operation-both-requires t c = omega (arith, c.decreases)

pub let_in-boxed-requires : goal.let_in-boxed-requires
let_in-boxed-requires t c = omega (arith, c.decreases)

pub let_in-boxed-requires-2 : goal.let_in-boxed-requires-2
let_in-boxed-requires-2 t c = omega (arith, c.decreases)

pub conditional-boxed-requires : goal.conditional-boxed-requires
conditional-boxed-requires t c = omega (arith, c.decreases)

pub conditional-boxed-requires-2 : goal.conditional-boxed-requires-2
conditional-boxed-requires-2 t c = omega (arith, c.decreases)

pub conditional-boxed-requires-3 : goal.conditional-boxed-requires-3
conditional-boxed-requires-3 t c = omega (arith, c.decreases)

pub matching-boxed-requires : goal.matching-boxed-requires
matching-boxed-requires t c = omega (arith, c.decreases)

pub matching-arm_list-requires : goal.matching-arm_list-requires
matching-arm_list-requires t c = omega (arith, c.decreases)

pub arm_list-arm-requires : goal.arm_list-arm-requires
arm_list-arm-requires t c = omega (arith, c.decreases)

pub arm-expression-requires : goal.arm-expression-requires
arm-expression-requires t c = omega (arith, c.decreases)

pub expression_from-unit_or_pair-requires : goal.expression_from-unit_or_pair-requires
expression_from-unit_or_pair-requires t c = omega (arith, c.decreases)

pub expression_from-word-requires : goal.expression_from-word-requires
expression_from-word-requires t c = omega (arith, c.decreases)
