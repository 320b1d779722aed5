use Rattle.std.proofs.Common.{◌∙◌, ap, map, refl}
use Rattle.std.proofs.lemmas.Result.{on_ok_weaker}
use Rattle.lexemes.specs.Tokens.{KeywordToken}
use Rattle.lexemes.specs.declared.token.Mark.TheVariants.{Comma}
use Rattle.auth_syntax.specs.Grammar.{expression_tokens, expressions_tokens}
use Rattle.auth_syntax.specs.Parsing.{in_a_row}
use Rattle.auth_syntax.specs.Trees.{arm_of, arms_in_a_row, expression_of, name_of, unary_of}
use Rattle.printed_syntax.specs.LineViews.{line_of, with_token}
use Rattle.auth_syntax.proofs.Expressions.{expression_tokens-some}
use Rattle.printed_syntax.proofs.LineLemmas.{row_in_parentheses, row_more}
use Rattle.printed_syntax.proofs.PrintedForms.{binary_written, if_written, let_written, match_written, pair_written, unary_written}
use Rattle.printed_syntax.proofs.TreeTokens.{arm_written, arms_more}
use Rattle.printed_syntax.proofs.printer.Printer.+expressions.Goals as goal

-- an arm
pub arm-returns : goal.arm-returns
arm-returns t c =
    on_ok_weaker c.expression.result
    (λ body. arm_written (line_of c.args.self.now) (line_of c.mark.new.self) (line_of c.upper.new.self) (line_of c.field_names.new.self)
    (line_of c.mark-2.new.self) (line_of c.expression.new.self) c.args.arm.now c.deref.result.now c.in_ok-mark.ensures c.in_ok-upper.ensures c.deref.ensures.value
    c.in_ok-field_names.ensures c.in_ok-mark-2.ensures body)
    c.expression.ensures

-- operands, with the parentheses
pub operands-returns : goal.operands-returns
operands-returns t c =
    on_ok_weaker c.mark-2.result
    (row_in_parentheses Comma expression_tokens (λ es. expressions_tokens (in_a_row es)) expression_tokens-some (λ t. refl) (λ t next rest. refl) expression_of (line_of c.args.self.now) c.args.operands.now
    (line_of c.mark.new.self) (line_of c.expressions.new.self) (line_of c.mark-2.new.self) c.if-is_empty.ensures c.in_ok-mark.ensures c.in_ok-expressions.ensures)
    c.mark-2.ensures

-- with an arm more, and with an expression
pub arms-loop-arm-preserved : goal.arms-loop-arm-preserved
arms-loop-arm-preserved t c =
    arms_more (line_of c.args.self.now) c.args.arms.now c.loop-arm.arm-index c.arm-item.result (line_of c.loop-arm.self) (line_of c.arm.new.self)
    c.loop-arm.invariant c.in_ok-arm.ensures c.arm-item.is c.loop-arm-test.true

pub expressions-loop-index-preserved : goal.expressions-loop-index-preserved
expressions-loop-index-preserved t c =
    row_more Comma expression_tokens (λ es. expressions_tokens (in_a_row es)) refl (λ t. refl) (λ t next rest. refl) expression_of (line_of c.args.self.now)
    c.args.expressions.now c.loop-index.index c.index-expressions-index.result (line_of c.loop-index.self) (line_of c.separator.new.self)
    (line_of c.expression.new.self) c.loop-index.invariant c.in_ok-separator.ensures c.in_ok-expression.ensures c.index-expressions-index.is
    c.loop-index-test.true

-- the forms of an expression
pub pair-returns : goal.pair-returns
pair-returns t c =
    on_ok_weaker c.mark-3.result
    (pair_written (line_of c.args.self.now) (line_of c.mark.new.self) (line_of c.expression.new.self) (line_of c.mark-2.new.self) (line_of c.expression-2.new.self) (line_of c.mark-3.new.self)
    (expression_of c.args.first.now) (expression_of c.args.second.now)
    c.in_ok-mark.ensures c.in_ok-expression.ensures c.in_ok-mark-2.ensures c.in_ok-expression-2.ensures)
    c.mark-3.ensures

pub unary-returns : goal.unary-returns
unary-returns t c =
    on_ok_weaker c.mark-2.result
    (unary_written (line_of c.args.self.now) (line_of c.word.new.self) (line_of c.mark.new.self) (line_of c.expression.new.self) (line_of c.mark-2.new.self)
    (unary_of c.args.operation) (expression_of c.args.operand.now)
    (c.in_ok-word.ensures ∙ ap (λ word. with_token (line_of c.args.self.now) (KeywordToken word)) c.unary_word.ensures) c.in_ok-mark.ensures c.in_ok-expression.ensures)
    c.mark-2.ensures

pub binary-returns : goal.binary-returns
binary-returns t c =
    on_ok_weaker c.pair.result
    (binary_written (line_of c.args.self.now) (line_of c.word.new.self) (line_of c.pair.new.self)
    c.args.operation (expression_of c.args.first.now) (expression_of c.args.second.now)
    c.in_ok-word.ensures)
    c.pair.ensures

pub let_in-returns : goal.let_in-returns
let_in-returns t c =
    on_ok_weaker c.expression-2.result
    (let_written (line_of c.args.self.now) (line_of c.word.new.self) (line_of c.lower.new.self) (line_of c.mark.new.self) (line_of c.expression.new.self)
    (line_of c.word-2.new.self) (line_of c.expression-2.new.self)
    (name_of c.args.name.now) (expression_of c.args.bound.now) (expression_of c.args.body.now)
    c.in_ok-word.ensures c.in_ok-lower.ensures c.in_ok-mark.ensures c.in_ok-expression.ensures c.in_ok-word-2.ensures)
    c.expression-2.ensures

pub condition-returns : goal.condition-returns
condition-returns t c =
    on_ok_weaker c.expression-3.result
    (if_written (line_of c.args.self.now) (line_of c.word.new.self) (line_of c.expression.new.self) (line_of c.word-2.new.self)
    (line_of c.expression-2.new.self) (line_of c.word-3.new.self) (line_of c.expression-3.new.self)
    (expression_of c.args.test.now) (expression_of c.args.first.now) (expression_of c.args.other.now)
    c.in_ok-word.ensures c.in_ok-expression.ensures c.in_ok-word-2.ensures c.in_ok-expression-2.ensures c.in_ok-word-3.ensures)
    c.expression-3.ensures

pub match_with-returns : goal.match_with-returns
match_with-returns t c =
    on_ok_weaker c.word-3.result
    (match_written (line_of c.args.self.now) (line_of c.word.new.self) (line_of c.expression.new.self) (line_of c.word-2.new.self)
    (line_of c.arms.new.self) (line_of c.word-3.new.self)
    (expression_of c.args.subject.now) (arms_in_a_row (map arm_of c.args.arms.now))
    c.in_ok-word.ensures c.in_ok-expression.ensures c.in_ok-word-2.ensures c.in_ok-arms.ensures)
    c.word-3.ensures
