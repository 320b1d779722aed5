use Rattle.std.proofs.Common.{◌≡◌, ◌∙◌, false, ap, sym}
use Rattle.std.proofs.lemmas.Result.{err_from_is_err_and}
use Rattle.lexemes.specs.TokenViews.{token_view}
use Rattle.lexemes.specs.Tokens.{Next}
use Rattle.lexemes.specs.Remaining.{remaining}
use Rattle.auth_syntax.specs.Parsing.{begins_expression, read_expression}
use Rattle.auth_syntax.proofs.LevelSteps.{read_expression-none}
use Rattle.auth_syntax.proofs.PartsRead.{none_taken}
use Rattle.auth_syntax.proofs.parser.expressions.expression_head.Goals as goal

pub returns-in_err-at : goal.returns-in_err-at
returns-in_err-at c =
    let p = err_from_is_err_and c.from_residual.result c.from_residual.ensures.1 in
    rw (p.1, p.2) (none_taken c.args.levels (remaining c.args.parser.now) (remaining c.token.new.self)
    c.in_err-at.field-0.0 c.in_err-at.ensures)

pub returns-then-not-begins_expression : goal.returns-then-not-begins_expression
returns-then-not-begins_expression c =
    let head : remaining c.args.parser.now ≡ Next c.in_ok-at.field-0.at (token_view c.in_ok-at.field-0.token) (remaining c.token.new.self) = c.in_ok-at.ensures in
    let none : begins_expression (token_view c.in_ok-at.field-0.token) ≡ false = sym c.if-not-begins_expression.ensures in
    ap (read_expression c.args.levels) head ∙ read_expression-none c.args.levels _ _ _ none
