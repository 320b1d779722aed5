use Rattle.std.proofs.Common.{◌≡◌, ◌∙◌, false, ap, subst, sym}
use Rattle.lexemes.specs.TokenViews.{token_view}
use Rattle.lexemes.specs.Tokens.{Next}
use Rattle.lexemes.specs.Readings.{Reading}
use Rattle.auth_syntax.specs.Parsing.{begins_type, read_type}
use Rattle.auth_syntax.specs.Trees.{type_of}
use Rattle.lexemes.specs.Remaining.{Reads}
use Rattle.lexemes.specs.Remaining.{remaining}
use Rattle.auth_syntax.specs.Syntax.{TypeSyntax}
use Rattle.auth_syntax.proofs.LevelSteps.{read_type-none, read_type-step}
use Rattle.auth_syntax.proofs.parser.types.+types.Goals as goal

pub written_type-returns-then-not-begins_type : goal.written_type-returns-then-not-begins_type
written_type-returns-then-not-begins_type t c =
    let head : remaining c.args.parser.now ≡ Next c.in_ok-at.field-0.at (token_view c.in_ok-at.field-0.token) (remaining c.token.new.self) = c.in_ok-at.ensures in
    let none : begins_type (token_view c.in_ok-at.field-0.token) ≡ false = sym c.if-not-begins_type.ensures in
    ap (read_type c.args.levels) head ∙ read_type-none c.args.levels _ _ _ none

pub written_type-returns : goal.written_type-returns
written_type-returns t c =
    let head : remaining c.args.parser.now ≡ Next c.in_ok-at.field-0.at (token_view c.in_ok-at.field-0.token) (remaining c.token.new.self) = c.in_ok-at.ensures in
    subst (λ (reading : Reading TypeSyntax). Reads type_of reading c.type_from.result (remaining c.type_from.new.parser))
    (sym (ap (read_type c.args.levels) head ∙ read_type-step c.args.levels _ _ _ c.if-levels-eq0.false))
    c.type_from.ensures
