use Rattle.std.proofs.Common.{◌≡◌, ◌∙◌, ap, sym, subst, List, map, [], ◌∷◌, ◌++◌}
use Rattle.std.proofs.lemmas.List.{map-append}
use Rattle.auth_syntax.specs.Syntax.{DeclarationSyntax}
use Rattle.lexemes.specs.Tokens.{Next}
use Rattle.lexemes.specs.TokenViews.{token_view}
use Rattle.auth_syntax.specs.Trees.{declaration_of, declarations_of}
use Rattle.lexemes.specs.Remaining.{remaining}
use Rattle.auth_syntax.proofs.Loops.{AreDeclaredSoFar, declared_so_far-start, declared_so_far-more}
use Rattle.auth_syntax.proofs.MadeOfTokens.{declaration_is_tokens}
use Rattle.auth_syntax.proofs.parser.declarations.program.Goals as goal

pub each-init : goal.each-init
each-init c =
    let whole = remaining c.args.parser.now in
    subst (λ (so_far : List DeclarationSyntax). AreDeclaredSoFar whole so_far whole) (sym (ap (map declaration_of) c.new-declarations.ensures.items)) (declared_so_far-start whole)

pub each-smaller : goal.each-smaller
each-smaller c =
    let head : remaining c.each.parser ≡ Next c.in-Token.at (token_view c.in-Token.token) (remaining c.next.new.self) =
    rw c.in-Token.is at c.in_ok-at.ensures in
    rw head (declaration_is_tokens (Next c.in-Token.at (token_view c.in-Token.token) (remaining c.next.new.self))
    (remaining c.declaration.new.parser) (declaration_of c.in_ok-declaration-in-Token.field-0) c.in_ok-declaration-in-Token.ensures)

pub each-preserved : goal.each-preserved
each-preserved c =
    let head : remaining c.each.parser ≡ Next c.in-Token.at (token_view c.in-Token.token) (remaining c.next.new.self) =
    rw c.in-Token.is at c.in_ok-at.ensures in
    let kept : declarations_of c.push.new.self ≡ declarations_of c.each.declarations ++ declaration_of c.in_ok-declaration-in-Token.field-0 ∷ [] =
    ap (map declaration_of) c.in_ok-push-in-Token.ensures.items ∙ map-append declaration_of c.each.declarations.items (c.in_ok-declaration-in-Token.field-0 ∷ []) in
    let whole = remaining c.args.parser.now in
    subst (λ (so_far : List DeclarationSyntax). AreDeclaredSoFar whole so_far (remaining c.declaration.new.parser)) (sym kept)
    (declared_so_far-more whole (declarations_of c.each.declarations) c.in-Token.at (token_view c.in-Token.token) (remaining c.next.new.self) (remaining c.declaration.new.parser)
    (declaration_of c.in_ok-declaration-in-Token.field-0)
    (subst (AreDeclaredSoFar whole (declarations_of c.each.declarations)) head c.each.invariant) c.in_ok-declaration-in-Token.ensures)
