use Rattle.std.proofs.Common.{◌∙◌, ◌++◌, ap, sym}
use Rattle.core_terms.specs.Terms.{TextE}
use Rattle.core_terms.specs.Types.{TextTy}
use Rattle.auth_types.specs.Bodies.{typed}
use Rattle.auth_types.specs.Elaborators.{types_of}
use Rattle.core_terms.proofs.TermViews.{expression-TextLiteral}
use Rattle.auth_types.proofs.bodies.elaborator.Elaborator.text.Goals as goal

pub returns-clause-found : goal.returns-clause-found
returns-clause-found c =
    let copy = c.in_ok-copied.field-0 in
    c.plain.ensures.found _
    (λ _. λ more. ap (λ bytes. typed (TextE bytes) TextTy) (sym c.in_ok-copied.ensures) ∙ ap (λ e. typed e TextTy)
    (sym (expression-TextLiteral (types_of c.plain.new.self ++ more) copy)))
