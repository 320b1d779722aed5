use Rattle.std.proofs.Common.{◌∙◌, Err, ap, subst}
use Rattle.std.proofs.lemmas.Result.{err_from_is_err_and}
use Rattle.auth_syntax.specs.Trees.{declaration_of}
use Rattle.declared_types.specs.Declarations.{checked_declaration}
use Rattle.declared_types.specs.DeclaredNames.{declared_of}
use Rattle.declared_types.specs.Findings.{Finds}
use Rattle.declared_types.specs.declared.declarations.Declared.{Declared}
use Rattle.declared_types.proofs.DeclaredOneByOne.{declared_fault}
use Rattle.declared_types.proofs.declarations.first_pass.Goals as goal

pub returns-in_err-declare-clause-found : goal.returns-in_err-declare-clause-found
returns-in_err-declare-clause-found c =
    let p = err_from_is_err_and c.from_residual-in_err-declare.result c.from_residual-in_err-declare.ensures.1 in
    declared_fault c.args.declarations.now c.loop-declaration.declaration-index c.declaration-item.result c.args.end
    (declared_of c.loop-declaration.declared.value) c.in_err-declare.field-0.0 c.from_residual-in_err-declare.result
    c.loop-declaration-test.true c.declaration-item.is (p.1 ∙ ap Err p.2) c.loop-declaration.invariant
    (subst (λ (d : Declared). Finds {A = Unit {0}} (λ _. declared_of c.loop-declaration.declared.value)
    (checked_declaration (declared_of d) (declaration_of c.declaration-item.result)) (Err c.in_err-declare.field-0.0)) c.deref_mut.ensures.value
    c.in_err-declare.ensures)
