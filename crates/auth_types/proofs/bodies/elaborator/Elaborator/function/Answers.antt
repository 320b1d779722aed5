use Rattle.std.proofs.Common.{◌∙◌, ◌++◌, List, Err, ap, subst}
use Rattle.std.proofs.lemmas.Result.{err_from_is_err_and}
use Rattle.core_terms.specs.Types.{Ty}
use Rattle.core_terms.specs.TypeTables.{type_at}
use Rattle.core_terms.specs.ProgramTrees.{types_at}
use Rattle.auth_syntax.specs.Syntax.{place_of}
use Rattle.auth_syntax.specs.Trees.{expression_of, function_of}
use Rattle.declared_types.specs.Signatures.{Signature}
use Rattle.auth_types.specs.Elaborators.{boxed_of, scope_of, types_of}
use Rattle.declared_types.specs.OverTypes.{Grows}
use Rattle.auth_types.proofs.FindingSteps.{finds_is, grown, shows_is}
use Rattle.auth_types.proofs.FunctionSteps.{body_is, function_refused, function_shows}
use Rattle.declared_types.proofs.ScopeStays.{type_stays_at, types_stay_at}
use Rattle.auth_types.proofs.bodies.elaborator.Elaborator.function.Goals as goal

pub returns-in_err-body-clause-found : goal.returns-in_err-body-clause-found
returns-in_err-body-clause-found c =
    let p = err_from_is_err_and c.from_residual-in_err-body.result c.from_residual-in_err-body.ensures.1 in
    let e = c.args.self.now in
    let head = c.args.head.now in
    let x = expression_of head.function.now.body in
    λ names signature.
    let entered = rw (c.deref.ensures.value, c.deref-2.ensures.value) at (c.in_ok-enter.ensures.locals names c.requires.locals) in
    function_refused names (scope_of e) (function_of head.function.now) (types_of c.part.new.self) _ _ _ (p.1 ∙ ap Err p.2)
    (finds_is (types_of c.part.new.self) boxed_of _ _ (Err c.in_err-body.field-0.0)
    (body_is e c.enter.new.self names head (place_of x) x c.in_ok-enter.ensures.types c.in_ok-enter.ensures.scope signature
    (entered (ap (λ (s : Signature). s.parameters) signature))) c.in_err-body.ensures.found)

pub returns-clause-found : goal.returns-clause-found
returns-clause-found c =
    let e = c.args.self.now in
    let head = c.args.head.now in
    let x = expression_of head.function.now.body in
    let old = types_of e in
    let types = types_of c.part.new.self in
    let g = c.in_ok-with_body.field-0 in
    let grows : Grows old types = subst (λ (l : List Ty). Grows l types) c.in_ok-enter.ensures.types c.in_ok-body.ensures.keeps.grows in
    λ names signature.
    let entered = rw (c.deref.ensures.value, c.deref-2.ensures.value) at (c.in_ok-enter.ensures.locals names c.requires.locals) in
    rw c.close.ensures.types
    (function_shows names (scope_of e) (function_of head.function.now) types g c.in_ok-body.body.value c.in_ok-with_body.ensures.name
    c.in_ok-with_body.ensures.kind
    (λ more. ap (types_at (types ++ more)) c.in_ok-with_body.ensures.parameters
    ∙ types_stay_at old (types ++ more) (grown old types grows more) head.parameters.items c.requires.within.parameters
    ∙ ap (λ (s : Signature). s.parameters) signature)
    (λ more. ap (type_at (types ++ more)) c.in_ok-with_body.ensures.gives
    ∙ type_stays_at old (types ++ more) (grown old types grows more) head.result c.requires.within.result
    ∙ ap (λ (s : Signature). s.result) signature)
    c.in_ok-with_body.ensures.body
    (shows_is types boxed_of _ _ c.in_ok-body.body
    (body_is e c.enter.new.self names head (place_of x) x c.in_ok-enter.ensures.types c.in_ok-enter.ensures.scope signature
    (entered (ap (λ (s : Signature). s.parameters) signature))) c.in_ok-body.ensures.found))
