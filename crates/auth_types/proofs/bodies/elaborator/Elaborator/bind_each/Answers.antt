use Rattle.std.proofs.Common.{◌≡◌, ◌<◌, ◌≤◌, ◌∙◌, ◌∷◌, [], ◌++◌, List, Err, drop, length, slice_index_or, refl, sym, ap, subst, arith, append_assoc, length-append}
use Rattle.std.proofs.lemmas.Result.{err_from_is_err_and}
use Rattle.core_terms.specs.Types.{Ty}
use Rattle.core_terms.specs.TypeTables.{type_at}
use Rattle.core_terms.specs.declared.types.TyId.{TyId}
use Rattle.auth_syntax.specs.Trees.{name_of}
use Rattle.auth_types.specs.Bodies.{Local}
use Rattle.declared_types.specs.Checking.{Sound, is_among}
use Rattle.declared_types.specs.Findings.{Finds}
use Rattle.auth_types.specs.Elaborators.{locals_of, types_of}
use Rattle.auth_types.specs.Locals.{names_of}
use Rattle.auth_types.proofs.BoundNames.{named_local, next_bound, next_fault, next_twice, with_local, with_local_is}
use Rattle.auth_types.proofs.FindingSteps.{finds_at}
use Rattle.auth_types.proofs.RowSteps.{next_mapped}
use Rattle.auth_types.proofs.bodies.elaborator.Elaborator.bind_each.Goals as goal

pub returns-then-is_bound_behind-clause-found : goal.returns-then-is_bound_behind-clause-found
returns-then-is_bound_behind-clause-found c =
    let d : TyId = record { 0 = 0 } in
    let inside : c.loop-index.index < length c.args.types.now = omega (arith, c.requires.count, c.loop-index-test.true) in
    next_twice (locals_of c.args.self.now) (locals_of c.loop-index.self) _ _ c.loop-index.index (name_of c.index-names-index.result)
    (type_at (types_of c.args.self.now) (slice_index_or c.args.types.now c.loop-index.index d)) _
    (next_mapped name_of c.args.names.now c.loop-index.index c.index-names-index.result c.index-names-index.result c.loop-index-test.true
    c.index-names-index.is)
    (next_mapped (type_at (types_of c.args.self.now)) c.args.types.now c.loop-index.index (slice_index_or c.args.types.now c.loop-index.index d) d
    inside refl)
    c.loop-index.invariant.bound
    (ap (λ n. is_among c.index-names-index.result.name (names_of (drop n (locals_of c.loop-index.self)))) (sym c.depth-outer.ensures)
    ∙ sym c.is_bound_behind.ensures ∙ c.if-is_bound_behind.true)

pub returns-in_err-bind-clause-found : goal.returns-in_err-bind-clause-found
returns-in_err-bind-clause-found c =
    let p = err_from_is_err_and c.from_residual.result c.from_residual.ensures.1 in
    let d : TyId = record { 0 = 0 } in
    let v : TyId = slice_index_or c.args.types.now c.loop-index.index d in
    let inside : c.loop-index.index < length c.args.types.now = omega (arith, c.requires.count, c.loop-index-test.true) in
    let name = name_of c.index-names-index.result in
    let locals = locals_of c.loop-index.self in
    finds_at {A = Unit {0}} (λ _. locals) _ (with_local locals name (type_at (types_of c.args.self.now) v)) _ c.from_residual.result
    (p.1 ∙ ap Err p.2)
    (next_fault (locals_of c.args.self.now) (locals_of c.loop-index.self) _ _ c.loop-index.index (name_of c.index-names-index.result)
    (type_at (types_of c.args.self.now) v) _
    (next_mapped name_of c.args.names.now c.loop-index.index c.index-names-index.result c.index-names-index.result c.loop-index-test.true
    c.index-names-index.is)
    (next_mapped (type_at (types_of c.args.self.now)) c.args.types.now c.loop-index.index v d inside refl)
    c.loop-index.invariant.bound
    (ap (λ n. is_among c.index-names-index.result.name (names_of (drop n (locals_of c.loop-index.self)))) (sym c.depth-outer.ensures)
    ∙ sym c.is_bound_behind.ensures ∙ c.if-is_bound_behind.false))
    (subst (λ (l : List Ty). Finds {A = Unit {0}} {B = List Local} (λ _. locals) (with_local locals name (type_at l v)) (Err c.in_err-bind.field-0.0))
    c.loop-index.invariant.types c.in_err-bind.ensures.found)

pub loop-index-preserved : goal.loop-index-preserved
loop-index-preserved c =
    let d : TyId = record { 0 = 0 } in
    let v : TyId = slice_index_or c.args.types.now c.loop-index.index d in
    let t = type_at (types_of c.args.self.now) v in
    let name = name_of c.index-names-index.result in
    let before = locals_of c.args.self.now in
    let locals = locals_of c.loop-index.self in
    let inside : c.loop-index.index < length c.args.types.now = omega (arith, c.requires.count, c.loop-index-test.true) in
    let bound : with_local locals name t ≡ Sound (locals_of c.bind.new.self) = rw c.loop-index.invariant.types at c.in_ok-bind.ensures.found in
    let behind : locals ≡ before ++ c.loop-index.invariant.behind.0 = c.loop-index.invariant.behind.1 in
    let longer : length before ≤ length locals = omega (arith, ap length behind, length-append before c.loop-index.invariant.behind.0) in
    record {
      types = c.in_ok-bind.ensures.types ∙ c.loop-index.invariant.types;
      scope = c.in_ok-bind.ensures.scope ∙ c.loop-index.invariant.scope;
      bound = next_bound before locals _ _ c.loop-index.index name t _
          (next_mapped name_of c.args.names.now c.loop-index.index c.index-names-index.result c.index-names-index.result c.loop-index-test.true
          c.index-names-index.is)
          (next_mapped (type_at (types_of c.args.self.now)) c.args.types.now c.loop-index.index v d inside refl)
          c.loop-index.invariant.bound
          (ap (λ n. is_among name.name (names_of (drop n locals))) (sym c.depth-outer.ensures) ∙ sym c.is_bound_behind.ensures
          ∙ c.if-is_bound_behind.false)
          (locals_of c.bind.new.self) longer bound;
      behind = (
        c.loop-index.invariant.behind.0 ++ named_local name t ∷ [],
        with_local_is locals (locals_of c.bind.new.self) name t bound ∙ ap (λ ls. ls ++ named_local name t ∷ []) behind
            ∙ append_assoc before c.loop-index.invariant.behind.0 (named_local name t ∷ []),
      );
    }
