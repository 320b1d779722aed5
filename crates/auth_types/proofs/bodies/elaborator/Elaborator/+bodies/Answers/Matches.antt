-- The answers for matches and their arms.
use denote.Param.Weighed.{at_most, most}
use Rattle.std.proofs.Common.{◌≡◌, ◌<◌, ◌≤◌, ◌∙◌, [], List, Err, None, map, length, unwrap_or, slice_get, sym, ap, subst, arith, rules}
use Rattle.std.proofs.lemmas.Result.{err_from_is_err_and}
use Rattle.core_terms.specs.Types.{Ty}
use Rattle.core_terms.specs.TypeTables.{type_at}
use Rattle.core_terms.specs.ProgramTrees.{types_at}
use Rattle.core_terms.specs.declared.term.Constructor.{Constructor}
use Rattle.auth_syntax.specs.Syntax.{place_of}
use Rattle.auth_syntax.specs.Trees.{ArmSyntax, arm_of, arms_in_a_row, expression_of, name_of}
use Rattle.auth_syntax.specs.declared.tree.PlacedName.{PlacedName}
use Rattle.auth_syntax.specs.declared.tree.ExpTree.TheViews.{size-Arm}
use Rattle.auth_syntax.specs.declared.tree.Arm.{Arm}
use Rattle.declared_types.specs.Findings.{Finds}
use Rattle.auth_types.specs.Bodies.{Local, arm_names, bound_names, elaborated, elaborated_arms, wanted_arm}
use Rattle.declared_types.specs.Signatures.{Scope}
use Rattle.declared_types.specs.Checking.{Sound}
use Rattle.auth_types.specs.CheckedLaws.{HasGoodLiterals}
use Rattle.auth_types.specs.Elaborators.{Matches, arms_found, arms_of, fields_of, found_in, locals_of, scope_of, typed_of, types_of, want_of}
use Rattle.declared_types.specs.OverTypes.{Grows, Shows}
use Rattle.declared_types.specs.Scopes.{AreWithin}
use Rattle.auth_types.proofs.ArmSteps.{arm_finds, arm_kept, arm_miscounted, arm_refused, names_bound, names_refused, next_fields, wanted_arm_fault}
use Rattle.auth_types.proofs.CallSteps.{constructors_count}
use Rattle.auth_types.proofs.ElaboratorSteps.{keeps_closed, keeps_on, keeps_self, scope_is}
use Rattle.auth_types.proofs.FindingSteps.{fault_first, finds_is, no_value, on_ok, refused_at, refused_by, shows_is}
use Rattle.auth_types.proofs.LiteralSteps.{arms_good, arms_good_last}
use Rattle.auth_types.proofs.MatchSteps.{match_arms_refused, match_found, match_refused}
use Rattle.auth_types.proofs.RowSteps.{arms_behind_none, arms_last, arms_more, arms_refused, constructor_within, next_mapped, none_mapped, want_stays, want_within}
use Rattle.declared_types.proofs.ScopeStays.{grows_length}
use Rattle.auth_types.proofs.TreeViews.{arm-parts}
use Rattle.declared_types.proofs.TypeNumbers.{grows_self}
use Rattle.auth_types.proofs.bodies.elaborator.Elaborator.+bodies.Goals as goal

-- matches
pub match_with-arms-requires : goal.match_with-arms-requires
unfolding scope_of
match_with-arms-requires t c =
    let types = types_of c.term.new.self in
    let count = c.in_ok-named.ensures.count ∙ sym (constructors_count types c.constructors-constructors.result.now
    _ (c.constructors-constructors.ensures.fields types)) in
    (search rules, (count, c.constructors-constructors.ensures.within (length types) c.term.new.self.scope_within))

pub match_with-returns-in_err-named : goal.match_with-returns-in_err-named
match_with-returns-in_err-named t c =
    let r = c.from_residual-in_err-named.result in
    let e = c.from_residual-in_err-named.ensures.1 in
    record {
      keeps = no_value _ _ r e;
      found = let p = err_from_is_err_and r e in
          match_refused (scope_of c.args.self.now) (locals_of c.args.self.now) c.args.at c.place-place.result (expression_of c.args.subject.now)
          (arms_in_a_row (map arm_of c.args.arms.now)) c.place-place.ensures (types_of c.term.new.self) c.in_ok-subject.subject
          c.in_ok-subject.ensures.found _ _ _ (p.1 ∙ ap Err p.2)
          (subst (λ (s : Scope). Matches s c.args.at c.place-place.result (type_at (types_of c.term.new.self) c.in_ok-subject.subject.ty)
          (arm_names (arms_in_a_row (map arm_of c.args.arms.now))) (Err c.in_err-named.field-0.0)) c.in_ok-subject.ensures.keeps.scope
          c.in_err-named.ensures.found);
      inside = no_value _ _ r e;
      literals = no_value _ _ r e;
    }

pub match_with-returns-in_err-arms : goal.match_with-returns-in_err-arms
match_with-returns-in_err-arms t c =
    let r = c.from_residual-in_err-arms.result in
    let e = c.from_residual-in_err-arms.ensures.1 in
    record {
      keeps = no_value _ _ r e;
      found = let p = err_from_is_err_and r e in
          let e = c.args.self.now in
          let types = types_of c.term.new.self in
          let tss = fields_of types c.constructors-constructors.result.now in
          let scope = c.in_ok-subject.ensures.keeps.scope in
          let locals = c.in_ok-subject.ensures.keeps.locals in
          let arms = arms_in_a_row (map arm_of c.args.arms.now) in
          match_arms_refused (scope_of e) (locals_of e) c.args.at c.place-place.result (expression_of c.args.subject.now) arms c.place-place.ensures types
          c.in_ok-subject.subject
          c.in_ok-subject.ensures.found c.in_ok-named.named tss (rw scope at c.in_ok-named.ensures.found)
          (c.constructors-constructors.ensures.fields types ∙ ap (λ (s : Scope). unwrap_or (slice_get s.table c.in_ok-named.named.0) [])
          (sym (scope_is c.term.new.self) ∙ scope)) (types_of c.arms.new.self) _ _ _ (p.1 ∙ ap Err p.2)
          (finds_is (types_of c.arms.new.self) arms_of _ _ (Err c.in_err-arms.field-0.0)
          (ap (λ s. elaborated_arms s (locals_of c.term.new.self) arms None tss) scope ∙ ap (λ ls. elaborated_arms (scope_of e) ls arms None tss) locals)
          c.in_err-arms.ensures.found);
      inside = no_value _ _ r e;
      literals = no_value _ _ r e;
    }

pub match_with-returns : goal.match_with-returns
match_with-returns t c = record {
  keeps = on_ok c.typed.result (keeps_on c.in_ok-subject.ensures.keeps c.in_ok-arms.ensures.keeps);
  found = let e = c.args.self.now in
      let types = types_of c.term.new.self in
      let tss = fields_of types c.constructors-constructors.result.now in
      let scope = c.in_ok-subject.ensures.keeps.scope in
      let locals = c.in_ok-subject.ensures.keeps.locals in
      let arms = arms_in_a_row (map arm_of c.args.arms.now) in
      c.typed.ensures.found _
      (match_found (scope_of e) (locals_of e) c.args.at c.place-place.result (expression_of c.args.subject.now) arms c.place-place.ensures types
      c.in_ok-subject.subject
      c.in_ok-subject.ensures.found c.in_ok-named.named tss (rw scope at c.in_ok-named.ensures.found)
      (c.constructors-constructors.ensures.fields types ∙ ap (λ (s : Scope). unwrap_or (slice_get s.table c.in_ok-named.named.0) [])
      (sym (scope_is c.term.new.self) ∙ scope)) (types_of c.arms.new.self) c.in_ok-arms.arms
      c.in_ok-arms.ensures.keeps.grows c.in_ok-subject.ensures.inside (rw (scope, locals) at c.in_ok-arms.ensures.found));
  inside = c.typed.ensures.inside;
  literals = on_ok c.typed.result (c.in_ok-subject.ensures.literals, c.in_ok-arms.ensures.literals);
}

pub match_with-returns-in_err-subject : goal.match_with-returns-in_err-subject
match_with-returns-in_err-subject t c =
    let r = c.from_residual.result in
    let e = c.from_residual.ensures.1 in
    record {
      keeps = no_value _ _ r e;
      found = let p = err_from_is_err_and r e in
          fault_first (types_of c.term.new.self) _ typed_of typed_of (found_in c.args.self.now c.args.subject.now) _ _ _ (p.1 ∙ ap Err p.2)
          c.in_err-subject.ensures.found;
      inside = no_value _ _ r e;
      literals = no_value _ _ r e;
    }

-- the arms of a match
pub arms-loop-index-init : goal.arms-loop-index-init
arms-loop-index-init t c = record {
  keeps = keeps_self c.args.self.now;
  found = λ more. rw c.new-bodies.ensures.items (arms_behind_none
      (arms_found c.args.self.now (arms_in_a_row (map arm_of c.args.arms.now)) (fields_of (types_of c.args.self.now) c.args.constructors.now)));
  inside = tt;
  literals = λ good. good;
}

pub arms-arm-requires : goal.arms-arm-requires
arms-arm-requires t c =
    let inside : c.loop-index.index < length c.args.constructors.now = omega (arith, c.requires.count, c.loop-index-test.true) in
    let within = constructor_within (length (types_of c.args.self.now)) (length (types_of c.loop-index.self)) c.args.constructors.now
    c.loop-index.index c.index-constructors-index.result c.deref.result.now
    (grows_length (types_of c.args.self.now) (types_of c.loop-index.self) c.loop-index.invariant.keeps.grows) c.requires.within inside
    c.index-constructors-index.is (c.deref.ensures.value ∙ ap (λ (c : Constructor). c.fields.items) (sym c.index-constructors-index.is)) in
    let deep : size-Arm c.index-arms-index.result ≤ most size-Arm c.args.arms.now =
    subst (λ (a : Arm). size-Arm a ≤ most size-Arm c.args.arms.now) (sym c.index-arms-index.is)
    (at_most size-Arm c.args.arms.now c.loop-index.index c.index-arms-index.result c.loop-index-test.true) in
    (omega (arith, deep, c.decreases), (c.loop-index.invariant.inside, within))

pub arms-returns-in_err-body : goal.arms-returns-in_err-body
arms-returns-in_err-body t c =
    let r = c.from_residual.result in
    let e = c.from_residual.ensures.1 in
    record {
      keeps = no_value _ _ r e;
      found = let p = err_from_is_err_and r e in
          let e = c.args.self.now in
          let old = types_of e in
          let types = types_of c.loop-index.self in
          let ids = c.deref.result.now in
          let arm = arm_of c.index-arms-index.result in
          let keeps = c.loop-index.invariant.keeps in
          let inside : c.loop-index.index < length c.args.constructors.now = omega (arith, c.requires.count, c.loop-index-test.true) in
          let fields : ids ≡ c.index-constructors-index.result.fields.items =
          c.deref.ensures.value ∙ ap (λ (c : Constructor). c.fields.items) (sym c.index-constructors-index.is) in
          let within : AreWithin (length old) ids =
          constructor_within (length old) (length old) c.args.constructors.now c.loop-index.index c.index-constructors-index.result ids (omega arith)
          c.requires.within inside c.index-constructors-index.is fields in
          let same = arm_kept e c.loop-index.self keeps (want_of types c.loop-index.wanted) ids within arm in
          refused_by (types_of c.arm.new.self) _ typed_of arms_of _ _ _ _ (p.1 ∙ ap Err p.2)
          (λ kind at is. arms_refused (scope_of e) (locals_of e) (map arm_of c.args.arms.now) (fields_of old c.args.constructors.now) c.loop-index.index arm
          (types_at old ids)
          (next_mapped arm_of c.args.arms.now c.loop-index.index c.index-arms-index.result c.index-arms-index.result c.loop-index-test.true
          c.index-arms-index.is)
          (next_fields old c.args.constructors.now c.loop-index.index c.index-constructors-index.result ids inside c.index-constructors-index.is fields)
          c.loop-index.wanted c.loop-index.bodies.items _ types kind at c.loop-index.invariant.inside c.loop-index.invariant.found (sym same ∙ is))
          c.in_err-body.ensures.found;
      inside = no_value _ _ r e;
      literals = no_value _ _ r e;
    }

pub arms-loop-index-preserved : goal.arms-loop-index-preserved
arms-loop-index-preserved t c =
    let e = c.args.self.now in
    let old = types_of e in
    let types = types_of c.loop-index.self in
    let ids = c.deref.result.now in
    let arm = arm_of c.index-arms-index.result in
    let keeps = c.loop-index.invariant.keeps in
    let inside : c.loop-index.index < length c.args.constructors.now = omega (arith, c.requires.count, c.loop-index-test.true) in
    let fields : ids ≡ c.index-constructors-index.result.fields.items =
    c.deref.ensures.value ∙ ap (λ (c : Constructor). c.fields.items) (sym c.index-constructors-index.is) in
    let within : AreWithin (length old) ids =
    constructor_within (length old) (length old) c.args.constructors.now c.loop-index.index c.index-constructors-index.result ids (omega arith)
    c.requires.within inside c.index-constructors-index.is fields in
    let same = arm_kept e c.loop-index.self keeps (want_of types c.loop-index.wanted) ids within arm in
    let here = next_mapped arm_of c.args.arms.now c.loop-index.index c.index-arms-index.result c.index-arms-index.result c.loop-index-test.true
    c.index-arms-index.is in
    record {
      keeps = keeps_on keeps c.in_ok-body.ensures.keeps;
      found = rw (c.in_ok-push.ensures.items, c.into_inner.ensures)
          (arms_more (scope_of e) (locals_of e) (map arm_of c.args.arms.now) (fields_of old c.args.constructors.now) c.loop-index.index arm
          (types_at old ids) here
          (next_fields old c.args.constructors.now c.loop-index.index c.index-constructors-index.result ids inside c.index-constructors-index.is
          fields)
          c.loop-index.wanted c.loop-index.bodies.items _ types (types_of c.arm.new.self) c.in_ok-body.body c.in_ok-body.ensures.keeps.grows
          c.loop-index.invariant.inside c.loop-index.invariant.found
          (shows_is (types_of c.arm.new.self) typed_of _ _ c.in_ok-body.body same c.in_ok-body.ensures.found));
      inside = c.in_ok-body.ensures.inside;
      literals = arms_good (map arm_of c.args.arms.now) c.loop-index.index arm here c.in_ok-body.ensures.literals c.loop-index.invariant.literals;
    }

pub arms-returns : goal.arms-returns
arms-returns t c = record {
  keeps = keeps_on c.loop-index.invariant.keeps c.in_ok-ty.ensures.keeps;
  found = let e = c.args.self.now in
      arms_last (scope_of e) (locals_of e) (types_of c.loop-index.self) (types_of c.wanted_or_unit.new.self) (map arm_of c.args.arms.now)
      (fields_of (types_of e) c.args.constructors.now) c.loop-index.index c.loop-index.wanted c.loop-index.bodies c.in_ok-ty.ty _
      c.in_ok-ty.ensures.keeps.grows (none_mapped arm_of c.args.arms.now c.loop-index.index c.loop-index-test.false) c.loop-index.invariant.inside
      c.in_ok-ty.ensures.found c.loop-index.invariant.found;
  inside = c.in_ok-ty.ensures.inside;
  literals = arms_good_last (map arm_of c.args.arms.now) c.loop-index.index (none_mapped arm_of c.args.arms.now c.loop-index.index c.loop-index-test.false)
      c.loop-index.invariant.literals;
}

pub arms-returns-in_err-push : goal.arms-returns-in_err-push
arms-returns-in_err-push t c =
    let r = c.from_residual-in_err-push.result in
    let e = c.from_residual-in_err-push.ensures.1 in
    record {
      keeps = no_value _ _ r e;
      found = let p = err_from_is_err_and r e in rw (p.1, p.2) tt;
      inside = no_value _ _ r e;
      literals = no_value _ _ r e;
    }

pub arms-returns-in_err-ty : goal.arms-returns-in_err-ty
arms-returns-in_err-ty t c =
    let r = c.from_residual-in_err-ty.result in
    let e = c.from_residual-in_err-ty.ensures.1 in
    record {
      keeps = no_value _ _ r e;
      found = let p = err_from_is_err_and r e in rw (p.1, p.2) tt;
      inside = no_value _ _ r e;
      literals = no_value _ _ r e;
    }

-- an arm
pub arm-returns-then-len-fields : goal.arm-returns-then-len-fields
arm-returns-then-len-fields t c = record {
  keeps = tt;
  found = arm_miscounted (scope_of c.args.self.now) (locals_of c.args.self.now) (want_of (types_of c.args.self.now) c.args.wanted)
      (types_of c.args.self.now) c.args.fields.now c.args.arm.now (λ same. let ok = c.args.arm.now.fields.ok in c.if-len-fields.true (cc));
  inside = tt;
  literals = tt;
}

pub arm-bind_each-requires-clause-count : goal.arm-bind_each-requires-clause-count
arm-bind_each-requires-clause-count t c = let ok = c.args.arm.now.fields.ok in cc

pub arm-bind_each-requires-clause-within : goal.arm-bind_each-requires-clause-within
arm-bind_each-requires-clause-within t c = c.requires.within

pub arm-returns-in_err-bind_each : goal.arm-returns-in_err-bind_each
arm-returns-in_err-bind_each t c =
    let r = c.from_residual.result in
    let e = c.from_residual.ensures.1 in
    record {
      keeps = no_value _ _ r e;
      found = let p = err_from_is_err_and r e in
          let e = c.args.self.now in
          let ok = c.args.arm.now.fields.ok in
          let count : length c.args.arm.now.fields.items ≡ length c.args.fields.now = cc in
          refused_at {A = Unit {0}} _ (λ _. locals_of e) typed_of (names_bound (scope_of e) (locals_of e) (want_of (types_of e) c.args.wanted) (types_of e)
          c.args.fields.now c.args.arm.now) _ _ _ (p.1 ∙ ap Err p.2)
          (names_refused (scope_of e) (locals_of e) (want_of (types_of e) c.args.wanted) (types_of e) c.args.fields.now c.args.arm.now count)
          (subst (λ (ns : List PlacedName). Finds {A = Unit {0}} {B = List Local} (λ _. locals_of e)
          (bound_names [] (locals_of e) (map name_of ns) (types_at (types_of e) c.args.fields.now)) (Err c.in_err-bind_each.field-0.0))
          c.deref.ensures.value
          c.in_err-bind_each.ensures.found);
      inside = no_value _ _ r e;
      literals = no_value _ _ r e;
    }

pub arm-returns-in_err-body : goal.arm-returns-in_err-body
arm-returns-in_err-body t c =
    let r = c.from_residual-in_err-body.result in
    let e = c.from_residual-in_err-body.ensures.1 in
    record {
      keeps = no_value _ _ r e;
      found = let p = err_from_is_err_and r e in
          let e = c.args.self.now in
          let names : names_bound (scope_of e) (locals_of e) (want_of (types_of e) c.args.wanted) (types_of e) c.args.fields.now
          c.args.arm.now ≡ Sound (locals_of c.bind_each.new.self) = rw c.deref.ensures.value at c.in_ok-bind_each.ensures.found in
          let ok = c.args.arm.now.fields.ok in
          let count : length c.args.arm.now.fields.items ≡ length c.args.fields.now = cc in
          let x = expression_of c.args.arm.now.body in
          let inner = locals_of c.bind_each.new.self in
          refused_by (types_of c.term.new.self) _ typed_of typed_of (elaborated (scope_of e) inner x) _ _ _ (p.1 ∙ ap Err p.2)
          (λ kind at is. arm_refused (scope_of e) (locals_of e) (want_of (types_of e) c.args.wanted) (types_of e) c.args.fields.now c.args.arm.now count
          inner names kind at (wanted_arm_fault (want_of (types_of e) c.args.wanted) (place_of x) (elaborated (scope_of e) inner x) kind at is))
          (finds_is (types_of c.term.new.self) typed_of _ _ (Err c.in_err-body.field-0.0)
          (ap (λ s. elaborated s inner x) c.in_ok-bind_each.ensures.scope) c.in_err-body.ensures.found);
      inside = no_value _ _ r e;
      literals = no_value _ _ r e;
    }

pub arm-wanted_arm-requires : goal.arm-wanted_arm-requires
arm-wanted_arm-requires t c =
    let more = grows_length (types_of c.bind_each.new.self) (types_of c.term.new.self) c.in_ok-body.ensures.keeps.grows in
    let bound = ap length c.in_ok-bind_each.ensures.types in
    let same = ap length c.close.ensures.types in
    let body = c.in_ok-body.ensures.inside in
    record {
      wanted = want_within (length (types_of c.args.self.now)) (length (types_of c.close.new.self)) c.args.wanted (omega (arith, more, bound, same))
          c.requires.wanted;
      body = omega (arith, body, same);
    }

pub arm-returns : goal.arm-returns
arm-returns t c =
    let e = c.args.self.now in
    let x = expression_of c.args.arm.now.body in
    let inner = locals_of c.bind_each.new.self in
    let old = types_of e in
    let grows : Grows old (types_of c.term.new.self) =
    subst (λ (l : List Ty). Grows l (types_of c.term.new.self)) c.in_ok-bind_each.ensures.types c.in_ok-body.ensures.keeps.grows in
    record {
      keeps = on_ok c.wanted_arm.result (keeps_closed c.args.self.now c.bind_each.new.self c.term.new.self c.close.new.self c.depth-outer.result
          (subst (Grows old) (sym c.in_ok-bind_each.ensures.types) (grows_self old))
          c.in_ok-bind_each.ensures.scope c.in_ok-bind_each.ensures.outer
          c.in_ok-body.ensures.keeps c.close.ensures.types c.close.ensures.scope c.close.ensures.locals c.depth-outer.ensures);
      found = let names : names_bound (scope_of e) (locals_of e) (want_of old c.args.wanted) old c.args.fields.now
          c.args.arm.now ≡ Sound inner = rw c.deref.ensures.value at c.in_ok-bind_each.ensures.found in
          let ok = c.args.arm.now.fields.ok in
          let count : length c.args.arm.now.fields.items ≡ length c.args.fields.now = cc in
          let shown : Shows (types_of c.close.new.self) typed_of (elaborated (scope_of e) inner x) c.in_ok-body.body =
          rw c.close.ensures.types (shows_is (types_of c.term.new.self) typed_of _ (elaborated (scope_of e) inner x) c.in_ok-body.body
          (ap (λ s. elaborated s inner x) c.in_ok-bind_each.ensures.scope) c.in_ok-body.ensures.found) in
          let want : want_of (types_of c.close.new.self) c.args.wanted ≡ want_of old c.args.wanted =
          ap (λ (l : List Ty). want_of l c.args.wanted) c.close.ensures.types
          ∙ want_stays old (types_of c.term.new.self) c.args.wanted grows c.requires.wanted in
          arm_finds (scope_of e) (locals_of e) (want_of old c.args.wanted) old c.args.fields.now c.args.arm.now count
          (types_of c.close.new.self) inner c.wanted_arm.result names
          (finds_is (types_of c.close.new.self) typed_of _ _ c.wanted_arm.result
          (ap (λ at. wanted_arm (want_of (types_of c.close.new.self) c.args.wanted) at (elaborated (scope_of e) inner x)) c.place.ensures
          ∙ ap (λ w. wanted_arm w (place_of x) (elaborated (scope_of e) inner x)) want)
          (c.wanted_arm.ensures.found (elaborated (scope_of e) inner x) shown));
      inside = c.wanted_arm.ensures.inside;
      literals = on_ok c.wanted_arm.result
          (subst (λ (a : ArmSyntax). HasGoodLiterals a.body) (sym (arm-parts c.args.arm.now)) c.in_ok-body.ensures.literals);
    }
