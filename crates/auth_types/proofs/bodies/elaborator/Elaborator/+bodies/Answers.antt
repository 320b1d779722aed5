mod Matches
use denote.Param.Weighed.{at_most, most}
use Rattle.std.proofs.Common.{◌≡◌, ◌<◌, ◌≤◌, ◌∙◌, List, Err, Ok, map, length, slice_index_or, take, refl, sym, ap, subst, arith, rules}
use Rattle.std.proofs.lemmas.List.{length-map}
use Rattle.std.proofs.lemmas.Option.{get_or_from_slice_get}
use Rattle.std.proofs.lemmas.Result.{err_from_is_err_and}
use Rattle.core_terms.specs.Types.{Ty, UnitTy, BoolTy}
use Rattle.core_terms.specs.TypeTables.{type_at}
use Rattle.core_terms.specs.ProgramTrees.{types_at}
use Rattle.core_terms.specs.declared.types.TyId.{TyId}
use Rattle.auth_syntax.specs.Parsing.{in_a_row}
use Rattle.lexemes.specs.Places.{start}
use Rattle.auth_syntax.specs.Syntax.{place_of}
use Rattle.auth_syntax.specs.Trees.{array_of, expression_of, unary_of}
use Rattle.auth_syntax.specs.declared.tree.ExpTree.{ExpTree}
use Rattle.auth_syntax.specs.declared.tree.ExpTree.TheViews.{size-ExpTree, size-Arm}
use Rattle.auth_types.specs.Arrays.{taken_of}
use Rattle.auth_types.specs.Bodies.{Local, elaborated, may_begin, unary, wanted}
use Rattle.declared_types.specs.Signatures.{Scope}
use Rattle.declared_types.specs.Checking.{then_checked}
use Rattle.auth_types.specs.Joins.{joined}
use Rattle.auth_types.specs.Elaborators.{Keeps, boxed_of, found_at, found_in, locals_of, row_found, row_of, scope_of, typed_of, types_of}
use Rattle.declared_types.specs.OverTypes.{FindsOver, Grows, Shows}
use Rattle.declared_types.specs.Scopes.{AreWithin}
use Rattle.auth_types.proofs.ApplicationSteps.{application_shows, name_unfit, parts_refused, row_kept}
use Rattle.auth_types.proofs.ArraySteps.{begin_refused, first_operand_refused, literals_of_parts, not_taken, operated_shows, others_refused, parts_below, taken_kept}
use Rattle.auth_types.proofs.ElaboratorSteps.{found_kept, keeps_closed, keeps_on, keeps_self, wanted_kept}
use Rattle.auth_types.proofs.ExpressionSteps.{count_row, if_shows}
use Rattle.auth_types.proofs.FindingSteps.{fault_first, finds_is, no_value, on_more, on_ok, refused_by, shows_is}
use Rattle.auth_types.proofs.LiteralSteps.{row_good, row_good_last}
use Rattle.auth_types.proofs.RefusedParts.{first_refused, other_refused, test_refused, unary_refused}
use Rattle.auth_types.proofs.JoinSteps.{between_refused, inner_found, second_refused, two_found}
use Rattle.auth_types.proofs.RowSteps.{next_mapped, none_mapped, row_behind_none, row_last, row_more, row_refused}
use Rattle.declared_types.proofs.ScopeStays.{grows_length, type_stays_at}
use Rattle.declared_types.proofs.TypeNumbers.{grows_on, shows_grow}
use Rattle.auth_types.proofs.bodies.elaborator.Elaborator.+bodies.Answers.Matches as matches
use Rattle.auth_types.proofs.bodies.elaborator.Elaborator.+bodies.Goals as goal

-- an expression, by its parts
pub term-leaf-requires : goal.term-leaf-requires
term-leaf-requires t c = rw c.in-Leaf.is at c.parts_of.ensures.whole

pub term-term-requires : goal.term-term-requires
term-term-requires t c =
    let below : size-ExpTree c.in-One.operand.now < size-ExpTree c.args.tree.now = rw c.in-One.is at c.parts_of.ensures.below in
    omega (arith, below, c.decreases)

pub term-two-requires : goal.term-two-requires
term-two-requires t c =
    let n = size-ExpTree c.args.tree.now in
    let below : (size-ExpTree c.in-Two.first.now < n) × (size-ExpTree c.in-Two.second.now < n) = rw c.in-Two.is at c.parts_of.ensures.below in
    let one = below.0 in
    let other = below.1 in
    omega (arith, one, other, c.decreases)

pub term-applied-requires : goal.term-applied-requires
term-applied-requires t c =
    let below : most size-ExpTree c.in-Row.operands.now < size-ExpTree c.args.tree.now = rw c.in-Row.is at c.parts_of.ensures.below in
    omega (arith, below, c.decreases)

pub term-on_array-requires : goal.term-on_array-requires
term-on_array-requires t c =
    let below : most size-ExpTree c.in-Array.operands.now < size-ExpTree c.args.tree.now = rw c.in-Array.is at c.parts_of.ensures.below in
    omega (arith, below, c.decreases)

pub term-condition-requires : goal.term-condition-requires
term-condition-requires t c =
    let n = size-ExpTree c.args.tree.now in
    let below : (size-ExpTree c.in-Branches.test.now < n) × (size-ExpTree c.in-Branches.first.now < n) × (size-ExpTree c.in-Branches.other.now < n) =
    rw c.in-Branches.is at c.parts_of.ensures.below in
    let test = below.0 in
    let one = below.1 in
    let other = below.2 in
    omega (arith, test, one, other, c.decreases)

pub term-match_with-requires : goal.term-match_with-requires
term-match_with-requires t c =
    let n = size-ExpTree c.args.tree.now in
    let below : (size-ExpTree c.in-Arms.subject.now < n) × (most size-Arm c.in-Arms.arms.now < n) = rw c.in-Arms.is at c.parts_of.ensures.below in
    let subject = below.0 in
    let arms = below.1 in
    omega (arith, subject, arms, c.decreases)

pub term-returns-in_err-part-in-One : goal.term-returns-in_err-part-in-One
term-returns-in_err-part-in-One t c =
    let r = c.from_residual.result in
    let e = c.from_residual.ensures.1 in
    record {
      keeps = no_value _ _ r e;
      found = let p = err_from_is_err_and r e in
          let e = c.args.self.now in
          let x = expression_of c.in-One.operand.now in
          finds_is _ typed_of _ _ r (sym (rw c.in-One.is at (c.parts_of.ensures.found (scope_of e) (locals_of e))))
          (unary_refused (unary_of c.in-One.operator) (place_of x) (types_of c.term.new.self) _ (found_at e x) _ _ (p.1 ∙ ap Err p.2)
          c.in_err-part-in-One.ensures.found);
      inside = no_value _ _ r e;
      literals = no_value _ _ r e;
    }

pub term-returns-in_ok-part-in-One : goal.term-returns-in_ok-part-in-One
term-returns-in_ok-part-in-One t c =
    let e = c.args.self.now in
    let x = expression_of c.in-One.operand.now in
    record {
      keeps = on_more c.unary.result (λ keeps. keeps_on c.in_ok-part-in-One.ensures.keeps keeps) c.unary.ensures.keeps;
      found = finds_is (types_of c.unary.new.self) typed_of _ _ c.unary.result
          (ap (λ at. unary (unary_of c.in-One.operator) at (found_at e x)) c.place.ensures
          ∙ sym (rw c.in-One.is at (c.parts_of.ensures.found (scope_of e) (locals_of e))))
          (c.unary.ensures.found (found_at e x) c.in_ok-part-in-One.ensures.found);
      inside = c.unary.ensures.inside;
      literals = on_ok c.unary.result ((rw c.in-One.is at c.parts_of.ensures.literals) c.in_ok-part-in-One.ensures.literals);
    }

pub term-returns-in-Two : goal.term-returns-in-Two
term-returns-in-Two t c =
    let e = c.args.self.now in
    record {
      keeps = c.two.ensures.keeps;
      found = finds_is (types_of c.two.new.self) typed_of _ _ c.two.result (sym (rw c.in-Two.is at (c.parts_of.ensures.found (scope_of e) (locals_of e))))
          c.two.ensures.found;
      inside = c.two.ensures.inside;
      literals = on_more c.two.result (rw c.in-Two.is at c.parts_of.ensures.literals) c.two.ensures.literals;
    }

pub term-returns-in-Row : goal.term-returns-in-Row
term-returns-in-Row t c =
    let e = c.args.self.now in
    record {
      keeps = c.applied.ensures.keeps;
      found = finds_is (types_of c.applied.new.self) typed_of _ _ c.applied.result (sym (rw c.in-Row.is at (c.parts_of.ensures.found (scope_of e) (locals_of e))))
          c.applied.ensures.found;
      inside = c.applied.ensures.inside;
      literals = on_more c.applied.result (rw c.in-Row.is at c.parts_of.ensures.literals) c.applied.ensures.literals;
    }

pub term-returns-in-Array : goal.term-returns-in-Array
term-returns-in-Array t c =
    let e = c.args.self.now in
    record {
      keeps = c.on_array.ensures.keeps;
      found = finds_is (types_of c.on_array.new.self) typed_of _ _ c.on_array.result (sym (rw c.in-Array.is at (c.parts_of.ensures.found (scope_of e) (locals_of e))))
          c.on_array.ensures.found;
      inside = c.on_array.ensures.inside;
      literals = on_more c.on_array.result (rw c.in-Array.is at c.parts_of.ensures.literals) c.on_array.ensures.literals;
    }

pub term-returns-in-Branches : goal.term-returns-in-Branches
term-returns-in-Branches t c =
    let e = c.args.self.now in
    record {
      keeps = c.condition.ensures.keeps;
      found = finds_is (types_of c.condition.new.self) typed_of _ _ c.condition.result (sym (rw c.in-Branches.is at (c.parts_of.ensures.found (scope_of e) (locals_of e))))
          c.condition.ensures.found;
      inside = c.condition.ensures.inside;
      literals = on_more c.condition.result (rw c.in-Branches.is at c.parts_of.ensures.literals) c.condition.ensures.literals;
    }

pub term-returns-in-Arms : goal.term-returns-in-Arms
term-returns-in-Arms t c =
    let e = c.args.self.now in
    record {
      keeps = c.match_with.ensures.keeps;
      found = finds_is (types_of c.match_with.new.self) typed_of _ _ c.match_with.result (sym (rw c.in-Arms.is at (c.parts_of.ensures.found (scope_of e) (locals_of e))))
          c.match_with.ensures.found;
      inside = c.match_with.ensures.inside;
      literals = on_more c.match_with.result (rw c.in-Arms.is at c.parts_of.ensures.literals) c.match_with.ensures.literals;
    }

-- a part of a type
pub part-returns : goal.part-returns
part-returns t c = record {
  keeps = on_ok c.wanted.result c.in_ok-part.ensures.keeps;
  found = let types = types_of c.term.new.self in
      let found = found_in c.args.self.now c.args.tree.now in
      finds_is types boxed_of _ _ c.wanted.result
      (ap (λ at. wanted at (type_at types c.args.ty) found) c.place.ensures
      ∙ ap (λ t. wanted (place_of (expression_of c.args.tree.now)) t found)
      (type_stays_at (types_of c.args.self.now) types c.in_ok-part.ensures.keeps.grows c.args.ty c.requires))
      (c.wanted.ensures found c.in_ok-part.ensures.found);
  literals = on_ok c.wanted.result c.in_ok-part.ensures.literals;
}

pub part-wanted-requires-clause-wanted : goal.part-wanted-requires-clause-wanted
part-wanted-requires-clause-wanted t c =
    let longer = grows_length (types_of c.args.self.now) (types_of c.term.new.self) c.in_ok-part.ensures.keeps.grows in
    let here = c.requires in
    omega (arith, here, longer)

pub part-returns-in_err-part : goal.part-returns-in_err-part
part-returns-in_err-part t c =
    let r = c.from_residual.result in
    let e = c.from_residual.ensures.1 in
    record {
      keeps = no_value _ _ r e;
      found = let p = err_from_is_err_and r e in
          fault_first (types_of c.term.new.self) _ typed_of boxed_of (found_in c.args.self.now c.args.tree.now) _ _ _ (p.1 ∙ ap Err p.2)
          c.in_err-part.ensures.found;
      literals = no_value _ _ r e;
    }

-- two of which the second stands behind the first
pub two-returns-in_err-one : goal.two-returns-in_err-one
two-returns-in_err-one t c =
    let r = c.from_residual.result in
    let e = c.from_residual.ensures.1 in
    record {
      keeps = no_value _ _ r e;
      found = let p = err_from_is_err_and r e in
          fault_first (types_of c.term.new.self) _ typed_of typed_of (found_in c.args.self.now c.args.first.now) _ _ _ (p.1 ∙ ap Err p.2)
          c.in_err-one.ensures.found;
      inside = no_value _ _ r e;
      literals = no_value _ _ r e;
    }

pub two-between-requires : goal.two-between-requires
two-between-requires t c = c.in_ok-one.ensures.inside

pub two-returns-in_err-between : goal.two-returns-in_err-between
two-returns-in_err-between t c =
    let r = c.from_residual-in_err-between.result in
    let e = c.from_residual-in_err-between.ensures.1 in
    record {
      keeps = no_value _ _ r e;
      found = let p = err_from_is_err_and r e in
          let types = types_of c.term.new.self in
          let x = expression_of c.args.first.now in
          let y = expression_of c.args.second.now in
          between_refused (scope_of c.args.self.now) (locals_of c.args.self.now) c.args.join x y types c.in_ok-one.one c.in_ok-one.ensures.found _
          (locals_of c.between.new.self) _ _ (p.1 ∙ ap Err p.2)
          (inner_found c.args.join c.in_ok-one.ensures.keeps.locals c.place.ensures (type_at types c.in_ok-one.one.ty) (locals_of c.between.new.self)
          (Err c.in_err-between.field-0.0) c.in_err-between.ensures.found);
      inside = no_value _ _ r e;
      literals = no_value _ _ r e;
    }

pub two-returns-in_err-other : goal.two-returns-in_err-other
two-returns-in_err-other t c =
    let r = c.from_residual-in_err-other.result in
    let e = c.from_residual-in_err-other.ensures.1 in
    record {
      keeps = no_value _ _ r e;
      found = let p = err_from_is_err_and r e in
          let types = types_of c.term.new.self in
          let x = expression_of c.args.first.now in
          let y = expression_of c.args.second.now in
          let inner = locals_of c.between.new.self in
          let there = inner_found c.args.join c.in_ok-one.ensures.keeps.locals c.place.ensures (type_at types c.in_ok-one.one.ty) inner
          (Ok tt) c.in_ok-between.ensures.found in
          second_refused (scope_of c.args.self.now) (locals_of c.args.self.now) c.args.join x y types c.in_ok-one.one c.in_ok-one.ensures.found
          inner there (types_of c.term-2.new.self) _ _ _ (p.1 ∙ ap Err p.2)
          (finds_is (types_of c.term-2.new.self) typed_of _ _ (Err c.in_err-other.field-0.0)
          (ap (λ s. elaborated s inner y) (c.in_ok-between.ensures.scope ∙ c.in_ok-one.ensures.keeps.scope)) c.in_err-other.ensures.found);
      inside = no_value _ _ r e;
      literals = no_value _ _ r e;
    }

pub two-joined-requires : goal.two-joined-requires
two-joined-requires t c =
    let between = grows_length (types_of c.term.new.self) (types_of c.between.new.self) c.in_ok-between.ensures.grows in
    let longer = grows_length (types_of c.between.new.self) (types_of c.term-2.new.self) c.in_ok-other.ensures.keeps.grows in
    let first = c.in_ok-one.ensures.inside in
    let same = ap length c.close.ensures.types in
    let second = c.in_ok-other.ensures.inside in
    record { first = omega (arith, first, between, longer, same); second = omega (arith, second, same) }

pub two-returns : goal.two-returns
two-returns t c =
    let e = c.args.self.now in
    let types = types_of c.term.new.self in
    let x = expression_of c.args.first.now in
    let y = expression_of c.args.second.now in
    let inner = locals_of c.between.new.self in
    let keeps = c.in_ok-one.ensures.keeps in
    let scope = c.in_ok-between.ensures.scope ∙ keeps.scope in
    record {
      keeps = on_more c.joined.result (λ more. keeps_on (keeps_closed e c.between.new.self c.term-2.new.self c.close.new.self c.depth-outer.result
          (grows_on (types_of e) types (types_of c.between.new.self) keeps.grows c.in_ok-between.ensures.grows) scope
          (subst (λ (ls : List Local). take (length ls) inner ≡ ls) keeps.locals c.in_ok-between.ensures.outer)
          c.in_ok-other.ensures.keeps c.close.ensures.types c.close.ensures.scope c.close.ensures.locals c.depth-outer.ensures) more)
          c.joined.ensures.keeps;
      found = let there = inner_found c.args.join keeps.locals c.place.ensures (type_at types c.in_ok-one.one.ty) inner (Ok tt)
          c.in_ok-between.ensures.found in
          let first = found_in e c.args.first.now in
          let end = types_of c.term-2.new.self in
          let closed = types_of c.close.new.self in
          let grows : Grows types end = grows_on types (types_of c.between.new.self) end c.in_ok-between.ensures.grows
          c.in_ok-other.ensures.keeps.grows in
          let over : (l : List Ty) → l ≡ end → Shows l typed_of first c.in_ok-one.one × Shows l typed_of (elaborated (scope_of e) inner y)
          c.in_ok-other.other = λ l is. rw is (
            shows_grow types end typed_of first c.in_ok-one.one grows c.in_ok-one.ensures.found,
            shows_is end typed_of _ (elaborated (scope_of e) inner y) c.in_ok-other.other (ap (λ s. elaborated s inner y) scope)
                c.in_ok-other.ensures.found,
          ) in
          let both = over closed c.close.ensures.types in
          two_found (scope_of e) (locals_of e) c.args.join x y types c.in_ok-one.one c.in_ok-one.ensures.found inner there
          (types_of c.joined.new.self) c.joined.result
          (subst (λ at. FindsOver (types_of c.joined.new.self) typed_of
          (then_checked first (λ a. joined c.args.join a at (elaborated (scope_of e) inner y))) c.joined.result) c.place-2.ensures
          (c.joined.ensures.found first (elaborated (scope_of e) inner y) both.0 both.1));
      inside = c.joined.ensures.inside;
      literals = on_ok c.joined.result (c.in_ok-one.ensures.literals, c.in_ok-other.ensures.literals);
    }

-- calls and constructors
pub applied-returns-in_err-callee : goal.applied-returns-in_err-callee
applied-returns-in_err-callee t c =
    let r = c.from_residual.result in
    let e = c.from_residual.ensures.1 in
    record {
      keeps = no_value _ _ r e;
      found = let p = err_from_is_err_and r e in
          let xs = map expression_of c.args.operands.now in
          name_unfit (scope_of c.args.self.now) c.args.space c.args.at c.args.name.now (length c.args.operands.now) _
          (sym (count_row xs ∙ length-map c.args.operands.now expression_of)) (row_found c.args.self.now (in_a_row xs))
          (types_of c.named.new.self) _ _ _ (p.1 ∙ ap Err p.2) c.in_err-callee.ensures.found;
      inside = no_value _ _ r e;
      literals = no_value _ _ r e;
    }

pub applied-operands-requires : goal.applied-operands-requires
applied-operands-requires t c = (search rules, (c.in_ok-callee.ensures.count, c.in_ok-callee.ensures.within))

pub applied-returns-in_err-terms : goal.applied-returns-in_err-terms
applied-returns-in_err-terms t c =
    let r = c.from_residual-in_err-terms.result in
    let e = c.from_residual-in_err-terms.ensures.1 in
    record {
      keeps = no_value _ _ r e;
      found = let p = err_from_is_err_and r e in
          let xs = map expression_of c.args.operands.now in
          let each = row_found c.args.self.now (in_a_row xs) in
          let types = types_of c.named.new.self in
          let callee = c.in_ok-callee.callee in
          parts_refused (scope_of c.args.self.now) c.args.space c.args.at c.args.name.now (length c.args.operands.now) _
          (sym (count_row xs ∙ length-map c.args.operands.now expression_of)) each types callee
          (c.in_ok-callee.ensures.found each) (types_of c.operands.new.self) _ _ _ (p.1 ∙ ap Err p.2)
          (finds_is (types_of c.operands.new.self) row_of _ _ (Err c.in_err-terms.field-0.0)
          (row_kept c.args.self.now c.named.new.self c.in_ok-callee.ensures.keeps (in_a_row xs) (types_at types callee.types.now))
          c.in_err-terms.ensures.found);
      inside = no_value _ _ r e;
      literals = no_value _ _ r e;
    }

pub applied-typed-requires : goal.applied-typed-requires
applied-typed-requires t c =
    let longer = grows_length (types_of c.named.new.self) (types_of c.operands.new.self) c.in_ok-terms.ensures.keeps.grows in
    let here = c.in_ok-callee.ensures.inside in
    omega (arith, here, longer)

pub applied-returns : goal.applied-returns
applied-returns t c =
    let e = c.args.self.now in
    let xs = map expression_of c.args.operands.now in
    let each = row_found e (in_a_row xs) in
    let types = types_of c.named.new.self in
    let callee = c.in_ok-callee.callee in
    let new = types_of c.operands.new.self in
    record {
      keeps = on_ok c.typed.result (keeps_on c.in_ok-callee.ensures.keeps c.in_ok-terms.ensures.keeps);
      found = c.typed.ensures.found _
          (application_shows (scope_of e) c.args.space c.args.at c.args.name.now (length c.args.operands.now) _
          (sym (count_row xs ∙ length-map c.args.operands.now expression_of)) each types callee (c.in_ok-callee.ensures.found each) new
          c.in_ok-terms.terms _ c.in_ok-terms.ensures.keeps.grows c.in_ok-callee.ensures.inside c.applied_term.ensures
          (shows_is new row_of _ _ c.in_ok-terms.terms
          (row_kept e c.named.new.self c.in_ok-callee.ensures.keeps (in_a_row xs) (types_at types callee.types.now)) c.in_ok-terms.ensures.found));
      inside = c.typed.ensures.inside;
      literals = on_ok c.typed.result c.in_ok-terms.ensures.literals;
    }

-- operations on arrays
pub on_array-returns-in_err-parts : goal.on_array-returns-in_err-parts
on_array-returns-in_err-parts t c =
    let r = c.from_residual.result in
    let e = c.from_residual.ensures.1 in
    record {
      keeps = no_value _ _ r e;
      found = let p = err_from_is_err_and r e in
          begin_refused (scope_of c.args.self.now) (locals_of c.args.self.now) c.args.at (array_of c.args.operator) c.args.operands.now
          (types_of c.args.self.now) _ _ (p.1 ∙ ap Err p.2) c.in_err-parts.ensures;
      inside = no_value _ _ r e;
      literals = no_value _ _ r e;
    }

pub on_array-term-requires : goal.on_array-term-requires
on_array-term-requires t c =
    let parts = c.in_ok-parts.parts in
    let below = parts_below c.args.operands.now parts.first.now parts.others.now c.in_ok-parts.ensures.both in
    let first = below.0 in
    omega (arith, first, c.decreases)

pub on_array-returns-in_err-first : goal.on_array-returns-in_err-first
on_array-returns-in_err-first t c =
    let r = c.from_residual-in_err-first.result in
    let e = c.from_residual-in_err-first.ensures.1 in
    record {
      keeps = no_value _ _ r e;
      found = let p = err_from_is_err_and r e in
          first_operand_refused (scope_of c.args.self.now) (locals_of c.args.self.now) c.args.at (array_of c.args.operator) c.args.operands.now
          c.in_ok-parts.parts c.in_ok-parts.ensures (types_of c.term.new.self) _ _ _ (p.1 ∙ ap Err p.2) c.in_err-first.ensures.found;
      inside = no_value _ _ r e;
      literals = no_value _ _ r e;
    }

pub on_array-taken-requires : goal.on_array-taken-requires
on_array-taken-requires t c = record {
  inside = c.in_ok-first.ensures.inside;
  may_begin = ap (λ (s : Scope). may_begin s.format (array_of c.args.operator)) c.in_ok-first.ensures.keeps.scope ∙ c.in_ok-parts.ensures.may_begin;
}

pub on_array-returns-in_err-taken : goal.on_array-returns-in_err-taken
on_array-returns-in_err-taken t c =
    let r = c.from_residual-in_err-taken.result in
    let e = c.from_residual-in_err-taken.ensures.1 in
    record {
      keeps = no_value _ _ r e;
      found = let p = err_from_is_err_and r e in
          let e = c.args.self.now in
          let types = types_of c.term.new.self in
          not_taken (scope_of e) (locals_of e) c.args.at (array_of c.args.operator) c.args.operands.now c.in_ok-parts.parts c.in_ok-parts.ensures
          types c.in_ok-first.first c.in_ok-first.ensures.found (types_of c.taken.new.self) _ _ _ (p.1 ∙ ap Err p.2)
          (finds_is (types_of c.taken.new.self) taken_of _ _ (Err c.in_err-taken.field-0.0)
          (taken_kept (scope_of e) (scope_of c.term.new.self) (array_of c.args.operator) c.place.result (place_of (expression_of c.in_ok-parts.parts.first.now))
          (type_at types c.in_ok-first.first.ty) c.in_ok-first.ensures.keeps.scope c.place.ensures) c.in_err-taken.ensures.found);
      inside = no_value _ _ r e;
      literals = no_value _ _ r e;
    }

pub on_array-operands-requires : goal.on_array-operands-requires
on_array-operands-requires t c =
    let parts = c.in_ok-parts.parts in
    let below = parts_below c.args.operands.now parts.first.now parts.others.now c.in_ok-parts.ensures.both in
    let others = below.1 in
    let is = c.in_ok-taken.ensures.taken in (
      omega (arith, others, c.decreases),
      (
        c.in_ok-parts.ensures.count ∙ sym is.count ∙ ap length (sym c.deref.ensures.value),
        subst (AreWithin (length (types_of c.taken.new.self))) (sym c.deref.ensures.value) is.within,
      ),
    )

pub on_array-returns-in_err-others : goal.on_array-returns-in_err-others
on_array-returns-in_err-others t c =
    let r = c.from_residual-in_err-others.result in
    let e = c.from_residual-in_err-others.ensures.1 in
    record {
      keeps = no_value _ _ r e;
      found = let p = err_from_is_err_and r e in
          let e = c.args.self.now in
          let types = types_of c.term.new.self in
          let middle = types_of c.taken.new.self in
          let rest = in_a_row (map expression_of c.in_ok-parts.parts.others.now) in
          others_refused (scope_of e) (locals_of e) c.args.at (array_of c.args.operator) c.args.operands.now c.in_ok-parts.parts c.in_ok-parts.ensures
          types c.in_ok-first.first c.in_ok-first.ensures.found middle c.in_ok-taken.taken
          (shows_is middle taken_of _ _ c.in_ok-taken.taken
          (taken_kept (scope_of e) (scope_of c.term.new.self) (array_of c.args.operator) c.place.result (place_of (expression_of c.in_ok-parts.parts.first.now))
          (type_at types c.in_ok-first.first.ty) c.in_ok-first.ensures.keeps.scope c.place.ensures) c.in_ok-taken.ensures.found)
          (types_of c.operands.new.self) _ _ _ (p.1 ∙ ap Err p.2)
          (finds_is (types_of c.operands.new.self) row_of _ _ (Err c.in_err-others.field-0.0)
          (row_kept e c.taken.new.self (keeps_on c.in_ok-first.ensures.keeps c.in_ok-taken.ensures.keeps) rest (types_at middle c.deref.result.now)
          ∙ ap (λ ids. row_found e rest (types_at middle ids)) c.deref.ensures.value) c.in_err-others.ensures.found);
      inside = no_value _ _ r e;
      literals = no_value _ _ r e;
    }

pub on_array-returns-in_err-term : goal.on_array-returns-in_err-term
on_array-returns-in_err-term t c =
    let r = c.from_residual-in_err-term.result in
    let e = c.from_residual-in_err-term.ensures.1 in
    record {
      keeps = no_value _ _ r e;
      found = let p = err_from_is_err_and r e in rw (p.1, p.2) tt;
      inside = no_value _ _ r e;
      literals = no_value _ _ r e;
    }

pub on_array-typed-requires : goal.on_array-typed-requires
on_array-typed-requires t c =
    let longer = grows_length (types_of c.taken.new.self) (types_of c.operands.new.self) c.in_ok-others.ensures.keeps.grows in
    let here = c.in_ok-taken.ensures.taken.inside in
    omega (arith, here, longer)

pub on_array-returns : goal.on_array-returns
on_array-returns t c =
    let e = c.args.self.now in
    let types = types_of c.term.new.self in
    let middle = types_of c.taken.new.self in
    let new = types_of c.operands.new.self in
    let rest = in_a_row (map expression_of c.in_ok-parts.parts.others.now) in
    let keeps = keeps_on c.in_ok-first.ensures.keeps c.in_ok-taken.ensures.keeps in
    record {
      keeps = on_ok c.typed.result (keeps_on keeps c.in_ok-others.ensures.keeps);
      found = c.typed.ensures.found _
          (operated_shows (scope_of e) (locals_of e) c.args.at (array_of c.args.operator) c.args.operands.now c.in_ok-parts.parts c.in_ok-parts.ensures
          types c.in_ok-first.first c.in_ok-first.ensures.found middle c.in_ok-taken.taken
          (shows_is middle taken_of _ _ c.in_ok-taken.taken
          (taken_kept (scope_of e) (scope_of c.term.new.self) (array_of c.args.operator) c.place.result (place_of (expression_of c.in_ok-parts.parts.first.now))
          (type_at types c.in_ok-first.first.ty) c.in_ok-first.ensures.keeps.scope c.place.ensures) c.in_ok-taken.ensures.found)
          new c.in_ok-others.others c.in_ok-term.term c.in_ok-taken.ensures.keeps.grows c.in_ok-others.ensures.keeps.grows c.in_ok-first.ensures.inside
          c.in_ok-taken.ensures.taken c.in_ok-term.ensures
          (shows_is new row_of _ _ c.in_ok-others.others
          (row_kept e c.taken.new.self keeps rest (types_at middle c.deref.result.now)
          ∙ ap (λ ids. row_found e rest (types_at middle ids)) c.deref.ensures.value) c.in_ok-others.ensures.found));
      inside = c.typed.ensures.inside;
      literals = on_ok c.typed.result (literals_of_parts (scope_of e) (locals_of e) c.args.at (array_of c.args.operator) c.args.operands.now c.in_ok-parts.parts
          c.in_ok-parts.ensures c.in_ok-first.ensures.literals c.in_ok-others.ensures.literals);
    }

-- expressions in a row
pub operands-loop-index-init : goal.operands-loop-index-init
operands-loop-index-init t c = record {
  keeps = keeps_self c.args.self.now;
  found = λ more. rw c.new-terms.ensures.items (row_behind_none
      (row_found c.args.self.now (in_a_row (map expression_of c.args.operands.now)) (types_at (types_of c.args.self.now) c.args.types.now)));
  literals = λ good. good;
}

pub operands-part-requires : goal.operands-part-requires
operands-part-requires t c =
    let d : TyId = record { 0 = 0 } in
    let inside : c.loop-index.index < length c.args.types.now = omega (arith, c.requires.count, c.loop-index-test.true) in
    let here = c.requires.within c.loop-index.index d inside in
    let longer = grows_length (types_of c.args.self.now) (types_of c.loop-index.self) c.loop-index.invariant.keeps.grows in
    let deep : size-ExpTree c.index-operands-index.result ≤ most size-ExpTree c.args.operands.now =
    subst (λ (x : ExpTree). size-ExpTree x ≤ most size-ExpTree c.args.operands.now) (sym c.index-operands-index.is)
    (at_most size-ExpTree c.args.operands.now c.loop-index.index c.index-operands-index.result c.loop-index-test.true) in
    (omega (arith, deep, c.decreases), omega (arith, here, longer))

pub operands-returns-in_err-part : goal.operands-returns-in_err-part
operands-returns-in_err-part t c =
    let r = c.from_residual.result in
    let e = c.from_residual.ensures.1 in
    record {
      keeps = no_value _ _ r e;
      found = let p = err_from_is_err_and r e in
          let d : TyId = record { 0 = 0 } in
          let v : TyId = slice_index_or c.args.types.now c.loop-index.index d in
          let old = types_of c.args.self.now in
          let types = types_of c.loop-index.self in
          let x = expression_of c.index-operands-index.result in
          let inside : c.loop-index.index < length c.args.types.now = omega (arith, c.requires.count, c.loop-index-test.true) in
          refused_by (types_of c.part.new.self) _ boxed_of row_of (wanted (place_of x) (type_at types v) (found_at c.loop-index.self x))
          _ _ _ (p.1 ∙ ap Err p.2)
          (λ kind at is. row_refused (scope_of c.args.self.now) (locals_of c.args.self.now) (map expression_of c.args.operands.now)
          (types_at old c.args.types.now) c.loop-index.index x (type_at old v)
          (next_mapped expression_of c.args.operands.now c.loop-index.index c.index-operands-index.result c.index-operands-index.result
          c.loop-index-test.true c.index-operands-index.is)
          (next_mapped (type_at old) c.args.types.now c.loop-index.index v d inside refl) c.loop-index.terms.items _ types
          kind at c.loop-index.invariant.found
          (sym (wanted_kept c.args.self.now c.loop-index.self c.loop-index.invariant.keeps (place_of x) (type_at types v) (type_at old v) x
          (type_stays_at old types c.loop-index.invariant.keeps.grows v (c.requires.within c.loop-index.index d inside))) ∙ is))
          c.in_err-part.ensures.found;
      literals = no_value _ _ r e;
    }

pub operands-loop-index-preserved : goal.operands-loop-index-preserved
operands-loop-index-preserved t c =
    let d : TyId = record { 0 = 0 } in
    let v : TyId = slice_index_or c.args.types.now c.loop-index.index d in
    let old = types_of c.args.self.now in
    let types = types_of c.loop-index.self in
    let x = expression_of c.index-operands-index.result in
    let inside : c.loop-index.index < length c.args.types.now = omega (arith, c.requires.count, c.loop-index-test.true) in
    let here = next_mapped expression_of c.args.operands.now c.loop-index.index c.index-operands-index.result c.index-operands-index.result
    c.loop-index-test.true c.index-operands-index.is in
    record {
      keeps = keeps_on c.loop-index.invariant.keeps c.in_ok-part.ensures.keeps;
      found = rw (c.in_ok-push.ensures.items, c.into_inner.ensures)
          (row_more (scope_of c.args.self.now) (locals_of c.args.self.now) (map expression_of c.args.operands.now) (types_at old c.args.types.now)
          c.loop-index.index x (type_at old v) here
          (next_mapped (type_at old) c.args.types.now c.loop-index.index v d inside refl) c.loop-index.terms.items _ types (types_of c.part.new.self)
          c.in_ok-part.part.value c.in_ok-part.ensures.keeps.grows c.loop-index.invariant.found
          (shows_is (types_of c.part.new.self) boxed_of (wanted (place_of x) (type_at types v) (found_at c.loop-index.self x)) _ c.in_ok-part.part
          (wanted_kept c.args.self.now c.loop-index.self c.loop-index.invariant.keeps (place_of x) (type_at types v) (type_at old v) x
          (type_stays_at old types c.loop-index.invariant.keeps.grows v (c.requires.within c.loop-index.index d inside)))
          c.in_ok-part.ensures.found));
      literals = row_good (map expression_of c.args.operands.now) c.loop-index.index x here c.in_ok-part.ensures.literals
          c.loop-index.invariant.literals;
    }

pub operands-returns : goal.operands-returns
operands-returns t c = record {
  keeps = c.loop-index.invariant.keeps;
  found = row_last (scope_of c.args.self.now) (locals_of c.args.self.now) (types_of c.loop-index.self) (map expression_of c.args.operands.now)
      (types_at (types_of c.args.self.now) c.args.types.now) c.loop-index.index c.loop-index.terms _
      (none_mapped expression_of c.args.operands.now c.loop-index.index c.loop-index-test.false) c.loop-index.invariant.found;
  literals = row_good_last (map expression_of c.args.operands.now) c.loop-index.index
      (none_mapped expression_of c.args.operands.now c.loop-index.index c.loop-index-test.false) c.loop-index.invariant.literals;
}

pub operands-returns-in_err-push : goal.operands-returns-in_err-push
operands-returns-in_err-push t c =
    let r = c.from_residual-in_err-push.result in
    let e = c.from_residual-in_err-push.ensures.1 in
    record {
      keeps = no_value _ _ r e;
      found = let p = err_from_is_err_and r e in rw (p.1, p.2) tt;
      literals = no_value _ _ r e;
    }

-- conditions
pub condition-returns-in_err-test : goal.condition-returns-in_err-test
condition-returns-in_err-test t c =
    let r = c.from_residual-in_err-test.result in
    let e = c.from_residual-in_err-test.ensures.1 in
    record {
      keeps = no_value _ _ r e;
      found = let p = err_from_is_err_and r e in
          let e = c.args.self.now in
          let test = expression_of c.args.test.now in
          let truth = type_at (types_of c.intern.new.self) c.in_ok-truth.truth in
          test_refused (scope_of e) (locals_of e) start _ _ _ (p.1 ∙ ap Err p.2) test (expression_of c.args.first.now) (expression_of c.args.other.now)
          (types_of c.part.new.self) truth
          (get_or_from_slice_get (types_of c.intern.new.self) c.in_ok-truth.truth.0 BoolTy UnitTy c.in_ok-truth.ensures.number)
          (finds_is (types_of c.part.new.self) boxed_of _ _ (Err c.in_err-test.field-0.0)
          (wanted_kept e c.intern.new.self c.in_ok-truth.ensures.keeps (place_of test) truth truth test refl) c.in_err-test.ensures.found);
      inside = no_value _ _ r e;
      literals = no_value _ _ r e;
    }

pub condition-returns-in_err-first : goal.condition-returns-in_err-first
condition-returns-in_err-first t c =
    let r = c.from_residual-in_err-first.result in
    let e = c.from_residual-in_err-first.ensures.1 in
    record {
      keeps = no_value _ _ r e;
      found = let p = err_from_is_err_and r e in
          let e = c.args.self.now in
          let test = expression_of c.args.test.now in
          let truth = type_at (types_of c.intern.new.self) c.in_ok-truth.truth in
          first_refused (scope_of e) (locals_of e) start _ _ _ (p.1 ∙ ap Err p.2) test (expression_of c.args.first.now) (expression_of c.args.other.now)
          (types_of c.part.new.self) truth c.in_ok-test.test
          (get_or_from_slice_get (types_of c.intern.new.self) c.in_ok-truth.truth.0 BoolTy UnitTy c.in_ok-truth.ensures.number)
          (shows_is (types_of c.part.new.self) boxed_of _ _ c.in_ok-test.test
          (wanted_kept e c.intern.new.self c.in_ok-truth.ensures.keeps (place_of test) truth truth test refl) c.in_ok-test.ensures.found)
          (types_of c.term.new.self)
          (finds_is (types_of c.term.new.self) typed_of _ _ (Err c.in_err-first.field-0.0)
          (found_kept e c.part.new.self (keeps_on c.in_ok-truth.ensures.keeps c.in_ok-test.ensures.keeps) (expression_of c.args.first.now))
          c.in_err-first.ensures.found);
      inside = no_value _ _ r e;
      literals = no_value _ _ r e;
    }

pub condition-returns-in_err-other : goal.condition-returns-in_err-other
condition-returns-in_err-other t c =
    let r = c.from_residual-in_err-other.result in
    let e = c.from_residual-in_err-other.ensures.1 in
    record {
      keeps = no_value _ _ r e;
      found = let p = err_from_is_err_and r e in
          let e = c.args.self.now in
          let test = expression_of c.args.test.now in
          let first = expression_of c.args.first.now in
          let other = expression_of c.args.other.now in
          let truth = type_at (types_of c.intern.new.self) c.in_ok-truth.truth in
          let kept : Keeps e c.part.new.self = keeps_on c.in_ok-truth.ensures.keeps c.in_ok-test.ensures.keeps in
          let u = type_at (types_of c.term.new.self) c.in_ok-first.first.ty in
          other_refused (scope_of e) (locals_of e) start _ _ _ (p.1 ∙ ap Err p.2) test first other (types_of c.part.new.self) truth c.in_ok-test.test
          (get_or_from_slice_get (types_of c.intern.new.self) c.in_ok-truth.truth.0 BoolTy UnitTy c.in_ok-truth.ensures.number)
          (shows_is (types_of c.part.new.self) boxed_of _ _ c.in_ok-test.test
          (wanted_kept e c.intern.new.self c.in_ok-truth.ensures.keeps (place_of test) truth truth test refl) c.in_ok-test.ensures.found)
          (types_of c.term.new.self) (types_of c.part-2.new.self) c.in_ok-first.first u refl
          (shows_is (types_of c.term.new.self) typed_of _ _ c.in_ok-first.first (found_kept e c.part.new.self kept first) c.in_ok-first.ensures.found)
          (finds_is (types_of c.part-2.new.self) boxed_of _ _ (Err c.in_err-other.field-0.0)
          (wanted_kept e c.term.new.self (keeps_on kept c.in_ok-first.ensures.keeps) (place_of other) u u other refl) c.in_err-other.ensures.found);
      inside = no_value _ _ r e;
      literals = no_value _ _ r e;
    }

pub condition-typed-requires : goal.condition-typed-requires
condition-typed-requires t c =
    let longer = grows_length (types_of c.term.new.self) (types_of c.part-2.new.self) c.in_ok-other.ensures.keeps.grows in
    let here = c.in_ok-first.ensures.inside in
    omega (arith, here, longer)

pub condition-returns : goal.condition-returns
condition-returns t c = record {
  keeps = on_ok c.typed.result (keeps_on (keeps_on (keeps_on c.in_ok-truth.ensures.keeps c.in_ok-test.ensures.keeps) c.in_ok-first.ensures.keeps) c.in_ok-other.ensures.keeps);
  found = let e = c.args.self.now in
      let test = expression_of c.args.test.now in
      let first = expression_of c.args.first.now in
      let other = expression_of c.args.other.now in
      let truth = type_at (types_of c.intern.new.self) c.in_ok-truth.truth in
      let kept : Keeps e c.part.new.self = keeps_on c.in_ok-truth.ensures.keeps c.in_ok-test.ensures.keeps in
      let u = type_at (types_of c.term.new.self) c.in_ok-first.first.ty in
      c.typed.ensures.found _
      (if_shows (scope_of e) (locals_of e) start test first other (types_of c.part.new.self) (types_of c.term.new.self) (types_of c.part-2.new.self)
      truth u c.in_ok-test.test c.in_ok-first.first c.in_ok-other.other
      (grows_on (types_of c.part.new.self) (types_of c.term.new.self) (types_of c.part-2.new.self) c.in_ok-first.ensures.keeps.grows
      c.in_ok-other.ensures.keeps.grows) c.in_ok-other.ensures.keeps.grows
      (get_or_from_slice_get (types_of c.intern.new.self) c.in_ok-truth.truth.0 BoolTy UnitTy c.in_ok-truth.ensures.number) refl
      (shows_is (types_of c.part.new.self) boxed_of _ _ c.in_ok-test.test
      (wanted_kept e c.intern.new.self c.in_ok-truth.ensures.keeps (place_of test) truth truth test refl) c.in_ok-test.ensures.found)
      (shows_is (types_of c.term.new.self) typed_of _ _ c.in_ok-first.first (found_kept e c.part.new.self kept first) c.in_ok-first.ensures.found)
      (shows_is (types_of c.part-2.new.self) boxed_of _ _ c.in_ok-other.other
      (wanted_kept e c.term.new.self (keeps_on kept c.in_ok-first.ensures.keeps) (place_of other) u u other refl) c.in_ok-other.ensures.found));
  inside = c.typed.ensures.inside;
  literals = on_ok c.typed.result (c.in_ok-test.ensures.literals, c.in_ok-first.ensures.literals, c.in_ok-other.ensures.literals);
}

pub condition-returns-in_err-truth : goal.condition-returns-in_err-truth
condition-returns-in_err-truth t c =
    let r = c.from_residual.result in
    let e = c.from_residual.ensures.1 in
    record {
      keeps = no_value _ _ r e;
      found = let p = err_from_is_err_and r e in rw (p.1, p.2) tt;
      inside = no_value _ _ r e;
      literals = no_value _ _ r e;
    }

-- matches, their arms and each arm
pub match_with-arms-requires : goal.match_with-arms-requires
match_with-arms-requires t c = matches.match_with-arms-requires t c

pub match_with-returns-in_err-named : goal.match_with-returns-in_err-named
match_with-returns-in_err-named t c = matches.match_with-returns-in_err-named t c

pub match_with-returns-in_err-arms : goal.match_with-returns-in_err-arms
match_with-returns-in_err-arms t c = matches.match_with-returns-in_err-arms t c

pub match_with-returns : goal.match_with-returns
match_with-returns t c = matches.match_with-returns t c

pub match_with-returns-in_err-subject : goal.match_with-returns-in_err-subject
match_with-returns-in_err-subject t c = matches.match_with-returns-in_err-subject t c

pub arms-loop-index-init : goal.arms-loop-index-init
arms-loop-index-init t c = matches.arms-loop-index-init t c

pub arms-arm-requires : goal.arms-arm-requires
arms-arm-requires t c = matches.arms-arm-requires t c

pub arms-returns-in_err-body : goal.arms-returns-in_err-body
arms-returns-in_err-body t c = matches.arms-returns-in_err-body t c

pub arms-loop-index-preserved : goal.arms-loop-index-preserved
arms-loop-index-preserved t c = matches.arms-loop-index-preserved t c

pub arms-returns : goal.arms-returns
arms-returns t c = matches.arms-returns t c

pub arms-returns-in_err-push : goal.arms-returns-in_err-push
arms-returns-in_err-push t c = matches.arms-returns-in_err-push t c

pub arms-returns-in_err-ty : goal.arms-returns-in_err-ty
arms-returns-in_err-ty t c = matches.arms-returns-in_err-ty t c

pub arm-returns-then-len-fields : goal.arm-returns-then-len-fields
arm-returns-then-len-fields t c = matches.arm-returns-then-len-fields t c

pub arm-bind_each-requires-clause-count : goal.arm-bind_each-requires-clause-count
arm-bind_each-requires-clause-count t c = matches.arm-bind_each-requires-clause-count t c

pub arm-bind_each-requires-clause-within : goal.arm-bind_each-requires-clause-within
arm-bind_each-requires-clause-within t c = matches.arm-bind_each-requires-clause-within t c

pub arm-returns-in_err-bind_each : goal.arm-returns-in_err-bind_each
arm-returns-in_err-bind_each t c = matches.arm-returns-in_err-bind_each t c

pub arm-returns-in_err-body : goal.arm-returns-in_err-body
arm-returns-in_err-body t c = matches.arm-returns-in_err-body t c

pub arm-wanted_arm-requires : goal.arm-wanted_arm-requires
arm-wanted_arm-requires t c = matches.arm-wanted_arm-requires t c

pub arm-returns : goal.arm-returns
arm-returns t c = matches.arm-returns t c
