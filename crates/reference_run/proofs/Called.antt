-- The arm of a constructor, and a call by the body of its function.
use Rattle.std.proofs.Common.{◌≡◌, ℕ, zero, suc, ◌≤◌, List, [], ◌∷◌, map, Some, None, slice_get, unwrap_or, refl, sym, ap, ◌∙◌, subst, arith}
use Rattle.core_terms.specs.Values.{Values, UnitV}
use Rattle.core_terms.specs.Terms as tree
use Rattle.core_terms.specs.Terms.{Expression, UnitE, function_at, no_function}
use Rattle.core_terms.specs.Programs.{types_of}
use Rattle.core_terms.specs.ProgramTrees.{arms_in_a_row, function_of}
use Rattle.core_terms.specs.declared.term.Function.{Function}
use Rattle.ideal_meaning.specs.Run.{Gives, Ends, IsOut, call}
use Rattle.ideal_meaning.specs.Ideal.{Opened, ideal_mode}
use Rattle.ideal_meaning.specs.Table.{eval, eval_arm}
use Rattle.reference_run.specs.Evaluations.{IsWhole, expression, program_of}
use Rattle.reference_run.specs.declared.evaluator.Evaluator.{Evaluator}

module _ {A : Type 0} (f : A → Expression) (P : tree.Program) (nesting : ℕ) (env : Values) (k : ℕ) (seen : List Opened) where
  pub arm_there : (arms : List A) (tag : ℕ) (arm : A) → slice_get arms tag ≡ Some arm
      → eval_arm P nesting (arms_in_a_row (map f arms)) tag env k seen ≡ eval P nesting (f arm) env k seen
  arm_there [] tag arm e = cc
  arm_there (a ∷ arms) zero arm e = let same : a ≡ arm = cc in ap (λ a. eval P nesting (f a) env k seen) same
  arm_there (a ∷ arms) (suc tag) arm e = arm_there arms tag arm e

  pub arm_past : (arms : List A) (tag : ℕ) → slice_get arms tag ≡ None → eval_arm P nesting (arms_in_a_row (map f arms)) tag env k seen ≡ Gives UnitV k seen
  arm_past [] tag e = refl
  arm_past (a ∷ arms) zero e = cc
  arm_past (a ∷ arms) (suc tag) e = arm_past arms tag e

mapped_there : {A B : Type 0} (f : A → B) (xs : List A) (i : ℕ) (x : A) → slice_get xs i ≡ Some x → slice_get (map f xs) i ≡ Some (f x)
mapped_there f [] i x e = cc
mapped_there f (y ∷ xs) zero x e = let same : y ≡ x = cc in ap (λ y. Some (f y)) same
mapped_there f (y ∷ xs) (suc i) x e = mapped_there f xs i x e

mapped_past : {A B : Type 0} (f : A → B) (xs : List A) (i : ℕ) → slice_get xs i ≡ None → slice_get (map f xs) i ≡ None
mapped_past f [] i e = refl
mapped_past f (y ∷ xs) zero e = cc
mapped_past f (y ∷ xs) (suc i) e = mapped_past f xs i e

module _ (e : Evaluator) (whole : IsWhole e) where
  body_there : (f : ℕ) (g : Function) → slice_get e.functions.now f ≡ Some g → (function_at (program_of e) f).body ≡ expression e g.body
  body_there f g there =
      let types = types_of e.program.now in
      let found : slice_get (program_of e).functions f ≡ Some (function_of types g) =
      ap (λ gs. slice_get gs f) (sym whole) ∙ mapped_there (function_of types) e.functions.now f g there in
      ap (λ o. (unwrap_or o no_function).body) found

  body_past : (f : ℕ) → slice_get e.functions.now f ≡ None → (function_at (program_of e) f).body ≡ UnitE
  body_past f past =
      let types = types_of e.program.now in
      let none : slice_get (program_of e).functions f ≡ None =
      ap (λ gs. slice_get gs f) (sym whole) ∙ mapped_past (function_of types) e.functions.now f past in
      ap (λ o. (unwrap_or o no_function).body) none

  -- with fuel left a call is the run of the body, with one unit less
  pub called : (f : ℕ) (g : Function) → slice_get e.functions.now f ≡ Some g → (nesting : ℕ) (vs : Values) (k left : ℕ) (seen : List Opened) → k ≡ suc left → k ≤ nesting
      → (n : ℕ) × (left ≤ n) × (call (program_of e) ideal_mode nesting f vs k seen ≡ eval (program_of e) n (expression e g.body) vs left seen)
  called f g there zero vs k left seen is h = absurd (omega (arith, is, h))
  called f g there (suc n) vs k left seen is h = (
    n,
    omega (arith, is, h),
    ap (λ k. call (program_of e) ideal_mode (suc n) f vs k seen) is ∙ ap (λ E. eval (program_of e) n E vs left seen) (body_there f g there),
  )

  pub called_past : (f : ℕ) → slice_get e.functions.now f ≡ None → (nesting : ℕ) (vs : Values) (k left : ℕ) (seen : List Opened) → k ≡ suc left → k ≤ nesting
      → call (program_of e) ideal_mode nesting f vs k seen ≡ Gives UnitV left seen
  called_past f past zero vs k left seen is h = absurd (omega (arith, is, h))
  called_past f past (suc n) vs k left seen is h =
      ap (λ k. call (program_of e) ideal_mode (suc n) f vs k seen) is ∙ ap (λ E. eval (program_of e) n E vs left seen) (body_past f past)

-- without fuel it is out
pub called_out : (P : tree.Program) (nesting f : ℕ) (vs : Values) (k : ℕ) (seen : List Opened) → k ≡ 0 → call P ideal_mode nesting f vs k seen ≡ Ends IsOut k seen
called_out P zero f vs k seen e = refl
called_out P (suc n) f vs k seen e = subst (λ (k : ℕ). call P ideal_mode (suc n) f vs k seen ≡ Ends IsOut k seen) (sym e) refl
