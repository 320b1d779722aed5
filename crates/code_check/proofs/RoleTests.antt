-- Lemmas of the test of shapes.
use Rattle.std.proofs.Common.{◌≡◌, ◌<◌, ℕ, suc, ◌+◌, Bool, true, false, List, ◌∷◌, length, map, drop, slice_index_or, Option, Some, IsTrue, refl, sym, ap, ◌∙◌, subst, add-one, drop-cons, if◌then◌else◌}
use Rattle.std.proofs.lemmas.Bool.{false≢true}
use Rattle.core_terms.specs.Types.{Ty, same_type}
use Rattle.core_terms.specs.ProgramTrees.{function_of}
use Rattle.core_terms.specs.Terms.{Program}
use Rattle.core_terms.specs.RoleShapes.{shape_test}
use Rattle.core_terms.specs.declared.term.Function.{Function}
use Rattle.object_meaning.specs.Accepting.{shape_fault_from}

module _ (P : Program) (types : List Ty) (functions : List Function) (first : Option ℕ) where
  -- the first fault is that of the functions from one on
  abbrev pub StandsAt : ℕ → Type 0
  StandsAt i = shape_fault_from P i (map (function_of types) (drop i functions)) ≡ first

  module _ (i : ℕ) (f : Function) (inside : i < length functions) (is : f ≡ slice_index_or functions i f) (so_far : StandsAt i) where
    next : drop i functions ≡ f ∷ drop (suc i) functions
    next = drop-cons functions i f inside ∙ ap (λ e. e ∷ drop (suc i) functions) (sym is)

    abbrev passes : Bool
    passes = let g = function_of types f in shape_test P g.kind g.parameters g.result

    abbrev told : Bool → Option ℕ
    told b = if b then shape_fault_from P (suc i) (map (function_of types) (drop (suc i) functions)) else Some i

    here : told passes ≡ first
    here = sym (ap (λ (fs : List Function). shape_fault_from P i (map (function_of types) fs)) next) ∙ so_far

    goes_on_behind : passes ≡ true → StandsAt (suc i)
    goes_on_behind e = sym (ap told e) ∙ here

    pub goes_on : passes ≡ true → StandsAt (i + 1)
    goes_on e = rw add-one (goes_on_behind e)

    pub stops : passes ≡ false → Some i ≡ first
    stops e = sym (ap told e) ∙ here
