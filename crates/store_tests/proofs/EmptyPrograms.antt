-- Programs without functions and named types.
use Rattle.std.proofs.Common.{◌≡◌, ℕ, zero, suc, ◌≤◌, List, [], ◌∷◌, length, Some, slice_get, slice_index_or, sym, subst, arith}
use Rattle.std.specs.Prelude.{All}
use Rattle.std.proofs.lemmas.List.Elements.{All-nil}
use Rattle.core_terms.specs.Types.{Ty, UnitTy}
use Rattle.core_terms.specs.TypeTables.{type_at, types_of_forms}
use Rattle.core_terms.specs.TypeNames.{AreNamed}
use Rattle.core_terms.specs.ProgramTrees.{program_of}
use Rattle.core_terms.specs.ProgramLimits.{IsName, most_constructors, most_fields}
use Rattle.core_terms.specs.ProgramSizes.{IsBodyWithin, IsFlatType, IsFunctionWithin, IsWithinLimits}
use Rattle.core_terms.specs.declared.format.Format.{Format}
use Rattle.core_terms.specs.declared.types.TyId.{TyId}
use Rattle.core_terms.specs.declared.types.TyForm.{TyForm}
use Rattle.core_terms.specs.declared.term.Function.{Function}
use Rattle.core_terms.specs.declared.term.NamedType.{NamedType}

-- the element with a number
pub at_number : (ts : List Ty) (i : ℕ) (t : Ty) → slice_get ts i ≡ Some t → slice_index_or ts i UnitTy ≡ t
at_number [] i t h = absurd (cc (h))
at_number (u ∷ ts) zero t h = cc (h)
at_number (u ∷ ts) (suc i) t h = at_number ts i t h

none_named : AreNamed []
none_named = record { types = All-nil IsName; constructors = All-nil (All IsName) }

pub are_named : (named : List NamedType) → named ≡ [] → AreNamed named
are_named named none = subst AreNamed (sym none) none_named

none_limited : (format : Format) (forms : List TyForm) (state : TyId) → IsFlatType (type_at (types_of_forms forms) state) → IsWithinLimits (program_of format forms [] state [])
none_limited format forms state flat = record {
  types = omega arith;
  constructors = All-nil (λ (constructors : List (List Ty)). length constructors ≤ most_constructors);
  fields = All-nil (All (λ (fields : List Ty). length fields ≤ most_fields));
  functions = omega arith;
  each = All-nil IsFunctionWithin;
  written = λ is. record { field_types = All-nil (All (All IsFlatType)); state_type = flat; bodies = All-nil (IsBodyWithin []); expressions = omega arith };
  short = omega arith;
}

pub is_limited : (format : Format) (forms : List TyForm) (named : List NamedType) (state : TyId) (functions : List Function) → named ≡ [] → functions ≡ []
    → IsFlatType (type_at (types_of_forms forms) state) → IsWithinLimits (program_of format forms named state functions)
is_limited format forms named state functions none nothing flat =
    subst (λ (fs : List Function). IsWithinLimits (program_of format forms named state fs)) (sym nothing)
    (subst (λ (ns : List NamedType). IsWithinLimits (program_of format forms ns state [])) (sym none) (none_limited format forms state flat))
