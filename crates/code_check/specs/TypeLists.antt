-- Lists of types as types.
use Rattle.std.specs.Prelude.{◌≡◌, ℕ, zero, suc, List, [], ◌∷◌, ◌++◌, Option, Some, None, slice_get, if◌then◌else◌}
use Rattle.core_terms.specs.Types.{Ty, UnitTy, PairTy, same_type}
use Rattle.core_terms.specs.declared.types.TyId.{TyId}
use Rattle.code_check.specs.declared.lists.Top.{Top}

abbrev pub list_of : List Ty → Ty
list_of [] = UnitTy
list_of (t ∷ ts) = PairTy t (list_of ts)

-- the type with this number is this list
abbrev pub IsList : List Ty → TyId → List Ty → Type 0
IsList types id ts = slice_get types id.0 ≡ Some (list_of ts)

-- a list's first type and the others, by their numbers
abbrev pub IsTop : List Ty → List Ty → Option Top → Type 0
IsTop types [] None = Unit {0}
IsTop types (t ∷ ts) (Some top) = (slice_get types top.first.0 ≡ Some t) × IsList types top.others ts
IsTop types ts top = ⊥

abbrev pub IsThere : List Ty → Option Ty → Option TyId → Type 0
IsThere types None None = Unit {0}
IsThere types (Some t) (Some id) = slice_get types id.0 ≡ Some t
IsThere types t id = ⊥

-- the list that is left, where there is one
abbrev pub IsLeft : List Ty → Option (List Ty) → Option TyId → Type 0
IsLeft types None None = Unit {0}
IsLeft types (Some ts) (Some id) = IsList types id ts
IsLeft types ts id = ⊥

-- the list without so many types at its front, where it has them
abbrev pub first_off : ℕ → List Ty → Option (List Ty)
first_off zero ts = Some ts
first_off (suc n) [] = None
first_off (suc n) (t ∷ ts) = first_off n ts

-- the operands without those that have the types of a list, which stand last first
abbrev pub taken_by : List Ty → List Ty → Option (List Ty)
taken_by [] os = Some os
taken_by (t ∷ ts) [] = None
taken_by (t ∷ ts) (o ∷ os) = if same_type t o then taken_by ts os else None

-- the second has more behind the first
abbrev pub Grows : List Ty → List Ty → Type 0
Grows old new = (more : List Ty) × (new ≡ old ++ more)
