-- The types that the forms of a table stand for.
use Rattle.std.specs.Prelude.{◌≡◌, ◌≢◌, ◌⊎◌, ℕ, ◌+◌, ◌<◌, Bool, true, ◌&&◌, List, [], ◌∷◌, ◌++◌, length, nat_lt, Some, slice_get, slice_index_or}
use Rattle.core_terms.specs.Types.{Ty, UnitTy, BoolTy, IntTy, TextTy, AuthTy, PairTy, NamedTy, VecTy, is_length}
use Rattle.core_terms.specs.ProgramFormats.{arrays_of}
use Rattle.core_terms.specs.declared.format.Format.{Format}
use Rattle.core_terms.specs.declared.types.TyId.{TyId}
use Rattle.core_terms.specs.declared.types.TyForm.{TyForm}
use Rattle.core_terms.specs.declared.types.TyForm.TheVariants.{UnitForm, BoolForm, IntForm, TextForm, AuthForm, PairForm, NamedForm, VecForm}

-- the type with a number, among these
abbrev pub type_at : List Ty → TyId → Ty
type_at types id = slice_index_or types id.0 UnitTy

-- the type of a form whose parts are among these
abbrev pub type_of_form : List Ty → TyForm → Ty
type_of_form types UnitForm = UnitTy
type_of_form types BoolForm = BoolTy
type_of_form types IntForm = IntTy
type_of_form types TextForm = TextTy
type_of_form types (AuthForm part) = AuthTy (type_at types part)
type_of_form types (PairForm first second) = PairTy (type_at types first) (type_at types second)
type_of_form types (NamedForm named) = NamedTy named.0
type_of_form types (VecForm n part) = VecTy n (type_at types part)

-- the types of the forms behind these, each with its parts among the earlier ones
abbrev pub types_behind : List Ty → List TyForm → List Ty
types_behind before [] = before
types_behind before (form ∷ forms) = types_behind (before ++ type_of_form before form ∷ []) forms

-- the types of a table, by number
abbrev pub types_of_forms : List TyForm → List Ty
types_of_forms forms = types_behind [] forms

-- the parts of a form are among the first n types, and an array has 1 to 64 elements
abbrev pub stands_behind : ℕ → TyForm → Bool
stands_behind n (AuthForm part) = nat_lt part.0 n
stands_behind n (PairForm first second) = nat_lt first.0 n && nat_lt second.0 n
stands_behind n (VecForm len part) = nat_lt part.0 n && is_length len
stands_behind n form = true

-- programs of the format may have types of this form
abbrev pub is_form_in : Format → TyForm → Bool
is_form_in format (VecForm len part) = arrays_of format
is_form_in format form = true

-- parts stand before what they are parts of, where n types stand before these forms
abbrev pub is_in_order : ℕ → List TyForm → Bool
is_in_order n [] = true
is_in_order n (form ∷ forms) = stands_behind n form && is_in_order (n + 1) forms

-- no two numbers stand for one type
abbrev pub HasOneNumber : List Ty → Type 0
HasOneNumber types = (i j : ℕ) → i < length types → j < length types → slice_index_or types i UnitTy ≡ slice_index_or types j UnitTy → i ≡ j

-- the new forms are the old ones, or the old ones and this form behind them, where it is none of them
abbrev pub IsWithForm : (old : List TyForm) (form : TyForm) (new : List TyForm) → Type 0
IsWithForm old form new = (new ≡ old) ⊎ ((new ≡ old ++ form ∷ []) × ((i : ℕ) → slice_get old i ≢ Some form))

-- no number stands for the type of this form, where the parts of the form are among the types
abbrev pub HasNoNumber : List Ty → TyForm → Type 0
HasNoNumber types form = stands_behind (length types) form ≡ true → (i : ℕ) → slice_get types i ≢ Some (type_of_form types form)
