-- Each array type of a program has a length that is allowed.
use Rattle.std.proofs.Common.{◌≡◌, ℕ, suc, zero, ◌+◌, ◌<◌, Bool, true, List, [], ◌∷◌, ◌++◌, length, nat_lt, Some, slice_get, slice_index_or, sym, ap, ◌∙◌, subst}
use Rattle.std.proofs.lemmas.Option.{slice_get-get_or}
use Rattle.core_terms.specs.Types.{Ty, UnitTy, VecTy, is_length}
use Rattle.core_terms.specs.ProgramTypes.{types_by_number, types_meaning}
use Rattle.core_terms.specs.TypeTables.{is_in_order, stands_behind, type_of_form, types_behind}
use Rattle.core_terms.specs.declared.types.TyForm.{TyForm}
use Rattle.core_terms.specs.declared.types.TyForm.TheVariants.{UnitForm, BoolForm, IntForm, TextForm, AuthForm, PairForm, NamedForm, VecForm}
use Rattle.core_terms.specs.declared.program_types.Types.{Types}
use Rattle.core_terms.proofs.SameTypes.{first_of, second_of}
use Rattle.images.specs.Parts.{HasLength, is_part}
use Rattle.images.specs.PartMarks.{ArePartMarks, type_of}

abbrev AreLong : List Ty → Type 0
AreLong [] = Unit {0}
AreLong (t ∷ ts) = HasLength t × AreLong ts

long_push : (ts : List Ty) (t : Ty) → AreLong ts → HasLength t → AreLong (ts ++ t ∷ [])
long_push [] t h j = (j, tt)
long_push (u ∷ ts) t h j = (h.0, long_push ts t h.1 j)

long_at : (ts : List Ty) (i : ℕ) (t : Ty) → AreLong ts → slice_get ts i ≡ Some t → HasLength t
long_at [] i t h e = absurd (cc)
long_at (u ∷ ts) zero t h e = let same : u ≡ t = cc in subst HasLength same h.0
long_at (u ∷ ts) (suc i) t h e = long_at ts i t h.1 e

form_long : (types : List Ty) (m : ℕ) (form : TyForm) → stands_behind m form ≡ true → HasLength (type_of_form types form)
form_long types m (VecForm len part) h = second_of (nat_lt part.0 m) (is_length len) h
form_long types m UnitForm h = tt
form_long types m BoolForm h = tt
form_long types m IntForm h = tt
form_long types m TextForm h = tt
form_long types m (AuthForm part) h = tt
form_long types m (PairForm first second) h = tt
form_long types m (NamedForm n) h = tt

behind_long : (before : List Ty) (forms : List TyForm) (m : ℕ) → is_in_order m forms ≡ true → AreLong before → AreLong (types_behind before forms)
behind_long before [] m h j = j
behind_long before (form ∷ forms) m h j =
    behind_long (before ++ type_of_form before form ∷ []) forms (m + 1) (second_of (stands_behind m form) _ h)
    (long_push before (type_of_form before form) j (form_long before m form (first_of _ _ h)))

module _ (p : Types) where
  pub numbered_length : (i : ℕ) → i < length (types_by_number p) → HasLength (type_of p i)
  numbered_length i h =
      long_at (types_by_number p) i (type_of p i) (behind_long [] p.table.forms.keys 0 p.table.in_order tt) (slice_get-get_or (types_by_number p) i UnitTy h)

  -- and so has each that is a part of the state's type
  pub part_length : (marks : List Bool) → ArePartMarks p marks → (t : Ty) → is_part (types_meaning p).types t (types_meaning p).state ≡ true → HasLength t
  part_length marks are t part = let there = are.2 t part in subst HasLength there.2 (numbered_length there.0 there.1)
