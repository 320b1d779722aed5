-- Which arrays stand among the types of a program: those that its format has.
use Rattle.std.proofs.Common.{◌≡◌, ℕ, zero, suc, true, List, [], ◌∷◌, ◌++◌, slice_index_or, refl, sym, subst}
use Rattle.std.specs.Prelude.{All}
use Rattle.std.specs.List.{list_all}
use Rattle.std.proofs.lemmas.List.Elements.{All-head, All-nil, All-push, All-tail}
use Rattle.core_terms.specs.ProgramFormats.{arrays_of}
use Rattle.core_terms.specs.Types.{Ty, UnitTy, VecTy}
use Rattle.core_terms.specs.TypeTables.{is_form_in, type_of_form, types_behind, types_of_forms}
use Rattle.core_terms.specs.declared.format.Format.{Format}
use Rattle.core_terms.specs.declared.types.TyForm.{TyForm}
use Rattle.core_terms.specs.declared.types.TyForm.TheVariants.{VecForm}
use Rattle.core_terms.proofs.SameTypes.{first_of, second_of}

module _ (format : Format) where
  -- a type that programs of the format may have, by its outermost form
  abbrev MayStand : Ty → Type 0
  MayStand (VecTy n t) = arrays_of format ≡ true
  MayStand t = Unit {0}

  may_stand_at : (types : List Ty) → All MayStand types → (i : ℕ) → MayStand (slice_index_or types i UnitTy)
  may_stand_at [] all i = tt
  may_stand_at (t ∷ types) all zero = All-head MayStand t types all
  may_stand_at (t ∷ types) all (suc i) = may_stand_at types (All-tail MayStand t types all) i

  form_stands : (before : List Ty) (form : TyForm) → is_form_in format form ≡ true → MayStand (type_of_form before form)
  form_stands before (VecForm n part) is = is
  form_stands before form is = tt

  forms_stand : (before : List Ty) (forms : List TyForm) → All MayStand before → list_all (is_form_in format) forms ≡ true
      → All MayStand (types_behind before forms)
  forms_stand before [] all are = all
  forms_stand before (form ∷ forms) all are =
      forms_stand (before ++ type_of_form before form ∷ []) forms
      (All-push MayStand before (type_of_form before form) all (form_stands before form (first_of (is_form_in format form) _ are)))
      (second_of (is_form_in format form) _ are)

  -- the form of a type in a table is one of the table's format
  pub form_is_in : (forms : List TyForm) (i : ℕ) (form : TyForm) → list_all (is_form_in format) forms ≡ true
      → type_of_form (types_of_forms forms) form ≡ slice_index_or (types_of_forms forms) i UnitTy → is_form_in format form ≡ true
  form_is_in forms i (VecForm n part) are is =
      subst MayStand (sym is) (may_stand_at (types_of_forms forms) (forms_stand [] forms (All-nil MayStand) are) i)
  form_is_in forms i form are is = refl
