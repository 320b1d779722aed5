-- The types of a program have one number each.
use Rattle.std.proofs.Common.{◌≡◌, ◌<◌, ℕ, Bool, true, false, length, nat_eq, Some, slice_get, refl, sym, ap, ◌∙◌, eqb-true}
use Rattle.std.proofs.lemmas.Option.{slice_get-get_or, slice_get_within, get_or_from_slice_get, same_Some}
use Rattle.std.proofs.lemmas.Bool.{eq-eqb}
use Rattle.core_terms.specs.Types.{Ty, UnitTy, same_type}
use Rattle.core_terms.specs.ProgramTypes.{types_by_number, types_meaning}
use Rattle.core_terms.specs.TypeTables.{type_at, type_of_form}
use Rattle.images.specs.PartMarks.{IsPartOfState}
use Rattle.core_terms.specs.declared.types.TyId.{TyId}
use Rattle.core_terms.specs.declared.program_types.Types.{Types}
use Rattle.core_terms.specs.declared.types.TyForm.{TyForm}
use Rattle.core_terms.proofs.TypingComplete.{same_complete}
use Rattle.core_terms.proofs.SameTypes.{same_sound}

differ : false ≡ true → ⊥
differ e = cc

module _ (p : Types) where
  -- equal types have one number
  pub one_number : (i j : ℕ) (t : Ty) → slice_get (types_by_number p) i ≡ Some t → slice_get (types_by_number p) j ≡ Some t → i ≡ j
  one_number i j t at other =
      p.table.one_number i j (slice_get_within (types_by_number p) i t at) (slice_get_within (types_by_number p) j t other)
      (get_or_from_slice_get (types_by_number p) i t UnitTy at ∙ sym (get_or_from_slice_get (types_by_number p) j t UnitTy other))

  -- types are the same where their numbers are
  pub same_types : (i j : ℕ) (t u : Ty) → slice_get (types_by_number p) i ≡ Some t → slice_get (types_by_number p) j ≡ Some u → same_type t u ≡ nat_eq i j
  same_types i j t u at other = by (nat_eq i j) refl (same_type t u) refl
    where
      by : (b : Bool) → nat_eq i j ≡ b → (c : Bool) → same_type t u ≡ c → same_type t u ≡ nat_eq i j
      by true n true s = s ∙ sym n
      by false n false s = s ∙ sym n
      by true n false s =
          let one : t ≡ u = same_Some t u (sym at ∙ ap (slice_get (types_by_number p)) (eqb-true i j n) ∙ other) in
          absurd (differ (sym s ∙ same_complete t u one))
      by false n true s =
          let one : i ≡ j = one_number i j u (at ∙ ap Some (same_sound t u s)) other in
          absurd (differ (sym n ∙ ap (nat_eq i) (sym one) ∙ eq-eqb i i refl))

-- a part of the state that was found has its type's number
pub numbered : (p : Types) (form : TyForm) (ty : TyId) → IsPartOfState p form (Some ty) → slice_get (types_by_number p) ty.0 ≡ Some (type_of_form (types_by_number p) form)
numbered p form ty found = slice_get-get_or (types_by_number p) ty.0 UnitTy found.2 ∙ ap Some found.1

-- the number of the state's type
pub state_number : (p : Types) (state : TyId) → type_at (types_by_number p) state ≡ (types_meaning p).state → state.0 < length (types_by_number p)
    → slice_get (types_by_number p) state.0 ≡ Some (types_meaning p).state
state_number p state is within = slice_get-get_or (types_by_number p) state.0 UnitTy within ∙ ap Some is
