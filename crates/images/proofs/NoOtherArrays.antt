-- A program of the code whose state has arrays is in a format that has them.
use Rattle.std.proofs.Common.{◌≡◌, ℕ, zero, suc, Bool, true, false, ◌||◌, List, [], ◌∷◌, length, slice_get, Option, Some, None, unwrap_or, refl}
use Rattle.core_terms.specs.ProgramTypes.{named_table, types_by_number, types_meaning}
use Rattle.core_terms.specs.Roles.{some_passes}
use Rattle.core_terms.specs.Types.{Ty, UnitTy, BoolTy, IntTy, TextTy, PairTy, NamedTy, AuthTy, VecTy, Table}
use Rattle.core_terms.specs.TypeTables.{type_at}
use Rattle.core_terms.specs.declared.format.Format.{Format}
use Rattle.core_terms.specs.declared.format.Format.TheVariants.{First, Second}
use Rattle.core_terms.specs.declared.program_types.Types as code
use Rattle.core_terms.proofs.Arrayless.{Each, HasNoArray, none_in_state, none_in_table}
use Rattle.images.specs.Parts.{HasNoOtherArrays, is_part, is_part_within}

either : (a b : Bool) → a || b ≡ true → (a ≡ true → ⊥) → (b ≡ true → ⊥) → ⊥
either true b h first second = first refl
either false b h first second = second h

module _ (n : ℕ) (t : Ty) where
  some_none : (opened : ℕ) (types : Table) → ((u : Ty) → HasNoArray u → is_part_within types opened (VecTy n t) u ≡ true → ⊥) → (us : List Ty) → Each HasNoArray us
      → some_passes (is_part_within types opened (VecTy n t)) us ≡ true → ⊥
  some_none opened types none [] h is = absurd (cc)
  some_none opened types none (u ∷ us) h is = either (is_part_within types opened (VecTy n t) u) _ is (none u h.0) (some_none opened types none us h.1)

  none_named : (opened : ℕ) (types : Table) → ((u : Ty) → HasNoArray u → is_part_within types opened (VecTy n t) u ≡ true → ⊥) → (tss : List (List Ty)) → Each (Each HasNoArray) tss
      → some_passes (some_passes (is_part_within types opened (VecTy n t))) tss ≡ true → ⊥
  none_named opened types none [] h is = absurd (cc)
  none_named opened types none (ts ∷ tss) h is =
      either (some_passes (is_part_within types opened (VecTy n t)) ts) _ is (some_none opened types none ts h.0) (none_named opened types none tss h.1)

  at_number : (types : Table) → Each (Each (Each HasNoArray)) types → (number : ℕ) → Each (Each HasNoArray) (unwrap_or (slice_get types number) [])
  at_number [] h number = tt
  at_number (tss ∷ types) h zero = h.0
  at_number (tss ∷ types) h (suc number) = at_number types h.1 number

  no_part : (types : Table) → Each (Each (Each HasNoArray)) types → (opened : ℕ) (u : Ty) → HasNoArray u → is_part_within types opened (VecTy n t) u ≡ true → ⊥
  no_part types free opened UnitTy h is = absurd (cc)
  no_part types free opened BoolTy h is = absurd (cc)
  no_part types free opened IntTy h is = absurd (cc)
  no_part types free opened TextTy h is = absurd (cc)
  no_part types free opened (PairTy a b) h is = either (is_part_within types opened (VecTy n t) a) _ is (no_part types free opened a h.0) (no_part types free opened b h.1)
  no_part types free opened (AuthTy a) h is = no_part types free opened a h is
  no_part types free opened (VecTy m a) h is = h
  no_part types free zero (NamedTy number) h is = absurd (cc)
  no_part types free (suc opened) (NamedTy number) h is = none_named opened types (no_part types free opened) (unwrap_or (slice_get types number) []) (at_number types free number) is

pub no_other_arrays : (p : code.Types) → HasNoOtherArrays (types_meaning p)
no_other_arrays p n t is = by p.table.format refl
  where
    by : (format : Format) → p.table.format ≡ format → (types_meaning p).format.arrays ≡ true
    by Second second = rw second refl
    by First first = absurd (no_part n t (named_table p) (none_in_table p first) (length (named_table p)) (type_at (types_by_number p) p.state) (none_in_state p first) is)
