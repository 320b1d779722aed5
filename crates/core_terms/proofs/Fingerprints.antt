-- The fingerprints that are kept are those of the types.
use Rattle.std.proofs.Common.{◌≡◌, ◌⊎◌, inl, inr, ℕ, zero, suc, ◌+◌, ◌<◌, ◌≤◌, true, List, [], ◌∷◌, ◌++◌, length, Option, Some, None, option_map, unwrap_or, slice_get, slice_index_or, refl, sym, ap, ap₂, ◌∙◌, subst, arith, length-append, ltb-true, nat_lt}
use Rattle.std.proofs.lemmas.List.{get_or_past}
use Rattle.core_terms.specs.Formats.{Hash, fingerprint}
use Rattle.core_terms.specs.Fronts.{ArePrints, AreFronts, bytes_or, front_of, or_else, print_at, print_kept, print_of_form}
use Rattle.core_terms.specs.ProgramFormats.{front, print}
use Rattle.core_terms.specs.ProgramTypes.{text_of, types_by_number}
use Rattle.core_terms.specs.Types.{Ty, UnitTy}
use Rattle.core_terms.specs.TypeTables.{stands_behind, type_at, type_of_form}
use Rattle.core_terms.specs.declared.digest.Digest.{Digest}
use Rattle.core_terms.specs.declared.format.Format.TheVariants.{First, Second}
use Rattle.core_terms.specs.declared.fronts.Fronts.{Fronts}
use Rattle.core_terms.specs.declared.program_types.Types.{Types}
use Rattle.core_terms.specs.declared.types.TyId.{TyId}
use Rattle.core_terms.specs.declared.types.TyForm.{TyForm}
use Rattle.core_terms.specs.declared.types.TyForm.TheVariants.{UnitForm, BoolForm, IntForm, TextForm, AuthForm, PairForm, NamedForm, VecForm}
use Rattle.core_terms.proofs.SameTypes.{first_of, second_of}

get_there : {X : Type 0} (xs : List X) (r : ℕ) → r < length xs → (x : X) × (slice_get xs r ≡ Some x)
get_there [] r h = absurd (omega (arith, h))
get_there (x ∷ xs) zero h = (x, refl)
get_there (x ∷ xs) (suc r) h = get_there xs r (omega (arith, h))

-- an element of a list with one more behind
push_cases : {X : Type 0} (xs : List X) (y : X) (i : ℕ) (x : X) → slice_get (xs ++ y ∷ []) i ≡ Some x → (slice_get xs i ≡ Some x) ⊎ ((i ≡ length xs) × (y ≡ x))
push_cases [] y zero x h = inr (refl, cc)
push_cases [] y (suc i) x h = absurd (cc)
push_cases (z ∷ xs) y zero x h = inl h
push_cases (z ∷ xs) y (suc i) x h = by (push_cases xs y i x h)
  where
    by : (slice_get xs i ≡ Some x) ⊎ ((i ≡ length xs) × (y ≡ x)) → (slice_get xs i ≡ Some x) ⊎ ((suc i ≡ suc (length xs)) × (y ≡ x))
    by (inl e) = inl e
    by (inr e) = inr (ap suc e.0, e.1)

none_past : {X : Type 0} (xs : List X) (i : ℕ) → slice_get xs i ≡ None → length xs ≤ i
none_past [] i h = omega arith
none_past (x ∷ xs) zero h = absurd (cc)
none_past (x ∷ xs) (suc i) h = let e = none_past xs i h in omega (arith, e)

module _ (hash : Hash) (types : Types) where
  abbrev declared : List ℕ
  declared = hash (text_of types)

  abbrev tys : List Ty
  tys = types_by_number types

  part_print : (count : ℕ) (prints : List Digest) → ArePrints hash types count prints → (part : TyId) → nat_lt part.0 count ≡ true
      → print_at hash declared prints part ≡ fingerprint hash declared (type_at tys part)
  part_print count prints are part below =
      let within : part.0 < length prints = subst (λ n. part.0 < n) (sym are.0) (ltb-true part.0 count below) in
      let there = get_there prints part.0 within in
      ap (λ o. bytes_or o (hash [])) there.1 ∙ are.1 part.0 there.0 there.1

  -- the fingerprint of a form is that of its type
  pub form_print : (count : ℕ) (prints : List Digest) → ArePrints hash types count prints → (form : TyForm) → stands_behind count form ≡ true
      → print_of_form hash declared prints form ≡ fingerprint hash declared (type_of_form tys form)
  form_print count prints are UnitForm h = refl
  form_print count prints are BoolForm h = refl
  form_print count prints are IntForm h = refl
  form_print count prints are TextForm h = refl
  form_print count prints are (NamedForm number) h = refl
  form_print count prints are (AuthForm part) h = ap (λ f. hash (0x06 ∷ f)) (part_print count prints are part h)
  form_print count prints are (VecForm n part) h = ap (λ f. hash (0x07 ∷ n ∷ f)) (part_print count prints are part (first_of _ _ h))
  form_print count prints are (PairForm first second) h =
      ap₂ (λ f g. hash (0x04 ∷ f ++ g)) (part_print count prints are first (first_of _ _ h)) (part_print count prints are second (second_of (nat_lt first.0 count) _ h))

  pub one_more : (count : ℕ) (prints new : List Digest) → ArePrints hash types count prints → (form : TyForm) (print : Digest) → stands_behind count form ≡ true
      → type_of_form tys form ≡ slice_index_or tys count UnitTy → print.0 ≡ print_of_form hash declared prints form → new ≡ prints ++ print ∷ []
      → ArePrints hash types (count + 1) new
  one_more count prints new are form print behind is made pushed =
      subst (λ (ps : List Digest). ArePrints hash types (count + 1) ps) (sym pushed)
      (let long = length-append prints (print ∷ []) in let was = are.0 in omega (arith, long, was), λ i digest there. by i digest (push_cases prints print i digest there))
    where
      by : (i : ℕ) (digest : Digest) → (slice_get prints i ≡ Some digest) ⊎ ((i ≡ length prints) × (print ≡ digest)) → digest.0 ≡ fingerprint hash declared (slice_index_or tys i UnitTy)
      by i digest (inl e) = are.1 i digest e
      by i digest (inr e) =
          ap (λ (d : Digest). d.0) (sym e.1) ∙ made ∙ form_print count prints are form behind ∙ ap (fingerprint hash declared) (is ∙ ap (λ n. slice_index_or tys n UnitTy) (sym (e.0 ∙ are.0)))

  -- those of all types are fronts of the second format
  pub second_fronts : types.table.format ≡ Second → (fronts : Fronts) (unit : Digest) → ArePrints hash types (length tys) fronts.prints.items → fronts.unit ≡ Some unit → unit.0 ≡ hash []
      → AreFronts hash types fronts
  second_fronts second fronts unit are here is ty =
      by (slice_get fronts.prints.items ty.0) refl ∙ ap (λ format. print format hash (text_of types) (type_at tys ty)) (sym second)
    where
      bytes : Digest → List ℕ
      bytes digest = digest.0

      by : (o : Option Digest) → slice_get fronts.prints.items ty.0 ≡ o → option_map bytes (print_kept fronts ty) ≡ Some (fingerprint hash declared (type_at tys ty))
      by (Some digest) e = ap (λ o. option_map bytes (or_else o fronts.unit)) e ∙ ap Some (are.1 ty.0 digest e)
      by None e =
          let past : length tys ≤ ty.0 = subst (λ n. n ≤ ty.0) are.0 (none_past fronts.prints.items ty.0 e) in
          ap (λ o. option_map bytes (or_else o fronts.unit)) e ∙ ap (option_map bytes) here ∙ ap Some (is ∙ ap (fingerprint hash declared) (sym (get_or_past tys ty.0 UnitTy past)))

  -- and none are those of the first
  pub first_fronts : types.table.format ≡ First → (fronts : Fronts) → fronts.prints.items ≡ [] → fronts.unit ≡ None → AreFronts hash types fronts
  first_fronts first fronts none nothing ty =
      ap (λ (ps : List Digest). option_map (λ (digest : Digest). digest.0) (or_else (slice_get ps ty.0) fronts.unit)) none
      ∙ ap (option_map (λ (digest : Digest). digest.0)) nothing
      ∙ ap (λ format. print format hash (text_of types) (type_at tys ty)) (sym first)

-- What stands before a spelling is the fingerprint, where there is one.
pub front_is : (hash : Hash) (types : Types) (fronts : Fronts) → AreFronts hash types fronts → (ty : TyId)
    → front_of fronts ty ≡ front types.table.format hash (text_of types) (type_at (types_by_number types) ty)
front_is hash types fronts are ty = by (print_kept fronts ty) ∙ ap (λ o. unwrap_or o []) (are ty)
  where
    by : (o : Option Digest) → bytes_or o [] ≡ unwrap_or (option_map (λ (digest : Digest). digest.0) o) []
    by (Some digest) = refl
    by None = refl
