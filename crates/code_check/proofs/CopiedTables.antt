-- A table that is made again of its forms, one by one.
use Rattle.std.proofs.Common.{◌≡◌, ◌⊎◌, inl, inr, ◌<◌, ◌+◌, ℕ, true, List, [], ◌∷◌, ◌++◌, length, take, drop, Some, slice_get, slice_index_or, nat_lt, refl, sym, ap, ap₂, ◌∙◌, subst, ltb-true, arith}
use Rattle.std.proofs.Math.ListN.{get_or-append}
use Rattle.std.proofs.lemmas.List.{take_more, take-append-drop, get_or-take, length-take-le}
use Rattle.std.proofs.lemmas.Option.{slice_get_within, get_or_from_slice_get}
use Rattle.core_terms.specs.Types.{Ty, UnitTy, AuthTy, PairTy, VecTy}
use Rattle.core_terms.specs.TypeTables.{HasOneNumber, stands_behind, type_of_form}
use Rattle.core_terms.specs.declared.types.TyForm.{TyForm}
use Rattle.core_terms.specs.declared.types.TyForm.TheVariants.{UnitForm, BoolForm, IntForm, TextForm, AuthForm, PairForm, NamedForm, VecForm}
use Rattle.core_terms.proofs.SameTypes.{first_of, second_of}

-- a form whose parts stand in front means the same where more stands behind them
pub front_means : (a b : List Ty) (form : TyForm) → stands_behind (length a) form ≡ true → type_of_form (a ++ b) form ≡ type_of_form a form
front_means a b UnitForm h = refl
front_means a b BoolForm h = refl
front_means a b IntForm h = refl
front_means a b TextForm h = refl
front_means a b (NamedForm named) h = refl
front_means a b (AuthForm part) h = ap AuthTy (get_or-append a b UnitTy part.0 (ltb-true part.0 (length a) h))
front_means a b (VecForm n part) h = ap (VecTy n) (get_or-append a b UnitTy part.0 (ltb-true part.0 (length a) (first_of _ _ h)))
front_means a b (PairForm first second) h =
    ap₂ PairTy (get_or-append a b UnitTy first.0 (ltb-true first.0 (length a) (first_of _ _ h)))
    (get_or-append a b UnitTy second.0 (ltb-true second.0 (length a) (second_of (nat_lt first.0 (length a)) _ h)))

-- a form without parts stands behind any number of types
pub plain_stands : (n : ℕ) (form : TyForm) → stands_behind 0 form ≡ true → stands_behind n form ≡ true
plain_stands n UnitForm h = refl
plain_stands n BoolForm h = refl
plain_stands n IntForm h = refl
plain_stands n TextForm h = refl
plain_stands n (NamedForm named) h = refl
plain_stands n (AuthForm part) h = absurd (omega (arith, ltb-true part.0 0 h))
plain_stands n (VecForm m part) h = absurd (omega (arith, ltb-true part.0 0 (first_of _ _ h)))
plain_stands n (PairForm first second) h = absurd (omega (arith, ltb-true first.0 0 (first_of _ _ h)))

pub copied_more : (types old new : List Ty) (n : ℕ) (form : TyForm) (id : ℕ) → HasOneNumber types → n < length types → stands_behind n form ≡ true
    → type_of_form types form ≡ slice_index_or types n UnitTy → old ≡ take n types → (new ≡ old) ⊎ (new ≡ old ++ type_of_form old form ∷ [])
    → slice_get new id ≡ Some (type_of_form old form) → new ≡ take (n + 1) types
copied_more types old new n form id one inside parts means is either at = by either
  where
    long : length (take n types) ≡ n
    long = length-take-le n types (omega (arith, inside))

    meant : type_of_form old form ≡ slice_index_or types n UnitTy
    meant =
        ap (λ l. type_of_form l form) is
        ∙ sym (front_means (take n types) (drop n types) form (subst (λ m. stands_behind m form ≡ true) (sym long) parts))
        ∙ ap (λ l. type_of_form l form) (take-append-drop n types)
        ∙ means

    earlier : slice_get (take n types) id ≡ Some (slice_index_or types n UnitTy) → ⊥
    earlier there =
        let below : id < length (take n types) = slice_get_within (take n types) id (slice_index_or types n UnitTy) there in
        let low : id < n = omega (arith, below, long) in
        let same : slice_index_or types id UnitTy ≡ slice_index_or types n UnitTy =
        sym (get_or-take n types id UnitTy low) ∙ get_or_from_slice_get (take n types) id (slice_index_or types n UnitTy) UnitTy there in
        let equal : id ≡ n = one id n (omega (arith, low, inside)) inside same in
        omega (arith, low, equal)

    by : (new ≡ old) ⊎ (new ≡ old ++ type_of_form old form ∷ []) → new ≡ take (n + 1) types
    by (inl e) = absurd (earlier (ap (λ l. slice_get l id) (sym (e ∙ is)) ∙ at ∙ ap Some meant))
    by (inr e) = e ∙ ap₂ (λ l t. l ++ t ∷ []) is meant ∙ sym (take_more types n UnitTy inside)
