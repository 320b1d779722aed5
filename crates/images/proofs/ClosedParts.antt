-- A part of a part of a type is a part of the type.
use Rattle.std.proofs.Common.{◌≡◌, ◌⊎◌, inl, inr, ℕ, zero, suc, ◌+◌, ◌-◌, ◌<◌, ◌≤◌, Bool, true, List, [], length, unwrap_or, Some, slice_get, refl, sym, subst, arith}
use Rattle.std.proofs.lemmas.Bool.{cases_lt}
use Rattle.std.proofs.lemmas.Option.{slice_get_past}
use Rattle.core_terms.specs.Types.{Ty, PairTy, NamedTy, AuthTy, VecTy, Table}
use Rattle.images.specs.Parts.{is_part, is_part_within}
use Rattle.images.proofs.GrowingTests.{IsStable, stable_or_none}
use Rattle.images.proofs.PartLevels.{IsBehind, IsField, IsPart, before_or_behind, in_auth, in_first, in_second, in_vec, itself, one_later, part_of_field, part_of_part}

nothing : (i : ℕ) (ts : List Ty) → slice_get [] i ≡ Some ts → ⊥
nothing i ts h = cc

module _ (types : Table) where
  -- a type that isn't there has no fields
  field_there : (f : Ty) (n : ℕ) → IsField types f n → n < length types
  field_there f n field = by (cases_lt n (length types))
    where
      by : (n < length types) ⊎ (length types ≤ n) → n < length types
      by (inl h) = h
      by (inr h) = absurd (nothing field.0 field.1 (subst (λ o. slice_get (unwrap_or o []) field.0 ≡ Some field.1) (slice_get_past types n h) field.2))

  module _ (whole : Ty) where
    -- the named type with the number is found by opening so many
    abbrev found : ℕ → ℕ → Bool
    found k i = is_part_within types k (NamedTy i) whole

    abbrev Stable : ℕ → Type 0
    Stable = IsStable found (λ k i. one_later types k (NamedTy i) whole) (length types)

    stable_suc : (k : ℕ) → Stable k → Stable (suc k)
    stable_suc k s i h e = by (before_or_behind types (suc k) (NamedTy i) whole e)
      where
        by : IsPart types (suc k) (NamedTy i) whole ⊎ IsBehind types (suc k) (NamedTy i) whole → IsPart types (suc k) (NamedTy i) whole
        by (inl p) = p
        by (inr q) = part_of_field types k (NamedTy i) q.1 q.0 whole (s q.0 (field_there q.1 q.0 q.2) q.3) q.2 q.4

    stable_more : (j k : ℕ) → Stable k → Stable (j + k)
    stable_more zero k s = subst Stable (let e : k ≡ zero + k = omega arith in e) s
    stable_more (suc j) k s = subst Stable (let e : suc (j + k) ≡ suc j + k = omega arith in e) (stable_suc (j + k) (stable_more j k s))

    first_stable : ((i : ℕ) → i < length types → found 0 i ≡ true → ⊥) → Stable 0
    first_stable none i h e = by (before_or_behind types 0 (NamedTy i) whole e)
      where
        by : IsPart types 0 (NamedTy i) whole ⊎ IsBehind types 0 (NamedTy i) whole → IsPart types 0 (NamedTy i) whole
        by (inl p) = p
        by (inr q) = absurd (none q.0 (field_there q.1 q.0 q.2) q.3)

    -- what is found by opening as many named types as there are is found by opening one less
    last_stable : (l : ℕ) → length types ≡ suc l → Stable l
    last_stable l is = by (stable_or_none found (λ k i. one_later types k (NamedTy i) whole) (length types))
      where
        by : ((k : ℕ) × (k < length types) × Stable k) ⊎ ((i : ℕ) → i < length types → found 0 i ≡ true → ⊥) → Stable l
        by (inl s) = let h = s.1 in subst Stable (let e : (l - s.0) + s.0 ≡ l = omega (arith, h, is) in e) (stable_more (l - s.0) s.0 s.2)
        by (inr none) = subst Stable (let e : l + 0 ≡ l = omega arith in e) (stable_more l 0 (first_stable none))

    -- a field of a part is a part
    pub field_part : (f : Ty) (n : ℕ) → IsField types f n → is_part types (NamedTy n) whole ≡ true → is_part types f whole ≡ true
    field_part f n field h = by (length types) refl
      where
        there : n < length types
        there = field_there f n field

        by : (m : ℕ) → length types ≡ m → is_part types f whole ≡ true
        by zero e = absurd (omega (arith, there, e))
        by (suc l) e =
            let named : IsPart types (suc l) (NamedTy n) whole = subst (λ m. IsPart types m (NamedTy n) whole) e h in
            let before : IsPart types l (NamedTy n) whole = last_stable l e n there named in
            subst (λ m. IsPart types m f whole) (sym e) (part_of_field types l f f n whole before field (itself types 0 f))

    -- and so are what is authenticated in a part, the components of one, and the elements of one
    pub inner_part : (t : Ty) → is_part types (AuthTy t) whole ≡ true → is_part types t whole ≡ true
    inner_part t h = part_of_part types (length types) t (AuthTy t) whole h (in_auth types 0 t t (itself types 0 t))

    pub first_part : (a b : Ty) → is_part types (PairTy a b) whole ≡ true → is_part types a whole ≡ true
    first_part a b h = part_of_part types (length types) a (PairTy a b) whole h (in_first types 0 a a b (itself types 0 a))

    pub second_part : (a b : Ty) → is_part types (PairTy a b) whole ≡ true → is_part types b whole ≡ true
    second_part a b h = part_of_part types (length types) b (PairTy a b) whole h (in_second types 0 b a b (itself types 0 b))

    pub item_part : (n : ℕ) (t : Ty) → is_part types (VecTy n t) whole ≡ true → is_part types t whole ≡ true
    item_part n t h = part_of_part types (length types) t (VecTy n t) whole h (in_vec types 0 t n t (itself types 0 t))
