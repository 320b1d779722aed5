-- How many named types have to be opened to find an `auth`: never more than there are.
use Rattle.std.proofs.Common.{◌≡◌, ◌⊎◌, inl, inr, ℕ, zero, suc, ◌+◌, ◌<◌, ◌≤◌, Bool, true, false, ◌||◌, List, [], ◌∷◌, length, unwrap_or, slice_get, refl, sym, ap, ap₂, ◌∙◌, subst, arith, nat_eq, nat_le, zero-add, add_comm}
use Rattle.std.proofs.lemmas.Option.{slice_get_past}
use Rattle.std.proofs.lemmas.Bool.{eqb-true, eqb-false, leb-true, leb-false}
use Rattle.core_terms.specs.Types.{Ty, UnitTy, BoolTy, IntTy, TextTy, PairTy, NamedTy, AuthTy, VecTy, Table}
use Rattle.core_terms.specs.Roles.{some_passes, has_auth_within, has_auth}
use Rattle.core_terms.specs.RoleTypes.{IsPlain}

-- a choice that passes still passes where each of its sides does
or_more : (a b c d : Bool) → (a ≡ true → c ≡ true) → (b ≡ true → d ≡ true) → a || b ≡ true → c || d ≡ true
or_more true b c d f g e = ap (λ c. c || d) (f refl)
or_more false true true d f g e = refl
or_more false true false d f g e = g refl
or_more false false c d f g e = absurd (cc)

-- what passes one test passes another that lets more through
passes_more : {A : Type 0} (p q : A → Bool) → ((x : A) → p x ≡ true → q x ≡ true) → (xs : List A) → some_passes p xs ≡ true → some_passes q xs ≡ true
passes_more p q f [] e = absurd (cc)
passes_more p q f (x ∷ xs) e = or_more (p x) _ (q x) _ (f x) (passes_more p q f xs) e

-- tests that agree on each element agree on the list
passes_same : {A : Type 0} (p q : A → Bool) → ((x : A) → p x ≡ q x) → (xs : List A) → some_passes p xs ≡ some_passes q xs
passes_same p q f [] = refl
passes_same p q f (x ∷ xs) = ap₂ (λ a b. a || b) (f x) (passes_same p q f xs)

-- one opening more, on either side of the sum
one_up : (k n : ℕ) → suc (k + n) ≡ suc k + n
one_up k n = omega arith

module _ (types : Table) where
  -- what is found by opening n types is found by opening one more
  found_later : (n : ℕ) (t : Ty) → has_auth_within types n t ≡ true → has_auth_within types (suc n) t ≡ true
  found_later n (AuthTy t) e = refl
  found_later n (PairTy a b) e = or_more _ _ _ _ (found_later n a) (found_later n b) e
  found_later n (VecTy m t) e = found_later n t e
  found_later zero (NamedTy i) e = absurd (cc)
  found_later (suc n) (NamedTy i) e =
      passes_more (some_passes (has_auth_within types n)) (some_passes (has_auth_within types (suc n)))
      (λ ts. passes_more (has_auth_within types n) (has_auth_within types (suc n)) (λ t. found_later n t) ts) (unwrap_or (slice_get types i) []) e
  found_later n UnitTy e = absurd (cc)
  found_later n BoolTy e = absurd (cc)
  found_later n IntTy e = absurd (cc)
  found_later n TextTy e = absurd (cc)

  -- what is found by opening n types is found by opening any number more
  found_from : (n k : ℕ) (t : Ty) → has_auth_within types n t ≡ true → has_auth_within types (k + n) t ≡ true
  found_from n zero t e = subst (λ m. has_auth_within types m t ≡ true) (sym (zero-add n)) e
  found_from n (suc k) t e = subst (λ m. has_auth_within types m t ≡ true) (one_up k n) (found_later (k + n) t (found_from n k t e))

  -- n openings are enough for each named type: one more finds nothing more
  abbrev IsStable : ℕ → Type 0
  IsStable n = (i : ℕ) → has_auth_within types (suc n) (NamedTy i) ≡ has_auth_within types n (NamedTy i)

  -- openings that are enough for named types are enough for every type
  stable_type : (n : ℕ) → IsStable n → (t : Ty) → has_auth_within types (suc n) t ≡ has_auth_within types n t
  stable_type n s (AuthTy t) = refl
  stable_type n s (PairTy a b) = ap₂ (λ a b. a || b) (stable_type n s a) (stable_type n s b)
  stable_type n s (NamedTy i) = s i
  stable_type n s (VecTy m t) = stable_type n s t
  stable_type n s UnitTy = refl
  stable_type n s BoolTy = refl
  stable_type n s IntTy = refl
  stable_type n s TextTy = refl

  -- openings that are enough stay so with one more
  stable_later : (n : ℕ) → IsStable n → IsStable (suc n)
  stable_later n s i =
      passes_same (some_passes (has_auth_within types (suc n))) (some_passes (has_auth_within types n))
      (λ ts. passes_same (has_auth_within types (suc n)) (has_auth_within types n) (stable_type n s) ts) (unwrap_or (slice_get types i) [])

  -- and with any number more
  stable_from : (n k : ℕ) → IsStable n → IsStable (k + n)
  stable_from n zero s = subst IsStable (sym (zero-add n)) s
  stable_from n (suc k) s = subst IsStable (one_up k n) (stable_later (k + n) (stable_from n k s))

  -- where n openings are enough, any number more finds in each type what n find
  stable_all : (n k : ℕ) (t : Ty) → IsStable n → has_auth_within types (k + n) t ≡ has_auth_within types n t
  stable_all n zero t s = ap (λ m. has_auth_within types m t) (zero-add n)
  stable_all n (suc k) t s = ap (λ m. has_auth_within types m t) (sym (one_up k n)) ∙ stable_type (k + n) (stable_from n k s) t ∙ stable_all n k t s

  -- a type that isn't there has no `auth`
  none_there : (n i : ℕ) → length types ≤ i → has_auth_within types n (NamedTy i) ≡ false
  none_there zero i h = refl
  none_there (suc n) i h = ap (λ o. some_passes (some_passes (has_auth_within types n)) (unwrap_or o [])) (slice_get_past types i h)

  -- one where the test passes, zero else
  abbrev one_if : Bool → ℕ
  one_if true = 1
  one_if false = 0

  -- how many of the first m named types have an `auth` that n openings find
  abbrev found_of : ℕ → ℕ → ℕ
  found_of n zero = 0
  found_of n (suc m) = one_if (has_auth_within types n (NamedTy m)) + found_of n m

  -- it counts no less where the test lets more through
  one_more : (a b : Bool) → (a ≡ true → b ≡ true) → one_if a ≤ one_if b
  one_more true b f = subst (λ b. 1 ≤ one_if b) (sym (f refl)) (omega arith)
  one_more false b f = omega arith

  -- one opening more finds as many at least
  found_grows : (n m : ℕ) → found_of n m ≤ found_of (suc n) m
  found_grows n zero = omega arith
  found_grows n (suc m) = omega (arith, one_more _ _ (found_later n (NamedTy m)), found_grows n m)

  -- a test counts one at most
  one_at_most : (b : Bool) → one_if b ≤ 1
  one_at_most true = omega arith
  one_at_most false = omega arith

  -- no more are found than there are
  found_at_most : (n m : ℕ) → found_of n m ≤ m
  found_at_most n zero = omega arith
  found_at_most n (suc m) = omega (arith, one_at_most (has_auth_within types n (NamedTy m)), found_at_most n m)

  -- tests that count the same are the same
  one_same : (a b : Bool) → one_if a ≡ one_if b → a ≡ b
  one_same true true e = refl
  one_same true false e = absurd (omega (arith, e))
  one_same false true e = absurd (omega (arith, e))
  one_same false false e = refl

  -- where as many are found, the same are found
  found_same : (n m : ℕ) → found_of (suc n) m ≡ found_of n m → (i : ℕ) → i < m → has_auth_within types (suc n) (NamedTy i) ≡ has_auth_within types n (NamedTy i)
  found_same n zero e i h = absurd (omega arith)
  found_same n (suc m) e i h = by (nat_eq i m) refl (λ l. found_same n m before i l)
    where
      now : one_if (has_auth_within types (suc n) (NamedTy m)) ≡ one_if (has_auth_within types n (NamedTy m))
      now = omega (arith, e, one_more _ _ (found_later n (NamedTy m)), found_grows n m)

      before : found_of (suc n) m ≡ found_of n m
      before = omega (arith, e, one_more _ _ (found_later n (NamedTy m)), found_grows n m)

      by : (b : Bool) → nat_eq i m ≡ b → (i < m → has_auth_within types (suc n) (NamedTy i) ≡ has_auth_within types n (NamedTy i))
          → has_auth_within types (suc n) (NamedTy i) ≡ has_auth_within types n (NamedTy i)
      by true q earlier = subst (λ j. has_auth_within types (suc n) (NamedTy j) ≡ has_auth_within types n (NamedTy j)) (sym (eqb-true i m q)) (one_same _ _ now)
      by false q earlier = earlier (grind (arith, h, eqb-false i m q))

  -- one opening more finds nothing more, or more than before
  stable_or_more : (n : ℕ) → IsStable n ⊎ (suc (found_of n (length types)) ≤ found_of (suc n) (length types))
  stable_or_more n = by (nat_eq (found_of (suc n) (length types)) (found_of n (length types))) refl
    where
      by : (b : Bool) → nat_eq (found_of (suc n) (length types)) (found_of n (length types)) ≡ b → IsStable n ⊎ (suc (found_of n (length types)) ≤ found_of (suc n) (length types))
      by true q = inl (λ i. at i (nat_le (length types) i) refl)
        where
          at : (i : ℕ) (b : Bool) → nat_le (length types) i ≡ b → has_auth_within types (suc n) (NamedTy i) ≡ has_auth_within types n (NamedTy i)
          at i true r = none_there (suc n) i (leb-true _ _ r) ∙ sym (none_there n i (leb-true _ _ r))
          at i false r = found_same n (length types) (eqb-true _ _ q) i (omega (arith, leb-false _ _ r))
      by false q = inr (grind (arith, found_grows n (length types), eqb-false _ _ q))

  -- n openings are enough, or find n named types at least
  climbs : (n : ℕ) → IsStable n ⊎ (n ≤ found_of n (length types))
  climbs zero = inr (omega arith)
  climbs (suc n) = by (climbs n) (stable_or_more n)
    where
      by : IsStable n ⊎ (n ≤ found_of n (length types)) → IsStable n ⊎ (suc (found_of n (length types)) ≤ found_of (suc n) (length types))
          → IsStable (suc n) ⊎ (suc n ≤ found_of (suc n) (length types))
      by (inl s) o = inl (stable_later n s)
      by (inr h) (inl s) = inl (stable_later n s)
      by (inr h) (inr o) = inr (omega (arith, h, o))

  -- as many openings as there are named types are enough
  stable_at_length : IsStable (length types)
  stable_at_length = by (climbs (length types)) (stable_or_more (length types))
    where
      by : IsStable (length types) ⊎ (length types ≤ found_of (length types) (length types))
          → IsStable (length types) ⊎ (suc (found_of (length types) (length types)) ≤ found_of (suc (length types)) (length types)) → IsStable (length types)
      by (inl s) o = s
      by (inr h) (inl s) = s
      by (inr h) (inr o) = absurd (omega (arith, h, o, found_at_most (suc (length types)) (length types)))

  -- a type without `auth` by the test is plain
  pub plain_by_test : (t : Ty) → has_auth types t ≡ false → IsPlain types t
  plain_by_test t e opened = by (has_auth_within types opened t) refl
    where
      by : (b : Bool) → has_auth_within types opened t ≡ b → b ≡ false
      by false q = refl
      by true q = sym (found_from opened (length types) t q) ∙ ap (λ m. has_auth_within types m t) (add_comm (length types) opened) ∙ stable_all (length types) opened t stable_at_length ∙ e
