-- Tests of numbers, one for each level, that let more through on each level: on as many levels as there are numbers they stop growing.
use Rattle.std.proofs.Common.{◌≡◌, ◌⊎◌, inl, inr, ℕ, zero, suc, ◌+◌, ◌<◌, ◌≤◌, Bool, true, false, nat_eq, refl, sym, ◌∙◌, subst, arith, true≢false}
use Rattle.std.proofs.lemmas.Bool.{cases_lt, eqb-true, eqb-false}

-- what holds below m and at m holds below the next number
below_suc : (Holds : ℕ → Type 0) (m : ℕ) → ((i : ℕ) → i < m → Holds i) → Holds m → (i : ℕ) → i < suc m → Holds i
below_suc Holds m below last i h = by (nat_eq i m) refl
  where
    by : (b : Bool) → nat_eq i m ≡ b → Holds i
    by true e = subst Holds (sym (eqb-true i m e)) last
    by false e = below i (grind (arith, h, eqb-false i m e))

-- one where the test passes, zero else
abbrev one_if : Bool → ℕ
one_if true = 1
one_if false = 0

one_at_most : (b : Bool) → one_if b ≤ 1
one_at_most true = omega arith
one_at_most false = omega arith

module _ (passes : ℕ → ℕ → Bool) (grows : (k i : ℕ) → passes k i ≡ true → passes (suc k) i ≡ true) where
  -- how many of the first m numbers pass on a level
  abbrev count : ℕ → ℕ → ℕ
  count k zero = 0
  count k (suc m) = one_if (passes k m) + count k m

  count_at_most : (k m : ℕ) → count k m ≤ m
  count_at_most k zero = omega arith
  count_at_most k (suc m) = let here = one_at_most (passes k m) in let rest = count_at_most k m in omega (arith, here, rest)

  count_some : (k m i : ℕ) → i < m → passes k i ≡ true → 1 ≤ count k m
  count_some k zero i h e = absurd (omega (arith, h))
  count_some k (suc m) i h e = by (nat_eq i m) refl (λ g. count_some k m i g e)
    where
      by : (b : Bool) → nat_eq i m ≡ b → (i < m → 1 ≤ count k m) → 1 ≤ one_if (passes k m) + count k m
      by true is rest =
          let at : passes k m ≡ true = subst (λ j. passes k j ≡ true) (eqb-true i m is) e in
          subst (λ b. 1 ≤ one_if b + count k m) (sym at) (omega arith)
      by false is rest = let more = rest (grind (arith, h, eqb-false i m is)) in omega (arith, more)

  -- of the first m numbers no more pass on the next level
  abbrev pub IsStable : ℕ → ℕ → Type 0
  IsStable m k = (i : ℕ) → i < m → passes (suc k) i ≡ true → passes k i ≡ true

  abbrev Stops : ℕ → ℕ → Type 0
  Stops m k = IsStable m k ⊎ (suc (count k m) ≤ count (suc k) m)

  count_grows : (k m : ℕ) → count k m ≤ count (suc k) m
  count_grows k zero = omega arith
  count_grows k (suc m) = by (passes k m) (passes (suc k) m) (grows k m) (count_grows k m)
    where
      by : (a b : Bool) → (a ≡ true → b ≡ true) → count k m ≤ count (suc k) m → one_if a + count k m ≤ one_if b + count (suc k) m
      by true b f h = subst (λ b. 1 + count k m ≤ one_if b + count (suc k) m) (sym (f refl)) (omega (arith, h))
      by false b f h = omega (arith, h)

  stable_or_more : (k m : ℕ) → Stops m k
  stable_or_more k zero = inl (λ i h e. absurd (omega (arith, h)))
  stable_or_more k (suc m) = by (passes k m) (passes (suc k) m) refl refl (stable_or_more k m)
    where
      by : (a b : Bool) → passes k m ≡ a → passes (suc k) m ≡ b → Stops m k → IsStable (suc m) k ⊎ (suc (one_if a + count k m) ≤ one_if b + count (suc k) m)
      by true b p q (inl s) = inl (below_suc (λ i. passes (suc k) i ≡ true → passes k i ≡ true) m s (λ e. p))
      by true true p q (inr h) = inr (omega (arith, h))
      by true false p q (inr h) = absurd (true≢false (sym (grows k m p) ∙ q))
      by false true p q s = let grown = count_grows k m in inr (omega (arith, grown))
      by false false p q (inl s) = inl (below_suc (λ i. passes (suc k) i ≡ true → passes k i ≡ true) m s (λ e. absurd (true≢false (sym e ∙ q))))
      by false false p q (inr h) = inr (omega (arith, h))

  climbs : (m n : ℕ) → ((k : ℕ) × (k < n) × IsStable m k) ⊎ (n + count 0 m ≤ count n m)
  climbs m zero = inr (omega arith)
  climbs m (suc n) = by (climbs m n) (stable_or_more n m)
    where
      by : (((k : ℕ) × (k < n) × IsStable m k) ⊎ (n + count 0 m ≤ count n m)) → Stops m n → ((k : ℕ) × (k < suc n) × IsStable m k) ⊎ (suc n + count 0 m ≤ count (suc n) m)
      by (inl s) o = inl (s.0, (let h = s.1 in omega (arith, h)), s.2)
      by (inr h) (inl s) = inl (n, omega arith, s)
      by (inr h) (inr o) = inr (omega (arith, h, o))

  -- a level below m is stable for the first m numbers, or none of them passes at first
  pub stable_or_none : (m : ℕ) → ((k : ℕ) × (k < m) × IsStable m k) ⊎ ((i : ℕ) → i < m → passes 0 i ≡ true → ⊥)
  stable_or_none m = by (cases_lt 0 (count 0 m)) (climbs m m)
    where
      by : (0 < count 0 m) ⊎ (count 0 m ≤ 0) → ((k : ℕ) × (k < m) × IsStable m k) ⊎ (m + count 0 m ≤ count m m)
          → ((k : ℕ) × (k < m) × IsStable m k) ⊎ ((i : ℕ) → i < m → passes 0 i ≡ true → ⊥)
      by (inl h) (inl s) = inl s
      by (inl h) (inr o) = let most = count_at_most m m in absurd (omega (arith, h, o, most))
      by (inr h) s = inr (λ i g e. let some = count_some 0 m i g e in omega (arith, h, some))
