-- Items of a list by their places.
use Rattle.std.proofs.Common.{◌≡◌, ◌≢◌, inl, inr, ℕ, zero, suc, ◌+◌, ◌<◌, ◌≤◌, Bool, true, false, List, [], ◌∷◌, length, take, Some, None, option_map, slice_get, bytes_eq, if◌then◌else◌, refl, sym, ap, subst, arith}
use Rattle.std.proofs.lemmas.Bool.{cases_eq, cases_lt}
use Rattle.std.proofs.lemmas.Option.{slice_get_within}
use Rattle.std.proofs.lemmas.Slice.Eq.{bytes_eq-Decides}
use Rattle.ideal_meaning.specs.Frames.{place_of}

module _ {A : Type 0} where
  -- the front of a list
  pub in_front : (n k : ℕ) (x : A) (xs : List A) → slice_get (take n xs) k ≡ Some x → slice_get xs k ≡ Some x
  in_front zero k x xs e = absurd (cc)
  in_front (suc n) k x [] e = e
  in_front (suc n) zero x (y ∷ xs) e = e
  in_front (suc n) (suc k) x (y ∷ xs) e = in_front n k x xs e

  pub front_within : (n k : ℕ) (x : A) (xs : List A) → slice_get (take n xs) k ≡ Some x → k < n
  front_within zero k x xs e = absurd (cc)
  front_within (suc n) k x [] e = absurd (cc)
  front_within (suc n) zero x (y ∷ xs) e = omega arith
  front_within (suc n) (suc k) x (y ∷ xs) e = let h = front_within n k x xs e in omega (arith, h)

  pub of_front : (n k : ℕ) (xs : List A) → k < n → slice_get (take n xs) k ≡ slice_get xs k
  of_front zero k xs h = absurd (omega (arith, h))
  of_front (suc n) k [] h = refl
  of_front (suc n) zero (y ∷ xs) h = refl
  of_front (suc n) (suc k) (y ∷ xs) h = let l : k < n = omega (arith, h) in of_front n k xs l

  pub gone : (k : ℕ) (xs : List A) → slice_get xs k ≡ None → length xs ≤ k
  gone k [] e = omega arith
  gone zero (x ∷ xs) e = absurd (cc)
  gone (suc k) (x ∷ xs) e = let h = gone k xs e in omega (arith, h)

  pub none_past : (k : ℕ) (x : A) (xs : List A) → length xs ≤ k → slice_get xs k ≢ Some x
  none_past k x xs h e = let w = slice_get_within xs k x e in absurd (omega (arith, h, w))

  -- a walk: no item before the place is x
  pub walks_on : (place : ℕ) (x : A) (xs : List A) → ((k : ℕ) → k < place → slice_get xs k ≢ Some x) → slice_get xs place ≢ Some x
      → (k : ℕ) → k < place + 1 → slice_get xs k ≢ Some x
  walks_on place x xs before here k h =
      elim (cases_eq k place) [
        | inl same ↦ subst (λ k. slice_get xs k ≢ Some x) (sym same) here
        | inr other ↦ before k (omega (arith, h, other))
      ]

  pub walked_all : (place : ℕ) (x : A) (xs : List A) → ((k : ℕ) → k < place → slice_get xs k ≢ Some x) → length xs ≤ place → (k : ℕ) → slice_get xs k ≢ Some x
  walked_all place x xs before past k =
      elim (cases_lt k place) [
        | inl sooner ↦ before k sooner
        | inr later ↦ none_past k x xs (omega (arith, later, past))
      ]

-- what the test on bytes says
pub same_bytes : (p q : List ℕ) → bytes_eq q p ≡ true → q ≡ p
same_bytes p q e = (bytes_eq-Decides q p).0 e

pub eq_bytes : (p : List ℕ) → bytes_eq p p ≡ true
eq_bytes p = (bytes_eq-Decides p p).1 refl

-- the least place
pub placed : (k : ℕ) (p : List ℕ) (ps : List (List ℕ)) → slice_get ps k ≡ Some p → ((j : ℕ) → j < k → slice_get ps j ≢ Some p) → place_of p ps ≡ Some k
placed k p [] e before = absurd (cc)
placed zero p (q ∷ ps) e before = let s : q ≡ p = cc in rw (s, eq_bytes p) refl
placed (suc k) p (q ∷ ps) e before = by (bytes_eq q p) refl (placed k p ps e (λ j h. before (suc j) (omega (arith, h))))
  where
    by : (b : Bool) → bytes_eq q p ≡ b → place_of p ps ≡ Some k → (if b then Some 0 else option_map suc (place_of p ps)) ≡ Some (suc k)
    by true t more = absurd (before zero (omega arith) (ap Some (same_bytes p q t)))
    by false t more = ap (option_map suc) more

pub unplaced : (p : List ℕ) (ps : List (List ℕ)) → ((j : ℕ) → slice_get ps j ≢ Some p) → place_of p ps ≡ None
unplaced p [] none = refl
unplaced p (q ∷ ps) none = by (bytes_eq q p) refl (unplaced p ps (λ j. none (suc j)))
  where
    by : (b : Bool) → bytes_eq q p ≡ b → place_of p ps ≡ None → (if b then Some 0 else option_map suc (place_of p ps)) ≡ None
    by true t more = absurd (none zero (ap Some (same_bytes p q t)))
    by false t more = ap (option_map suc) more

-- the last of the pushed ones, by those that were kept before
pub kept_again : (n : ℕ) (p : List ℕ) (pushed : List (List ℕ)) → take n (p ∷ take n pushed) ≡ take n (p ∷ pushed)
kept_again zero p pushed = refl
kept_again (suc n) p pushed = ap (λ ps. p ∷ ps) (shorter n pushed)
  where
    shorter : (n : ℕ) (ps : List (List ℕ)) → take n (take (suc n) ps) ≡ take n ps
    shorter zero ps = refl
    shorter (suc n) [] = refl
    shorter (suc n) (q ∷ ps) = ap (λ ps. q ∷ ps) (shorter n ps)
