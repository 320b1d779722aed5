-- Lists, and what a function makes of their members.
use Rattle.std.proofs.Common.{◌≡◌, ◌⊎◌, inl, inr, ℕ, zero, suc, ◌<◌, List, [], ◌∷◌, ◌++◌, length, map, Some, slice_get, arith, refl, ap}

module _ {A B : Type 0} (f : A → B) where
  pub length-map : (xs : List A) → length (map f xs) ≡ length xs
  length-map [] = refl
  length-map (x ∷ xs) = ap suc (length-map xs)

  pub map_push : (xs : List A) (x : A) → map f (xs ++ x ∷ []) ≡ map f xs ++ f x ∷ []
  map_push [] x = refl
  map_push (y ∷ ys) x = ap (λ zs. f y ∷ zs) (map_push ys x)

  pub map_at : (xs : List A) (i : ℕ) (x : A) → slice_get xs i ≡ Some x → slice_get (map f xs) i ≡ Some (f x)
  map_at [] i x h = absurd (cc)
  map_at (y ∷ ys) zero x h = let same : y ≡ x = cc in ap (λ x. Some (f x)) same
  map_at (y ∷ ys) (suc i) x h = map_at ys i x h

  pub at_map : (xs : List A) (i : ℕ) (z : B) → slice_get (map f xs) i ≡ Some z → (x : A) × (slice_get xs i ≡ Some x) × (f x ≡ z)
  at_map [] i z h = absurd (cc)
  at_map (y ∷ ys) zero z h = (y, refl, let same : f y ≡ z = cc in same)
  at_map (y ∷ ys) (suc i) z h = at_map ys i z h

pub at_push : {A : Type 0} (xs : List A) (e : A) (i : ℕ) (x : A) → slice_get (xs ++ e ∷ []) i ≡ Some x → (slice_get xs i ≡ Some x) ⊎ ((i ≡ length xs) × (e ≡ x))
at_push [] e zero x h = inr (refl, let same : e ≡ x = cc in same)
at_push [] e (suc i) x h = absurd (cc)
at_push (y ∷ ys) e zero x h = inl h
at_push (y ∷ ys) e (suc i) x h = elim (at_push ys e i x h) [ inl l ↦ inl l | inr r ↦ inr (ap suc r.0, r.1) ]

pub at_more : {A : Type 0} (xs ys : List A) (i : ℕ) (x : A) → slice_get xs i ≡ Some x → slice_get (xs ++ ys) i ≡ Some x
at_more [] ys i x h = absurd (cc)
at_more (z ∷ zs) ys zero x h = h
at_more (z ∷ zs) ys (suc i) x h = at_more zs ys i x h

pub at_within : {A : Type 0} (xs : List A) (i : ℕ) (x : A) → slice_get xs i ≡ Some x → i < length xs
at_within [] i x h = absurd (cc)
at_within (y ∷ ys) zero x h = omega arith
at_within (y ∷ ys) (suc i) x h = let rest = at_within ys i x h in omega (arith, rest)
