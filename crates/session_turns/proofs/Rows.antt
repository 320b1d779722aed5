-- Lists that stand in a relation, one by one.
use Rattle.std.proofs.Common.{◌≡◌, ℕ, zero, suc, ◌<◌, List, [], ◌∷◌, ◌++◌, length, drop, get_or, Option, Some, None, IfSome, IfNone, Result, Ok, Err, OnErr, refl, ap, subst, arith}
use Rattle.session_turns.specs.Rows.{AreAlike}

module _ {A B : Type 0} where
  pub alike_length : (R : A → B → Type 0) (xs : List A) (ys : List B) → AreAlike R xs ys → length xs ≡ length ys
  alike_length R [] [] h = refl
  alike_length R (a ∷ xs) (b ∷ ys) h = ap suc (alike_length R xs ys h.1)
  alike_length R [] (b ∷ ys) h = elim h [ ]
  alike_length R (a ∷ xs) [] h = elim h [ ]

  pub alike_kept : (R S : A → B → Type 0) → ((a : A) (b : B) → R a b → S a b) → (xs : List A) (ys : List B) → AreAlike R xs ys → AreAlike S xs ys
  alike_kept R S f [] [] h = tt
  alike_kept R S f (a ∷ xs) (b ∷ ys) h = (f a b h.0, alike_kept R S f xs ys h.1)
  alike_kept R S f [] (b ∷ ys) h = elim h [ ]
  alike_kept R S f (a ∷ xs) [] h = elim h [ ]

  pub alike_more : (R : A → B → Type 0) (xs xs' : List A) (ys ys' : List B) → AreAlike R xs ys → AreAlike R xs' ys' → AreAlike R (xs ++ xs') (ys ++ ys')
  alike_more R [] xs' [] ys' h j = j
  alike_more R (a ∷ xs) xs' (b ∷ ys) ys' h j = (h.0, alike_more R xs xs' ys ys' h.1 j)
  alike_more R [] xs' (b ∷ ys) ys' h j = elim h [ ]
  alike_more R (a ∷ xs) xs' [] ys' h j = elim h [ ]

  pub alike_get : (R : A → B → Type 0) (i : ℕ) (xs : List A) (ys : List B) (x : A) (y : B) → AreAlike R xs ys → i < length xs → R (get_or xs i x) (get_or ys i y)
  alike_get R i [] ys x y h l = absurd (omega arith)
  alike_get R i (a ∷ xs) [] x y h l = elim h [ ]
  alike_get R zero (a ∷ xs) (b ∷ ys) x y h l = h.0
  alike_get R (suc i) (a ∷ xs) (b ∷ ys) x y h l = alike_get R i xs ys x y h.1 (omega arith)

  -- at a place stand two that are so
  pub record IsAt (R : A → B → Type 0) (i : ℕ) (a : A) (ys : List B) : Type 0 where
    pub other : B
    pub alike : R a other
    pub is : drop i ys ≡ other ∷ drop (suc i) ys

  pub alike_at : (R : A → B → Type 0) (i : ℕ) (xs : List A) (ys : List B) (a : A) → AreAlike R xs ys → i < length xs → IsAt R i (get_or xs i a) ys
  alike_at R i [] ys a h l = absurd (omega arith)
  alike_at R i (a ∷ xs) [] d h l = elim h [ ]
  alike_at R zero (a ∷ xs) (b ∷ ys) d h l = record { other = b; alike = h.0; is = refl }
  alike_at R (suc i) (a ∷ xs) (b ∷ ys) d h l = let at = alike_at R i xs ys d h.1 (omega arith) in record { other = at.other; alike = at.alike; is = at.is }

-- what holds of a failure holds of what follows from it
pub if_err : {A E : Type 0} (r : Result A E) (X Y : Type 0) → (X → Y) → OnErr r X → OnErr r Y
if_err (Ok a) X Y f h = tt
if_err (Err e) X Y f h = f h

-- what holds of an option's value holds of this one
pub of_some : {A : Type 0} (P : A → Type 0) (o : Option A) (x : A) → o ≡ Some x → IfSome o P → P x
of_some P o x e h = subst (λ o. IfSome o P) e h

pub of_none : {A : Type 0} (X : Type 0) (o : Option A) → o ≡ None → IfNone o X → X
of_none X o e h = subst (λ o. IfNone o X) e h
