-- What stands in tables whose values are related, before and behind a change.
use Rattle.std.proofs.Common.{ℕ, Bool, true, false, List, [], ◌∷◌, Some, nat_eq, nat_lt, if◌then◌else◌, refl, subst}
use Rattle.session_meaning.specs.Tables.{Numbered, find, put, remove}
use Rattle.session_tables.specs.Related.{AreRows, AreSame}

module _ {A B : Type 0} (R : A → B → Type 0) where
  pub find_related : (n : ℕ) (xs : List (Numbered A)) (ys : List (Numbered B)) → AreRows R xs ys → AreSame R (find n xs) (find n ys)
  find_related n [] [] h = tt
  find_related n (x ∷ xs) (y ∷ ys) h =
      subst (λ (m : ℕ). AreSame R (find n (x ∷ xs)) (if nat_eq m n then Some y.value else find n ys)) h.0 (by (nat_eq x.number n) (find_related n xs ys h.2))
    where
      by : (t : Bool) → AreSame R (find n xs) (find n ys) → AreSame R (if t then Some x.value else find n xs) (if t then Some y.value else find n ys)
      by true ih = h.1
      by false ih = ih
  find_related n [] (y ∷ ys) h = absurd h
  find_related n (x ∷ xs) [] h = absurd h

  pub remove_related : (n : ℕ) (xs : List (Numbered A)) (ys : List (Numbered B)) → AreRows R xs ys → AreRows R (remove n xs) (remove n ys)
  remove_related n [] [] h = tt
  remove_related n (x ∷ xs) (y ∷ ys) h =
      subst (λ (m : ℕ). AreRows R (remove n (x ∷ xs)) (if nat_eq m n then remove n ys else y ∷ remove n ys)) h.0
      (by (nat_eq x.number n) (remove_related n xs ys h.2))
    where
      by : (t : Bool) → AreRows R (remove n xs) (remove n ys)
          → AreRows R (if t then remove n xs else x ∷ remove n xs) (if t then remove n ys else y ∷ remove n ys)
      by true ih = ih
      by false ih = (h.0, h.1, ih)
  remove_related n [] (y ∷ ys) h = absurd h
  remove_related n (x ∷ xs) [] h = absurd h

  pub put_related : (n : ℕ) (a : A) (b : B) (xs : List (Numbered A)) (ys : List (Numbered B)) → R a b → AreRows R xs ys
      → AreRows R (put n a xs) (put n b ys)
  put_related n a b [] [] r h = (refl, r, tt)
  put_related n a b (x ∷ xs) (y ∷ ys) r h =
      subst (λ (m : ℕ). AreRows R (put n a (x ∷ xs)) (if nat_lt n m then record { number = n; value = b } ∷ y ∷ ys
      else (if nat_eq m n then record { number = n; value = b } ∷ ys else y ∷ put n b ys))) h.0
      (by (nat_lt n x.number) (nat_eq x.number n) (put_related n a b xs ys r h.2))
    where
      by : (t u : Bool) → AreRows R (put n a xs) (put n b ys)
          → AreRows R (if t then record { number = n; value = a } ∷ x ∷ xs else (if u then record { number = n; value = a } ∷ xs else x ∷ put n a xs))
          (if t then record { number = n; value = b } ∷ y ∷ ys else (if u then record { number = n; value = b } ∷ ys else y ∷ put n b ys))
      by true u ih = (refl, r, h)
      by false true ih = (refl, r, h.2)
      by false false ih = (h.0, h.1, ih)
  put_related n a b [] (y ∷ ys) r h = absurd h
  put_related n a b (x ∷ xs) [] r h = absurd h
