-- The first place in a list whose element passes a test.
use Rattle.std.proofs.Common.{◌≡◌, ℕ, suc, Bool, true, false, List, [], ◌∷◌, map, Some, None, option_map, if◌then◌else◌, refl, ap, ◌∙◌, sym, cond, not, nat_lt, length, ◌+◌, lt-ltb, ltb-true, arith}
use Rattle.std.specs.List.{position, position_or_len}

-- the test of two numbers is that of their successors
lt_suc : (a b : ℕ) → nat_lt (1 + a) (suc b) ≡ nat_lt a b
lt_suc a b = by (nat_lt a b) refl
  where
    by : (t : Bool) → nat_lt a b ≡ t → nat_lt (1 + a) (suc b) ≡ t
    by true e = lt-ltb (1 + a) (suc b) (omega (arith, ltb-true a b e))
    by false e = by_other (nat_lt (1 + a) (suc b)) refl
      where
        by_other : (u : Bool) → nat_lt (1 + a) (suc b) ≡ u → u ≡ false
        by_other false f = refl
        by_other true f = sym (lt-ltb a b (omega (arith, ltb-true (1 + a) (suc b) f))) ∙ e

-- the first place behind an element that fails the test is one more
pub one_later : {A : Type 0} (p : A → Bool) (xs : List A) → cond (nat_lt (1 + position_or_len p xs) (suc (length xs))) (Some (1 + position_or_len p xs)) None ≡ option_map suc (position p xs)
one_later p xs = ap (λ t. cond t (Some (1 + position_or_len p xs)) None) (lt_suc (position_or_len p xs) (length xs)) ∙ by (nat_lt (position_or_len p xs) (length xs)) (position_or_len p xs)
  where
    by : (t : Bool) (n : ℕ) → cond t (Some (1 + n)) None ≡ option_map suc (cond t (Some n) None)
    by true n = ap Some (omega arith)
    by false n = refl

-- the first place is 0 where the first element passes the test, else one more than among the others
pub first_place : {A : Type 0} (p : A → Bool) (x : A) (xs : List A) → position p (x ∷ xs) ≡ (if p x then Some 0 else option_map suc (position p xs))
first_place p x xs = by (p x)
  where
    by : (b : Bool) → cond (nat_lt (cond (not b) (1 + position_or_len p xs) 0) (suc (length xs))) (Some (cond (not b) (1 + position_or_len p xs) 0)) None
        ≡ (if b then Some 0 else option_map suc (position p xs))
    by true = ap (λ t. cond t (Some 0) None) (lt-ltb 0 (suc (length xs)) (omega arith))
    by false = one_later p xs

-- the first place where what the elements give passes the test
pub place_of_map : {A B : Type 0} (f : A → B) (p : B → Bool) (xs : List A) → position (λ x. p (f x)) xs ≡ position p (map f xs)
place_of_map f p [] = refl
place_of_map f p (x ∷ xs) =
    first_place (λ x. p (f x)) x xs ∙ ap (λ place. if p (f x) then Some 0 else option_map suc place) (place_of_map f p xs) ∙ sym (first_place p (f x) (map f xs))
