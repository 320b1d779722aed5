-- The topmost operands, which stand at the end of a list.
use Rattle.std.proofs.Common.{◌≡◌, ℕ, ◌-◌, ◌≤◌, List, ◌++◌, length, take, drop, sym, arith, length-drop}
use Rattle.std.proofs.lemmas.List.{take-append-drop}

module _ {A : Type 0} (xs : List A) (len count : ℕ) (is : len ≡ length xs) (enough : count ≤ length xs) where
  -- there are so many
  pub as_many_on_top : length (drop (len - count) xs) ≡ count
  as_many_on_top = let n = length-drop (len - count) xs in omega (arith, n, is, enough)

-- they stand behind the others
pub under_top : {A : Type 0} (xs : List A) (k : ℕ) → xs ≡ take k xs ++ drop k xs
under_top xs k = sym (take-append-drop k xs)
