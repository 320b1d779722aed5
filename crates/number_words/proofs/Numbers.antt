-- Numbers as they are read.
use Rattle.std.proofs.Common.{◌≡◌, ℕ, ◌<◌, ◌≤◌, ◌^◌, Bool, true, false, ◌&&◌, cond, List, [], ◌∷◌, length, Some, None, Result, Ok, Err, refl, ap, subst, leb-true, arith}
use Rattle.std.specs.Prelude.{nat_le}
use Rattle.std.specs.Char.{is_ascii_digit}
use Rattle.std.specs.List.{list_all}
use Rattle.std.specs.Str.{all_ascii_digits}
use Rattle.std.specs.Str.Parse.{ParsesUnsigned, digits_value}
use Rattle.std.proofs.lemmas.Grind.{common_steps}
use Rattle.std.proofs.lemmas.Str.Parse.{IsNumeralModel, numerals_by_value, tells_all_ascii_digits, parse_digits}
use Rattle.number_words.specs.Numbers.{is_number, number_within}

own : IsNumeralModel (λ ds. all_ascii_digits ds ≡ true) (digits_value 10)
own = numerals_by_value _ tells_all_ascii_digits

-- each byte is a digit
pub all_digits : (text : List ℕ) → list_all is_ascii_digit text ≡ all_ascii_digits text
all_digits [] = refl
all_digits (c ∷ cs) = ap (λ rest. is_ascii_digit c && rest) (all_digits cs)

parts : (a b c : Bool) → (a && (b && c)) ≡ true → (a ≡ true) × (b ≡ true) × (c ≡ true)
parts true true true e = (refl, refl, refl)
parts true true false e = absurd (cc)
parts true false c e = absurd (cc)
parts false b c e = absurd (cc)

some_digits : (n : ℕ) → nat_le 1 n ≡ true → 0 < n
some_digits n e = grind (arith, common_steps)

module _ (most : ℕ) (fits : most < 2 ^ 64) where
  too_great : (n : ℕ) → most < n → nat_le n most ≡ false
  too_great n great = grind (arith, common_steps)

  unread_great : (text : List ℕ) → (0 < length text) → ((0 < length text) × (digits_value 10 text < 2 ^ 64) → ⊥) → most < digits_value 10 text
  unread_great text some none = by (nat_le (digits_value 10 text) most) refl
    where
      by : (t : Bool) → nat_le (digits_value 10 text) most ≡ t → most < digits_value 10 text
      by true e = let small : digits_value 10 text < 2 ^ 64 = grind (arith, common_steps) in absurd (none (some, small))
      by false e = grind (arith, common_steps)

  -- a number that was not read is too great
  pub number_unread : {E : Type 0} (text : List ℕ) (r : Result ℕ E) (e : E) → ParsesUnsigned 64 10 text r → r ≡ Err e → is_number text ≡ true → number_within most text ≡ None
  number_unread {E = E} text (Ok n) e h is form = absurd (cc)
  number_unread {E = E} text (Err e') e h is form =
      let digits = parts (nat_le 1 (length text)) (nat_le (length text) 20) (all_ascii_digits text) form in
      let some = some_digits (length text) digits.0 in
      let none = parse_digits own {E = E} 64 text (Err e') h digits.2 in
      rw (form, too_great (digits_value 10 text) (unread_great text some none)) refl

-- what a text has that tells a number: digits alone, and the number is at most the greatest
told_parts : (a b : Bool) (n k : ℕ) → cond (a && b) (Some n) None ≡ Some k → (a ≡ true) × (b ≡ true) × (n ≡ k)
told_parts true true n k e = (refl, refl, cc)
told_parts true false n k e = absurd (cc)
told_parts false b n k e = absurd (cc)

pub number_has_digits : (most : ℕ) (text : List ℕ) (n : ℕ) → number_within most text ≡ Some n → all_ascii_digits text ≡ true
number_has_digits most text n told =
    (parts (nat_le 1 (length text)) (nat_le (length text) 20) (all_ascii_digits text)
    (told_parts (is_number text) (nat_le (digits_value 10 text) most) (digits_value 10 text) n told).0).2

pub number_at_most : (most : ℕ) (text : List ℕ) (n : ℕ) → number_within most text ≡ Some n → n ≤ most
number_at_most most text n told =
    let found = told_parts (is_number text) (nat_le (digits_value 10 text) most) (digits_value 10 text) n told in
    subst (λ k. k ≤ most) found.2 (leb-true (digits_value 10 text) most found.1)
