-- Ints, as std reads them.
use Rattle.std.proofs.Common.{◌≡◌, ℕ, zero, suc, ◌+◌, ◌^◌, ◌<◌, ◌≤◌, Bool, true, false, cond, List, [], ◌∷◌, length, take, ℤ, pos, neg_ℤ, Some, None, Result, Ok, Err, refl, sym, ap, subst, add-one, ◌∙◌, arith, get_or, w64}
use Rattle.std.specs.Prelude.{nat_le, nat_lt, ◌&&◌, ◌==◌}
use Rattle.std.specs.List.{prefix_len}
use Rattle.std.proofs.lemmas.Bool.Decides.{nat_tests}
use Rattle.std.specs.Char.{is_ascii_digit, is_ascii_lowercase, is_ascii_uppercase}
use Rattle.std.specs.Result.{result_ok}
use Rattle.std.specs.Str.{all_ascii_digits, IsAscii, IsUtf8}
use Rattle.std.specs.Str.Parse.{ParsesSigned, digits_value}
use Rattle.std.proofs.lemmas.Grind.{common_steps}
use Rattle.std.proofs.lemmas.List.Sums.{take_while-cons}
use Rattle.std.proofs.lemmas.Str.{IsUtf8-from_ascii}
use Rattle.std.proofs.lemmas.Str.Parse.{IsNumeralModel, numerals_by_value, tells_all_ascii_digits, parse_signed_digits, parse_signed_minus}
use Rattle.core_terms.specs.declared.format.Format.{Format}
use Rattle.lexemes.specs.Tokens.{negative, digits_of, Piece, is_blank, int_piece, minus_piece, first_piece}
use Rattle.lexemes.specs.PieceViews.{IsDigits, int_among}

own : IsNumeralModel (λ ds. all_ascii_digits ds ≡ true) (digits_value 10)
own = numerals_by_value _ tells_all_ascii_digits

pub both_true : (a b : Bool) → (a && b) ≡ true → (a ≡ true) × (b ≡ true)
both_true true b h = (refl, h)
both_true false b h = absurd (cc)

digit_is_ascii : (c : ℕ) → is_ascii_digit c ≡ true → c < 128
digit_is_ascii c h = grind (arith, common_steps)

digits_are_ascii : (digits : List ℕ) → all_ascii_digits digits ≡ true → IsAscii digits
digits_are_ascii [] h i = omega arith
digits_are_ascii (c ∷ cs) h zero = digit_is_ascii c (both_true (is_ascii_digit c) (all_ascii_digits cs) h).0
digits_are_ascii (c ∷ cs) h (suc i) = digits_are_ascii cs (both_true (is_ascii_digit c) (all_ascii_digits cs) h).1 i

minus_is_ascii : (digits : List ℕ) → all_ascii_digits digits ≡ true → IsAscii (45 ∷ digits)
minus_is_ascii digits h zero = omega arith
minus_is_ascii digits h (suc i) = digits_are_ascii digits h i

pub digits_are_utf8 : (digits : List ℕ) → IsDigits digits → IsUtf8 digits
digits_are_utf8 digits h = IsUtf8-from_ascii digits (digits_are_ascii digits h.1)

pub minus_is_utf8 : (digits : List ℕ) → IsDigits digits → IsUtf8 (45 ∷ digits)
minus_is_utf8 digits h = IsUtf8-from_ascii (45 ∷ digits) (minus_is_ascii digits h.1)

neg_pos : (n : ℕ) → neg_ℤ (pos n) ≡ negative n
neg_pos zero = refl
neg_pos (suc n) = refl

some_among : (test : Bool) (z other : ℤ) → test ≡ true → z ≡ other → Some z ≡ cond test (Some other) None
some_among true z other h e = ap (λ z. Some z) e
some_among false z other h e = absurd (cc)

none_among : (test : Bool) (z : ℤ) → (test ≡ true → ⊥) → None ≡ cond test (Some z) None
none_among true z h = absurd (h refl)
none_among false z h = refl

pub plain_read : {E : Type 0} (digits : List ℕ) (r : Result ℤ E) → ParsesSigned w64 10 digits r → IsDigits digits → result_ok r ≡ int_among false digits
plain_read {E = E} digits (Ok z) h is =
    let n = digits_value 10 digits in
    let found = parse_signed_digits own {E = E} w64 digits (Ok z) h is.1 in
    let small : n < 2 ^ 63 = found.0.1 in
    some_among (nat_lt n (2 ^ 63)) z (pos n) (grind (arith, common_steps)) found.1
plain_read {E = E} digits (Err e) h is =
    let n = digits_value 10 digits in
    let none = parse_signed_digits own {E = E} w64 digits (Err e) h is.1 in
    none_among (nat_lt n (2 ^ 63)) (pos n) (λ t. let small : n < 2 ^ 63 = grind (arith, common_steps) in none (is.0, small))

pub minus_read : {E : Type 0} (digits : List ℕ) (r : Result ℤ E) → ParsesSigned w64 10 (45 ∷ digits) r → IsDigits digits → result_ok r ≡ int_among true digits
minus_read {E = E} digits (Ok z) h is =
    let n = digits_value 10 digits in
    let found = parse_signed_minus own {E = E} w64 (45 ∷ digits) (Ok z) h refl in
    let small : n ≤ 2 ^ 63 = found.0.2 in
    some_among (nat_le n (2 ^ 63)) z (negative n) (grind (arith, common_steps)) (found.1 ∙ neg_pos n)
minus_read {E = E} digits (Err e) h is =
    let n = digits_value 10 digits in
    let none = parse_signed_minus own {E = E} w64 (45 ∷ digits) (Err e) h refl in
    none_among (nat_le n (2 ^ 63)) (negative n) (λ t. let small : n ≤ 2 ^ 63 = grind (arith, common_steps) in none (is.1, is.0, small))

all_digits-run : (digit : Bool) (c : ℕ) (run : List ℕ) → is_ascii_digit c ≡ digit → all_ascii_digits run ≡ true → all_ascii_digits (cond digit (c ∷ run) []) ≡ true
all_digits-run true c run h all = rw (h, all)
all_digits-run false c run h all = refl

-- the digits that a text begins with are digits
pub run_is_digits : (text : List ℕ) → all_ascii_digits (digits_of text) ≡ true
run_is_digits [] = refl
run_is_digits (c ∷ cs) =
    ap all_ascii_digits (take_while-cons is_ascii_digit c cs) ∙ all_digits-run (is_ascii_digit c) c (digits_of cs) refl (run_is_digits cs)

is_digit : (b : ℕ) → 48 ≤ b → b ≤ 57 → is_ascii_digit b ≡ true
is_digit b low high = grind (arith, nat_tests)

digits_run : (b : ℕ) (rest : List ℕ) → is_ascii_digit b ≡ true → IsDigits (digits_of (b ∷ rest))
digits_run b rest h =
    let run : digits_of (b ∷ rest) ≡ b ∷ digits_of rest = rw (take_while-cons is_ascii_digit b rest, h) in
    (subst (λ ds. 0 < length ds) (sym run) (omega arith), run_is_digits (b ∷ rest))

passed : (test : Bool) (x y : Piece) → test ≡ false → cond test x y ≡ y
passed true x y h = absurd (cc)
passed false x y h = refl

met : (test : Bool) (x y : Piece) → test ≡ true → cond test x y ≡ x
met true x y h = refl
met false x y h = absurd (cc)

-- the piece that begins with a digit
first_digit : (format : Format) (b : ℕ) (rest : List ℕ) → 48 ≤ b → b ≤ 57
    → first_piece format b rest ≡ int_piece false (digits_of (b ∷ rest)) (length (digits_of (b ∷ rest)))
first_digit format b rest low high =
    passed (is_blank b) _ _ (grind (arith, nat_tests))
    ∙ (passed (b == 35) _ _ (grind (arith, nat_tests))
    ∙ (passed (is_ascii_lowercase b) _ _ (grind (arith, nat_tests))
    ∙ (passed (is_ascii_uppercase b) _ _ (grind (arith, nat_tests))
    ∙ met (is_ascii_digit b) _ _ (is_digit b low high))))

minus_digit : (b : ℕ) (rest : List ℕ) → 48 ≤ b → b ≤ 57
    → minus_piece (b ∷ rest) ≡ int_piece true (digits_of (b ∷ rest)) (length (digits_of (b ∷ rest)) + 1)
minus_digit b rest low high = passed (b == 62) _ _ (grind (arith, nat_tests)) ∙ met (is_ascii_digit b) _ _ (is_digit b low high)

-- what was found at the digits that a text begins with
pub first_int : (format : Format) (text : List ℕ) (b : ℕ) (rest : List ℕ) (size : ℕ) (found : Piece) → text ≡ b ∷ rest → size ≡ prefix_len is_ascii_digit text → 48 ≤ b → b ≤ 57
    → (IsDigits (take size text) → found ≡ int_piece false (take size text) (length (take size text))) → found ≡ first_piece format b rest
first_int format text b rest size found e n low high h =
    let run : take size text ≡ digits_of (b ∷ rest) = ap (λ k. take k text) n ∙ ap digits_of e in
    h (subst IsDigits (sym run) (digits_run b rest (is_digit b low high)))
    ∙ (ap (λ digits. int_piece false digits (length digits)) run ∙ sym (first_digit format b rest low high))

-- and behind a `-`
pub minus_int : (text behind : List ℕ) (size : ℕ) (found : Piece) → text ≡ 45 ∷ behind → size ≡ prefix_len is_ascii_digit behind
    → 0 < length behind → 48 ≤ get_or behind 0 0 → get_or behind 0 0 ≤ 57
    → ((digits : List ℕ) → IsDigits digits → take (size + 1) text ≡ 45 ∷ digits → found ≡ int_piece true digits (length digits + 1)) → found ≡ minus_piece behind
minus_int text [] size found e n some low high h = absurd (omega arith)
minus_int text (b ∷ rest) size found e n some low high h =
    let run : take (size + 1) text ≡ 45 ∷ digits_of (b ∷ rest) =
    ap (λ k. take k text) (add-one size) ∙ (ap (take (suc size)) e ∙ ap (λ k. 45 ∷ take k (b ∷ rest)) n) in
    h (digits_of (b ∷ rest)) (digits_run b rest (is_digit b low high)) run ∙ sym (minus_digit b rest low high)
