-- Tokens as they are printed, at the head of a text.
use Rattle.std.proofs.Common.{◌++◌, ◌/◌, ◌%◌, ◌*◌, Bool, Option, Some, None, unwrap_or, slice_index, nat_le, codes, IsUtf8, sym, subst, append_assoc, length-append, ◌&&◌, le-leb, lt-ltb, ltb-true, eqb-true, ◌≡◌, ℕ, zero, suc, ◌+◌, ◌<◌, ◌≤◌, ◌^◌, ◌==◌, true, false, List, [], ◌∷◌, length, take, ℤ, pos, negsuc, nat_lt, if◌then◌else◌, refl, ap, ap₂, ◌∙◌, arith}
use Rattle.std.specs.Char.{is_ascii_digit, is_ascii_lowercase, is_ascii_uppercase, digit_value}
use Rattle.std.specs.Fmt.{decimal, signed_decimal}
use Rattle.std.specs.List.{prefix_len, list_all}
use Rattle.std.specs.Str.Parse.{AllDigits, IsNumeral, digits_value}
use Rattle.std.proofs.lemmas.Fmt.{decimal_is_IsNumeral}
use Rattle.std.proofs.lemmas.Bool.{agree_below_at}
use Rattle.std.proofs.lemmas.Str.{is_utf8-from_IsUtf8}
use Rattle.std.proofs.Math.Seq.{take-append_seam, drop-append_seam}
use Rattle.std.proofs.lemmas.Str.Parse.{digit_from_value}
use Rattle.core_terms.specs.declared.format.Format.{Format}
use Rattle.core_terms.specs.Values.{int_fits}
use Rattle.lexemes.specs.declared.place.Place.{Place}
use Rattle.lexemes.specs.declared.fault.LexicalFault.TheVariants.{NumberRange, TextLong, Utf8}
use Rattle.lexemes.specs.Places.{behind}
use Rattle.hex.specs.Hex.{encode_lower, encode_with, lower_digits}
use Rattle.printed_syntax.specs.PrintedValues.{all_escaped, escaped, quoted_text}
use Rattle.lexemes.specs.Tokens.{Closed, TextToken, hex_digit, is_control, put, quoted_behind, text_limit, text_piece, Token, IntToken, Next, Taken, Wrong, digits_of, first_piece, int_piece, is_blank, minus_piece, negative, is_name_byte, tokens_from}
use Rattle.lexemes.specs.PieceViews.{head_piece}
use Rattle.lexemes.proofs.TokenLemmas.{tokens-taken}
use Rattle.lexemes.proofs.NumberLemmas.{both_true}

-- no byte that goes on with a name stands first
abbrev pub IsParted : List ℕ → Type 0
IsParted [] = Unit {0}
IsParted (b ∷ rest) = is_name_byte b ≡ false

-- these bytes are a token of the format at the head of a text
abbrev pub IsHeadToken : Format → List ℕ → Token → List ℕ → Type 0
IsHeadToken format bytes token rest = head_piece format (bytes ++ rest) ≡ Some (Taken token (length bytes))

-- a text that begins with a token has this token first
pub token_read : (format : Format) (bytes : List ℕ) (token : Token) (rest : List ℕ) (at : Place) → IsHeadToken format bytes token rest
    → tokens_from format at (bytes ++ rest) ≡ Next at token (tokens_from format (behind at bytes) rest)
token_read format bytes token rest at e =
    tokens-taken format (bytes ++ rest) at token (length bytes) (sym e)
    ∙ ap₂ (λ before others. Next at token (tokens_from format (behind at before) others)) (take-append_seam bytes rest) (drop-append_seam bytes rest)

-- a run of bytes that pass a test ends where others stand
run_is : (p : ℕ → Bool) (bytes rest : List ℕ) → list_all p bytes ≡ true → ((b : ℕ) → is_name_byte b ≡ false → p b ≡ false) → IsParted rest
    → prefix_len p (bytes ++ rest) ≡ length bytes
run_is p [] [] h stops parted = refl
run_is p [] (b ∷ rest) h stops parted = ap (λ t. if t then 1 + prefix_len p rest else zero) (stops b parted)
run_is p (b ∷ bytes) rest h stops parted =
    ap (λ t. if t then 1 + prefix_len p (bytes ++ rest) else zero) (both_true (p b) (list_all p bytes) h).0
    ∙ (let more = run_is p bytes rest (both_true (p b) (list_all p bytes) h).1 stops parted in omega arith)

pub run_taken : (p : ℕ → Bool) (bytes rest : List ℕ) → list_all p bytes ≡ true → ((b : ℕ) → is_name_byte b ≡ false → p b ≡ false) → IsParted rest
    → take (prefix_len p (bytes ++ rest)) (bytes ++ rest) ≡ bytes
run_taken p bytes rest h stops parted = ap (λ n. take n (bytes ++ rest)) (run_is p bytes rest h stops parted) ∙ take-append_seam bytes rest

is_digit : (c : ℕ) → digit_value c < 10 → is_ascii_digit c ≡ true
is_digit c h = grind (arith, digit_from_value)

all_digits : (ds : List ℕ) → AllDigits 10 ds → list_all is_ascii_digit ds ≡ true
all_digits [] h = refl
all_digits (d ∷ ds) h = ap (λ t. t && list_all is_ascii_digit ds) (is_digit d h.0) ∙ all_digits ds h.1

stops_digits : (b : ℕ) → is_name_byte b ≡ false → is_ascii_digit b ≡ false
stops_digits b h = grind (arith)

run_of_digits : (ds rest : List ℕ) → AllDigits 10 ds → IsParted rest → digits_of (ds ++ rest) ≡ ds
run_of_digits ds rest h parted = run_taken is_ascii_digit ds rest (all_digits ds h) stops_digits parted

-- a test that is passed over, and one that is met
pub passed : {A : Type 0} (test : Bool) (x y : A) → test ≡ false → (if test then x else y) ≡ y
passed true x y h = absurd (cc)
passed false x y h = refl

pub met : {A : Type 0} (test : Bool) (x y : A) → test ≡ true → (if test then x else y) ≡ x
met true x y h = refl
met false x y h = absurd (cc)

-- a digit is nothing that is asked for before it
no_blank : (b : ℕ) → is_ascii_digit b ≡ true → is_blank b ≡ false
no_blank b h = grind (arith)

no_comment : (b : ℕ) → is_ascii_digit b ≡ true → b == 35 ≡ false
no_comment b h = grind (arith)

no_small : (b : ℕ) → is_ascii_digit b ≡ true → is_ascii_lowercase b ≡ false
no_small b h = grind (arith)

no_capital : (b : ℕ) → is_ascii_digit b ≡ true → is_ascii_uppercase b ≡ false
no_capital b h = grind (arith)

no_arrow : (b : ℕ) → is_ascii_digit b ≡ true → b == 62 ≡ false
no_arrow b h = grind (arith)

first_digit : (format : Format) (b : ℕ) (rest : List ℕ) → is_ascii_digit b ≡ true
    → first_piece format b rest ≡ int_piece false (digits_of (b ∷ rest)) (length (digits_of (b ∷ rest)))
first_digit format b rest h =
    passed (is_blank b) _ _ (no_blank b h)
    ∙ (passed (b == 35) _ _ (no_comment b h)
    ∙ (passed (is_ascii_lowercase b) _ _ (no_small b h) ∙ (passed (is_ascii_uppercase b) _ _ (no_capital b h) ∙ met (is_ascii_digit b) _ _ h)))

-- the digits of a number are a token
pub int_at_head : (format : Format) (ds : List ℕ) (n : ℕ) (rest : List ℕ) → IsNumeral 10 ds → digits_value 10 ds ≡ n → nat_lt n (2 ^ 63) ≡ true → IsParted rest
    → IsHeadToken format ds (IntToken (pos n)) rest
int_at_head format [] n rest h value fits parted = absurd (omega (arith, h.0))
int_at_head format (b ∷ ds) n rest h value fits parted =
    ap (λ piece. Some piece)
    (first_digit format b (ds ++ rest) (is_digit b h.1.0)
    ∙ ap (λ digits. int_piece false digits (length digits)) (run_of_digits (b ∷ ds) rest h.1 parted)
    ∙ ap (λ n. if nat_lt n (2 ^ 63) then Taken (IntToken (pos n)) (length (b ∷ ds)) else Wrong NumberRange 0) value
    ∙ ap (λ test. if test then Taken (IntToken (pos n)) (length (b ∷ ds)) else Wrong NumberRange 0) fits)

-- and so they are behind a minus
behind_minus : (ds rest : List ℕ) → IsNumeral 10 ds → minus_piece (ds ++ rest) ≡ int_piece true (digits_of (ds ++ rest)) (length (digits_of (ds ++ rest)) + 1)
behind_minus [] rest h = absurd (omega (arith, h.0))
behind_minus (d ∷ ds) rest h = let digit = is_digit d h.1.0 in rw (no_arrow d digit, digit) refl

pub negative_at_head : (format : Format) (ds : List ℕ) (n : ℕ) (rest : List ℕ) → IsNumeral 10 ds → digits_value 10 ds ≡ suc n → nat_lt n (2 ^ 63) ≡ true → IsParted rest
    → IsHeadToken format (45 ∷ ds) (IntToken (negsuc n)) rest
negative_at_head format ds n rest h value fits parted =
    let small : suc n ≤ 2 ^ 63 = omega (arith, ltb-true n (2 ^ 63) fits) in
    let size : length ds + 1 ≡ suc (length ds) = omega arith in
    ap (λ piece. Some piece)
    (behind_minus ds rest h
    ∙ ap (λ digits. int_piece true digits (length digits + 1)) (run_of_digits ds rest h.1 parted)
    ∙ ap (λ n. if nat_le n (2 ^ 63) then Taken (IntToken (negative n)) (length ds + 1) else Wrong NumberRange 0) value
    ∙ ap (λ test. if test then Taken (IntToken (negsuc n)) (length ds + 1) else Wrong NumberRange 0) (le-leb (suc n) (2 ^ 63) small)
    ∙ ap (Taken (IntToken (negsuc n))) size)

-- the two digits of an escape have their values
some_from_unwrap : (o : Option ℕ) (d : ℕ) → d < 16 → unwrap_or o 99 ≡ d → o ≡ Some d
some_from_unwrap (Some v) d h e = ap Some e
some_from_unwrap None d h e = absurd (omega arith)

value_of_digit : (d : ℕ) → d < 16 → hex_digit (slice_index lower_digits d) ≡ Some d
value_of_digit d h =
    some_from_unwrap (hex_digit (slice_index lower_digits d)) d h
    (eqb-true (unwrap_or (hex_digit (slice_index lower_digits d)) 99) d
    (agree_below_at (λ d. unwrap_or (hex_digit (slice_index lower_digits d)) 99 == d) (λ d. true) 16 d refl h))

-- a byte that is printed between quotes is read back
abbrev IsReadBack : ℕ → Type 0
IsReadBack b = (offset : ℕ) (rest : List ℕ) → quoted_behind zero offset (escaped b ++ rest) ≡ put b (quoted_behind zero (offset + length (escaped b)) rest)

escape_back : (b : ℕ) → b < 128 → escaped b ≡ codes "\\x" ++ encode_lower (b ∷ []) → IsReadBack b
unfolding encode_with
escape_back b h e offset rest =
    let high : b / 16 < 16 = omega arith in
    let low : b % 16 < 16 = omega arith in
    let ascii : b / 16 < 8 = omega arith in
    let same : b / 16 * 16 + b % 16 ≡ b = omega arith in
    let place : offset + 1 + 1 + 1 + 1 ≡ offset + 4 = omega arith in
    rw (e, value_of_digit (b / 16) high, value_of_digit (b % 16) low, lt-ltb (b / 16) 8 ascii, same, place) refl

plain_back : (b : ℕ) → b == 34 ≡ false → b == 92 ≡ false → is_control b ≡ false → escaped b ≡ b ∷ [] → IsReadBack b
plain_back b q s c e offset rest = rw (e, q, s, c) refl

control_is_ascii : (b : ℕ) → is_control b ≡ true → b < 128
control_is_ascii b h = grind (arith)

by_tests : (b : ℕ) (q s n t c : Bool) → b == 34 ≡ q → b == 92 ≡ s → b == 10 ≡ n → b == 9 ≡ t → is_control b ≡ c → IsReadBack b
by_tests b true s n t c eq es en et ec = subst IsReadBack (sym (eqb-true b 34 eq)) (λ offset rest. ap (λ o. put 34 (quoted_behind zero o rest)) (omega arith))
by_tests b false true n t c eq es en et ec = subst IsReadBack (sym (eqb-true b 92 es)) (λ offset rest. ap (λ o. put 92 (quoted_behind zero o rest)) (omega arith))
by_tests b false false true t c eq es en et ec = subst IsReadBack (sym (eqb-true b 10 en)) (λ offset rest. ap (λ o. put 10 (quoted_behind zero o rest)) (omega arith))
by_tests b false false false true c eq es en et ec = subst IsReadBack (sym (eqb-true b 9 et)) (λ offset rest. ap (λ o. put 9 (quoted_behind zero o rest)) (omega arith))
by_tests b false false false false true eq es en et ec = escape_back b (control_is_ascii b ec) (rw (eq, es, en, et, ec) refl)
by_tests b false false false false false eq es en et ec = plain_back b eq es ec (rw (eq, es, en, et, ec) refl)

read_escaped : (b : ℕ) → IsReadBack b
read_escaped b = by_tests b (b == 34) (b == 92) (b == 10) (b == 9) (is_control b) refl refl refl refl refl

read_all : (bytes : List ℕ) (offset : ℕ) (rest : List ℕ) → quoted_behind zero offset (all_escaped bytes ++ 34 ∷ rest) ≡ Closed bytes (offset + length (all_escaped bytes) + 1)
read_all [] offset rest = ap (Closed []) (omega arith)
read_all (b ∷ bytes) offset rest =
    let size : offset + length (escaped b) + length (all_escaped bytes) + 1 ≡ offset + length (escaped b ++ all_escaped bytes) + 1 = omega (arith, length-append (escaped b) (all_escaped bytes)) in
    ap (quoted_behind zero offset) (append_assoc (escaped b) (all_escaped bytes) (34 ∷ rest))
    ∙ read_escaped b offset (all_escaped bytes ++ 34 ∷ rest)
    ∙ ap (put b) (read_all bytes (offset + length (escaped b)) rest)
    ∙ ap (Closed (b ∷ bytes)) size

-- a text in quotes is a token, whatever stands behind it
pub text_at_head : (format : Format) (bytes rest : List ℕ) → IsUtf8 bytes → length bytes ≤ text_limit → IsHeadToken format (quoted_text bytes) (TextToken bytes) rest
text_at_head format bytes rest utf8 short =
    let size : 1 + length (all_escaped bytes) + 1 ≡ suc (length (all_escaped bytes ++ codes "\"")) = omega (arith, length-append (all_escaped bytes) (codes "\"")) in
    ap (λ piece. Some piece)
    (ap (λ others. text_piece (quoted_behind zero 1 others)) (append_assoc (all_escaped bytes) (codes "\"") rest)
    ∙ ap text_piece (read_all bytes 1 rest)
    ∙ ap (λ test. if test then (if nat_le (length bytes) text_limit then Taken (TextToken bytes) (1 + length (all_escaped bytes) + 1) else Wrong TextLong 0) else Wrong Utf8 0) (is_utf8-from_IsUtf8 bytes utf8)
    ∙ ap (λ test. if test then Taken (TextToken bytes) (1 + length (all_escaped bytes) + 1) else Wrong TextLong 0) (le-leb (length bytes) text_limit short)
    ∙ ap (Taken (TextToken bytes)) size)

pub int_token : (format : Format) (z : ℤ) (rest : List ℕ) → int_fits z ≡ true → IsParted rest → IsHeadToken format (signed_decimal z) (IntToken z) rest
int_token format (pos n) rest h parted =
    let numeral = decimal_is_IsNumeral n (omega (arith, ltb-true n (2 ^ 63) h)) in
    int_at_head format (decimal n) n rest numeral.0 numeral.1 h parted
int_token format (negsuc n) rest h parted =
    let numeral = decimal_is_IsNumeral (suc n) (omega (arith, ltb-true n (2 ^ 63) h)) in
    negative_at_head format (decimal (suc n)) n rest numeral.0 numeral.1 h parted
