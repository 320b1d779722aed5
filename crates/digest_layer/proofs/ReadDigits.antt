-- The text of what was read from hexadecimal digits.
use Rattle.std.proofs.Common.{◌≡◌, ℕ, ◌+◌, ◌*◌, ◌/◌, ◌%◌, ◌<◌, ◌==◌, ◌&&◌, Bool, true, List, [], ◌∷◌, length, slice_index, Option, Some, None, Result, Err, unwrap_or, is_some, Ok, refl, sym, ap, ap₂, ◌∙◌, arith, eqb-true}
use Rattle.std.proofs.lemmas.Bool.{agree_below_at, and_parts}
use Rattle.std.proofs.lemmas.List.Elements.{All-head, All-tail}
use Rattle.std.specs.Prelude.{IfSome, MatchOption}
use Rattle.std.specs.Option.{IsSomeAnd}
use Rattle.std.specs.Result.{result_ok}
use Rattle.std.specs.List.{AllPass}
use Rattle.std.specs.Char.{to_ascii_lowercase}
use Rattle.std.specs.Str.{str_to_ascii_lowercase}
use Rattle.hex.specs.Hex.{decode_pairs, decode_sized, encode_lower, encode_with, hex_digit_value, is_hex_digit, lower_digits, pair_value}
use Rattle.hex.specs.declared.error.FromHexError.{FromHexError}
use Rattle.core_terms.specs.declared.digest.Digest.{Digest}
use Rattle.hex.proofs.HexLemmas.{IsOk-decode_sized, decode_of-even, decode_sized-twice}
use Rattle.hex.proofs.Pairs.{cons_byte, decode_pairs-ok_pair}

-- a digit has a value below 16, whose lower-case digit is the digit in lower case
abbrev IsDigit : ℕ → Type 0
IsDigit c = (v : ℕ) × (hex_digit_value c ≡ Some v) × (v < 16) × (slice_index lower_digits v ≡ to_ascii_lowercase c)

-- the last part as a test, which computes
abbrev is_lower : ℕ → Bool
is_lower c = slice_index lower_digits (unwrap_or (hex_digit_value c) 0) == to_ascii_lowercase c

digit_small : (c v : ℕ) → hex_digit_value c ≡ Some v → v < 16
digit_small c v h = grind (arith)

digit_is_ascii : (c : ℕ) → is_hex_digit c ≡ true → c < 128
digit_is_ascii c h = grind (arith)

some_of : (o : Option ℕ) → is_some o ≡ true → (v : ℕ) × (o ≡ Some v)
some_of (Some v) h = (v, refl)
some_of None h = cc

is_digit : (c : ℕ) → is_hex_digit c ≡ true → IsDigit c
is_digit c h =
    let some = some_of (hex_digit_value c) h in
    let tested : is_hex_digit c && is_lower c ≡ true = sym (agree_below_at is_hex_digit (λ c. is_hex_digit c && is_lower c) 128 c refl (digit_is_ascii c h)) ∙ h in
    let same = eqb-true (slice_index lower_digits (unwrap_or (hex_digit_value c) 0)) (to_ascii_lowercase c) (and_parts (is_hex_digit c) (is_lower c) tested).1 in
    (some.0, some.1, digit_small c some.0 some.1, (rw some.1 at same))

-- what pairs of digits decode to, whose text is the digits in lower case
reads_lower : (i : ℕ) (s : List ℕ) → length s % 2 ≡ 0 → AllPass is_hex_digit s
    → (bytes : List ℕ) × (decode_pairs i s ≡ Ok bytes) × (encode_lower bytes ≡ str_to_ascii_lowercase s)
unfolding decode_pairs encode_with
reads_lower i [] even all = ([], refl, refl)
reads_lower i (a ∷ []) even all = absurd (omega arith)
reads_lower i (a ∷ b ∷ rest) even all =
    let tail = All-tail (λ c. is_hex_digit c ≡ true) a (b ∷ rest) all in
    let high = is_digit a (All-head (λ c. is_hex_digit c ≡ true) a (b ∷ rest) all) in
    let low = is_digit b (All-head (λ c. is_hex_digit c ≡ true) b rest tail) in
    let behind = reads_lower (i + 2) rest (omega arith) (All-tail (λ c. is_hex_digit c ≡ true) b rest tail) in
    let byte = high.0 * 16 + low.0 in
    let pair : pair_value a b i ≡ Ok byte = rw (high.1, low.1) refl in
    let first : byte / 16 ≡ high.0 = omega (arith, high.2, low.2) in
    let second : byte % 16 ≡ low.0 = omega (arith, high.2, low.2) in (
      byte ∷ behind.0,
      decode_pairs-ok_pair i a b _ rest pair ∙ ap (cons_byte byte) behind.1,
      ap₂ (λ c cs. c ∷ cs) (ap (slice_index lower_digits) first ∙ high.3) (ap₂ (λ c cs. c ∷ cs) (ap (slice_index lower_digits) second ∙ low.3) behind.2),
    )

-- the text of bytes that a text decodes to is the text in lower case
encode_lower_of_decoded : (s : List ℕ) (n : ℕ) (bytes : List ℕ) → decode_sized s n ≡ Ok bytes → encode_lower bytes ≡ str_to_ascii_lowercase s
encode_lower_of_decoded s n bytes h =
    let digits = (IsOk-decode_sized s n).0 (rw h refl) in
    let even : length s % 2 ≡ 0 = omega (arith, digits.0) in
    let read = reads_lower 0 s even digits.1 in
    let same : bytes ≡ read.0 = cc (decode_sized-twice s n digits.0, decode_of-even s even, read.1) in
    ap encode_lower same ∙ read.2

-- the text of the digest, where the bytes are decoded
pub text_of : (text : List ℕ) (decoded : Result (List ℕ) FromHexError) (bytes : Option (List ℕ)) (digest : Option Digest) → decoded ≡ decode_sized text 32 → bytes ≡ result_ok decoded
    → MatchOption bytes (digest ≡ None) (λ x. IsSomeAnd digest (λ d. d.0 ≡ x)) → IfSome digest (λ d. encode_lower d.0 ≡ str_to_ascii_lowercase text)
text_of text (Ok x) (Some y) (Some d) e k h = let same : y ≡ x = cc in ap encode_lower (h ∙ same) ∙ encode_lower_of_decoded text 32 x (sym e)
text_of text (Ok x) None digest e k h = absurd (cc k)
text_of text (Err x) (Some y) digest e k h = absurd (cc k)
text_of text decoded bytes None e k h = tt
text_of text (Err x) None (Some d) e k h = absurd (cc h)
