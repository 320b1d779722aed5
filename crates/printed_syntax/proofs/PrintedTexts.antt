-- Texts between quotes.
use Rattle.std.proofs.Common.{◌≡◌, ℕ, ◌+◌, ◌<◌, List, [], ◌∷◌, ◌++◌, length, take, get_or, sym, ap, ◌∙◌, refl, append_assoc, append-nil, arith, codes, length-append}
use Rattle.std.proofs.lemmas.List.{take_more}
use Rattle.hex.specs.Hex.{encode_lower, lower_digits}
use Rattle.hex.proofs.HexLemmas.{length-encode_with}
use Rattle.printed_syntax.specs.PrintedValues.{escaped, all_escaped}
use Rattle.printed_syntax.specs.PrintedLengths.{counted}
use Rattle.printed_syntax.proofs.CountedLengths.{counted_between}

all_escaped_append : (xs ys : List ℕ) → all_escaped (xs ++ ys) ≡ all_escaped xs ++ all_escaped ys
all_escaped_append [] ys = refl
all_escaped_append (x ∷ xs) ys = ap (λ zs. escaped x ++ zs) (all_escaped_append xs ys) ∙ sym (append_assoc (escaped x) (all_escaped xs) (all_escaped ys))

-- behind some bytes, with the next byte of a text
pub all_escaped_more : (before bytes : List ℕ) (i : ℕ) → i < length bytes
    → before ++ all_escaped (take (i + 1) bytes) ≡ before ++ all_escaped (take i bytes) ++ escaped (get_or bytes i 0)
all_escaped_more before bytes i h =
    ap (λ zs. before ++ zs)
    (ap all_escaped (take_more bytes i 0 h)
    ∙ all_escaped_append (take i bytes) (get_or bytes i 0 ∷ [])
    ∙ ap (λ zs. all_escaped (take i bytes) ++ zs) (append-nil (escaped (get_or bytes i 0))))
    ∙ sym (append_assoc before (all_escaped (take i bytes)) (escaped (get_or bytes i 0)))

-- the length with one byte more
pub length_of_escaped_more : (bytes : List ℕ) (i size one next : ℕ) → i < length bytes → size ≡ counted (length (all_escaped (take i bytes)) + 2) → one ≡ length (escaped (get_or bytes i 0))
    → next ≡ counted (size + one) → next ≡ counted (length (all_escaped (take (i + 1) bytes)) + 2)
length_of_escaped_more bytes i size one next h is here added =
    let long = ap length (all_escaped_more [] bytes i h) ∙ length-append (all_escaped (take i bytes)) (escaped (get_or bytes i 0)) in
    let other = counted_between (length (all_escaped (take i bytes))) (length (escaped (get_or bytes i 0))) in
    added ∙ ap (λ k. counted (k + one)) is ∙ ap (λ k. counted (counted (length (all_escaped (take i bytes)) + 2) + k)) here ∙ other ∙ ap (λ k. counted (k + 2)) (sym long)

-- the digits of a byte, and of a digest
pub two_digits : (b : ℕ) → length (encode_lower (b ∷ [])) ≡ 2
two_digits b = length-encode_with lower_digits (b ∷ [])

pub length_of_digest : (digest : List ℕ) → length digest ≡ 32 → 65 ≡ counted (length (codes "#" ++ encode_lower digest))
length_of_digest digest long =
    let digits = length-encode_with lower_digits digest in
    let all : length (codes "#" ++ encode_lower digest) ≡ 65 = omega arith in
    ap counted (sym all)
