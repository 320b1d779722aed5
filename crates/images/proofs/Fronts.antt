-- What stands at the front of some bytes, read.
use Rattle.std.proofs.Common.{◌≡◌, ℕ, ◌+◌, ◌<◌, ◌^◌, List, ◌++◌, length, take, drop, ℤ, true, refl, ap, ◌∙◌, subst, arith, length-append, le-leb, Fits, FitsSigned}
use Rattle.std.specs.Prelude.{IsUtf8}
use Rattle.std.specs.Int.{w32, w64, cast_signed, cast_unsigned, to_be_bytes, from_be_bytes}
use Rattle.std.proofs.Math.Facts.{Fits-of_z}
use Rattle.std.proofs.Math.Seq.{take-append_seam, drop-append_seam}
use Rattle.std.proofs.lemmas.Int.{to_z-of_z}
use Rattle.std.proofs.lemmas.Nat.{from_be_bytes-to_be_bytes_4, from_be_bytes-to_be_bytes_8}
use Rattle.std.proofs.lemmas.Str.{is_utf8-from_IsUtf8}
use Rattle.core_terms.proofs.Numbers.{mag_of}
use Rattle.core_terms.specs.Values.{int_fits}
use Rattle.images.specs.Records.{Record, ReadRecord, TextRecord, fixed, text_record}

-- n bytes in front
pub take_front : (n : ℕ) (front rest : List ℕ) → length front ≡ n → take n (front ++ rest) ≡ front
take_front n front rest h = subst (λ n. take n (front ++ rest) ≡ front) h (take-append_seam front rest)

pub drop_front : (n : ℕ) (front rest : List ℕ) → length front ≡ n → drop n (front ++ rest) ≡ rest
drop_front n front rest h = subst (λ n. drop n (front ++ rest) ≡ rest) h (drop-append_seam front rest)

pub fixed_front : (n : ℕ) (make : List ℕ → Record) (front rest : List ℕ) → length front ≡ n → fixed n make (front ++ rest) ≡ ReadRecord (make front) rest
fixed_front n make front rest h =
    let enough = le-leb n (length (front ++ rest)) (omega (arith, length-append front rest, h)) in
    rw (enough, take_front n front rest h, drop_front n front rest h) refl

-- the record of a text
pub text_front : (text rest : List ℕ) → length text < 2 ^ 32 → IsUtf8 text → text_record (to_be_bytes w32 (length text) ++ text ++ rest) ≡ ReadRecord (TextRecord text) rest
text_front text rest small utf8 =
    let n = length text in
    let bytes = to_be_bytes w32 n ++ text ++ rest in
    let said : from_be_bytes w32 (take 4 bytes) ≡ n = from_be_bytes-to_be_bytes_4 n small in
    let first : take n (text ++ rest) ≡ text = take_front n text rest refl in
    let other : drop n (text ++ rest) ≡ rest = drop_front n text rest refl in
    let all = length-append (to_be_bytes w32 n ++ text) rest in
    let front = length-append (to_be_bytes w32 n) text in
    let four = le-leb 4 (length bytes) (omega (arith, all, front)) in
    let enough = le-leb (4 + n) (length bytes) (omega (arith, all, front)) in
    let good = is_utf8-from_IsUtf8 text utf8 in
    rw (said, first, four, enough, good, other) refl

-- the value of an int
pub int_back : (z : ℤ) → int_fits z ≡ true → cast_signed w64 (from_be_bytes w64 (to_be_bytes w64 (cast_unsigned w64 z))) ≡ z
int_back z e =
    let f : FitsSigned w64 z = record { sfits = mag_of z e } in
    let g : Fits w64 (cast_unsigned w64 z) = Fits-of_z f in
    ap (λ n. cast_signed w64 n) (from_be_bytes-to_be_bytes_8 (cast_unsigned w64 z) (g.fits)) ∙ to_z-of_z w64 z f
