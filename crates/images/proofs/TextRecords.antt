-- The record of a text, read by its length field and as many bytes behind it.
use Rattle.std.proofs.Common.{◌≡◌, ℕ, ◌+◌, ◌≤◌, Bool, true, false, List, length, take, drop, if◌then◌else◌, refl, sym, ap, ◌∙◌, arith, le-leb}
use Rattle.std.specs.Prelude.{IsUtf8}
use Rattle.std.specs.Int.{w32, from_be_bytes}
use Rattle.std.specs.Str.{is_utf8}
use Rattle.std.proofs.lemmas.Str.{IsUtf8-from_is_utf8, is_utf8-from_IsUtf8}
use Rattle.images.specs.Records.{ReadRecord, NoRecord, TextRecord, text_record}

module _ (bytes head behind text rest : List ℕ) (len : ℕ) (is_head : head ≡ take 4 bytes) (is_behind : behind ≡ drop 4 bytes) (long : length behind + 4 ≡ length bytes)
    (is_len : len ≡ from_be_bytes w32 head) (fits : len ≤ length behind) (is_text : text ≡ take len behind) (is_rest : rest ≡ drop len behind) where
  abbrev said : ℕ
  said = from_be_bytes w32 (take 4 bytes)

  is_said : said ≡ len
  is_said = sym (is_len ∙ ap (from_be_bytes w32) is_head)

  -- bytes that are UTF-8 are a text
  pub text_is : IsUtf8 text → text_record bytes ≡ ReadRecord (TextRecord text) rest
  text_is utf8 =
      let four = le-leb 4 (length bytes) (omega (arith, long)) in
      let enough = le-leb (4 + len) (length bytes) (omega (arith, long, fits)) in
      let good = is_utf8-from_IsUtf8 text utf8 in
      rw (is_said, sym is_behind, sym is_text, four, enough, good, sym is_rest) refl

  -- and others are none
  pub no_text : (IsUtf8 text → ⊥) → text_record bytes ≡ NoRecord
  no_text bad =
      let four = le-leb 4 (length bytes) (omega (arith, long)) in
      let enough = le-leb (4 + len) (length bytes) (omega (arith, long, fits)) in
      rw (is_said, sym is_behind, sym is_text, four, enough) (by (is_utf8 text) refl)
    where
      by : (b : Bool) → is_utf8 text ≡ b → (if b then ReadRecord (TextRecord text) (drop len behind) else NoRecord) ≡ NoRecord
      by true e = absurd (bad (IsUtf8-from_is_utf8 text e))
      by false e = refl
