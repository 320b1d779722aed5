-- Places count the bytes before them.
use Rattle.std.proofs.Common.{◌≡◌, ℕ, ◌+◌, Bool, true, false, not, cond, ◌==◌, List, [], ◌∷◌, ◌++◌, length, reverse, count_by, refl, sym, ap, ◌∙◌, arith}
use Rattle.std.proofs.lemmas.List.{reverse-reverse, reverse-append}
use Rattle.std.proofs.lemmas.List.Sums.{sum_by-cons}
use Rattle.std.specs.List.{prefix_len}
use Rattle.lexemes.specs.declared.place.Place.{Place}
use Rattle.lexemes.specs.Places.{start, behind_byte, behind}
use Rattle.lexemes.specs.Tokens.{is_in_line}
use Rattle.lexemes.specs.Laws.{PlacesAreCounted}

-- the place behind a byte that ends a line, or doesn't
abbrev passed : Place → Bool → Place
passed place ends =
    cond ends (record { offset = place.offset + 1; line = place.line + 1; column = 1 })
    (record { offset = place.offset + 1; line = place.line; column = place.column + 1 })

passed-offset : (place : Place) (ends : Bool) → (passed place ends).offset ≡ place.offset + 1
passed-offset place true = refl
passed-offset place false = refl

passed-line : (place : Place) (ends : Bool) → (passed place ends).line ≡ place.line + cond ends 1 0
passed-line place true = refl
passed-line place false = omega arith

passed-column : (place : Place) (ends : Bool) (n : ℕ) → place.column ≡ 1 + n → (passed place ends).column ≡ 1 + cond (not ends) (1 + n) 0
passed-column place true n h = refl
passed-column place false n h = omega arith

-- from any place on
offset_is : (place : Place) (bytes : List ℕ) → (behind place bytes).offset ≡ place.offset + length bytes
offset_is place [] = omega arith
offset_is place (b ∷ bytes) = let e = offset_is (behind_byte place b) bytes in omega (arith, e, passed-offset place (b == 10))

line_is : (place : Place) (bytes : List ℕ) → (behind place bytes).line ≡ place.line + count_by (λ b. b == 10) bytes
line_is place [] = omega arith
line_is place (b ∷ bytes) =
    let e = line_is (behind_byte place b) bytes in omega (arith, e, passed-line place (b == 10), sum_by-cons (λ b. cond (b == 10) 1 0) b bytes)

behind-append : (place : Place) (before bytes : List ℕ) → behind place (before ++ bytes) ≡ behind (behind place before) bytes
behind-append place [] bytes = refl
behind-append place (b ∷ before) bytes = behind-append (behind_byte place b) before bytes

-- from the last byte back
column_is : (bytes : List ℕ) → (behind start (reverse bytes)).column ≡ 1 + prefix_len is_in_line bytes
column_is [] = refl
column_is (b ∷ bytes) =
    let e : behind start (reverse (b ∷ bytes)) ≡ behind_byte (behind start (reverse bytes)) b =
    ap (behind start) (reverse-append (b ∷ []) bytes) ∙ behind-append start (reverse bytes) (b ∷ []) in
    ap (λ (place : Place). place.column) e ∙ passed-column (behind start (reverse bytes)) (b == 10) (prefix_len is_in_line bytes) (column_is bytes)

pub places_are_counted : PlacesAreCounted
places_are_counted bytes = (
  omega (arith, offset_is start bytes),
  line_is start bytes,
  ap (λ bytes. (behind start bytes).column) (sym (reverse-reverse bytes)) ∙ column_is (reverse bytes),
)
