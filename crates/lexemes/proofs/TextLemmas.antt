-- Texts between quotes, character by character.
use Rattle.std.proofs.Common.{◌≡◌, ℕ, zero, suc, ◌+◌, ◌-◌, ◌<◌, ◌≤◌, Bool, true, false, List, [], ◌∷◌, ◌++◌, length, take, drop, Option, Some, None, refl, sym, ap, subst, arith, cond, ◌∙◌, append_assoc, add-one, length-take, length-drop}
use Rattle.std.proofs.lemmas.List.{append-nil, drop-drop}
use Rattle.std.specs.Prelude.{◌==◌, nat_lt, IfSome, MatchResult, Result, Ok, Err}
use Rattle.std.specs.Result.{is_ok}
use Rattle.std.specs.Str.{is_utf8, IsUtf8}
use Rattle.std.proofs.lemmas.Str.{is_utf8-from_IsUtf8, IsUtf8-from_is_utf8}
use Rattle.std.proofs.lemmas.List.{take_rest}
use Rattle.lexemes.specs.Tokens.{Escape, escape_of, hex_escape_of, hex_escape, hex_digit, is_control, Quoted, Closed, CutOff, WrongAt, put, with_escape, quoted_behind}
use Rattle.lexemes.specs.PieceViews.{character_of, escaped}
use Rattle.lexemes.specs.declared.fault.LexicalFault.{LexicalFault}
use Rattle.lexemes.specs.declared.lexer.texts.Character.{Character}
use Rattle.lexemes.specs.declared.lexer.texts.Character.TheVariants as character

not_true : (b : Bool) → (b ≡ true → ⊥) → false ≡ b
not_true true h = absurd (h refl)
not_true false h = refl

-- bytes that are read as text are UTF-8, and others aren't
pub utf8_test : {S E : Type 0} (bytes : List ℕ) (r : Result S E) (P : S → Type 0) (Q : E → Type 0)
    → MatchResult r (λ s. P s × IsUtf8 bytes) (λ e. (IsUtf8 bytes → ⊥) × Q e) → is_ok r ≡ is_utf8 bytes
utf8_test bytes (Ok s) P Q h = sym (is_utf8-from_IsUtf8 bytes h.1)
utf8_test bytes (Err e) P Q h = not_true (is_utf8 bytes) (λ t. h.0 (IsUtf8-from_is_utf8 bytes t))

-- what stands from an offset on, where this character stands first
abbrev pub from_character : Character → ℕ → List ℕ → Quoted
from_character character.Quote offset bytes = Closed [] (offset + 1)
from_character (character.Byte b size) offset bytes = put b (quoted_behind zero (offset + size) (drop size bytes))
from_character (character.Fault kind) offset bytes = WrongAt kind offset
from_character character.End offset bytes = CutOff

-- the bytes behind the first so many, which belong to an escape
quoted_behind-drop : (n offset place : ℕ) (bytes : List ℕ) → offset + n ≡ place → quoted_behind n offset bytes ≡ quoted_behind zero place (drop n bytes)
quoted_behind-drop zero offset place [] e = refl
quoted_behind-drop (suc n) offset place [] e = refl
quoted_behind-drop zero offset place (b ∷ rest) e =
    let same : offset ≡ place = omega arith in ap (λ place. quoted_behind zero place (b ∷ rest)) same
quoted_behind-drop (suc n) offset place (b ∷ rest) e = quoted_behind-drop n (offset + 1) place rest (omega arith)

drop-more : (n b : ℕ) (rest : List ℕ) → drop (n + 1) (b ∷ rest) ≡ drop n rest
drop-more n b rest = ap (λ k. drop k (b ∷ rest)) (add-one n)

with_escape-is : (escape : Option Escape) (offset b : ℕ) (rest : List ℕ)
    → with_escape escape offset (λ size. quoted_behind size (offset + 1) rest) ≡ from_character (escaped escape) offset (b ∷ rest)
with_escape-is None offset b rest = refl
with_escape-is (Some escape) offset b rest =
    let place = offset + (escape.size + 1) in
    ap (put escape.byte)
    (quoted_behind-drop escape.size (offset + 1) place rest (omega arith) ∙ ap (quoted_behind zero place) (sym (drop-more escape.size b rest)))

either_character : (test : Bool) (x y : Quoted) (first other : Character) (offset : ℕ) (bytes : List ℕ) → x ≡ from_character first offset bytes → y ≡ from_character other offset bytes
    → cond test x y ≡ from_character (cond test first other) offset bytes
either_character true x y first other offset bytes h h' = h
either_character false x y first other offset bytes h h' = h'

-- what stands from an offset on is its first character, and what stands behind that
pub quoted-first_character : (offset : ℕ) (bytes : List ℕ) → quoted_behind zero offset bytes ≡ from_character (character_of bytes) offset bytes
quoted-first_character offset [] = refl
quoted-first_character offset (b ∷ rest) =
    either_character (b == 34) _ _ character.Quote _ offset (b ∷ rest) refl
    (either_character (b == 92) _ _ (escaped (escape_of rest)) _ offset (b ∷ rest) (with_escape-is (escape_of rest) offset b rest)
    (either_character (is_control b) _ _ _ _ offset (b ∷ rest) refl refl))

-- with these bytes in front
abbrev pub put_all : List ℕ → Quoted → Quoted
put_all before (Closed bytes size) = Closed (before ++ bytes) size
put_all before CutOff = CutOff
put_all before (WrongAt kind offset) = WrongAt kind offset

pub put_all-nil : (quoted : Quoted) → put_all [] quoted ≡ quoted
put_all-nil (Closed bytes size) = refl
put_all-nil CutOff = refl
put_all-nil (WrongAt kind offset) = refl

pub put_all-more : (before : List ℕ) (b : ℕ) (quoted : Quoted) → put_all before (put b quoted) ≡ put_all (before ++ b ∷ []) quoted
put_all-more before b (Closed bytes size) = rw append_assoc
put_all-more before b CutOff = refl
put_all-more before b (WrongAt kind offset) = refl

-- A character has at least one byte of so many, and no more than all.
abbrev pub IsWithin : ℕ → Character → Type 0
IsWithin n (character.Byte b size) = (0 < size) × (size ≤ n)
IsWithin n other = Unit {0}

escape_within : (escape : Option Escape) (n : ℕ) → IfSome escape (λ e. e.size ≤ n) → IsWithin (suc n) (escaped escape)
escape_within None n h = tt
escape_within (Some escape) n h = (omega arith, omega arith)

either_within : (test : Bool) (n : ℕ) (x y : Character) → IsWithin n x → IsWithin n y → IsWithin n (cond test x y)
either_within true n x y h h' = h
either_within false n x y h h' = h'

either_escape : (test : Bool) (n : ℕ) (x y : Option Escape) → IfSome x (λ e. e.size ≤ n) → IfSome y (λ e. e.size ≤ n) → IfSome (cond test x y) (λ e. e.size ≤ n)
either_escape true n x y h h' = h
either_escape false n x y h h' = h'

hex_escape_size : (high low : Option ℕ) → IfSome (hex_escape high low) (λ e. e.size ≤ 3)
hex_escape_size (Some high) (Some low) = either_escape (nat_lt high 8) 3 _ _ (omega arith) tt
hex_escape_size None low = tt
hex_escape_size (Some high) None = tt

weaker : (escape : Option Escape) (m n : ℕ) → m ≤ n → IfSome escape (λ e. e.size ≤ m) → IfSome escape (λ e. e.size ≤ n)
weaker None m n h small = tt
weaker (Some escape) m n h small = omega arith

hex_escape_of-size : (bytes : List ℕ) → IfSome (hex_escape_of bytes) (λ e. e.size ≤ length bytes + 1)
hex_escape_of-size [] = tt
hex_escape_of-size (high ∷ []) = tt
hex_escape_of-size (high ∷ low ∷ rest) = weaker (hex_escape (hex_digit high) (hex_digit low)) 3 _ (omega arith) (hex_escape_size (hex_digit high) (hex_digit low))

escape_of-size : (bytes : List ℕ) → IfSome (escape_of bytes) (λ e. e.size ≤ length bytes)
escape_of-size [] = tt
escape_of-size (b ∷ rest) =
    let n = length (b ∷ rest) in
    either_escape (b == 34) n _ _ (omega arith)
    (either_escape (b == 92) n _ _ (omega arith)
    (either_escape (b == 110) n _ _ (omega arith)
    (either_escape (b == 116) n _ _ (omega arith)
    (either_escape (b == 120) n _ _ (weaker (hex_escape_of rest) (length rest + 1) n (omega arith) (hex_escape_of-size rest)) tt))))

character_within : (bytes : List ℕ) → IsWithin (length bytes) (character_of bytes)
character_within [] = tt
character_within (b ∷ rest) =
    let n = length (b ∷ rest) in
    either_within (b == 34) n character.Quote _ tt
    (either_within (b == 92) n (escaped (escape_of rest)) _ (escape_within (escape_of rest) (length rest) (escape_of-size rest))
    (either_within (is_control b) n _ _ tt (omega arith, omega arith)))

-- what was read of the bytes behind an opening quote: so many stand for these
pub record IsReadSoFar (text : List ℕ) (before : List ℕ) (done : ℕ) : Type 0 where
  pub whole : quoted_behind zero 1 text ≡ put_all before (quoted_behind zero (done + 1) (drop done text))
  pub within : done ≤ length text

-- what stands at the head of the rest
abbrev pub IsNext : List ℕ → ℕ → Character → Type 0
IsNext text done found = found ≡ character_of (take (length text - done) (drop done text))

pub read_so_far-start : (text : List ℕ) → IsReadSoFar text [] 0
read_so_far-start text = record { whole = sym (put_all-nil (quoted_behind zero 1 text)); within = omega arith }

read_with : (text before : List ℕ) (done : ℕ) (found : Character) → IsReadSoFar text before done → IsNext text done found
    → quoted_behind zero 1 text ≡ put_all before (from_character found (done + 1) (drop done text))
read_with text before done found so_far next =
    let rest = drop done text in
    let head : character_of rest ≡ found = ap character_of (sym (take_rest text done)) ∙ sym next in
    so_far.whole ∙ ap (put_all before) (quoted-first_character (done + 1) rest ∙ ap (λ c. from_character c (done + 1) rest) head)

pub next_within : (text : List ℕ) (done b size : ℕ) → done ≤ length text → IsNext text done (character.Byte b size) → (0 < size) × (done + size ≤ length text)
next_within text done b size within next =
    let rest = take (length text - done) (drop done text) in
    let part : IsWithin (length rest) (character.Byte b size) = subst (IsWithin (length rest)) (sym next) (character_within rest) in
    let len : length rest ≡ length text - done = grind (arith, length-take, length-drop) in
    (part.0, omega arith)

pub read_so_far-byte : (text before : List ℕ) (done b size : ℕ) → IsReadSoFar text before done → IsNext text done (character.Byte b size)
    → IsReadSoFar text (before ++ b ∷ []) (done + size)
read_so_far-byte text before done b size so_far next =
    let e : (done + 1) + size ≡ (done + size) + 1 = omega arith in
    let rest : drop size (drop done text) ≡ drop (done + size) text = drop-drop size done text in
    record {
      whole = read_with text before done (character.Byte b size) so_far next
          ∙ (put_all-more before b _
          ∙ (ap (λ place. put_all (before ++ b ∷ []) (quoted_behind zero place (drop size (drop done text)))) e
          ∙ ap (λ bytes. put_all (before ++ b ∷ []) (quoted_behind zero ((done + size) + 1) bytes)) rest));
      within = (next_within text done b size so_far.within next).1;
    }

pub read-quote : (text before : List ℕ) (done : ℕ) → IsReadSoFar text before done → IsNext text done character.Quote
    → Closed before (done + 2) ≡ quoted_behind zero 1 text
read-quote text before done so_far next =
    let e : done + 2 ≡ (done + 1) + 1 = omega arith in
    ap (λ size. Closed before size) e ∙ (ap (λ bytes. Closed bytes ((done + 1) + 1)) (sym (append-nil before))
    ∙ sym (read_with text before done character.Quote so_far next))

pub read-fault : (text before : List ℕ) (done : ℕ) (kind : LexicalFault) → IsReadSoFar text before done → IsNext text done (character.Fault kind)
    → WrongAt kind (done + 1) ≡ quoted_behind zero 1 text
read-fault text before done kind so_far next = sym (read_with text before done (character.Fault kind) so_far next)

pub read-end : (text before : List ℕ) (done : ℕ) → IsReadSoFar text before done → IsNext text done character.End
    → CutOff ≡ quoted_behind zero 1 text
read-end text before done so_far next = sym (read_with text before done character.End so_far next)
