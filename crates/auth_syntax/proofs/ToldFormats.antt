-- What a program tells of its format is read as it is written.
use Rattle.std.proofs.Common.{◌≡◌, ℕ, Bool, true, false, cond, List, [], ◌∷◌, Option, Some, None, eqb-true, refl, ap, subst, ◌∙◌}
use Rattle.std.proofs.lemmas.Option.{same_Some}
use Rattle.std.proofs.lemmas.Slice.Eq.{bytes_eq-Decides}
use Rattle.std.specs.Prelude.{ℤ, pos, negsuc, ◌==◌, bytes_eq}
use Rattle.core_terms.specs.declared.format.Format.{Format}
use Rattle.core_terms.specs.declared.format.Format.TheVariants.{First as FirstFormat, Second as SecondFormat}
use Rattle.lexemes.specs.declared.place.Place.{Place}
use Rattle.lexemes.specs.declared.token.Mark.TheVariants.{Semicolon}
use Rattle.lexemes.specs.Tokens.{IntToken, LowerToken, Tokens, Next}
use Rattle.lexemes.specs.Readings.{Reading, Found, then_read}
use Rattle.auth_syntax.specs.Grammar.{Written, anywhere, format_number, format_tokens}
use Rattle.auth_syntax.specs.ProgramTokens.{format_of, format_word, known_format, read_format, read_format_number}
use Rattle.auth_syntax.proofs.Beginnings.{Begin, begin-first, begin-next, begin-none, none-begin}
use Rattle.auth_syntax.proofs.Readers.{IsClear, IsReader, Reader, Row, Done, Then, ThenMark, found_left, found_thing, read_row, row_complete, row_sound}

-- the number of a format is that of no other
pub number_is : (z : ℤ) (format : Format) → format_of z ≡ Some format → z ≡ format_number format
number_is (pos n) format h = first (n == 1) refl h where
  second : (same : Bool) → (n == 2) ≡ same → cond same (Some SecondFormat) None ≡ Some format → pos n ≡ format_number format
  second true is h = ap (λ n. pos n) (eqb-true n 2 is) ∙ ap format_number (same_Some _ _ h)
  second false is h = absurd (cc)

  first : (same : Bool) → (n == 1) ≡ same → cond same (Some FirstFormat) (cond (n == 2) (Some SecondFormat) None) ≡ Some format
      → pos n ≡ format_number format
  first true is h = ap (λ n. pos n) (eqb-true n 1 is) ∙ ap format_number (same_Some _ _ h)
  first false is h = second (n == 2) refl h
number_is (negsuc n) format h = absurd (cc)

number_known : (format : Format) → format_of (format_number format) ≡ Some format
number_known FirstFormat = refl
number_known SecondFormat = refl

-- the reader of this number
abbrev pub number_written : Format → List Written
number_written format = anywhere (IntToken (format_number format)) ∷ []

known_found : (z : ℤ) (known : Option Format) (at : Place) (rest : Tokens) (found : Format) (left : Tokens) → format_of z ≡ known
    → known_format known at rest ≡ Found found left → Begin (Next at (IntToken z) rest) (number_written found) left
known_found z (Some format) at rest found left h e =
    begin-next at (IntToken z) (anywhere (IntToken (format_number found))) (ap (λ z. IntToken z) (number_is z found (h ∙ ap (λ f. Some f) (found_thing e)))) tt
    (subst (Begin rest []) (found_left e) (begin-none rest))
known_found z None at rest found left h e = absurd (cc)

number_found : (tokens : Tokens) (found : Format) (left : Tokens) → read_format_number tokens ≡ Found found left → Begin tokens (number_written found) left
number_found (Next at (IntToken z) rest) found left e = known_found z (format_of z) at rest found left refl e
number_found tokens found left e = absurd (cc)

number_read : (format : Format) (tokens left : Tokens) → Begin tokens (number_written format) left → read_format_number tokens ≡ Found format left
number_read format tokens left begin =
    let f = begin-first begin in
    ap read_format_number (f.is ∙ ap (λ t. Next f.at t f.rest) f.stands)
    ∙ (ap (λ known. known_format known f.at f.rest) (number_known format) ∙ ap (λ ts. Found format ts) (none-begin f.begin))

pub numbers_are : (limit : ℕ) → IsReader limit (λ at_most. read_format_number) number_written (λ at_most format. Unit {0})
numbers_are limit = record {
  sound = λ tokens found left e. (number_found tokens found left e, tt);
  complete = λ format tokens left begin within clear. number_read format tokens left begin;
}

abbrev numbers : (limit : ℕ) → Reader limit
numbers limit =
    record { A = Format; read = λ at_most. read_format_number; written = number_written; within = λ at_most format. Unit {0}; is = numbers_are limit }

-- behind the word
abbrev pub told_row : (limit : ℕ) → Row limit (Option Format)
told_row limit = Then (numbers limit) (λ format. ThenMark Semicolon (Done (Some format)))

abbrev behind_word : Bool → Tokens → Reading (Option Format)
behind_word stands tokens = cond stands (read_row (told_row 0) 0 tokens) (Found None tokens)

abbrev IsTold : Tokens → Option Format → Tokens → Type 0
IsTold tokens format behind = Begin tokens (format_tokens format) behind

-- where the word doesn't stand, none is told
none_told : (tokens : Tokens) (format : Option Format) (behind : Tokens) → Found None tokens ≡ Found format behind → IsTold tokens format behind
none_told tokens format behind e =
    subst (λ (format : Option Format). IsTold tokens format behind) (found_thing e) (subst (Begin tokens []) (found_left e) (begin-none tokens))

word_told : (at : Place) (name : List ℕ) (rest : Tokens) (format : Option Format) (behind : Tokens) (stands : Bool) → bytes_eq name format_word ≡ stands
    → then_read (cond stands (Found true rest) (Found false (Next at (LowerToken name) rest))) behind_word ≡ Found format behind
    → IsTold (Next at (LowerToken name) rest) format behind
word_told at name rest format behind true h e =
    let s = row_sound (told_row 0) rest format behind e in
    subst (λ (format : Option Format). IsTold (Next at (LowerToken name) rest) format behind) s.is
    (begin-next at (LowerToken name) (anywhere (LowerToken format_word)) (ap (λ name. LowerToken name) ((bytes_eq-Decides name format_word).0 h)) tt s.begin)
word_told at name rest format behind false h e = none_told (Next at (LowerToken name) rest) format behind e

pub format_found : (tokens : Tokens) (format : Option Format) (behind : Tokens) → read_format tokens ≡ Found format behind → IsTold tokens format behind
format_found (Next at (LowerToken name) rest) format behind e = word_told at name rest format behind (bytes_eq name format_word) refl e
format_found tokens format behind e = none_told tokens format behind e

-- no lower name stands at the head
abbrev pub IsNameless : Tokens → Type 0
IsNameless (Next at (LowerToken name) rest) = ⊥
IsNameless tokens = Unit {0}

nameless_read : (tokens : Tokens) → IsNameless tokens → read_format tokens ≡ Found None tokens
nameless_read (Next at (LowerToken name) rest) h = absurd h
nameless_read tokens h = refl

pub format_read : (format : Option Format) (tokens behind : Tokens) → IsTold tokens format behind → IsNameless behind → IsClear behind
    → read_format tokens ≡ Found format behind
format_read None tokens behind begin nameless clear = ap read_format (none-begin begin) ∙ nameless_read behind nameless
format_read (Some format) tokens behind begin nameless clear =
    let f = begin-first begin in
    ap read_format (f.is ∙ ap (λ t. Next f.at t f.rest) f.stands)
    ∙ row_complete (told_row 0) (λ format. (refl, tt)) (format, tt) f.rest behind f.begin (tt, tt) clear
