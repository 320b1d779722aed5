-- The reader of the length of an array, in its brackets.
use Rattle.std.proofs.Common.{◌≡◌, ℕ, Bool, true, false, cond, List, [], ◌∷◌, refl, ap, subst, ◌∙◌}
use Rattle.std.specs.Prelude.{pos, negsuc}
use Rattle.core_terms.specs.Types.{is_length}
use Rattle.lexemes.specs.declared.place.Place.{Place}
use Rattle.lexemes.specs.declared.fault.SyntaxKind.TheVariants.{Lexical}
use Rattle.lexemes.specs.declared.fault.LexicalFault.TheVariants.{NumberRange}
use Rattle.lexemes.specs.declared.token.Mark.TheVariants.{LeftBracket, RightBracket}
use Rattle.lexemes.specs.Tokens.{IntToken, Tokens, Next}
use Rattle.lexemes.specs.Readings.{Found, FaultAt, then_read, read_mark}
use Rattle.auth_syntax.specs.Grammar.{Written, anywhere}
use Rattle.auth_syntax.specs.Parsing.{read_int_length, read_length}
use Rattle.auth_syntax.proofs.Beginnings.{Begin, begin-first, begin-next, begin-none, none-begin}
use Rattle.auth_syntax.proofs.Readers.{IsReader, Reader, Row, Then, ThenMark, read_row, alike, found_left, found_thing, in_turn}

-- an int in the place of a length
abbrev pub int_written : ℕ → List Written
int_written n = anywhere (IntToken (pos n)) ∷ []

abbrev pub is_within : ℕ → ℕ → Type 0
is_within at_most n = is_length n ≡ true

abbrev IsInt : Tokens → ℕ → Tokens → Type 0
IsInt tokens n left = Begin tokens (int_written n) left × (is_length n ≡ true)

int_if : (n : ℕ) (at : Place) (rest : Tokens) (found : ℕ) (left : Tokens) (fits : Bool) → is_length n ≡ fits
    → cond fits (Found n rest) (FaultAt (Lexical NumberRange) at) ≡ Found found left → IsInt (Next at (IntToken (pos n)) rest) found left
int_if n at rest found left true h e =
    subst (λ (n' : ℕ). IsInt (Next at (IntToken (pos n)) rest) n' left) (found_thing e)
    (subst (λ (left : Tokens). IsInt (Next at (IntToken (pos n)) rest) n left) (found_left e)
    (begin-next at (IntToken (pos n)) (anywhere (IntToken (pos n))) refl tt (begin-none rest), h))
int_if n at rest found left false h e = absurd (cc)

int_found : (tokens : Tokens) (found : ℕ) (left : Tokens) → read_int_length tokens ≡ Found found left → IsInt tokens found left
int_found (Next at (IntToken (pos n)) rest) found left e = int_if n at rest found left (is_length n) refl e
int_found (Next at (IntToken (negsuc n)) rest) found left e = absurd (cc)
int_found tokens found left e = absurd (cc)

int_read : (n : ℕ) (tokens left : Tokens) → Begin tokens (int_written n) left → is_length n ≡ true → read_int_length tokens ≡ Found n left
int_read n tokens left begin fits =
    let f = begin-first begin in
    ap read_int_length (f.is ∙ ap (λ t. Next f.at t f.rest) f.stands)
    ∙ (ap (λ fits. cond fits (Found n f.rest) (FaultAt (Lexical NumberRange) f.at)) fits ∙ ap (λ ts. Found n ts) (none-begin f.begin))

pub ints_are : (limit : ℕ) → IsReader limit (λ at_most. read_int_length) int_written is_within
ints_are limit = record { sound = int_found; complete = λ n tokens left begin fits clear. int_read n tokens left begin fits }

abbrev pub ints : (limit : ℕ) → Reader limit
ints limit = record { A = ℕ; read = λ at_most. read_int_length; written = int_written; within = is_within; is = ints_are limit }

-- a length in brackets, before what is read behind it
abbrev pub length_row : {limit : ℕ} {B : Type 0} → (ℕ → Row limit B) → Row limit B
length_row {limit} others = ThenMark LeftBracket (Then (ints limit) (λ n. ThenMark RightBracket (others n)))

pub length_row-is : {limit : ℕ} {B : Type 0} (others : ℕ → Row limit B) (at_most : ℕ) (tokens : Tokens)
    → then_read (read_length tokens) (λ n tokens. read_row (others n) at_most tokens) ≡ read_row (length_row others) at_most tokens
length_row-is others at_most tokens =
    in_turn (read_mark LeftBracket tokens) _ _
    ∙ alike (read_mark LeftBracket tokens) _ _ (λ _ rest. in_turn (read_int_length rest) _ _
    ∙ alike (read_int_length rest) _ _ (λ n rest. in_turn (read_mark RightBracket rest) _ _))
