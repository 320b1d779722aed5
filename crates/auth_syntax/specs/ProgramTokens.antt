-- The tokens of a program's text: those of its format, which its first tokens tell.
use Rattle.std.specs.Prelude.{ℕ, ℤ, pos, negsuc, ◌==◌, List, Option, Some, None, if◌then◌else◌, codes}
use Rattle.core_terms.specs.declared.format.Format.{Format}
use Rattle.core_terms.specs.declared.format.Format.TheVariants.{First, Second}
use Rattle.lexemes.specs.declared.place.Place.{Place}
use Rattle.lexemes.specs.declared.token.Mark.TheVariants.{Semicolon}
use Rattle.lexemes.specs.declared.fault.SyntaxKind.TheVariants.{Expected}
use Rattle.lexemes.specs.Tokens.{IntToken, Tokens, Next, tokens}
use Rattle.lexemes.specs.Readings.{Reading, Found, FaultAt, then_read, refused, read_mark, read_if_lower}

-- the word that tells a format; anywhere but at the head of a program it is a name
abbrev pub format_word : List ℕ
format_word = codes "format"

-- the format of a number
abbrev pub format_of : ℤ → Option Format
format_of (pos n) = if n == 1 then Some First else if n == 2 then Some Second else None
format_of (negsuc n) = None

abbrev pub known_format : Option Format → Place → Tokens → Reading Format
known_format (Some format) at rest = Found format rest
known_format None at rest = FaultAt Expected at

-- the number of a format
abbrev pub read_format_number : Tokens → Reading Format
read_format_number (Next at (IntToken z) rest) = known_format (format_of z) at rest
read_format_number tokens = refused tokens

-- What a program tells of its format, at the head of its tokens: the word, a number and a semicolon. Where the word doesn't stand there it
-- tells none.
abbrev pub read_format : Tokens → Reading (Option Format)
read_format tokens =
    then_read (read_if_lower format_word tokens) (λ stands tokens.
    if stands then
    then_read (read_format_number tokens) (λ format tokens.
    then_read (read_mark Semicolon tokens) (λ _ tokens. Found (Some format) tokens))
    else Found None tokens)

-- the format of a program, where it tells one; else it is the first
abbrev pub format_or_first : Option Format → Format
format_or_first (Some format) = format
format_or_first None = First

abbrev pub told_format : Reading (Option Format) → Format
told_format (Found format rest) = format_or_first format
told_format (FaultAt kind at) = First

-- The tokens of a program's text. Its head is read by the tokens of the first format, and it has no others that differ there.
abbrev pub text_tokens : List ℕ → Tokens
text_tokens text = tokens (told_format (read_format (tokens First text))) text
