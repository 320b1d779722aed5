-- What the pieces that the code finds in a text stand for.
use Rattle.std.specs.Prelude.{ℕ, ◌+◌, ◌^◌, ◌<◌, ◌≡◌, ℤ, pos, Bool, true, false, ◌==◌, nat_lt, nat_le, List, [], ◌∷◌, length, Option, Some, None, if◌then◌else◌}
use Rattle.std.specs.Str.{all_ascii_digits}
use Rattle.std.specs.Str.Parse.{digits_value}
use Rattle.core_terms.specs.declared.format.Format.{Format}
use Rattle.lexemes.specs.Tokens.{Piece, PassedOver, Taken, Wrong, first_piece, negative, Escape, escape_of, Quoted, Closed, CutOff, WrongAt, is_control}
use Rattle.lexemes.specs.TokenViews.{token_view}
use Rattle.lexemes.specs.declared.lexer.pieces.Piece.{Piece as PieceCode}
use Rattle.lexemes.specs.declared.lexer.pieces.Piece.TheVariants as piece
use Rattle.lexemes.specs.declared.lexer.texts.Quoted.{Quoted as QuotedCode}
use Rattle.lexemes.specs.declared.lexer.texts.Quoted.TheVariants as quoted
use Rattle.lexemes.specs.declared.lexer.texts.Character.{Character}
use Rattle.lexemes.specs.declared.lexer.texts.Character.TheVariants as character
use Rattle.lexemes.specs.declared.fault.LexicalFault.TheVariants.{Char as CharFault, BadEscape}

-- a piece of a text
abbrev pub piece_view : PieceCode → Piece
piece_view (piece.PassedOver size) = PassedOver size
piece_view (piece.Taken token size) = Taken (token_view token) size
piece_view (piece.Wrong kind offset) = Wrong kind offset

-- the piece at the head of a text, which has none where it is empty
abbrev pub head_piece : Format → List ℕ → Option Piece
head_piece format [] = None
head_piece format (b ∷ rest) = Some (first_piece format b rest)

-- one decimal digit or more, and nothing else
abbrev pub IsDigits : List ℕ → Type 0
IsDigits digits = (0 < length digits) × (all_ascii_digits digits ≡ true)

-- the number that these digits tell, or with a minus, where it is from -2^63 to 2^63 - 1
abbrev pub int_among : Bool → List ℕ → Option ℤ
int_among true digits = let n = digits_value 10 digits in if nat_le n (2 ^ 63) then Some (negative n) else None
int_among false digits = let n = digits_value 10 digits in if nat_lt n (2 ^ 63) then Some (pos n) else None

-- what stands behind the opening quote of a text
abbrev pub quoted_view : QuotedCode → Quoted
quoted_view (quoted.Closed bytes size) = Closed bytes.items size
quoted_view quoted.CutOff = CutOff
quoted_view (quoted.Wrong kind offset) = WrongAt kind offset

-- a backslash with what stands behind it: the byte of an escape and its size, or a fault
abbrev pub escaped : Option Escape → Character
escaped (Some escape) = character.Byte escape.byte (escape.size + 1)
escaped None = character.Fault BadEscape

-- what stands at the head of the bytes behind the opening quote of a text
abbrev pub character_of : List ℕ → Character
character_of [] = character.End
character_of (b ∷ rest) =
    if b == 34 then character.Quote else
    if b == 92 then escaped (escape_of rest) else
    if is_control b then character.Fault CharFault else
    character.Byte b 1
