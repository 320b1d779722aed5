-- The tokens of a text: the words, numbers, texts and marks that it consists of, each with its place, without the blanks and
-- comments between them; and its first lexical fault. Each format has tokens of its own: the words and marks of arrays are those of the
-- second alone, and in the first their words are names.
use Rattle.std.specs.Prelude.{ℕ, zero, suc, ℤ, pos, negsuc, ◌+◌, ◌*◌, ◌^◌, Bool, true, false, not, ◌==◌, ◌||◌, ◌&&◌, nat_lt, nat_le, ◌-◌, List, [], ◌∷◌, ◌++◌, map, length, Option, Some, None, if◌then◌else◌, codes, bytes_eq, take}
use Rattle.std.specs.List.{prefix_len}
use Rattle.std.specs.Char.{is_ascii_lowercase, is_ascii_uppercase, is_ascii_alphanumeric, is_ascii_digit}
use Rattle.std.specs.Str.{is_utf8}
use Rattle.std.specs.Str.Parse.{digits_value}
use Rattle.core_terms.specs.ProgramFormats.{arrays_of}
use Rattle.core_terms.specs.declared.format.Format.{Format}
use Rattle.core_terms.specs.declared.format.Format.TheVariants.{First, Second}
use Rattle.core_terms.specs.declared.term.BinaryOperator.{BinaryOperator}
use Rattle.core_terms.specs.declared.term.BinaryOperator.TheVariants.{Arith, Compare, TextCompare, Cat}
use Rattle.core_terms.specs.declared.term.Arith.TheVariants.{Add, Sub, Mul, Div, Rem}
use Rattle.core_terms.specs.declared.term.Compare.TheVariants.{Eq, Lt, Le}
use Rattle.core_terms.specs.declared.term.TextCompare.TheVariants.{Eq as TEq, Lt as TLt}
use Rattle.lexemes.specs.Places.{start, behind_byte, behind}
use Rattle.lexemes.specs.declared.place.Place.{Place}
use Rattle.lexemes.specs.declared.token.Keyword.{Keyword}
use Rattle.lexemes.specs.declared.token.Keyword.TheVariants.{«Type» as TypeWord, State as StateWord, Fun as FunWord, Init as InitWord, Query as QueryWord, Update as UpdateWord, Let as LetWord, In as InWord, Match as MatchWord, With as WithWord, End as EndWord, If as IfWord, Then as ThenWord, Else as ElseWord, Auth as AuthWord, Unauth as UnauthWord, Fst as FstWord, Snd as SndWord, Unit as UnitWord, Bool as BoolWord, Int as IntWord, Text as TextWord, True as TrueWord, False as FalseWord, Len as LenWord, Not as NotWord, Vec as VecWord, VecFill as VecFillWord, VecGet as VecGetWord, VecPut as VecPutWord, Binary as BinaryWord}
use Rattle.lexemes.specs.declared.token.Mark.{Mark}
use Rattle.lexemes.specs.declared.token.Mark.TheVariants.{LeftParenthesis, RightParenthesis, Comma, Semicolon, Colon, EqualsSign, Bar, Arrow, LeftBracket, RightBracket}
use Rattle.lexemes.specs.declared.fault.LexicalFault.{LexicalFault}
use Rattle.lexemes.specs.declared.fault.LexicalFault.TheVariants.{Char as CharFault, BadEscape, Unclosed, Utf8 as Utf8Fault, TextLong, NumberRange, NameLong}

-- A token. A lower name begins with a small letter and is no keyword, an upper name begins with a capital; a text token has the
-- bytes that the text stands for.
pub data Token : Type 0 where
  KeywordToken : (keyword : Keyword) → Token
  MarkToken : (mark : Mark) → Token
  LowerToken UpperToken : (name : List ℕ) → Token
  IntToken : (z : ℤ) → Token
  TextToken : (bytes : List ℕ) → Token

-- the tokens of a text, each with the place of its first byte; behind the last one the end of the text, or the first fault
pub data Tokens : Type 0 where
  Next : (at : Place) (token : Token) (rest : Tokens) → Tokens
  End : (at : Place) → Tokens
  Faulty : (at : Place) (kind : LexicalFault) → Tokens

-- a blank, a tab, an end of line, or a carriage return
abbrev pub is_blank : ℕ → Bool
is_blank b = b == 32 || b == 9 || b == 10 || b == 13

-- a byte that may stand in a name: a letter, a digit or `_`
abbrev pub is_name_byte : ℕ → Bool
is_name_byte b = is_ascii_alphanumeric b || b == 95

-- a byte that may stand in a comment, which ends with its line
abbrev pub is_in_line : ℕ → Bool
is_in_line b = not (b == 10)

-- a mark of arrays
abbrev pub array_mark : Format → Mark → Option Mark
array_mark format mark = if arrays_of format then Some mark else None

-- the mark that a byte is by itself
abbrev pub mark_of : Format → ℕ → Option Mark
mark_of format b =
    if b == 40 then Some LeftParenthesis else
    if b == 41 then Some RightParenthesis else
    if b == 44 then Some Comma else
    if b == 59 then Some Semicolon else
    if b == 58 then Some Colon else
    if b == 61 then Some EqualsSign else
    if b == 124 then Some Bar else
    if b == 91 then array_mark format LeftBracket else
    if b == 93 then array_mark format RightBracket else
    None

-- the word of an operator on two operands
abbrev pub operator_text : BinaryOperator → List ℕ
operator_text (Arith Add) = codes "add"
operator_text (Arith Sub) = codes "sub"
operator_text (Arith Mul) = codes "mul"
operator_text (Arith Div) = codes "div"
operator_text (Arith Rem) = codes "rem"
operator_text (Compare Eq) = codes "eq"
operator_text (Compare Lt) = codes "lt"
operator_text (Compare Le) = codes "le"
operator_text (TextCompare TEq) = codes "teq"
operator_text (TextCompare TLt) = codes "tlt"
operator_text Cat = codes "cat"

abbrev pub operators : List BinaryOperator
operators =
    Arith Add ∷ Arith Sub ∷ Arith Mul ∷ Arith Div ∷ Arith Rem
    ∷ Compare Eq ∷ Compare Lt ∷ Compare Le ∷ TextCompare TEq ∷ TextCompare TLt ∷ Cat ∷ []

-- the text of a keyword
abbrev pub keyword_text : Keyword → List ℕ
keyword_text TypeWord = codes "type"
keyword_text StateWord = codes "state"
keyword_text FunWord = codes "fun"
keyword_text InitWord = codes "init"
keyword_text QueryWord = codes "query"
keyword_text UpdateWord = codes "update"
keyword_text LetWord = codes "let"
keyword_text InWord = codes "in"
keyword_text MatchWord = codes "match"
keyword_text WithWord = codes "with"
keyword_text EndWord = codes "end"
keyword_text IfWord = codes "if"
keyword_text ThenWord = codes "then"
keyword_text ElseWord = codes "else"
keyword_text AuthWord = codes "auth"
keyword_text UnauthWord = codes "unauth"
keyword_text FstWord = codes "fst"
keyword_text SndWord = codes "snd"
keyword_text UnitWord = codes "unit"
keyword_text BoolWord = codes "bool"
keyword_text IntWord = codes "int"
keyword_text TextWord = codes "text"
keyword_text TrueWord = codes "true"
keyword_text FalseWord = codes "false"
keyword_text LenWord = codes "len"
keyword_text NotWord = codes "not"
keyword_text VecWord = codes "vec"
keyword_text VecFillWord = codes "vfill"
keyword_text VecGetWord = codes "vget"
keyword_text VecPutWord = codes "vput"
keyword_text (BinaryWord operator) = operator_text operator

-- the keywords of both formats
abbrev pub common_keywords : List Keyword
common_keywords =
    TypeWord ∷ StateWord ∷ FunWord ∷ InitWord ∷ QueryWord ∷ UpdateWord
    ∷ LetWord ∷ InWord ∷ MatchWord ∷ WithWord ∷ EndWord ∷ IfWord ∷ ThenWord ∷ ElseWord
    ∷ AuthWord ∷ UnauthWord ∷ FstWord ∷ SndWord ∷ UnitWord ∷ BoolWord ∷ IntWord ∷ TextWord ∷ TrueWord ∷ FalseWord
    ∷ LenWord ∷ NotWord
    ∷ map BinaryWord operators

-- those of arrays
abbrev pub array_keywords : Format → List Keyword
array_keywords First = []
array_keywords Second = VecWord ∷ VecFillWord ∷ VecGetWord ∷ VecPutWord ∷ []

abbrev pub keywords : Format → List Keyword
keywords format = common_keywords ++ array_keywords format

-- the keyword of this text, among these
abbrev pub keyword_among : List Keyword → List ℕ → Option Keyword
keyword_among [] word = None
keyword_among (keyword ∷ others) word = if bytes_eq word (keyword_text keyword) then Some keyword else keyword_among others word

-- the keyword of this text in a format
abbrev pub keyword_of : Format → List ℕ → Option Keyword
keyword_of format word = keyword_among (keywords format) word

-- how many bytes a name has at most, and a text
abbrev pub name_limit : ℕ
name_limit = 64

abbrev pub text_limit : ℕ
text_limit = 65532

-- What stands at the head of a text. PassedOver: so many bytes that belong to no token. Taken: a token of so many bytes. Wrong: no
-- token; the fault stands so many bytes further on.
pub data Piece : Type 0 where
  PassedOver : (size : ℕ) → Piece
  Taken : (token : Token) (size : ℕ) → Piece
  Wrong : (kind : LexicalFault) (offset : ℕ) → Piece

-- a name of at most 64 bytes
abbrev pub name_piece : Token → List ℕ → Piece
name_piece token word = if nat_le (length word) name_limit then Taken token (length word) else Wrong NameLong 0

-- a word that begins with a small letter: a keyword, or else a lower name
abbrev pub lower_piece : Option Keyword → List ℕ → Piece
lower_piece (Some keyword) word = Taken (KeywordToken keyword) (length word)
lower_piece None word = name_piece (LowerToken word) word

-- the number -n
abbrev pub negative : ℕ → ℤ
negative zero = pos zero
negative (suc n) = negsuc n

-- An int of so many bytes, where it is from -2^63 to 2^63 - 1. Leading zeros change nothing.
abbrev pub int_piece : Bool → List ℕ → ℕ → Piece
int_piece true digits size =
    let n = digits_value 10 digits in if nat_le n (2 ^ 63) then Taken (IntToken (negative n)) size else Wrong NumberRange 0
int_piece false digits size =
    let n = digits_value 10 digits in if nat_lt n (2 ^ 63) then Taken (IntToken (pos n)) size else Wrong NumberRange 0

-- the longest run of decimal digits that bytes begin with
abbrev pub digits_of : List ℕ → List ℕ
digits_of bytes = take (prefix_len is_ascii_digit bytes) bytes

-- behind a `-`: the mark `->`, or an int; a lone `-` is none
abbrev pub minus_piece : List ℕ → Piece
minus_piece [] = Wrong CharFault 0
minus_piece (b ∷ rest) =
    if b == 62 then Taken (MarkToken Arrow) 2 else
    if is_ascii_digit b then (let digits = digits_of (b ∷ rest) in int_piece true digits (length digits + 1)) else
    Wrong CharFault 0

-- what an escape in a text stands for, and how many bytes it has behind its backslash
pub record Escape : Type 0 where
  pub byte : ℕ
  pub size : ℕ

-- the value of a hexadecimal digit, small or capital
abbrev pub hex_digit : ℕ → Option ℕ
hex_digit b =
    if is_ascii_digit b then Some (b - 48) else
    if nat_le 97 b && nat_le b 102 then Some (b - 87) else
    if nat_le 65 b && nat_le b 70 then Some (b - 55) else
    None

-- the byte of two hexadecimal digits, which is at most 7f
abbrev pub hex_escape : Option ℕ → Option ℕ → Option Escape
hex_escape (Some high) (Some low) = if nat_lt high 8 then Some (record { byte = high * 16 + low; size = 3 }) else None
hex_escape _ _ = None

abbrev pub hex_escape_of : List ℕ → Option Escape
hex_escape_of (high ∷ low ∷ rest) = hex_escape (hex_digit high) (hex_digit low)
hex_escape_of _ = None

-- the escape whose backslash stands before these bytes: \" \\ \n \t \xHH
abbrev pub escape_of : List ℕ → Option Escape
escape_of [] = None
escape_of (b ∷ rest) =
    if b == 34 then Some (record { byte = 34; size = 1 }) else
    if b == 92 then Some (record { byte = 92; size = 1 }) else
    if b == 110 then Some (record { byte = 10; size = 1 }) else
    if b == 116 then Some (record { byte = 9; size = 1 }) else
    if b == 120 then hex_escape_of rest else
    None

-- What stands behind the opening quote of a text, with places counted from that quote. Closed: the bytes that the text stands for,
-- and its size with both quotes. CutOff: the end comes before the closing quote. WrongAt: the first fault before either.
pub data Quoted : Type 0 where
  Closed : (bytes : List ℕ) (size : ℕ) → Quoted
  CutOff : Quoted
  WrongAt : (kind : LexicalFault) (offset : ℕ) → Quoted

-- with one more byte in front
abbrev pub put : ℕ → Quoted → Quoted
put b (Closed bytes size) = Closed (b ∷ bytes) size
put b CutOff = CutOff
put b (WrongAt kind offset) = WrongAt kind offset

-- a byte that may not stand in a text as it is: below 20, or 7f
abbrev pub is_control : ℕ → Bool
is_control b = nat_lt b 32 || b == 127

-- goes on behind an escape, where one stands at this offset
abbrev pub with_escape : Option Escape → ℕ → (ℕ → Quoted) → Quoted
with_escape None offset go = WrongAt BadEscape offset
with_escape (Some escape) offset go = put escape.byte (go escape.size)

-- what stands from an offset on, behind the first so many bytes, which belong to an escape
abbrev pub quoted_behind : ℕ → ℕ → List ℕ → Quoted
quoted_behind n offset [] = CutOff
quoted_behind (suc n) offset (b ∷ rest) = quoted_behind n (offset + 1) rest
quoted_behind zero offset (b ∷ rest) =
    if b == 34 then Closed [] (offset + 1) else
    if b == 92 then with_escape (escape_of rest) offset (λ size. quoted_behind size (offset + 1) rest) else
    if is_control b then WrongAt CharFault offset else
    put b (quoted_behind zero (offset + 1) rest)

-- a text: UTF-8, of at most 65,532 bytes. These two faults, and that it isn't closed, stand at its opening quote.
abbrev pub text_piece : Quoted → Piece
text_piece (Closed bytes size) =
    if is_utf8 bytes then (if nat_le (length bytes) text_limit then Taken (TextToken bytes) size else Wrong TextLong 0)
    else Wrong Utf8Fault 0
text_piece CutOff = Wrong Unclosed 0
text_piece (WrongAt kind offset) = Wrong kind offset

-- the word that bytes begin with: the longest run of bytes that may stand in a name
abbrev pub word_of : List ℕ → List ℕ
word_of bytes = take (prefix_len is_name_byte bytes) bytes

-- a mark of one byte
abbrev pub mark_piece : Option Mark → Piece
mark_piece (Some mark) = Taken (MarkToken mark) 1
mark_piece None = Wrong CharFault 0

-- The piece at the head of a text that begins with this byte: a single blank, a comment up to the end of its line, a word, an int, a
-- text or a mark.
abbrev pub first_piece : Format → ℕ → List ℕ → Piece
first_piece format b rest =
    if is_blank b then PassedOver 1 else
    if b == 35 then PassedOver (prefix_len is_in_line (b ∷ rest)) else
    if is_ascii_lowercase b then (let word = word_of (b ∷ rest) in lower_piece (keyword_of format word) word) else
    if is_ascii_uppercase b then (let word = word_of (b ∷ rest) in name_piece (UpperToken word) word) else
    if is_ascii_digit b then (let digits = digits_of (b ∷ rest) in int_piece false digits (length digits)) else
    if b == 45 then minus_piece rest else
    if b == 34 then text_piece (quoted_behind zero 1 rest) else
    mark_piece (mark_of format b)

-- the tokens from a piece on, which stands at a place at the head of these bytes; `go` gives those behind so many bytes of them
abbrev pub from_piece : Piece → Place → List ℕ → (ℕ → Tokens) → Tokens
from_piece (PassedOver size) at bytes go = go size
from_piece (Taken token size) at bytes go = Next at token (go size)
from_piece (Wrong kind offset) at bytes go = Faulty (behind at (take offset bytes)) kind

-- the tokens of a text from a place on, behind its first so many bytes, which belong to a piece before
abbrev pub tokens_behind : Format → ℕ → Place → List ℕ → Tokens
tokens_behind format n at [] = End at
tokens_behind format (suc n) at (b ∷ rest) = tokens_behind format n (behind_byte at b) rest
tokens_behind format zero at (b ∷ rest) =
    from_piece (first_piece format b rest) at (b ∷ rest) (λ size. tokens_behind format (size - 1) (behind_byte at b) rest)

-- the tokens of a text, from a place on
abbrev pub tokens_from : Format → Place → List ℕ → Tokens
tokens_from format at text = tokens_behind format 0 at text

-- the tokens of a text, which is a list of bytes
abbrev pub tokens : Format → List ℕ → Tokens
tokens format text = tokens_from format start text

-- how many tokens there are
abbrev pub count : Tokens → ℕ
count (Next at token rest) = suc (count rest)
count (End at) = zero
count (Faulty at kind) = zero
