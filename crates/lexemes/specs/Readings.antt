-- Reading as a function: what is found at the head of some tokens, or the first fault.
use Rattle.std.specs.Prelude.{Bool, true, false, bytes_eq, if◌then◌else◌, ℕ, List}
use Rattle.core_terms.specs.declared.fault.Fault.{Fault}
use Rattle.lexemes.specs.declared.place.Place.{Place}
use Rattle.lexemes.specs.declared.token.Keyword.{Keyword}
use Rattle.lexemes.specs.declared.token.Mark.{Mark}
use Rattle.lexemes.specs.declared.token.Mark.TheVariants.{LeftParenthesis, RightParenthesis, Comma, Semicolon, Colon, EqualsSign, Bar, Arrow, LeftBracket, RightBracket}
use Rattle.lexemes.specs.declared.fault.SyntaxKind.{SyntaxKind}
use Rattle.lexemes.specs.declared.fault.SyntaxKind.TheVariants.{Lexical, Expected}
use Rattle.lexemes.specs.Tokens.{KeywordToken, MarkToken, Tokens, Next, End, Faulty, keyword_text, LowerToken}

-- a fault of a text as the code tells it, or want of memory
abbrev pub SyntaxFault : Type 0
SyntaxFault = Fault SyntaxKind Place

-- what stands at the head of some tokens, with the tokens behind it; or the first fault
pub data Reading (A : Type 0) : Type 0 where
  Found : (value : A) (rest : Tokens) → Reading A
  FaultAt : (kind : SyntaxKind) (at : Place) → Reading A

-- reads on behind what was found
abbrev pub then_read : {A B : Type 0} → Reading A → (A → Tokens → Reading B) → Reading B
then_read (Found value rest) go = go value rest
then_read (FaultAt kind at) go = FaultAt kind at

-- the token at the head is not allowed there
abbrev pub refused : {A : Type 0} → Tokens → Reading A
refused (Next at token rest) = FaultAt Expected at
refused (End at) = FaultAt Expected at
refused (Faulty at kind) = FaultAt (Lexical kind) at

-- the marks are the same, and the keywords are
abbrev pub is_mark : Mark → Mark → Bool
is_mark LeftParenthesis LeftParenthesis = true
is_mark RightParenthesis RightParenthesis = true
is_mark Comma Comma = true
is_mark Semicolon Semicolon = true
is_mark Colon Colon = true
is_mark EqualsSign EqualsSign = true
is_mark Bar Bar = true
is_mark Arrow Arrow = true
is_mark LeftBracket LeftBracket = true
is_mark RightBracket RightBracket = true
is_mark wanted found = false

abbrev pub is_keyword : Keyword → Keyword → Bool
is_keyword wanted found = bytes_eq (keyword_text wanted) (keyword_text found)

-- this mark, and this keyword
abbrev pub read_mark : Mark → Tokens → Reading (Unit {0})
read_mark wanted (Next at (MarkToken found) rest) = if is_mark wanted found then Found tt rest else FaultAt Expected at
read_mark wanted tokens = refused tokens

abbrev pub read_keyword : Keyword → Tokens → Reading (Unit {0})
read_keyword wanted (Next at (KeywordToken found) rest) = if is_keyword wanted found then Found tt rest else FaultAt Expected at
read_keyword wanted tokens = refused tokens

-- what follows something in a list: a comma, so that another one follows, or the parenthesis that ends the list
abbrev pub read_separator : Tokens → Reading Bool
read_separator (Next at (MarkToken Comma) rest) = Found true rest
read_separator (Next at (MarkToken RightParenthesis) rest) = Found false rest
read_separator tokens = refused tokens

-- the end of the text, where nothing else is left
abbrev pub read_end : Tokens → Reading (Unit {0})
read_end (Next at token rest) = FaultAt Expected at
read_end (End at) = Found tt (End at)
read_end (Faulty at kind) = FaultAt (Lexical kind) at

-- whether this lower name stands at the head; where it does, it is taken
abbrev pub read_if_lower : List ℕ → Tokens → Reading Bool
read_if_lower wanted (Next at (LowerToken found) rest) =
    if bytes_eq found wanted then Found true rest else Found false (Next at (LowerToken found) rest)
read_if_lower wanted tokens = Found false tokens

-- whether this mark stands at the head; where it does, it is taken
abbrev pub read_if_mark : Mark → Tokens → Reading Bool
read_if_mark wanted (Next at (MarkToken found) rest) = if is_mark wanted found then Found true rest else Found false (Next at (MarkToken found) rest)
read_if_mark wanted tokens = Found false tokens
