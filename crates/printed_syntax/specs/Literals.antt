-- Literals: values of a type, as they are written, with the tokens of programs of the same format.
use Rattle.std.specs.Prelude.{ℕ, zero, suc, true, false, List, [], ◌∷◌, Option, Some, None, bytes_eq, option_map, nat_le, if◌then◌else◌}
use Rattle.core_terms.specs.Types.{Ty, UnitTy, BoolTy, IntTy, TextTy, PairTy, NamedTy, AuthTy, VecTy, Table, fields_at, item_types}
use Rattle.core_terms.specs.Formats.{depth_limit}
use Rattle.core_terms.specs.Formats as meant
use Rattle.core_terms.specs.Values.{Value, UnitV, BoolV, IntV, TextV, PairV, ConV, ItemsV, Values, NoV, AndV, size}
use Rattle.core_terms.specs.declared.format.Format.{Format}
use Rattle.core_terms.specs.declared.format.Format.TheVariants.{First, Second}
use Rattle.core_terms.specs.Terms.{Program}
use Rattle.lexemes.specs.Tokens.{KeywordToken, MarkToken, UpperToken, IntToken, TextToken, Tokens, Next, End, Faulty, tokens}
use Rattle.lexemes.specs.Readings.{is_mark}
use Rattle.lexemes.specs.declared.token.Keyword.TheVariants.{True as TrueWord, False as FalseWord}
use Rattle.lexemes.specs.declared.token.Mark.{Mark}
use Rattle.lexemes.specs.declared.token.Mark.TheVariants.{LeftParenthesis, RightParenthesis, Comma, LeftBracket, RightBracket}
use Rattle.printed_syntax.specs.declared.fault.LiteralKind.{LiteralKind}
use Rattle.printed_syntax.specs.declared.fault.LiteralKind.TheVariants.{Lexical, Mismatch, TooDeep, TooBig}

-- the names of the constructors of each named type, by number and by tag
abbrev pub ConstructorNames : Type 0
ConstructorNames = ℕ → List (List ℕ)

-- what is read at the head of some tokens, with the tokens behind it; or the first fault, with its offset
pub data LiteralReading (A : Type 0) : Type 0 where
  Means : (value : A) (rest : Tokens) → LiteralReading A
  FaultAt : (kind : LiteralKind) (offset : ℕ) → LiteralReading A

-- reads on behind what was read
abbrev pub then_means : {A B : Type 0} → LiteralReading A → (A → Tokens → LiteralReading B) → LiteralReading B
then_means (Means value rest) go = go value rest
then_means (FaultAt kind offset) go = FaultAt kind offset

-- no literal of the type has the token at the head there
abbrev pub mismatch : {A : Type 0} → Tokens → LiteralReading A
mismatch (Next at token rest) = FaultAt Mismatch at.offset
mismatch (End at) = FaultAt Mismatch at.offset
mismatch (Faulty at kind) = FaultAt (Lexical kind) at.offset

-- a value would begin with the token at the head, on a level too many
abbrev pub too_deep : {A : Type 0} → Tokens → LiteralReading A
too_deep (Next at token rest) = FaultAt TooDeep at.offset
too_deep tokens = mismatch tokens

-- this mark
abbrev pub behind_mark : Mark → Tokens → LiteralReading (Unit {0})
behind_mark wanted (Next at (MarkToken found) rest) = if is_mark wanted found then Means tt rest else FaultAt Mismatch at.offset
behind_mark wanted tokens = mismatch tokens

-- the literals of the types without parts
abbrev pub unit_literal : Tokens → LiteralReading Value
unit_literal tokens =
    then_means (behind_mark LeftParenthesis tokens) (λ _ tokens.
    then_means (behind_mark RightParenthesis tokens) (λ _ tokens. Means UnitV tokens))

abbrev pub bool_literal : Tokens → LiteralReading Value
bool_literal (Next at (KeywordToken TrueWord) rest) = Means (BoolV true) rest
bool_literal (Next at (KeywordToken FalseWord) rest) = Means (BoolV false) rest
bool_literal tokens = mismatch tokens

abbrev pub int_literal : Tokens → LiteralReading Value
int_literal (Next at (IntToken z) rest) = Means (IntV z) rest
int_literal tokens = mismatch tokens

abbrev pub text_literal : Tokens → LiteralReading Value
text_literal (Next at (TextToken bytes) rest) = Means (TextV bytes) rest
text_literal tokens = mismatch tokens

-- literals of two types, as a pair
abbrev pub pair_literal : (Tokens → LiteralReading Value) → (Tokens → LiteralReading Value) → Tokens → LiteralReading Value
pair_literal first second tokens =
    then_means (behind_mark LeftParenthesis tokens) (λ _ tokens.
    then_means (first tokens) (λ a tokens.
    then_means (behind_mark Comma tokens) (λ _ tokens.
    then_means (second tokens) (λ b tokens.
    then_means (behind_mark RightParenthesis tokens) (λ _ tokens. Means (PairV a b) tokens)))))

-- literals of these types, each behind a comma, and the mark that ends them
abbrev pub more_values : Mark → (Ty → Tokens → LiteralReading Value) → List Ty → Tokens → LiteralReading Values
more_values ending one [] tokens = then_means (behind_mark ending tokens) (λ _ tokens. Means NoV tokens)
more_values ending one (t ∷ ts) tokens =
    then_means (behind_mark Comma tokens) (λ _ tokens.
    then_means (one t tokens) (λ v tokens.
    then_means (more_values ending one ts tokens) (λ vs tokens. Means (AndV v vs) tokens)))

-- the same, with no comma before the first
abbrev pub values_up_to : Mark → (Ty → Tokens → LiteralReading Value) → List Ty → Tokens → LiteralReading Values
values_up_to ending one [] tokens = then_means (behind_mark ending tokens) (λ _ tokens. Means NoV tokens)
values_up_to ending one (t ∷ ts) tokens =
    then_means (one t tokens) (λ v tokens.
    then_means (more_values ending one ts tokens) (λ vs tokens. Means (AndV v vs) tokens))

-- the fields of a constructor: in parentheses, or nothing where it has none
abbrev pub fields_literal : (Ty → Tokens → LiteralReading Value) → List Ty → Tokens → LiteralReading Values
fields_literal one [] tokens = Means NoV tokens
fields_literal one (t ∷ ts) tokens =
    then_means (behind_mark LeftParenthesis tokens) (λ _ tokens. values_up_to RightParenthesis one (t ∷ ts) tokens)

-- so many literals of a type, as an array: in brackets
abbrev pub array_literal : (Ty → Tokens → LiteralReading Value) → ℕ → Ty → Tokens → LiteralReading Value
array_literal one n t tokens =
    then_means (behind_mark LeftBracket tokens) (λ _ tokens.
    then_means (values_up_to RightBracket one (item_types n t) tokens) (λ vs tokens. Means (ItemsV vs) tokens))

-- the place of a name among names
abbrev pub number_of_name : List (List ℕ) → List ℕ → Option ℕ
number_of_name [] name = None
number_of_name (other ∷ others) name = if bytes_eq other name then Some zero else option_map suc (number_of_name others name)

-- behind the name of a constructor with this tag, which stands at an offset: its fields
abbrev pub constructor_with : (Ty → Tokens → LiteralReading Value) → ℕ → ℕ → Option (List Ty) → Tokens → LiteralReading Value
constructor_with one offset tag None tokens = FaultAt Mismatch offset
constructor_with one offset tag (Some ts) tokens = then_means (fields_literal one ts tokens) (λ vs tokens. Means (ConV tag vs) tokens)

module _ (types : Table) (names : ConstructorNames) where
  abbrev pub constructor_named : (Ty → Tokens → LiteralReading Value) → ℕ → ℕ → Option ℕ → Tokens → LiteralReading Value
  constructor_named one offset number None tokens = FaultAt Mismatch offset
  constructor_named one offset number (Some tag) tokens = constructor_with one offset tag (fields_at types number tag) tokens

  abbrev pub constructor_literal : (Ty → Tokens → LiteralReading Value) → ℕ → Tokens → LiteralReading Value
  constructor_literal one number (Next at (UpperToken name) rest) =
      constructor_named one at.offset number (number_of_name (names number) name) rest
  constructor_literal one number tokens = mismatch tokens

  -- a literal of a type, on a level with so many levels from there on; an authenticated value has none
  abbrev pub literal_of : ℕ → Ty → Tokens → LiteralReading Value
  literal_of zero t tokens = too_deep tokens
  literal_of (suc levels) UnitTy tokens = unit_literal tokens
  literal_of (suc levels) BoolTy tokens = bool_literal tokens
  literal_of (suc levels) IntTy tokens = int_literal tokens
  literal_of (suc levels) TextTy tokens = text_literal tokens
  literal_of (suc levels) (PairTy a b) tokens = pair_literal (literal_of levels a) (literal_of levels b) tokens
  literal_of (suc levels) (NamedTy number) tokens = constructor_literal (literal_of levels) number tokens
  literal_of (suc levels) (AuthTy t) tokens = mismatch tokens
  literal_of (suc levels) (VecTy n t) tokens = array_literal (literal_of levels) n t tokens

-- what a text gives as a literal: its value, or its first fault with its offset
pub data Literal : Type 0 where
  IsValue : (v : Value) → Literal
  FirstFault : (kind : LiteralKind) (offset : ℕ) → Literal

-- the end of the text stands there; else there is a token behind the whole
abbrev pub at_end : Tokens → Literal → Literal
at_end (Next at token rest) literal = FirstFault Mismatch at.offset
at_end (End at) literal = literal
at_end (Faulty at kind) literal = FirstFault (Lexical kind) at.offset

module _ (limit : ℕ) (types : Table) where
  -- a value whose spelling has at most so many bytes
  abbrev pub value_within : Ty → Value → Literal
  value_within t v = if nat_le (size types t v) limit then IsValue v else FirstFault TooBig 0

  abbrev pub whole_literal : Ty → LiteralReading Value → Literal
  whole_literal t (Means v rest) = at_end rest (value_within t v)
  whole_literal t (FaultAt kind offset) = FirstFault kind offset

-- the format by whose tokens literals are written: the second, which has brackets, where programs may have arrays
abbrev pub written_in : meant.Format → Format
written_in format = if format.arrays then Second else First

-- a text as a literal of a type of a program, whose constructors have these names
abbrev pub literal_in : Program → ConstructorNames → Ty → List ℕ → Literal
literal_in P names t text = whole_literal P.format.limit P.types t (literal_of P.types names depth_limit t (tokens (written_in P.format) text))
