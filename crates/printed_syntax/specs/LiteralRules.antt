-- Which tokens are a literal of a type, and what is broken first where they are none: rules on the tokens, by one clause for each form of a type.
use Rattle.std.specs.Prelude.{◌≡◌, ◌⊎◌, ◌<◌, ◌≤◌, ℕ, zero, suc, List, [], ◌∷◌, Some, slice_get}
use Rattle.core_terms.specs.Types.{Ty, UnitTy, BoolTy, IntTy, TextTy, PairTy, NamedTy, VecTy, Table, fields_at, item_types}
use Rattle.core_terms.specs.Formats.{depth_limit}
use Rattle.core_terms.specs.Values.{Value, UnitV, BoolV, IntV, TextV, PairV, ConV, ItemsV, Values, NoV, AndV, size}
use Rattle.auth_syntax.specs.Grammar.{bool_word}
use Rattle.lexemes.specs.Tokens.{Token, KeywordToken, MarkToken, UpperToken, IntToken, TextToken, Tokens, Next, End, Faulty}
use Rattle.lexemes.specs.declared.place.Place.{Place}
use Rattle.lexemes.specs.declared.token.Mark.{Mark}
use Rattle.lexemes.specs.declared.token.Mark.TheVariants.{LeftParenthesis, RightParenthesis, Comma, LeftBracket, RightBracket}
use Rattle.printed_syntax.specs.Literals.{ConstructorNames}
use Rattle.printed_syntax.specs.declared.fault.LiteralKind.{LiteralKind}
use Rattle.printed_syntax.specs.declared.fault.LiteralKind.TheVariants.{Lexical, Mismatch, TooDeep, TooBig}

-- this token stands at the head, and these behind it
abbrev pub IsTokenAt : Token → (before behind : Tokens) → Type 0
IsTokenAt token before behind = (at : Place) × (before ≡ Next at token behind)

-- what is told at a token, or at the end, that may not stand there: a mismatch, but a lexical fault where there is no token
abbrev pub IsUnfit : Tokens → LiteralKind → ℕ → Type 0
IsUnfit (Next at token rest) kind offset = (kind ≡ Mismatch) × (offset ≡ at.offset)
IsUnfit (End at) kind offset = (kind ≡ Mismatch) × (offset ≡ at.offset)
IsUnfit (Faulty at fault) kind offset = (kind ≡ Lexical fault) × (offset ≡ at.offset)

-- what is told where a value would begin on a level too many: that it is too deep at a token, and at no token what is told of it anyway
abbrev pub IsTooDeep : Tokens → LiteralKind → ℕ → Type 0
IsTooDeep (Next at token rest) kind offset = (kind ≡ TooDeep) × (offset ≡ at.offset)
IsTooDeep tokens kind offset = IsUnfit tokens kind offset

-- what a literal with parts consists of: marks, and literals of these types
pub data Part : Type 0 where
  TheMark : (mark : Mark) → Part
  ValueOf : (t : Ty) → Part

abbrev pub unit_parts : List Part
unit_parts = TheMark LeftParenthesis ∷ TheMark RightParenthesis ∷ []

abbrev pub pair_parts : (a b : Ty) → List Part
pair_parts a b = TheMark LeftParenthesis ∷ ValueOf a ∷ TheMark Comma ∷ ValueOf b ∷ TheMark RightParenthesis ∷ []

-- values of these types with commas between them, and the mark that ends them; behind a first one, and from the first on
abbrev pub more_parts : Mark → List Ty → List Part
more_parts ending [] = TheMark ending ∷ []
more_parts ending (t ∷ ts) = TheMark Comma ∷ ValueOf t ∷ more_parts ending ts

abbrev pub parts_up_to : Mark → List Ty → List Part
parts_up_to ending [] = TheMark ending ∷ []
parts_up_to ending (t ∷ ts) = ValueOf t ∷ more_parts ending ts

-- fields stand in parentheses; where there are none, nothing does
abbrev pub field_parts : List Ty → List Part
field_parts [] = []
field_parts (t ∷ ts) = TheMark LeftParenthesis ∷ parts_up_to RightParenthesis (t ∷ ts)

-- the elements of an array stand in brackets
abbrev pub array_parts : ℕ → Ty → List Part
array_parts n t = TheMark LeftBracket ∷ parts_up_to RightBracket (item_types n t)

module _ (IsValueAt : Ty → Value → (before behind : Tokens) → Type 0) where
  -- these parts stand there one behind the other, with these values, and these tokens remain
  abbrev pub ArePartsAt : List Part → Values → (before after : Tokens) → Type 0
  ArePartsAt [] NoV before after = before ≡ after
  ArePartsAt (TheMark mark ∷ parts) vs before after = (behind : Tokens) × IsTokenAt (MarkToken mark) before behind × ArePartsAt parts vs behind after
  ArePartsAt (ValueOf t ∷ parts) (AndV v vs) before after = (behind : Tokens) × IsValueAt t v before behind × ArePartsAt parts vs behind after
  ArePartsAt parts vs before after = ⊥

  -- a part stands there
  abbrev pub IsPartAt : Part → (before behind : Tokens) → Type 0
  IsPartAt (TheMark mark) before behind = IsTokenAt (MarkToken mark) before behind
  IsPartAt (ValueOf t) before behind = (v : Value) × IsValueAt t v before behind

  module _ (BreaksValue : Ty → Tokens → LiteralKind → ℕ → Type 0) where
    -- a part doesn't: another token stands in the place of a mark, or the literal of a value is broken
    abbrev pub BreaksPart : Part → Tokens → LiteralKind → ℕ → Type 0
    BreaksPart (TheMark mark) before kind offset = ((behind : Tokens) → IsTokenAt (MarkToken mark) before behind → ⊥) × IsUnfit before kind offset
    BreaksPart (ValueOf t) before kind offset = BreaksValue t before kind offset

    -- one of the parts doesn't, and those before it do
    abbrev pub OnePartBreaks : List Part → Tokens → LiteralKind → ℕ → Type 0
    OnePartBreaks [] before kind offset = ⊥
    OnePartBreaks (part ∷ parts) before kind offset =
        BreaksPart part before kind offset ⊎ ((behind : Tokens) × IsPartAt part before behind × OnePartBreaks parts behind kind offset)

-- the name stands there among these, and nowhere before
pub record IsFirstName (names : List (List ℕ)) (name : List ℕ) (place : ℕ) : Type 0 where
  pub there : slice_get names place ≡ Some name
  pub new : (earlier : ℕ) → earlier < place → slice_get names earlier ≡ Some name → ⊥

module _ (types : Table) (names : ConstructorNames) where
  -- the name of a constructor of a named type stands at the head: its tag, and the types of its fields
  abbrev pub IsConstructorAt : (number tag : ℕ) → List Ty → (before behind : Tokens) → Type 0
  IsConstructorAt number tag ts before behind =
      (name : List ℕ) × IsTokenAt (UpperToken name) before behind × IsFirstName (names number) name tag × (fields_at types number tag ≡ Some ts)

  -- A literal of a type stands there, for this value, and these tokens remain; it has so many levels at most. An authenticated value has none.
  abbrev pub IsLiteral : (levels : ℕ) → Ty → Value → (before after : Tokens) → Type 0
  IsLiteral zero t v before after = ⊥
  IsLiteral (suc levels) UnitTy UnitV before after = ArePartsAt (IsLiteral levels) unit_parts NoV before after
  IsLiteral (suc levels) BoolTy (BoolV b) before after = IsTokenAt (KeywordToken (bool_word b)) before after
  IsLiteral (suc levels) IntTy (IntV z) before after = IsTokenAt (IntToken z) before after
  IsLiteral (suc levels) TextTy (TextV bytes) before after = IsTokenAt (TextToken bytes) before after
  IsLiteral (suc levels) (PairTy a b) (PairV x y) before after = ArePartsAt (IsLiteral levels) (pair_parts a b) (AndV x (AndV y NoV)) before after
  IsLiteral (suc levels) (NamedTy number) (ConV tag vs) before after =
      (ts : List Ty) × (behind : Tokens) × IsConstructorAt number tag ts before behind × ArePartsAt (IsLiteral levels) (field_parts ts) vs behind after
  IsLiteral (suc levels) (VecTy n t) (ItemsV vs) before after = ArePartsAt (IsLiteral levels) (array_parts n t) vs before after
  IsLiteral levels t v before after = ⊥

  -- no constructor of the named type stands at the head
  abbrev pub IsNoConstructor : ℕ → Tokens → Type 0
  IsNoConstructor number before = (tag : ℕ) (ts : List Ty) (behind : Tokens) → IsConstructorAt number tag ts before behind → ⊥

  -- What is told of the literal of a type that should stand there, on a level with so many levels from there on: the first rule that is broken, and
  -- the offset of the token at which it is.
  abbrev pub BreaksLiteral : (levels : ℕ) → Ty → Tokens → LiteralKind → ℕ → Type 0
  BreaksLiteral zero t before kind offset = IsTooDeep before kind offset
  BreaksLiteral (suc levels) UnitTy before kind offset = OnePartBreaks (IsLiteral levels) (BreaksLiteral levels) unit_parts before kind offset
  BreaksLiteral (suc levels) (PairTy a b) before kind offset = OnePartBreaks (IsLiteral levels) (BreaksLiteral levels) (pair_parts a b) before kind offset
  BreaksLiteral (suc levels) (NamedTy number) before kind offset =
      (IsNoConstructor number before × IsUnfit before kind offset)
      ⊎ ((tag : ℕ) × (ts : List Ty) × (behind : Tokens) × IsConstructorAt number tag ts before behind
      × OnePartBreaks (IsLiteral levels) (BreaksLiteral levels) (field_parts ts) behind kind offset)
  BreaksLiteral (suc levels) (VecTy n t) before kind offset = OnePartBreaks (IsLiteral levels) (BreaksLiteral levels) (array_parts n t) before kind offset
  BreaksLiteral (suc levels) t before kind offset = ((v : Value) (after : Tokens) → IsLiteral (suc levels) t v before after → ⊥) × IsUnfit before kind offset

module _ (limit : ℕ) (types : Table) (names : ConstructorNames) (t : Ty) where
  -- The tokens are a literal of the type as a whole, for a value whose spelling is within the limit.
  abbrev pub IsWholeLiteral : Value → Tokens → Type 0
  IsWholeLiteral v tokens = (end : Place) × IsLiteral types names depth_limit t v tokens (End end) × (size types t v ≤ limit)

  -- They are none: the literal is broken; or something stands behind it; or nothing does, and its spelling is beyond the limit.
  abbrev pub BreaksWholeLiteral : Tokens → LiteralKind → ℕ → Type 0
  BreaksWholeLiteral tokens kind offset =
      BreaksLiteral types names depth_limit t tokens kind offset
      ⊎ ((v : Value) × (behind : Tokens) × IsLiteral types names depth_limit t v tokens behind × ((end : Place) → behind ≡ End end → ⊥) × IsUnfit behind kind offset)
      ⊎ ((v : Value) × (end : Place) × IsLiteral types names depth_limit t v tokens (End end) × (limit < size types t v) × (kind ≡ TooBig) × (offset ≡ 0))
