-- The laws of printed values: what a reader may hold their definition to.
use Rattle.std.specs.Prelude.{◌≡◌, ℕ, ◌≤◌, true, List, length, Some, slice_get}
use Rattle.std.specs.Char.{is_ascii_uppercase}
use Rattle.core_terms.specs.Types.{Ty, Table, fields_at}
use Rattle.core_terms.specs.Formats.{Format}
use Rattle.core_terms.specs.Values.{Value, TextV, PairV, ConV, DigestV, ItemsV, Values, NoV, AndV, IsShallow}
use Rattle.core_terms.specs.Terms.{Program}
use Rattle.core_terms.specs.Projection.{Fits}
use Rattle.lexemes.specs.Tokens.{text_limit}
use Rattle.printed_syntax.specs.Literals.{ConstructorNames, IsValue, literal_in}
use Rattle.printed_syntax.specs.PrintedProgramLaws.{IsName}
use Rattle.printed_syntax.specs.PrintedValues.{printed}

module _ (format : Format) where
  -- each part of the value has a literal in the format: nothing in it is authenticated, and arrays stand only where the format has them
  abbrev mutual
    pub HasLiteral : Value → Type 0
    HasLiteral (PairV a b) = HasLiteral a × HasLiteral b
    HasLiteral (ConV tag vs) = HaveLiterals vs
    HasLiteral (DigestV bytes) = ⊥
    HasLiteral (ItemsV vs) = (format.arrays ≡ true) × HaveLiterals vs
    HasLiteral v = Unit {0}

    pub HaveLiterals : Values → Type 0
    HaveLiterals NoV = Unit {0}
    HaveLiterals (AndV v vs) = HasLiteral v × HaveLiterals vs

-- each text in the value is no longer than one between quotes may be
abbrev mutual
  pub HasShortTexts : Value → Type 0
  HasShortTexts (TextV bytes) = length bytes ≤ text_limit
  HasShortTexts (PairV a b) = HasShortTexts a × HasShortTexts b
  HasShortTexts (ConV tag vs) = HaveShortTexts vs
  HasShortTexts (ItemsV vs) = HaveShortTexts vs
  HasShortTexts v = Unit {0}

  pub HaveShortTexts : Values → Type 0
  HaveShortTexts NoV = Unit {0}
  HaveShortTexts (AndV v vs) = HasShortTexts v × HaveShortTexts vs

-- each constructor has an upper name, which is that of no other constructor of its type
abbrev pub AreNamed : Table → ConstructorNames → Type 0
AreNamed types names =
    (number tag : ℕ) (ts : List Ty) → fields_at types number tag ≡ Some ts
    → (name : List ℕ) × (slice_get (names number) tag ≡ Some name) × IsName is_ascii_uppercase name
    × ((other : ℕ) → slice_get (names number) other ≡ Some name → other ≡ tag)

-- The text of a value that has a literal, and whose texts are so short, is one of its type, with this value, where the value is within the
-- limits of the format.
abbrev pub PrintedValuesAreReadBack : Type 0
PrintedValuesAreReadBack =
    (P : Program) (names : ConstructorNames) → AreNamed P.types names → (t : Ty) (v : Value) → IsShallow P.types t v → HasLiteral P.format v
    → HasShortTexts v → Fits P t v → literal_in P names t (printed P.types names t v) ≡ IsValue v

-- Within the limit of the first format the texts of a value are so short.
abbrev pub FittingTextsAreShort : Type 0
FittingTextsAreShort = (P : Program) → P.format.limit ≤ 65536 → (t : Ty) (v : Value) → IsShallow P.types t v → Fits P t v → HasShortTexts v
