-- The laws of literals: what a reader may hold their definition to.
use Rattle.std.specs.Prelude.{◌≡◌, ◌↔◌, ℕ, ◌<◌, ◌^◌, List, []}
use Rattle.core_terms.specs.Types.{Ty}
use Rattle.core_terms.specs.Values.{Value, IsIdeal, IsShallow}
use Rattle.core_terms.specs.Spelling.{spelling}
use Rattle.core_terms.specs.Reading.{Good}
use Rattle.core_terms.specs.Terms.{Program}
use Rattle.core_terms.specs.Projection.{Fits, read_at}
use Rattle.lexemes.specs.Tokens.{tokens}
use Rattle.printed_syntax.specs.Literals.{ConstructorNames, IsValue, FirstFault, literal_in, written_in}
use Rattle.printed_syntax.specs.LiteralRules.{IsWholeLiteral, BreaksWholeLiteral}
use Rattle.printed_syntax.specs.declared.fault.LiteralKind.{LiteralKind}

-- v has a type, within the limits. Nothing in it is authenticated, so that it is both an ideal value and a shallow one.
pub record IsLiteralValue (P : Program) (t : Ty) (v : Value) : Type 0 where
  pub ideal : IsIdeal P.types t v
  pub shallow : IsShallow P.types t v
  pub fits : Fits P t v
  -- it is read back from its spelling, and nothing is left over
  pub read_back : (place : ℕ) × (read_at P t (spelling v) ≡ Good v [] place)

-- The value of each literal is such a value of its type, in a format whose limit fits the length field of a text.
-- So no literal has a type at which something in its value would be authenticated.
abbrev pub LiteralsAreReadBack : Type 0
LiteralsAreReadBack =
    (P : Program) → P.format.limit < 2 ^ 32 → (names : ConstructorNames) (t : Ty) (text : List ℕ) (v : Value) → literal_in P names t text ≡ IsValue v
    → IsLiteralValue P t v

-- A text is a literal exactly where its tokens, those of the format, are one of the type as a whole, for this value; and a fault is told of it
-- exactly where that rule is the first to be broken, at the token with that offset.
abbrev pub LiteralsAreByTheirTokens : Type 0
LiteralsAreByTheirTokens =
    (P : Program) (names : ConstructorNames) (t : Ty) (text : List ℕ)
    → ((v : Value) → (literal_in P names t text ≡ IsValue v) ↔ IsWholeLiteral P.format.limit P.types names t v (tokens (written_in P.format) text))
    × ((kind : LiteralKind) (offset : ℕ) → (literal_in P names t text ≡ FirstFault kind offset) ↔ BreaksWholeLiteral P.format.limit P.types names t (tokens (written_in P.format) text) kind offset)
