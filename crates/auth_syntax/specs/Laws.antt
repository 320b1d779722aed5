-- The laws of the grammar, for each text.
use Rattle.std.specs.Prelude.{◌≡◌, ◌↔◌, ℕ, List}
use Rattle.lexemes.specs.declared.place.Place.{Place}
use Rattle.auth_syntax.specs.ProgramTokens.{text_tokens}
use Rattle.auth_syntax.specs.Syntax.{Program}
use Rattle.auth_syntax.specs.Grammar.{IsProgramText}
use Rattle.auth_syntax.specs.Nesting.{nesting_limit}
use Rattle.auth_syntax.specs.Parsing.{parsed, Tree, FirstFault}
use Rattle.auth_syntax.specs.FirstFaults.{CanGoOn, IsFirstFault}
use Rattle.lexemes.specs.declared.fault.SyntaxKind.{SyntaxKind}
use Rattle.lexemes.specs.declared.fault.SyntaxKind.TheVariants.{TooNested}

-- Parsing finds exactly the program that the grammar gives a text.
abbrev pub ParsingIsExact : Type 0
ParsingIsExact = (text : List ℕ) (program : Program) → (parsed text ≡ Tree program) ↔ IsProgramText text program

-- A text is one of at most one program.
abbrev pub OneIsWritten : Type 0
OneIsWritten =
    (text : List ℕ) (program other : Program) → IsProgramText text program → IsProgramText text other → program ≡ other

-- The first fault that is told is a first one in the words of the grammar. Of a fault of nesting these words
-- leave open at which token of what is nested it stands; parsing tells it at the one that begins the level too many.
abbrev pub FirstFaultIsFirst : Type 0
FirstFaultIsFirst =
    (text : List ℕ) (kind : SyntaxKind) (at : Place) → parsed text ≡ FirstFault kind at
    → IsFirstFault (text_tokens text) kind at

-- Such a fault is told, where the tokens before it can be gone on with within the limit itself, and it isn't one of nesting.
abbrev pub FirstFaultIsTold : Type 0
FirstFaultIsTold =
    (text : List ℕ) (kind : SyntaxKind) (at : Place) (fault : IsFirstFault (text_tokens text) kind at)
    → CanGoOn nesting_limit fault.front → (kind ≡ TooNested → ⊥) → parsed text ≡ FirstFault kind at
