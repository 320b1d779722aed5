-- The first fault of a text in the words of the grammar, whatever reads it: the tokens before it can be gone on with to a program, and with
-- the token that stands there they can't.
use Rattle.std.specs.Prelude.{◌≡◌, ℕ, suc, pos, List, [], ◌∷◌, ◌++◌, Option}
use Rattle.core_terms.specs.declared.format.Format.{Format}
use Rattle.lexemes.specs.declared.place.Place.{Place}
use Rattle.lexemes.specs.declared.fault.SyntaxKind.{SyntaxKind}
use Rattle.lexemes.specs.declared.fault.SyntaxKind.TheVariants.{Lexical, Expected, TooNested}
use Rattle.lexemes.specs.declared.fault.LexicalFault.TheVariants.{NumberRange}
use Rattle.lexemes.specs.Tokens.{Token, IntToken, Tokens, Next, End, Faulty}
use Rattle.auth_syntax.specs.Syntax.{DeclarationSyntax}
use Rattle.auth_syntax.specs.Grammar.{Written, IsKept, program_tokens, AreDeclarations}
use Rattle.auth_syntax.specs.Nesting.{nesting_limit}

-- a token at its place
pub record Placed : Type 0 where
  pub at : Place
  pub token : Token

abbrev pub placed : Place → Token → Placed
placed at token = record { at = at; token = token }

-- tokens that begin with these
abbrev pub joined : List Placed → Tokens → Tokens
joined [] rest = rest
joined (first ∷ front) rest = Next first.at first.token (joined front rest)

-- these tokens are the first ones of a tree, and behind them come others of it
abbrev pub AreFirst : List Placed → List Written → List Written → Type 0
AreFirst [] written others = written ≡ others
AreFirst (first ∷ front) (written ∷ rest) others = (first.token ≡ written.token) × IsKept written.at first.at × AreFirst front rest others
AreFirst (first ∷ front) [] others = ⊥

-- these tokens can be gone on with to the tokens of a program, within a limit of nesting
pub record CanGoOn (limit : ℕ) (front : List Placed) : Type 0 where
  pub format : Option Format
  pub declarations : List DeclarationSyntax
  pub others : List Written
  pub are_first : AreFirst front (program_tokens format declarations) others
  pub well_formed : AreDeclarations limit declarations

-- an int that is a length of an array may stand behind these tokens: 64 may, which is the number of no format
abbrev pub CanHaveLength : ℕ → List Placed → Place → Type 0
CanHaveLength limit front at = CanGoOn limit (front ++ placed at (IntToken (pos 64)) ∷ [])

-- this token is an int
abbrev pub IsInt : Token → Type 0
IsInt (IntToken z) = Unit {0}
IsInt token = ⊥

-- What stands behind the tokens that can be gone on with is refused. Where the text ends there, these tokens are no whole program. A token is
-- not expected where no program, however nested, begins so; and if it is an int, none that is a length may stand there either. An int is out of
-- range where one that is a length may stand, but no program, however nested, begins with this one: as an expression each may stand. A token is
-- nested too deep where a program begins so within two levels more than the limit, but none within the limit: what begins with it may have to
-- have a part.
abbrev pub IsRefused : List Placed → Tokens → SyntaxKind → Place → Type 0
IsRefused front (Faulty place fault) kind at = (kind ≡ Lexical fault) × (place ≡ at)
IsRefused front (End place) kind at =
    (kind ≡ Expected) × (place ≡ at)
    × ((format : Option Format) (declarations : List DeclarationSyntax) → AreFirst front (program_tokens format declarations) []
    → AreDeclarations nesting_limit declarations → ⊥)
IsRefused front (Next place token rest) Expected at =
    (place ≡ at) × ((limit : ℕ) → CanGoOn limit (front ++ placed place token ∷ []) → ⊥)
    × (IsInt token → (limit : ℕ) → CanHaveLength limit front place → ⊥)
IsRefused front (Next place token rest) (Lexical NumberRange) at =
    (place ≡ at) × IsInt token × CanHaveLength (suc nesting_limit) front place
    × ((limit : ℕ) → CanGoOn limit (front ++ placed place token ∷ []) → ⊥)
IsRefused front (Next place token rest) TooNested at =
    (place ≡ at) × CanGoOn (suc (suc nesting_limit)) (front ++ placed place token ∷ [])
    × (CanGoOn nesting_limit (front ++ placed place token ∷ []) → ⊥)
IsRefused front (Next place token rest) (Lexical fault) at = ⊥

-- The first fault of some tokens. The tokens before it can be gone on with within one level more than the limit: it may be that what has
-- to come next would begin on that level.
pub record IsFirstFault (tokens : Tokens) (kind : SyntaxKind) (at : Place) : Type 0 where
  pub front : List Placed
  pub rest : Tokens
  pub begin : tokens ≡ joined front rest
  pub can_go_on : CanGoOn (suc nesting_limit) front
  pub refused : IsRefused front rest kind at
