-- What is found is made of tokens: fewer are left behind it.
use Rattle.std.proofs.Common.{◌≡◌, ℕ, zero, suc, ◌<◌, ◌+◌, refl, Bool, List, [], ◌∷◌, length, ap, sym, ◌∙◌, arith}
use Rattle.lexemes.specs.declared.place.Place.{Place}
use Rattle.lexemes.specs.declared.fault.LexicalFault.{LexicalFault}
use Rattle.lexemes.specs.declared.fault.SyntaxKind.TheVariants.{Lexical, Expected}
use Rattle.lexemes.specs.declared.token.Mark.TheVariants.{Bar, Arrow}
use Rattle.lexemes.specs.declared.token.Keyword.TheVariants.{End as EndWord}
use Rattle.lexemes.specs.Tokens.{KeywordToken, MarkToken, Tokens, Next, End, Faulty, count}
use Rattle.auth_syntax.specs.Syntax.{DeclarationSyntax}
use Rattle.auth_syntax.specs.Grammar.{Written, names_tokens, parameter_tokens, constructor_tokens, declaration_tokens}
use Rattle.auth_syntax.specs.Nesting.{nesting_limit}
use Rattle.lexemes.specs.Readings.{Reading, Found, FaultAt, read_separator}
use Rattle.auth_syntax.specs.Parsing.{read_lower, read_bar, read_arm_separator, read_type, read_expression, read_parameter, read_constructor_declaration, read_declaration}
use Rattle.auth_syntax.specs.Trees.{ArmSyntax}
use Rattle.auth_syntax.specs.Arms.{read_arm}
use Rattle.auth_syntax.proofs.Beginnings.{Begin, Begins}
use Rattle.auth_syntax.proofs.Readers.{Row, ThenMark, ThenUpper, Then, Last, found_left, lower_found, row_sound}
use Rattle.auth_syntax.proofs.Lists.{commas, bars, optional}
use Rattle.auth_syntax.proofs.Types.{types_are, type_tokens-some}
use Rattle.auth_syntax.proofs.Expressions.{names, names_listed, expressions, expressions_are, expression_tokens-some}
use Rattle.auth_syntax.proofs.Declarations.{parameters_are, constructors_are, declarations_are}
use Rattle.auth_syntax.proofs.Exact.{read_declaration-is, declaration_some}

pub record IsMadeOfTokens {A : Type 0} (read : Tokens → Reading A) : Type 0 where
  pub fewer : (tokens left : Tokens) (found : A) → read tokens ≡ Found found left → count left < count tokens
  pub at_end : (at : Place) → read (End at) ≡ FaultAt Expected at
  pub at_fault : (at : Place) (kind : LexicalFault) → read (Faulty at kind) ≡ FaultAt (Lexical kind) at

-- behind some written ones fewer are left
begins_count : (ws : List Written) (tokens left : Tokens) → Begins tokens ws left → length ws + count left ≡ count tokens
begins_count [] tokens left h = let same : count tokens ≡ count left = ap count h in omega arith
begins_count (w ∷ ws) (Next at token rest) left h = let others = begins_count ws rest left h.2 in omega arith
begins_count (w ∷ ws) (End at) left h = absurd h
begins_count (w ∷ ws) (Faulty at kind) left h = absurd h

leaves_fewer : (ws : List Written) (tokens left : Tokens) → Begin tokens ws left → 0 < length ws → count left < count tokens
leaves_fewer ws tokens left begin some = let counted = begins_count ws tokens left begin.is in omega arith

pub lower_is_token : IsMadeOfTokens read_lower
lower_is_token = record {
  fewer = λ tokens left name e. leaves_fewer _ tokens left (lower_found tokens left name e) (omega arith);
  at_end = λ at. refl;
  at_fault = λ at kind. refl;
}

pub separator_is_token : IsMadeOfTokens read_separator
separator_is_token = record {
  fewer = λ tokens left follows e. leaves_fewer _ tokens left (commas.found tokens left follows e) (omega arith);
  at_end = λ at. refl;
  at_fault = λ at kind. refl;
}

pub bar_is_token : IsMadeOfTokens read_bar
bar_is_token = record {
  fewer = λ tokens left follows e. leaves_fewer _ tokens left (bars.found tokens left follows e) (omega arith);
  at_end = λ at. refl;
  at_fault = λ at kind. refl;
}

pub arm_separator_is_token : IsMadeOfTokens read_arm_separator
arm_separator_is_token = record { fewer = fewer; at_end = λ at. refl; at_fault = λ at kind. refl } where
  fewer : (tokens left : Tokens) (follows : Bool) → read_arm_separator tokens ≡ Found follows left → count left < count tokens
  fewer (Next at (MarkToken Bar) rest) left follows e = let same : count rest ≡ count left = ap count (found_left e) in omega arith
  fewer (Next at (KeywordToken EndWord) rest) left follows e = let same : count rest ≡ count left = ap count (found_left e) in omega arith
  fewer tokens left follows e = absurd (cc)

type_at_end : (levels : ℕ) (at : Place) → read_type levels (End at) ≡ FaultAt Expected at
type_at_end zero at = refl
type_at_end (suc levels) at = refl

type_at_fault : (levels : ℕ) (at : Place) (kind : LexicalFault) → read_type levels (Faulty at kind) ≡ FaultAt (Lexical kind) at
type_at_fault zero at kind = refl
type_at_fault (suc levels) at kind = refl

pub type_is_tokens : (levels : ℕ) → IsMadeOfTokens (read_type levels)
type_is_tokens levels = record {
  fewer = λ tokens left t e. leaves_fewer _ tokens left ((types_are levels).sound tokens t left e).0 (type_tokens-some t);
  at_end = type_at_end levels;
  at_fault = type_at_fault levels;
}

expression_at_end : (levels : ℕ) (at : Place) → read_expression levels (End at) ≡ FaultAt Expected at
expression_at_end zero at = refl
expression_at_end (suc levels) at = refl

expression_at_fault : (levels : ℕ) (at : Place) (kind : LexicalFault) → read_expression levels (Faulty at kind) ≡ FaultAt (Lexical kind) at
expression_at_fault zero at kind = refl
expression_at_fault (suc levels) at kind = refl

pub expression_is_tokens : (levels : ℕ) → IsMadeOfTokens (read_expression levels)
expression_is_tokens levels = record {
  fewer = λ tokens left exp e. leaves_fewer _ tokens left ((expressions_are levels).sound tokens exp left e).0 (expression_tokens-some exp);
  at_end = expression_at_end levels;
  at_fault = expression_at_fault levels;
}

abbrev arm_row : (levels : ℕ) → Row levels ArmSyntax
arm_row levels =
    ThenUpper (λ constructor. Then (optional levels (names levels) names_tokens (λ at_most names. Unit {0}) (names_listed levels)) (λ fields.
    ThenMark Arrow (Last (expressions levels) (λ body. record { constructor = constructor; fields = fields; body = body }))))

pub arm_is_tokens : (levels : ℕ) → IsMadeOfTokens (read_arm (read_expression levels))
arm_is_tokens levels = record {
  fewer = λ tokens left arm e. leaves_fewer _ tokens left (row_sound (arm_row levels) tokens arm left e).begin (omega arith);
  at_end = λ at. refl;
  at_fault = λ at kind. refl;
}

pub parameter_is_tokens : IsMadeOfTokens read_parameter
parameter_is_tokens = record {
  fewer = λ tokens left parameter e.
      leaves_fewer (parameter_tokens parameter) tokens left ((parameters_are nesting_limit).sound tokens parameter left e).0 (omega arith);
  at_end = λ at. refl;
  at_fault = λ at kind. refl;
}

pub constructor_is_tokens : IsMadeOfTokens read_constructor_declaration
constructor_is_tokens = record {
  fewer = λ tokens left constructor e.
      leaves_fewer (constructor_tokens constructor) tokens left ((constructors_are nesting_limit).sound tokens constructor left e).0 (omega arith);
  at_end = λ at. refl;
  at_fault = λ at kind. refl;
}

pub declaration_is_tokens : (tokens left : Tokens) (declaration : DeclarationSyntax) → read_declaration tokens ≡ Found declaration left
    → count left < count tokens
declaration_is_tokens tokens left declaration e =
    leaves_fewer (declaration_tokens declaration) tokens left
    ((declarations_are nesting_limit).sound tokens declaration left (sym (read_declaration-is tokens) ∙ e)).0 (declaration_some declaration)
