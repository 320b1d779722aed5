-- What is read on a level, by the token at the head: where it begins nothing, where no level is left, and where one is.
use Rattle.std.proofs.Common.{◌≡◌, ◌≢◌, ℕ, zero, suc, ◌-◌, true, false, Option, Some, None, cond, arith, refl, ap}
use Rattle.core_terms.specs.declared.term.BinaryOperator.{BinaryOperator}
use Rattle.lexemes.specs.declared.place.Place.{Place}
use Rattle.lexemes.specs.declared.fault.SyntaxKind.TheVariants.{Expected, TooNested}
use Rattle.lexemes.specs.declared.token.Keyword.{Keyword}
use Rattle.lexemes.specs.declared.token.Keyword.TheVariants.{Let as LetWord, Match as MatchWord, If as IfWord, Auth as AuthWord, Unit as UnitWord, Bool as BoolWord, Int as IntWord, Text as TextWord, True as TrueWord, False as FalseWord, Vec as VecWord, VecFill as VecFillWord, VecGet as VecGetWord, VecPut as VecPutWord}
use Rattle.lexemes.specs.declared.token.Mark.TheVariants.{LeftParenthesis}
use Rattle.lexemes.specs.Tokens.{Token, KeywordToken, MarkToken, LowerToken, UpperToken, IntToken, TextToken, Tokens, Next}
use Rattle.auth_syntax.specs.Syntax.{TypeSyntax, ExpSyntax, UnaryOperation}
use Rattle.lexemes.specs.Readings.{Reading, FaultAt}
use Rattle.auth_syntax.specs.Parsing.{begins_type, type_from, read_type, begins_expression, word_begins, operation_begins, unary_of, binary_of, expression_from, word_from, operation_from, read_expression}

less-one : (n : ℕ) → n ≡ suc n - 1
less-one n = omega arith

-- a token that begins no type
type_from-none : (part : Tokens → Reading TypeSyntax) (at : Place) (token : Token) (rest : Tokens) → begins_type token ≡ false
    → type_from part at token rest ≡ FaultAt Expected at
type_from-none part at (KeywordToken UnitWord) rest h = absurd (cc)
type_from-none part at (KeywordToken BoolWord) rest h = absurd (cc)
type_from-none part at (KeywordToken IntWord) rest h = absurd (cc)
type_from-none part at (KeywordToken TextWord) rest h = absurd (cc)
type_from-none part at (KeywordToken AuthWord) rest h = absurd (cc)
type_from-none part at (KeywordToken VecWord) rest h = absurd (cc)
type_from-none part at (LowerToken name) rest h = absurd (cc)
type_from-none part at (MarkToken LeftParenthesis) rest h = absurd (cc)
type_from-none part at token rest h = refl

pub read_type-none : (levels : ℕ) (at : Place) (token : Token) (rest : Tokens) → begins_type token ≡ false
    → read_type levels (Next at token rest) ≡ FaultAt Expected at
read_type-none zero at token rest h = ap (λ begins. FaultAt (cond begins TooNested Expected) at) h
read_type-none (suc levels) at token rest h = type_from-none (read_type levels) at token rest h

pub read_type-nested : (at : Place) (token : Token) (rest : Tokens) → begins_type token ≡ true
    → read_type 0 (Next at token rest) ≡ FaultAt TooNested at
read_type-nested at token rest h = ap (λ begins. FaultAt (cond begins TooNested Expected) at) h

pub read_type-step : (levels : ℕ) (at : Place) (token : Token) (rest : Tokens) → levels ≢ 0
    → read_type levels (Next at token rest) ≡ type_from (read_type (levels - 1)) at token rest
read_type-step zero at token rest some = absurd (some refl)
read_type-step (suc levels) at token rest some = ap (λ n. type_from (read_type n) at token rest) (less-one levels)

-- a keyword that begins no expression
operation_from-none : (part : Tokens → Reading ExpSyntax) (at : Place) (unary : Option UnaryOperation) (binary : Option BinaryOperator) (rest : Tokens)
    → operation_begins unary binary ≡ false → operation_from part at unary binary rest ≡ FaultAt Expected at
operation_from-none part at (Some operation) binary rest h = absurd (cc)
operation_from-none part at None (Some operation) rest h = absurd (cc)
operation_from-none part at None None rest h = refl

word_from-none : (part : Tokens → Reading ExpSyntax) (at : Place) (keyword : Keyword) (rest : Tokens) → word_begins keyword ≡ false
    → word_from part at keyword rest ≡ FaultAt Expected at
word_from-none part at TrueWord rest h = absurd (cc)
word_from-none part at FalseWord rest h = absurd (cc)
word_from-none part at LetWord rest h = absurd (cc)
word_from-none part at IfWord rest h = absurd (cc)
word_from-none part at MatchWord rest h = absurd (cc)
word_from-none part at VecFillWord rest h = absurd (cc)
word_from-none part at VecGetWord rest h = absurd (cc)
word_from-none part at VecPutWord rest h = absurd (cc)
word_from-none part at keyword rest h = operation_from-none part at (unary_of keyword) (binary_of keyword) rest h

expression_from-none : (part : Tokens → Reading ExpSyntax) (at : Place) (token : Token) (rest : Tokens) → begins_expression token ≡ false
    → expression_from part at token rest ≡ FaultAt Expected at
expression_from-none part at (MarkToken LeftParenthesis) rest h = absurd (cc)
expression_from-none part at (LowerToken name) rest h = absurd (cc)
expression_from-none part at (UpperToken name) rest h = absurd (cc)
expression_from-none part at (IntToken z) rest h = absurd (cc)
expression_from-none part at (TextToken bytes) rest h = absurd (cc)
expression_from-none part at (KeywordToken keyword) rest h = word_from-none part at keyword rest h
expression_from-none part at token rest h = refl

pub read_expression-none : (levels : ℕ) (at : Place) (token : Token) (rest : Tokens) → begins_expression token ≡ false
    → read_expression levels (Next at token rest) ≡ FaultAt Expected at
read_expression-none zero at token rest h = ap (λ begins. FaultAt (cond begins TooNested Expected) at) h
read_expression-none (suc levels) at token rest h = expression_from-none (read_expression levels) at token rest h

pub read_expression-nested : (at : Place) (token : Token) (rest : Tokens) → begins_expression token ≡ true
    → read_expression 0 (Next at token rest) ≡ FaultAt TooNested at
read_expression-nested at token rest h = ap (λ begins. FaultAt (cond begins TooNested Expected) at) h

pub read_expression-step : (levels : ℕ) (at : Place) (token : Token) (rest : Tokens) → levels ≢ 0
    → read_expression levels (Next at token rest) ≡ expression_from (read_expression (levels - 1)) at token rest
read_expression-step zero at token rest some = absurd (some refl)
read_expression-step (suc levels) at token rest some = ap (λ n. expression_from (read_expression n) at token rest) (less-one levels)
