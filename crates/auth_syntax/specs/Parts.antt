-- Parts of expressions as the code reads them: each with what has to stand behind it.
use Rattle.std.specs.Prelude.{◌≡◌, ◌≢◌, ℕ, zero, suc, ⊤, Result, Ok, Err, Bool, true, false, Option, Some, None, List, Box, Vec, option_map}
use Rattle.std.specs.declared.alloc.Global.{Global}
use Rattle.core_terms.specs.declared.term.BinaryOperator.{BinaryOperator}
use Rattle.lexemes.specs.declared.place.Place.{Place}
use Rattle.lexemes.specs.declared.token.Keyword.{Keyword}
use Rattle.lexemes.specs.declared.token.Mark.{Mark}
use Rattle.lexemes.specs.declared.token.Mark.TheVariants.{LeftParenthesis, RightParenthesis, Comma, EqualsSign, Arrow}
use Rattle.lexemes.specs.declared.fault.SyntaxKind.TheVariants.{Lexical, Expected}
use Rattle.lexemes.specs.declared.fault.LexicalFault.TheVariants.{NumberRange}
use Rattle.core_terms.specs.Texts.{bytes_of}
use Rattle.core_terms.specs.declared.fault.Fault.TheVariants.{At, NoMemory}
use Rattle.lexemes.specs.Tokens.{Token, KeywordToken, MarkToken, LowerToken, UpperToken, IntToken, TextToken, Tokens, Next, count}
use Rattle.lexemes.specs.Readings.{SyntaxFault, Reading, Found, FaultAt, then_read, read_mark, read_keyword, read_if_mark}
use Rattle.auth_syntax.specs.Syntax.{NameSyntax, UnaryOperation, ArrayOperation, ExpSyntax, CallSyntax, ConstructorSyntax, LocalSyntax, NoExp}
use Rattle.auth_syntax.specs.Parsing.{begins_expression, in_a_row, read_brackets, read_expression, read_list, read_lower, read_upper, read_optional_list}
use Rattle.auth_syntax.specs.Trees.{name_of, names_of, unary_of, boxed_of, expressions_of}
use Rattle.auth_syntax.specs.declared.tree.ExpTree.{ExpTree}
use Rattle.auth_syntax.specs.declared.parser.expressions.Behind.{Behind}
use Rattle.auth_syntax.specs.declared.parser.expressions.Behind.TheVariants as behind
use Rattle.auth_syntax.specs.declared.parser.expressions.Head.{Head}
use Rattle.auth_syntax.specs.declared.parser.expressions.Head.TheVariants as head
use Rattle.auth_syntax.specs.declared.parser.expressions.PlacedHead.{PlacedHead}
use Rattle.auth_syntax.specs.declared.parser.expressions.Operator.{Operator}
use Rattle.auth_syntax.specs.declared.parser.expressions.Operator.TheVariants as code
use Rattle.auth_syntax.specs.declared.parser.expressions.Pattern.{Pattern}

-- the token that begins an expression
abbrev pub head_token : Head → Token
head_token (head.Keyword keyword) = KeywordToken keyword
head_token (head.Mark mark) = MarkToken mark
head_token (head.Lower name) = LowerToken name
head_token (head.Upper name) = UpperToken name
head_token (head.Int z) = IntToken z
head_token (head.Text text) = TextToken (bytes_of text)

-- a token that begins an expression is taken, where a level is left; or there is none, and this is the fault
pub record IsBegun (levels : ℕ) (before : Tokens) (placed : PlacedHead) (after : Tokens) : Type 0 where
  pub taken : before ≡ Next placed.at (head_token placed.head) after
  pub begins : begins_expression (head_token placed.head) ≡ true
  pub nested : levels ≢ 0

abbrev pub Begins : ℕ → Tokens → Result PlacedHead SyntaxFault → Tokens → Type 0
Begins levels before (Ok placed) after = IsBegun levels before placed after
Begins levels before (Err (At kind at)) after = read_expression levels before ≡ FaultAt kind at
Begins levels before (Err NoMemory) after = ⊤

-- what has to stand behind a part
abbrev pub read_behind : Behind → Tokens → Reading (Unit {0})
read_behind behind.Nothing tokens = Found tt tokens
read_behind (behind.Mark mark) tokens = read_mark mark tokens
read_behind (behind.Word keyword) tokens = read_keyword keyword tokens

-- a part that was read, once what has to stand behind it is
abbrev pub then_closed : Behind → ExpSyntax → Tokens → Reading ExpSyntax
then_closed behind expression tokens = then_read (read_behind behind tokens) (λ _ tokens. Found expression tokens)

abbrev pub read_before : Behind → (Tokens → Reading ExpSyntax) → Tokens → Reading ExpSyntax
read_before behind part tokens = then_read (part tokens) (then_closed behind)

-- two parts
pub record BothSyntax : Type 0 where
  pub first : ExpSyntax
  pub second : ExpSyntax

abbrev pub both_of : Box ExpTree Global × Box ExpTree Global → BothSyntax
both_of both = record { first = boxed_of both.0; second = boxed_of both.1 }

abbrev pub read_both : (Tokens → Reading ExpSyntax) → Tokens → Reading BothSyntax
read_both part tokens =
    then_read (read_before (behind.Mark Comma) part tokens) (λ first tokens.
    then_read (read_before (behind.Mark RightParenthesis) part tokens) (λ second tokens.
    Found (record { first = first; second = second }) tokens))

-- behind a name: expressions in parentheses, or none where no parenthesis stands
abbrev pub operands_of : Option (Vec ExpTree Global) → Option (List ExpSyntax)
operands_of operands = option_map expressions_of operands

abbrev pub operands_behind : (Tokens → Reading ExpSyntax) → Bool → Tokens → Reading (Option (List ExpSyntax))
operands_behind part true tokens = then_read (read_list part (count tokens) tokens) (λ operands tokens. Found (Some operands) tokens)
operands_behind part false tokens = Found None tokens

abbrev pub read_operands : (Tokens → Reading ExpSyntax) → Tokens → Reading (Option (List ExpSyntax))
read_operands part tokens = then_read (read_if_mark LeftParenthesis tokens) (operands_behind part)

abbrev pub as_call : Place → List ℕ → Option (List ExpSyntax) → Tokens → Reading ExpSyntax
as_call at name (Some operands) tokens = Found (CallSyntax at name (in_a_row operands)) tokens
as_call at name None tokens = Found (LocalSyntax at name) tokens

abbrev pub as_constructor : Place → List ℕ → Option (List ExpSyntax) → Tokens → Reading ExpSyntax
as_constructor at name (Some operands) tokens = Found (ConstructorSyntax at name (in_a_row operands)) tokens
as_constructor at name None tokens = Found (ConstructorSyntax at name NoExp) tokens

-- the length of an array, where the int of its place is one
abbrev pub length_reading : Option ℕ → Place → Tokens → Reading ℕ
length_reading (Some n) at rest = Found n rest
length_reading None at rest = FaultAt (Lexical NumberRange) at

-- an operation, with the parenthesis before its operands
pub data OperationSyntax : Type 0 where
  OnOne : (operation : UnaryOperation) → OperationSyntax
  OnTwo : (operation : BinaryOperator) → OperationSyntax

abbrev pub operation_of : Operator → OperationSyntax
operation_of (code.Unary operation) = OnOne (unary_of operation)
operation_of (code.Binary operation) = OnTwo operation

abbrev pub read_operation : Place → Option UnaryOperation → Option BinaryOperator → Tokens → Reading OperationSyntax
read_operation at (Some operation) binary tokens = then_read (read_mark LeftParenthesis tokens) (λ _ tokens. Found (OnOne operation) tokens)
read_operation at None (Some operation) tokens = then_read (read_mark LeftParenthesis tokens) (λ _ tokens. Found (OnTwo operation) tokens)
read_operation at None None tokens = FaultAt Expected at

-- an operation on arrays, behind its word, with the parenthesis before its operands
abbrev pub read_opened : Keyword → Place → Tokens → Reading ArrayOperation
read_opened keyword at tokens =
    then_read (read_brackets keyword at tokens) (λ operation tokens.
    then_read (read_mark LeftParenthesis tokens) (λ _ tokens. Found operation tokens))

-- what stands behind an operand, behind which so many others are left
abbrev pub behind_operand : ℕ → Mark
behind_operand zero = RightParenthesis
behind_operand (suc left) = Comma

-- the name that is bound, with the sign behind it
abbrev pub read_binding : Tokens → Reading NameSyntax
read_binding tokens =
    then_read (read_lower tokens) (λ name tokens.
    then_read (read_mark EqualsSign tokens) (λ _ tokens. Found name tokens))

-- what an arm matches, with the arrow behind it
pub record PatternSyntax : Type 0 where
  pub constructor : NameSyntax
  pub fields : List NameSyntax

abbrev pub pattern_of : Pattern → PatternSyntax
pattern_of pattern = record { constructor = name_of pattern.constructor; fields = names_of pattern.fields }

abbrev pub read_pattern : Tokens → Reading PatternSyntax
read_pattern tokens =
    then_read (read_upper tokens) (λ constructor tokens.
    then_read (read_optional_list read_lower tokens) (λ fields tokens.
    then_read (read_mark Arrow tokens) (λ _ tokens.
    Found (record { constructor = constructor; fields = fields }) tokens)))
