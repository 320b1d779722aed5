-- Expressions by the parts that the code reads: each reading, where a part is read with what has to stand behind it.
use Rattle.std.proofs.Common.{◌≡◌, ◌∙◌, ℕ, ap, Bool, true, false, List, Option, Some, None, Result, Err, Vec, refl, sym, subst}
use Rattle.core_terms.specs.declared.term.BinaryOperator.{BinaryOperator}
use Rattle.lexemes.specs.declared.place.Place.{Place}
use Rattle.lexemes.specs.declared.token.Mark.TheVariants.{LeftParenthesis, RightParenthesis, Comma, EqualsSign, Bar, Arrow}
use Rattle.lexemes.specs.declared.token.Keyword.{Keyword}
use Rattle.lexemes.specs.declared.token.Keyword.TheVariants.{In as InWord, With as WithWord, Then as ThenWord, Else as ElseWord}
use Rattle.core_terms.specs.declared.fault.Fault.TheVariants.{At, NoMemory}
use Rattle.lexemes.specs.declared.fault.SyntaxKind.TheVariants.{Expected, Lexical, TooNested}
use Rattle.lexemes.specs.Tokens.{MarkToken, Tokens, Next, count}
use Rattle.lexemes.specs.Readings.{SyntaxFault, Reading, Found, then_read, read_mark, read_keyword, read_if_mark}
use Rattle.lexemes.specs.Remaining.{Reads, TakesToken}
use Rattle.auth_syntax.specs.Syntax.{NameSyntax, UnaryOperation, ArrayOperation, ExpSyntax, UnitSyntax, PairSyntax, UnarySyntax, BinarySyntax, OperateSyntax, LetSyntax, IfSyntax, MatchSyntax}
use Rattle.auth_syntax.specs.Nesting.{others_of}
use Rattle.auth_syntax.specs.Parsing.{in_a_row, read_brackets, read_operate, read_so_many, read_lower, read_upper, read_list, read_optional_list, read_call, read_constructor, read_expression, operation_from, read_unit_or_pair, read_let, read_if, read_match, read_arms}
use Rattle.auth_syntax.specs.Arms.{read_arm}
use Rattle.auth_syntax.specs.Trees.{ArmSyntax, arms_of, array_of, boxed_of, expression_of, expressions_of, name_of, unary_of}
use Rattle.std.specs.declared.alloc.Global.{Global}
use Rattle.std.specs.declared.boxed.Box.{Box}
use Rattle.auth_syntax.specs.declared.tree.Arm.{Arm}
use Rattle.auth_syntax.specs.declared.tree.ExpTree.{ExpTree}
use Rattle.auth_syntax.specs.declared.tree.PlacedName.{PlacedName}
use Rattle.auth_syntax.specs.declared.tree.UnaryOperator.{UnaryOperator}
use Rattle.auth_syntax.specs.declared.tree.ArrayOperator.{ArrayOperator}
use Rattle.auth_syntax.specs.declared.tree.ExpTree as tree
use Rattle.auth_syntax.specs.declared.tree.ExpTree.TheVariants.{rolls-Pair, rolls-Unary, rolls-Binary, rolls-Operate, rolls-Let, rolls-If, rolls-Match}
use Rattle.auth_syntax.specs.declared.tree.ExpTree.TheFolds.{fold-roll-ExpTree}
use Rattle.auth_syntax.specs.Parts.{Begins, BothSyntax, OperationSyntax, OnOne, OnTwo, PatternSyntax, as_call, as_constructor, then_closed}
use Rattle.auth_syntax.specs.Parts.{read_before, read_behind, read_binding, read_both, read_opened, read_operands, read_operation, read_pattern}
use Rattle.auth_syntax.specs.declared.parser.expressions.Behind.{Behind}
use Rattle.auth_syntax.specs.declared.parser.expressions.Behind.TheVariants as behind
use Rattle.auth_syntax.proofs.Readers.{in_turn, alike}
use Rattle.auth_syntax.proofs.MadeOfTokens.{expression_is_tokens}

-- what is read, where it is read as this
pub seen_as : {A B : Type 0} (view : A → B) (result : Result A SyntaxFault) (left : Tokens) {reading reading' : Reading B}
    → reading ≡ reading' → Reads view reading' result left → Reads view reading result left
seen_as {B} view result left is h = subst (λ (reading : Reading B). Reads view reading result left) (sym is) h

-- what trees stand for, by their parts
pub pair_tree : (at : Place) (first second : Box ExpTree Global)
    → expression_of (tree.Pair at first second) ≡ PairSyntax at (boxed_of first) (boxed_of second)
pair_tree at first second = ap expression_of (sym (rolls-Pair at first second)) ∙ fold-roll-ExpTree _ _ _ _ _

pub unary_tree : (at : Place) (operation : UnaryOperator) (operand : Box ExpTree Global)
    → expression_of (tree.Unary at operation operand) ≡ UnarySyntax at (unary_of operation) (boxed_of operand)
unary_tree at operation operand = ap expression_of (sym (rolls-Unary at operation operand)) ∙ fold-roll-ExpTree _ _ _ _ _

pub binary_tree : (at : Place) (operation : BinaryOperator) (first second : Box ExpTree Global)
    → expression_of (tree.Binary at operation first second) ≡ BinarySyntax at operation (boxed_of first) (boxed_of second)
binary_tree at operation first second = ap expression_of (sym (rolls-Binary at operation first second)) ∙ fold-roll-ExpTree _ _ _ _ _

pub operate_tree : (at : Place) (operation : ArrayOperator) (operands : Vec ExpTree Global)
    → expression_of (tree.Operate at operation operands) ≡ OperateSyntax at (array_of operation) (in_a_row (expressions_of operands))
operate_tree at operation operands = ap expression_of (sym (rolls-Operate at operation operands)) ∙ fold-roll-ExpTree _ _ _ _ _

pub let_tree : (at : Place) (name : PlacedName) (bound body : Box ExpTree Global)
    → expression_of (tree.Let at name bound body) ≡ LetSyntax at (name_of name) (boxed_of bound) (boxed_of body)
let_tree at name bound body = ap expression_of (sym (rolls-Let at name bound body)) ∙ fold-roll-ExpTree _ _ _ _ _

pub if_tree : (at : Place) (test first other : Box ExpTree Global)
    → expression_of (tree.If at test first other) ≡ IfSyntax at (boxed_of test) (boxed_of first) (boxed_of other)
if_tree at test first other = ap expression_of (sym (rolls-If at test first other)) ∙ fold-roll-ExpTree _ _ _ _ _

pub match_tree : (at : Place) (subject : Box ExpTree Global) (arms : Vec Arm Global)
    → expression_of (tree.Match at subject arms) ≡ MatchSyntax at (boxed_of subject) (arms_of arms)
match_tree at subject arms = ap expression_of (sym (rolls-Match at subject arms)) ∙ fold-roll-ExpTree _ _ _ _ _

-- where no expression begins, none is read
pub none_begun : {A : Type 0} (view : A → ExpSyntax) (levels : ℕ) (before after left : Tokens) (fault : SyntaxFault)
    → Begins levels before (Err fault) after → Reads view (read_expression levels before) (Err fault) left
none_begun view levels before after left (At kind at) h = h
none_begun view levels before after left NoMemory h = tt

-- where no token stands, no expression begins
pub none_taken : (levels : ℕ) (before after : Tokens) (fault : SyntaxFault)
    → TakesToken before (Err fault) after → Begins levels before (Err fault) after
none_taken levels before after (At Expected at) h = ap (read_expression levels) h ∙ (expression_is_tokens levels).at_end at
none_taken levels before after (At (Lexical kind) at) h = ap (read_expression levels) h ∙ (expression_is_tokens levels).at_fault at kind
none_taken levels before after (At TooNested at) h = absurd h
none_taken levels before after NoMemory h = tt

module _ (part : Tokens → Reading ExpSyntax) where
  before_is : {A : Type 0} (behind : Behind) (tokens : Tokens) (go : ExpSyntax → Tokens → Reading A)
      → then_read (read_before behind part tokens) go
      ≡ then_read (part tokens) (λ expression rest. then_read (read_behind behind rest) (λ _ rest. go expression rest))
  before_is behind tokens go =
      in_turn (part tokens) (then_closed behind) go
      ∙ alike (part tokens) _ _ (λ expression rest. in_turn (read_behind behind rest) (λ _ rest. Found expression rest) go)

  abbrev second_of : {A : Type 0} → (BothSyntax → Tokens → Reading A) → ExpSyntax → Tokens → Reading A
  second_of go first tokens =
      then_read (part tokens) (λ second rest. then_read (read_mark RightParenthesis rest) (λ _ rest. go (record { first = first; second = second }) rest))

  both_is : {A : Type 0} (tokens : Tokens) (go : BothSyntax → Tokens → Reading A)
      → then_read (read_both part tokens) go
      ≡ then_read (part tokens) (λ first rest. then_read (read_mark Comma rest) (λ _ rest. second_of go first rest))
  both_is tokens go =
      in_turn (read_before (behind.Mark Comma) part tokens) _ go
      ∙ (alike (read_before (behind.Mark Comma) part tokens) _ (second_of go)
      (λ first rest. in_turn (read_before (behind.Mark RightParenthesis) part rest) _ go
      ∙ before_is (behind.Mark RightParenthesis) rest (λ second rest. go (record { first = first; second = second }) rest))
      ∙ before_is (behind.Mark Comma) tokens (second_of go))

  -- behind a parenthesis
  abbrev pub as_pair : Place → BothSyntax → Tokens → Reading ExpSyntax
  as_pair at both rest = Found (PairSyntax at both.first both.second) rest

  abbrev pub unit_or_both : Place → Bool → Tokens → Reading ExpSyntax
  unit_or_both at true rest = Found (UnitSyntax at) rest
  unit_or_both at false rest = then_read (read_both part rest) (as_pair at)

  pub unit_or_pair_is : (at : Place) (tokens : Tokens)
      → read_unit_or_pair part at tokens ≡ then_read (read_if_mark RightParenthesis tokens) (unit_or_both at)
  unit_or_pair_is at (Next next (MarkToken RightParenthesis) rest) = refl
  unit_or_pair_is at tokens = sym (both_is tokens (as_pair at))

  -- behind a name
  pub call_is : (at : Place) (name : List ℕ) (tokens : Tokens) → read_call part at name tokens ≡ then_read (read_operands part tokens) (as_call at name)
  call_is at name (Next next (MarkToken LeftParenthesis) rest) =
      sym (in_turn (read_list part (count rest) rest) (λ operands rest. Found (Some operands) rest) (as_call at name))
  call_is at name tokens = refl

  pub constructor_is : (at : Place) (name : List ℕ) (tokens : Tokens)
      → read_constructor part at name tokens ≡ then_read (read_operands part tokens) (as_constructor at name)
  constructor_is at name (Next next (MarkToken LeftParenthesis) rest) =
      sym (in_turn (read_list part (count rest) rest) (λ operands rest. Found (Some operands) rest) (as_constructor at name))
  constructor_is at name tokens = refl

  -- operations
  abbrev pub operated : Place → OperationSyntax → Tokens → Reading ExpSyntax
  operated at (OnOne operation) tokens =
      then_read (read_before (behind.Mark RightParenthesis) part tokens) (λ operand rest. Found (UnarySyntax at operation operand) rest)
  operated at (OnTwo operation) tokens =
      then_read (read_both part tokens) (λ both rest. Found (BinarySyntax at operation both.first both.second) rest)

  pub operation_is : (at : Place) (unary : Option UnaryOperation) (binary : Option BinaryOperator) (tokens : Tokens)
      → operation_from part at unary binary tokens ≡ then_read (read_operation at unary binary tokens) (operated at)
  operation_is at (Some operation) binary tokens =
      sym (in_turn (read_mark LeftParenthesis tokens) (λ _ rest. Found (OnOne operation) rest) (operated at)
      ∙ alike (read_mark LeftParenthesis tokens) _ _
      (λ _ rest. before_is (behind.Mark RightParenthesis) rest (λ operand rest. Found (UnarySyntax at operation operand) rest)))
  operation_is at None (Some operation) tokens =
      sym (in_turn (read_mark LeftParenthesis tokens) (λ _ rest. Found (OnTwo operation) rest) (operated at)
      ∙ alike (read_mark LeftParenthesis tokens) _ _
      (λ _ rest. both_is rest (λ both rest. Found (BinarySyntax at operation both.first both.second) rest)))
  operation_is at None None tokens = refl

  -- operations on arrays
  abbrev pub operated_many : Place → ArrayOperation → Tokens → Reading ExpSyntax
  operated_many at operation tokens =
      then_read (read_so_many part (others_of operation) tokens) (λ operands rest. Found (OperateSyntax at operation (in_a_row operands)) rest)

  pub operate_is : (at : Place) (keyword : Keyword) (tokens : Tokens)
      → read_operate part at keyword tokens ≡ then_read (read_opened keyword at tokens) (operated_many at)
  operate_is at keyword tokens =
      sym (in_turn (read_brackets keyword at tokens) _ (operated_many at)
      ∙ alike (read_brackets keyword at tokens) _ _ (λ operation rest.
      in_turn (read_mark LeftParenthesis rest) (λ _ rest. Found operation rest) (operated_many at)))

  -- `let`
  abbrev pub let_body : Place → NameSyntax → ExpSyntax → Tokens → Reading ExpSyntax
  let_body at name bound tokens = then_read (read_before behind.Nothing part tokens) (λ body rest. Found (LetSyntax at name bound body) rest)

  abbrev pub let_bound : Place → NameSyntax → Tokens → Reading ExpSyntax
  let_bound at name tokens = then_read (read_before (behind.Word InWord) part tokens) (let_body at name)

  pub let_is : (at : Place) (tokens : Tokens) → read_let part at tokens ≡ then_read (read_binding tokens) (let_bound at)
  let_is at tokens =
      sym (in_turn (read_lower tokens) _ (let_bound at)
      ∙ alike (read_lower tokens) _ _ (λ name rest. in_turn (read_mark EqualsSign rest) (λ _ rest. Found name rest) (let_bound at)
      ∙ alike (read_mark EqualsSign rest) _ _ (λ _ rest. before_is (behind.Word InWord) rest (let_body at name)
      ∙ alike (part rest) _ _ (λ bound rest. alike (read_keyword InWord rest) _ _ (λ _ rest.
      before_is behind.Nothing rest (λ body rest. Found (LetSyntax at name bound body) rest))))))

  -- `if`
  abbrev pub if_other : Place → ExpSyntax → ExpSyntax → Tokens → Reading ExpSyntax
  if_other at test first tokens = then_read (read_before behind.Nothing part tokens) (λ other rest. Found (IfSyntax at test first other) rest)

  abbrev pub if_first : Place → ExpSyntax → Tokens → Reading ExpSyntax
  if_first at test tokens = then_read (read_before (behind.Word ElseWord) part tokens) (if_other at test)

  pub if_is : (at : Place) (tokens : Tokens) → read_if part at tokens ≡ then_read (read_before (behind.Word ThenWord) part tokens) (if_first at)
  if_is at tokens =
      sym (before_is (behind.Word ThenWord) tokens (if_first at)
      ∙ alike (part tokens) _ _ (λ test rest. alike (read_keyword ThenWord rest) _ _ (λ _ rest.
      before_is (behind.Word ElseWord) rest (if_other at test)
      ∙ alike (part rest) _ _ (λ first rest. alike (read_keyword ElseWord rest) _ _ (λ _ rest.
      before_is behind.Nothing rest (λ other rest. Found (IfSyntax at test first other) rest))))))

  -- `match`, and an arm
  abbrev pub match_arms : Place → ExpSyntax → Tokens → Reading ExpSyntax
  match_arms at subject tokens =
      then_read (read_mark Bar tokens) (λ _ tokens.
      then_read (read_arms part (count tokens) tokens) (λ arms tokens. Found (MatchSyntax at subject arms) tokens))

  pub match_is : (at : Place) (tokens : Tokens) → read_match part at tokens ≡ then_read (read_before (behind.Word WithWord) part tokens) (match_arms at)
  match_is at tokens = sym (before_is (behind.Word WithWord) tokens (match_arms at))

  abbrev pub arm_body : PatternSyntax → Tokens → Reading ArmSyntax
  arm_body pattern tokens =
      then_read (part tokens) (λ body rest. Found (record { constructor = pattern.constructor; fields = pattern.fields; body = body }) rest)

  pub arm_is : (tokens : Tokens) → read_arm part tokens ≡ then_read (read_pattern tokens) arm_body
  arm_is tokens =
      sym (in_turn (read_upper tokens) _ arm_body
      ∙ alike (read_upper tokens) _ _ (λ constructor rest. in_turn (read_optional_list read_lower rest) _ arm_body
      ∙ alike (read_optional_list read_lower rest) _ _ (λ fields rest.
      in_turn (read_mark Arrow rest) (λ _ rest. Found (record { constructor = constructor; fields = fields }) rest) arm_body)))
