-- The reader of expressions, on tokens that only begin alike.
use Rattle.std.proofs.Common.{◌≡◌, ℕ, zero, suc, ◌≤◌, ◌⊎◌, inl, inr, true, false, List, [], ◌∷◌, ◌++◌, Option, Some, None, ℤ, refl, sym, ap, ap₂, subst, ◌∙◌, arith}
use Rattle.core_terms.specs.declared.term.BinaryOperator.{BinaryOperator}
use Rattle.lexemes.specs.declared.place.Place.{Place}
use Rattle.lexemes.specs.declared.fault.SyntaxKind.{SyntaxKind}
use Rattle.lexemes.specs.declared.fault.SyntaxKind.TheVariants.{Expected}
use Rattle.lexemes.specs.declared.token.Keyword.{Keyword}
use Rattle.lexemes.specs.declared.token.Keyword.TheVariants.{Let as LetWord, In as InWord, Match as MatchWord, With as WithWord, End as EndWord, If as IfWord, Then as ThenWord', Else as ElseWord, True as TrueWord, False as FalseWord, VecFill as VecFillWord, VecGet as VecGetWord, VecPut as VecPutWord}
use Rattle.lexemes.specs.declared.token.Mark.TheVariants.{LeftParenthesis, RightParenthesis, Comma, EqualsSign}
use Rattle.lexemes.specs.Tokens.{Token, KeywordToken, MarkToken, LowerToken, UpperToken, IntToken, TextToken, Tokens, Next, End, Faulty}
use Rattle.auth_syntax.specs.Syntax.{UnaryOperation, ArrayOperation, FillOperation, GetOperation, PutOperation, ExpSyntax, UnitSyntax, BoolSyntax, IntSyntax, TextSyntax, LocalSyntax, UnarySyntax, BinarySyntax, ConstructorSyntax, OperateSyntax, LetSyntax, IfSyntax, MatchSyntax, ExpsSyntax, NoExp, AndExp, NoArmSyntax, AndArmSyntax}
use Rattle.auth_syntax.specs.Grammar.{Written, standing, mark, word, lower, array_word, brackets, expression_tokens, expressions_tokens, arms_tokens, expressions_levels, has_length, row_length, HaveParts, IsExpression}
use Rattle.auth_syntax.specs.Nesting.{others_of}
use Rattle.lexemes.specs.Readings.{Reading, Found, FaultAt}
use Rattle.auth_syntax.specs.Parsing.{unary_of, binary_of, operation_from, read_expression, begins_expression, operation_begins, word_begins}
use Rattle.auth_syntax.specs.FirstFaults.{Placed, placed, IsInt}
use Rattle.auth_syntax.proofs.Readers.{IsClear, Row, Done, read_row, row_written, found_thing, found_left}
use Rattle.auth_syntax.proofs.Expressions.{AreExpressionsRead, expressions_are, expressions_listed, row_tokens, row_parts, pair_row, unary_row, binary_row, call_row, constructor_row, so_many_operands, operate_row, fill_row, fill_row-is, operate_parts, let_row, if_row, match_row, pair_written, binary_written, let_written, if_written, match_written, match_parts, call_parts, unary_of-word, binary_of-word, IsNotClosing, parts_of}
use Rattle.auth_syntax.proofs.Fronts.{AlikeHeads, heads_hold, CanBegin, Taken, a_length, Stuck, IsLocal}
use Rattle.auth_syntax.proofs.FrontRows.{some_name}
use Rattle.auth_syntax.proofs.Productions.{HasSome, IsRead, IsHeaded, read_taken, read_stuck, token_taken, token_stuck, token_refused, rest_refused}
use Rattle.auth_syntax.proofs.Levels.{outer_taken, outer_stuck, zero_stuck}
use Rattle.auth_syntax.proofs.FrontCommas.{list_local, optional_local, clear_same}
use Rattle.auth_syntax.proofs.FrontArms.{arms_local}
use Rattle.auth_syntax.proofs.FrontLengths.{ints_local}
use Rattle.auth_syntax.proofs.FrontSoMany.{many_local}
use Rattle.auth_syntax.proofs.LevelSteps.{read_expression-none}

abbrev some_expression : ExpSyntax
some_expression = LocalSyntax (record { offset = 0; line = 1; column = 1 }) []

-- a parenthesis closes there, or none
closing_or_not : (before : Tokens) → ((at : Place) × (rest : Tokens) × (before ≡ Next at (MarkToken RightParenthesis) rest)) ⊎ IsNotClosing before
closing_or_not (Next at (MarkToken RightParenthesis) rest) = inl (at, rest, refl)
closing_or_not (Next at token rest) = inr tt
closing_or_not (End at) = inr tt
closing_or_not (Faulty at fault) = inr tt

not_closing_same : (left other : Tokens) → AlikeHeads left other → IsNotClosing left → IsNotClosing other
not_closing_same left other h clear = heads_hold IsNotClosing left other h (λ at z rest. tt) moved clear where
  moved : (at : Place) (token : Token) (rest rest' : Tokens) → IsNotClosing (Next at token rest) → IsNotClosing (Next at token rest')
  moved at (MarkToken RightParenthesis) rest rest' clear = clear
  moved at token rest rest' clear = tt

abbrev pub AreExpressionsLocal : ℕ → Type 0
AreExpressionsLocal levels = IsLocal levels read_expression expression_tokens IsExpression

-- one level further out
abbrev outer : ℕ → Tokens → Reading ExpSyntax
outer levels = read_expression (suc levels)

abbrev is_outer : ℕ → ExpSyntax → Type 0
is_outer levels = IsExpression (suc levels)

some_is : (levels : ℕ) → HasSome levels outer expression_tokens is_outer
some_is levels = record { some = some_expression; some_fits = λ n. (tt, omega arith) }

row_widen : (n wider : ℕ) (es : List ExpSyntax) → n ≤ wider → row_parts n es → row_parts wider es
row_widen n wider es h fits = (fits.0, omega (arith, fits.1))

module _ (levels : ℕ) (local : AreExpressionsLocal levels) where
  parts : AreExpressionsRead levels
  parts = expressions_are levels

  abbrev IsTakenAs : Tokens → ExpSyntax → Tokens → Type 0
  IsTakenAs before found left = Taken levels outer (λ e. e) expression_tokens is_outer before found left

  abbrev IsStuckAt : Tokens → SyntaxKind → Place → Type 0
  IsStuckAt before kind place = Stuck levels outer (CanBegin expression_tokens is_outer) before kind place

  abbrev Headed : Place → Token → Row levels ExpSyntax → Type 0
  Headed = IsHeaded levels outer expression_tokens is_outer

  abbrev Read : List Placed → List Written → Row levels ExpSyntax → Tokens → Type 0
  Read = IsRead levels outer expression_tokens is_outer

  leaf : (at : Place) (token : Token) (e : ExpSyntax) → standing at token ∷ [] ≡ expression_tokens e → ((n : ℕ) → is_outer n e)
      → ((wider : ℕ) (rest : Tokens) → outer wider (Next at token rest) ≡ Found e rest) → Headed at token (Done e)
  leaf at token e w h reads = record { local = tt; makes = λ n things fits. (w, h n); reads = reads }

  true_leaf : (at : Place) → Headed at (KeywordToken TrueWord) (Done (BoolSyntax at true))
  true_leaf at = leaf at _ (BoolSyntax at true) refl (λ n. (tt, omega arith)) (λ wider rest. refl)

  false_leaf : (at : Place) → Headed at (KeywordToken FalseWord) (Done (BoolSyntax at false))
  false_leaf at = leaf at _ (BoolSyntax at false) refl (λ n. (tt, omega arith)) (λ wider rest. refl)

  int_leaf : (at : Place) (z : ℤ) → Headed at (IntToken z) (Done (IntSyntax at z))
  int_leaf at z = leaf at _ (IntSyntax at z) refl (λ n. (tt, omega arith)) (λ wider rest. refl)

  text_leaf : (at : Place) (bytes : List ℕ) → Headed at (TextToken bytes) (Done (TextSyntax at bytes))
  text_leaf at bytes = leaf at _ (TextSyntax at bytes) refl (λ n. (tt, omega arith)) (λ wider rest. refl)

  constructor_is : (at : Place) (name : List ℕ) → Headed at (UpperToken name) (constructor_row levels parts at name)
  constructor_is at name = record {
    local = optional_local levels (parts_of levels parts) row_tokens row_parts expressions_listed local row_widen;
    makes = λ n t w. (refl, (w.0, omega (arith, w.1)));
    reads = λ wider rest. refl;
  }

  let_is : (at : Place) → Headed at (KeywordToken LetWord) (let_row levels parts at)
  let_is at = record {
    local = λ name. (local, λ bound. local);
    makes = λ n t w. (let_written levels parts at t.0 t.1.0 t.1.1, ((w.0.0, w.1.0), omega (arith, w.0.1, w.1.1)));
    reads = λ wider rest. refl;
  }

  if_is : (at : Place) → Headed at (KeywordToken IfWord) (if_row levels parts at)
  if_is at = record {
    local = (local, λ test. (local, λ first. local));
    makes = λ n t w.
        (if_written levels parts at t.0 t.1.0 t.1.1, ((w.0.0, w.1.0.0, w.1.1.0), omega (arith, w.0.1, w.1.0.1, w.1.1.1)));
    reads = λ wider rest. refl;
  }

  match_is : (at : Place) → Headed at (KeywordToken MatchWord) (match_row levels parts at)
  match_is at = record {
    local = (local, λ subject. arms_local levels parts local);
    makes = λ n t w. (
      match_written levels parts at t.0 t.1 w.1.0,
      (match_parts levels parts at t.0 t.1 w.1.0 w.0.0 w.1.1, omega (arith, w.0.1, w.1.2)),
    );
    reads = λ wider rest. refl;
  }

  -- the operations on arrays
  some_operands : (n : ℕ) → IsLocal levels (so_many_operands levels parts n).read (so_many_operands levels parts n).written (so_many_operands levels parts n).within
  some_operands = many_local levels read_expression expression_tokens IsExpression parts row_tokens row_parts expressions_listed local row_widen

  fill_is : (at : Place) → Headed at (KeywordToken VecFillWord) (fill_row levels parts at)
  fill_is at = record {
    local = (ints_local levels, λ n. some_operands 0);
    makes = λ n t w. (refl, (operate_parts levels parts at (FillOperation t.0) t.1 w.0 w.1.0 w.1.1.0, omega (arith, w.1.1.1)));
    reads = fill_row-is levels parts at;
  }

  get_is : (at : Place) → Headed at (KeywordToken VecGetWord) (operate_row levels parts at GetOperation)
  get_is at = record {
    local = some_operands 1;
    makes = λ n es w. (refl, (operate_parts levels parts at GetOperation es refl w.0 w.1.0, omega (arith, w.1.1)));
    reads = λ wider rest. refl;
  }

  put_is : (at : Place) → Headed at (KeywordToken VecPutWord) (operate_row levels parts at PutOperation)
  put_is at = record {
    local = some_operands 2;
    makes = λ n es w. (refl, (operate_parts levels parts at PutOperation es refl w.0 w.1.0, omega (arith, w.1.1)));
    reads = λ wider rest. refl;
  }

  -- the other operations
  abbrev ReadsOperation : Place → Keyword → Type 0
  ReadsOperation at keyword =
      (wider : ℕ) (rest : Tokens) → outer wider (Next at (KeywordToken keyword) rest)
      ≡ operation_from (read_expression wider) at (unary_of keyword) (binary_of keyword) rest

  unary_is : (at : Place) (keyword : Keyword) (operation : UnaryOperation) → unary_of keyword ≡ Some operation → ReadsOperation at keyword
      → Headed at (KeywordToken keyword) (unary_row levels parts at operation)
  unary_is at keyword operation h reads = record {
    local = (local, λ operand. tt);
    makes = λ n t w. (
      ap (λ (k : Keyword). standing at (KeywordToken k) ∷ row_written (unary_row levels parts at operation) t) (unary_of-word keyword operation h),
      (w.0.0, omega (arith, w.0.1)),
    );
    reads = λ wider rest.
        reads wider rest ∙ ap (λ unary. operation_from (read_expression wider) at unary (binary_of keyword) rest) h;
  }

  binary_is : (at : Place) (keyword : Keyword) (operation : BinaryOperator) → unary_of keyword ≡ None → binary_of keyword ≡ Some operation
      → ReadsOperation at keyword
      → Headed at (KeywordToken keyword) (binary_row levels parts at operation)
  binary_is at keyword operation h h' reads = record {
    local = (local, λ first. (local, λ second. tt));
    makes = λ n t w. (
      ap (λ (k : Keyword). standing at (KeywordToken k) ∷ row_written (binary_row levels parts at operation) t) (binary_of-word keyword operation h')
          ∙ binary_written levels parts at operation t.0 t.1.0,
      ((w.0.0, w.1.0.0), omega (arith, w.0.1, w.1.0.1)),
    );
    reads = λ wider rest.
        reads wider rest ∙ ap₂ (λ unary binary. operation_from (read_expression wider) at unary binary rest) h h';
  }

  operation_taken : (at : Place) (keyword : Keyword) → ReadsOperation at keyword → (unary : Option UnaryOperation) (binary : Option BinaryOperator)
      → unary_of keyword ≡ unary → binary_of keyword ≡ binary → (rest : Tokens) (found : ExpSyntax) (left : Tokens)
      → outer levels (Next at (KeywordToken keyword) rest) ≡ Found found left → IsTakenAs (Next at (KeywordToken keyword) rest) found left
  operation_taken at keyword reads (Some operation) binary h h' rest found left e =
      token_taken levels outer expression_tokens is_outer at (KeywordToken keyword) _ (unary_is at keyword operation h reads) rest found left e
  operation_taken at keyword reads None (Some operation) h h' rest found left e =
      token_taken levels outer expression_tokens is_outer at (KeywordToken keyword) _ (binary_is at keyword operation h h' reads) rest found left e
  operation_taken at keyword reads None None h h' rest found left e =
      absurd (let e' : FaultAt Expected at ≡ Found found left =
      sym (reads levels rest ∙ ap₂ (λ unary binary. operation_from (read_expression levels) at unary binary rest) h h') ∙ e in cc)

  operation_stuck : (at : Place) (keyword : Keyword) → ReadsOperation at keyword → (unary : Option UnaryOperation) (binary : Option BinaryOperator)
      → unary_of keyword ≡ unary → binary_of keyword ≡ binary → (rest : Tokens) (kind : SyntaxKind) (place : Place)
      → outer levels (Next at (KeywordToken keyword) rest) ≡ FaultAt kind place → IsStuckAt (Next at (KeywordToken keyword) rest) kind place
  operation_stuck at keyword reads (Some operation) binary h h' rest kind place e =
      token_stuck levels outer expression_tokens is_outer at (KeywordToken keyword) _
      (unary_is at keyword operation h reads) rest kind place e
  operation_stuck at keyword reads None (Some operation) h h' rest kind place e =
      token_stuck levels outer expression_tokens is_outer at (KeywordToken keyword) _
      (binary_is at keyword operation h h' reads) rest kind place e
  operation_stuck at keyword reads None None h h' rest kind place e =
      token_refused levels outer expression_tokens is_outer (some_is levels) at (KeywordToken keyword) rest kind place
      (λ wider rest. reads wider rest ∙ ap₂ (λ unary binary. operation_from (read_expression wider) at unary binary rest) h h') (λ int. absurd int) e

  word_taken : (at : Place) (keyword : Keyword) (rest : Tokens) (found : ExpSyntax) (left : Tokens)
      → outer levels (Next at (KeywordToken keyword) rest) ≡ Found found left → IsTakenAs (Next at (KeywordToken keyword) rest) found left
  word_taken at TrueWord rest found left e =
      token_taken levels outer expression_tokens is_outer at _ _ (true_leaf at) rest found left e
  word_taken at FalseWord rest found left e =
      token_taken levels outer expression_tokens is_outer at _ _ (false_leaf at) rest found left e
  word_taken at LetWord rest found left e = token_taken levels outer expression_tokens is_outer at _ _ (let_is at) rest found left e
  word_taken at IfWord rest found left e = token_taken levels outer expression_tokens is_outer at _ _ (if_is at) rest found left e
  word_taken at MatchWord rest found left e = token_taken levels outer expression_tokens is_outer at _ _ (match_is at) rest found left e
  word_taken at VecFillWord rest found left e = token_taken levels outer expression_tokens is_outer at _ _ (fill_is at) rest found left e
  word_taken at VecGetWord rest found left e = token_taken levels outer expression_tokens is_outer at _ _ (get_is at) rest found left e
  word_taken at VecPutWord rest found left e = token_taken levels outer expression_tokens is_outer at _ _ (put_is at) rest found left e
  word_taken at keyword rest found left e =
      operation_taken at keyword (λ wider rest. refl) (unary_of keyword) (binary_of keyword) refl refl rest found left e

  word_stuck : (at : Place) (keyword : Keyword) (rest : Tokens) (kind : SyntaxKind) (place : Place)
      → outer levels (Next at (KeywordToken keyword) rest) ≡ FaultAt kind place → IsStuckAt (Next at (KeywordToken keyword) rest) kind place
  word_stuck at TrueWord rest kind place e =
      token_stuck levels outer expression_tokens is_outer at _ _ (true_leaf at) rest kind place e
  word_stuck at FalseWord rest kind place e =
      token_stuck levels outer expression_tokens is_outer at _ _ (false_leaf at) rest kind place e
  word_stuck at LetWord rest kind place e =
      token_stuck levels outer expression_tokens is_outer at _ _ (let_is at) rest kind place e
  word_stuck at IfWord rest kind place e =
      token_stuck levels outer expression_tokens is_outer at _ _ (if_is at) rest kind place e
  word_stuck at MatchWord rest kind place e =
      token_stuck levels outer expression_tokens is_outer at _ _ (match_is at) rest kind place e
  word_stuck at VecFillWord rest kind place e =
      token_stuck levels outer expression_tokens is_outer at _ _ (fill_is at) rest kind place e
  word_stuck at VecGetWord rest kind place e =
      token_stuck levels outer expression_tokens is_outer at _ _ (get_is at) rest kind place e
  word_stuck at VecPutWord rest kind place e =
      token_stuck levels outer expression_tokens is_outer at _ _ (put_is at) rest kind place e
  word_stuck at keyword rest kind place e =
      operation_stuck at keyword (λ wider rest. refl) (unary_of keyword) (binary_of keyword) refl refl rest kind place e

  -- behind a lower name: a call, or nothing
  call_read : (at next : Place) (name : List ℕ) (rest : Tokens)
      → Read (placed at (LowerToken name) ∷ placed next (MarkToken LeftParenthesis) ∷ []) (standing at (LowerToken name) ∷ mark LeftParenthesis ∷ [])
      (call_row levels parts at name) rest
  call_read at next name rest = record {
    local = list_local levels (parts_of levels parts) row_tokens row_parts expressions_listed local row_widen;
    heads = (refl, refl, (refl, tt, refl));
    makes = λ n es w. (refl, (call_parts levels parts at name es w.0 w.1.0, omega (arith, w.1.1)));
    reads = λ wider other heads. refl;
  }

  alone_reads : (at : Place) (name : List ℕ) (wider : ℕ) (rest : Tokens) → IsClear rest → outer wider (Next at (LowerToken name) rest) ≡ Found (LocalSyntax at name) rest
  alone_reads at name wider (Next next (MarkToken LeftParenthesis) rest) clear = absurd clear
  alone_reads at name wider rest clear = refl

  alone_taken : (at : Place) (name : List ℕ) (rest : Tokens) (found : ExpSyntax) (left : Tokens) → IsClear rest
      → outer levels (Next at (LowerToken name) rest) ≡ Found found left → IsTakenAs (Next at (LowerToken name) rest) found left
  alone_taken at name rest found left clear e =
      let e' : Found (LocalSyntax at name) rest ≡ Found found left = sym (alone_reads at name levels rest clear) ∙ e in
      record {
        thing = LocalSyntax at name;
        makes = found_thing e';
        front = placed at (LowerToken name) ∷ [];
        is = ap (Next at (LowerToken name)) (found_left e');
        are_all = (refl, refl, refl);
        fits = (tt, omega arith);
        again = λ wider h other heads.
            alone_reads at name wider other (clear_same left other heads (subst IsClear (found_left e') clear)) ∙ ap (λ thing. Found thing other) (found_thing e');
      }

  name_taken : (at : Place) (name : List ℕ) (rest : Tokens) (found : ExpSyntax) (left : Tokens)
      → outer levels (Next at (LowerToken name) rest) ≡ Found found left → IsTakenAs (Next at (LowerToken name) rest) found left
  name_taken at name (Next next (MarkToken LeftParenthesis) rest) found left e =
      read_taken levels outer expression_tokens is_outer _ _ _ rest (call_read at next name rest) found left e
  name_taken at name rest found left e = alone_taken at name rest found left tt e

  name_stuck : (at : Place) (name : List ℕ) (rest : Tokens) (kind : SyntaxKind) (place : Place)
      → outer levels (Next at (LowerToken name) rest) ≡ FaultAt kind place → IsStuckAt (Next at (LowerToken name) rest) kind place
  name_stuck at name (Next next (MarkToken LeftParenthesis) rest) kind place e =
      read_stuck levels outer expression_tokens is_outer _ _ _ rest (call_read at next name rest) kind place e
  name_stuck at name rest kind place e = absurd (cc)

  -- behind a parenthesis: another that closes it, or a pair
  unit_read : (at next : Place) (rest : Tokens)
      → Read (placed at (MarkToken LeftParenthesis) ∷ placed next (MarkToken RightParenthesis) ∷ [])
      (standing at (MarkToken LeftParenthesis) ∷ mark RightParenthesis ∷ []) (Done (UnitSyntax at)) rest
  unit_read at next rest = record {
    local = tt;
    heads = (refl, refl, (refl, tt, refl));
    makes = λ n u w. (refl, (tt, omega arith));
    reads = λ wider other heads. refl;
  }

  -- where none closes it
  opened : (wider : ℕ) (at : Place) (tokens : Tokens) → IsNotClosing tokens
      → outer wider (Next at (MarkToken LeftParenthesis) tokens) ≡ read_row (pair_row levels parts at) wider tokens
  opened wider at (Next next (MarkToken RightParenthesis) rest) h = absurd h
  opened wider at tokens h = refl

  pair_read : (at : Place) (rest : Tokens) → IsNotClosing rest
      → Read (placed at (MarkToken LeftParenthesis) ∷ []) (standing at (MarkToken LeftParenthesis) ∷ []) (pair_row levels parts at) rest
  pair_read at rest unclosed = record {
    local = (local, λ first. (local, λ second. tt));
    heads = (refl, refl, refl);
    makes = λ n t w. (pair_written levels parts at t.0 t.1.0, ((w.0.0, w.1.0.0), omega (arith, w.0.1, w.1.0.1)));
    reads = λ wider other heads. opened wider at other (not_closing_same rest other heads unclosed);
  }

  parenthesis_taken : (at : Place) (rest : Tokens) (found : ExpSyntax) (left : Tokens)
      → outer levels (Next at (MarkToken LeftParenthesis) rest) ≡ Found found left → IsTakenAs (Next at (MarkToken LeftParenthesis) rest) found left
  parenthesis_taken at (Next next (MarkToken RightParenthesis) rest) found left e =
      read_taken levels outer expression_tokens is_outer _ _ _ rest (unit_read at next rest) found left e
  parenthesis_taken at rest found left e =
      read_taken levels outer expression_tokens is_outer _ _ _ rest (pair_read at rest tt) found left e

  parenthesis_stuck : (at : Place) (rest : Tokens) (kind : SyntaxKind) (place : Place)
      → outer levels (Next at (MarkToken LeftParenthesis) rest) ≡ FaultAt kind place → IsStuckAt (Next at (MarkToken LeftParenthesis) rest) kind place
  parenthesis_stuck at (Next next (MarkToken RightParenthesis) rest) kind place e = absurd (cc)
  parenthesis_stuck at rest kind place e =
      read_stuck levels outer expression_tokens is_outer _ _ _ rest (pair_read at rest tt) kind place e

  -- an expression
  expression_taken : (at : Place) (token : Token) (rest : Tokens) (found : ExpSyntax) (left : Tokens) → outer levels (Next at token rest) ≡ Found found left
      → IsTakenAs (Next at token rest) found left
  expression_taken at (MarkToken LeftParenthesis) rest found left e = parenthesis_taken at rest found left e
  expression_taken at (LowerToken name) rest found left e = name_taken at name rest found left e
  expression_taken at (UpperToken name) rest found left e =
      token_taken levels outer expression_tokens is_outer at _ _ (constructor_is at name) rest found left e
  expression_taken at (IntToken z) rest found left e =
      token_taken levels outer expression_tokens is_outer at _ _ (int_leaf at z) rest found left e
  expression_taken at (TextToken bytes) rest found left e =
      token_taken levels outer expression_tokens is_outer at _ _ (text_leaf at bytes) rest found left e
  expression_taken at (KeywordToken keyword) rest found left e = word_taken at keyword rest found left e
  expression_taken at token rest found left e = absurd (cc)

  expression_stuck : (at : Place) (token : Token) (rest : Tokens) (kind : SyntaxKind) (place : Place) → outer levels (Next at token rest) ≡ FaultAt kind place
      → IsStuckAt (Next at token rest) kind place
  expression_stuck at (MarkToken LeftParenthesis) rest kind place e = parenthesis_stuck at rest kind place e
  expression_stuck at (LowerToken name) rest kind place e = name_stuck at name rest kind place e
  expression_stuck at (UpperToken name) rest kind place e =
      token_stuck levels outer expression_tokens is_outer at _ _ (constructor_is at name) rest kind place e
  expression_stuck at (IntToken z) rest kind place e =
      token_stuck levels outer expression_tokens is_outer at _ _ (int_leaf at z) rest kind place e
  expression_stuck at (TextToken bytes) rest kind place e =
      token_stuck levels outer expression_tokens is_outer at _ _ (text_leaf at bytes) rest kind place e
  expression_stuck at (KeywordToken keyword) rest kind place e = word_stuck at keyword rest kind place e
  expression_stuck at token rest kind place e =
      token_refused levels outer expression_tokens is_outer (some_is levels) at token rest kind place (λ wider rest. refl) (λ int. absurd int) e

  all_taken : (before : Tokens) (found : ExpSyntax) (left : Tokens) → outer levels before ≡ Found found left → IsTakenAs before found left
  all_taken (Next at token rest) found left e = expression_taken at token rest found left e
  all_taken (End at) found left e = absurd (cc)
  all_taken (Faulty at fault) found left e = absurd (cc)

  all_stuck : (before : Tokens) (kind : SyntaxKind) (place : Place) → outer levels before ≡ FaultAt kind place → IsStuckAt before kind place
  all_stuck (Next at token rest) kind place e = expression_stuck at token rest kind place e
  all_stuck (End at) kind place e =
      rest_refused levels outer expression_tokens is_outer (some_is levels) (End at) kind place e (λ at token rest e. cc)
  all_stuck (Faulty at fault) kind place e =
      rest_refused levels outer expression_tokens is_outer (some_is levels) (Faulty at fault) kind place e (λ at token rest e. cc)

-- a token that begins an expression, and one that doesn't
abbrev Starts : Place → Token → Type 0
Starts at token = CanBegin expression_tokens IsExpression 2 (placed at token ∷ [])

operation_started : (at : Place) (keyword : Keyword) (unary : Option UnaryOperation) (binary : Option BinaryOperator) → unary_of keyword ≡ unary
    → binary_of keyword ≡ binary → operation_begins unary binary ≡ true → Starts at (KeywordToken keyword)
operation_started at keyword (Some operation) binary h h' b = record {
  thing = UnarySyntax at operation some_expression;
  others = mark LeftParenthesis ∷ expression_tokens some_expression ++ mark RightParenthesis ∷ [];
  are_first = (ap (λ k. KeywordToken k) (unary_of-word keyword operation h), refl, refl);
  fits = (tt, omega arith);
}
operation_started at keyword None (Some operation) h h' b = record {
  thing = BinarySyntax at operation some_expression some_expression;
  others = mark LeftParenthesis ∷ expression_tokens some_expression ++ mark Comma ∷ expression_tokens some_expression ++ mark RightParenthesis ∷ [];
  are_first = (ap (λ k. KeywordToken k) (binary_of-word keyword operation h'), refl, refl);
  fits = ((tt, tt), omega arith);
}
operation_started at keyword None None h h' b = absurd (cc)

operate_started : (at : Place) (operation : ArrayOperation) (operands : ExpsSyntax) → has_length operation ≡ true
    → row_length operands ≡ suc (others_of operation) → HaveParts operands → expressions_levels operands ≤ 1 → Starts at (KeywordToken (array_word operation))
operate_started at operation operands fits many parts levels = record {
  thing = OperateSyntax at operation operands;
  others = brackets operation ++ mark LeftParenthesis ∷ expressions_tokens operands ++ mark RightParenthesis ∷ [];
  are_first = (refl, refl, refl);
  fits = ((fits, many, parts), omega arith);
}

word_started : (at : Place) (keyword : Keyword) → word_begins keyword ≡ true → Starts at (KeywordToken keyword)
word_started at TrueWord h = record { thing = BoolSyntax at true; others = []; are_first = (refl, refl, refl); fits = (tt, omega arith) }
word_started at FalseWord h = record { thing = BoolSyntax at false; others = []; are_first = (refl, refl, refl); fits = (tt, omega arith) }
word_started at LetWord h = record {
  thing = LetSyntax at some_name some_expression some_expression;
  others = lower some_name ∷ mark EqualsSign ∷ expression_tokens some_expression ++ word InWord ∷ expression_tokens some_expression;
  are_first = (refl, refl, refl);
  fits = ((tt, tt), omega arith);
}
word_started at IfWord h = record {
  thing = IfSyntax at some_expression some_expression some_expression;
  others = expression_tokens some_expression ++ word ThenWord' ∷ expression_tokens some_expression ++ word ElseWord ∷ expression_tokens some_expression;
  are_first = (refl, refl, refl);
  fits = ((tt, tt, tt), omega arith);
}
word_started at MatchWord h = record {
  thing = MatchSyntax at some_expression (AndArmSyntax some_name [] some_expression NoArmSyntax);
  others = expression_tokens some_expression ++ word WithWord ∷ arms_tokens (AndArmSyntax some_name [] some_expression NoArmSyntax) ++ word EndWord ∷ [];
  are_first = (refl, refl, refl);
  fits = ((tt, (tt, tt)), omega arith);
}
word_started at VecFillWord h = operate_started at (FillOperation 64) (AndExp some_expression NoExp) refl refl (tt, tt) (omega arith)
word_started at VecGetWord h = operate_started at GetOperation (AndExp some_expression (AndExp some_expression NoExp)) refl refl (tt, (tt, tt)) (omega arith)
word_started at VecPutWord h =
    operate_started at PutOperation (AndExp some_expression (AndExp some_expression (AndExp some_expression NoExp))) refl refl (tt, (tt, (tt, tt))) (omega arith)
word_started at keyword h = operation_started at keyword (unary_of keyword) (binary_of keyword) refl refl h

started : (at : Place) (token : Token) → begins_expression token ≡ true → Starts at token
started at (MarkToken LeftParenthesis) h =
    record { thing = UnitSyntax at; others = mark RightParenthesis ∷ []; are_first = (refl, refl, refl); fits = (tt, omega arith) }
started at (LowerToken name) h = record { thing = LocalSyntax at name; others = []; are_first = (refl, refl, refl); fits = (tt, omega arith) }
started at (UpperToken name) h = record { thing = ConstructorSyntax at name NoExp; others = []; are_first = (refl, refl, refl); fits = (tt, omega arith) }
started at (IntToken z) h = record { thing = IntSyntax at z; others = []; are_first = (refl, refl, refl); fits = (tt, omega arith) }
started at (TextToken bytes) h = record { thing = TextSyntax at bytes; others = []; are_first = (refl, refl, refl); fits = (tt, omega arith) }
started at (KeywordToken keyword) h = word_started at keyword h
started at token h = absurd (cc)

never : (at : Place) (token : Token) → begins_expression token ≡ false → (wider : ℕ) (rest : Tokens)
    → read_expression (suc wider) (Next at token rest) ≡ FaultAt Expected at
never at token h wider rest = read_expression-none (suc wider) at token rest h

ints_alike : (token : Token) → IsInt token → begins_expression a_length ≡ begins_expression token
ints_alike (IntToken z) int = refl
ints_alike token int = absurd int

none_taken : (before : Tokens) (found : ExpSyntax) (left : Tokens) → read_expression zero before ≡ Found found left
    → Taken zero read_expression (λ e. e) expression_tokens IsExpression before found left
none_taken (Next at token rest) found left e = absurd (cc)
none_taken (End at) found left e = absurd (cc)
none_taken (Faulty at fault) found left e = absurd (cc)

widen : (n wider : ℕ) (e : ExpSyntax) → n ≤ wider → IsExpression n e → IsExpression wider e
widen n wider e h fits = (fits.0, omega (arith, fits.1))

pub expressions_local : (levels : ℕ) → AreExpressionsLocal levels
expressions_local zero = record {
  taken = none_taken;
  stuck = zero_stuck read_expression expression_tokens IsExpression begins_expression (record {
    some = record { some = some_expression; some_fits = λ n. (tt, omega arith) };
    stops = λ tokens. refl;
    started = started;
    never = never;
    ints_alike = ints_alike;
  });
  some = some_expression;
  some_fits = λ n. (tt, omega arith);
  widen = widen;
}
expressions_local (suc levels) = record {
  taken = λ before found left e.
      outer_taken read_expression expression_tokens IsExpression levels before found left
      (all_taken levels (expressions_local levels) before found left e);
  stuck = λ before kind place e.
      outer_stuck read_expression expression_tokens IsExpression levels before kind place
      (all_stuck levels (expressions_local levels) before kind place e);
  some = some_expression;
  some_fits = λ n. (tt, omega arith);
  widen = widen;
}
