-- The reader of expressions.
use Rattle.std.proofs.Common.{◌≡◌, ℕ, zero, suc, ◌<◌, ◌≤◌, Bool, true, false, cond, List, [], ◌∷◌, ◌++◌, length, Option, Some, None, refl, sym, ap, subst, ◌∙◌, arith, append_assoc, length-append}
use Rattle.std.proofs.lemmas.Option.{same_Some}
use Rattle.core_terms.specs.declared.term.BinaryOperator.{BinaryOperator}
use Rattle.lexemes.specs.declared.place.Place.{Place}
use Rattle.lexemes.specs.declared.token.Keyword.{Keyword}
use Rattle.lexemes.specs.declared.token.Keyword.TheVariants.{Let as LetWord, In as InWord, Match as MatchWord, With as WithWord, End as EndWord, If as IfWord, Then as ThenWord', Else as ElseWord, True as TrueWord, False as FalseWord, Auth as AuthWord, Unauth as UnauthWord, Fst as FstWord, Snd as SndWord, Len as LenWord, Not as NotWord, VecFill as VecFillWord, VecGet as VecGetWord, VecPut as VecPutWord, Binary as BinaryWord}
use Rattle.lexemes.specs.declared.token.Mark.TheVariants.{LeftParenthesis, RightParenthesis, Comma, EqualsSign, Bar, Arrow}
use Rattle.lexemes.specs.Tokens.{Token, KeywordToken, MarkToken, LowerToken, UpperToken, IntToken, TextToken, Tokens, Next, End, Faulty, count}
use Rattle.auth_syntax.specs.Syntax.{NameSyntax, UnaryOperation, FstOperation, SndOperation, AuthOperation, UnauthOperation, LenOperation, NotOperation, ArrayOperation, FillOperation, GetOperation, PutOperation, ExpSyntax, UnitSyntax, BoolSyntax, IntSyntax, TextSyntax, LocalSyntax, PairSyntax, UnarySyntax, BinarySyntax, CallSyntax, ConstructorSyntax, OperateSyntax, LetSyntax, IfSyntax, MatchSyntax, ExpsSyntax, NoExp, AndExp, ArmsSyntax, NoArmSyntax, AndArmSyntax}
use Rattle.auth_syntax.specs.Grammar.{Written, standing, mark, word, lower, upper, unary_word, bool_word, length_tokens, names_tokens, in_parentheses, array_word, brackets, expression_tokens, expressions_tokens, arms_tokens, expression_levels, expressions_levels, arms_levels, has_length, row_length, HasParts, HaveParts, ArmsHaveParts, IsExpression, IsSome}
use Rattle.auth_syntax.specs.Nesting.{others_of}
use Rattle.lexemes.specs.Readings.{Reading, Found}
use Rattle.auth_syntax.specs.Parsing.{unary_of, binary_of, in_a_row, read_lower, read_pair, read_call, read_length, read_operate, read_unit_or_pair, read_arm_separator, read_other_arms, read_arms, operation_from, word_from, expression_from, read_expression}
use Rattle.auth_syntax.proofs.Beginnings.{Begin, First, begin-none, begin-next, begin-first, begin-parted, begin-as, none-begin}
use Rattle.auth_syntax.proofs.Readers.{IsClear, IsReader, Reader, Row, Done, ThenMark, ThenWord, ThenLower, ThenUpper, Then, Last, Things, made, row_written, row_within, read_row, row_sound, row_complete, in_turn, lower_found, lower_reads, clear_first}
use Rattle.auth_syntax.proofs.Lists.{IsListed, list, optional, refused_found, begins_fit}
use Rattle.auth_syntax.proofs.Heads.{found_is, head_is, one_written}
use Rattle.auth_syntax.proofs.Lengths.{length_row, length_row-is}
use Rattle.auth_syntax.proofs.SoMany.{so_many}

-- names
pub names_are : (limit : ℕ) → IsReader limit (λ at_most. read_lower) (λ name. lower name ∷ []) (λ at_most name. Unit {0})
names_are limit = record {
  sound = λ tokens found left e. (lower_found tokens left found e, tt);
  complete = λ name tokens left begin within clear.
      let f = begin-first begin in lower_reads name [] tokens left f ∙ ap (λ ts. Found name ts) (none-begin f.begin);
}

abbrev pub names : (limit : ℕ) → Reader limit
names limit = record { A = NameSyntax; read = λ at_most. read_lower; written = λ name. lower name ∷ []; within = λ at_most name. Unit {0}; is = names_are limit }

pub names_listed : (limit : ℕ) → IsListed limit (mark Comma) (λ (name : NameSyntax). lower name ∷ []) (λ at_most name. Unit {0}) names_tokens (λ at_most names. Unit {0})
names_listed limit = record {
  none = refl;
  single = λ name. refl;
  several = λ name next rest. refl;
  some = λ name. omega arith;
  none_within = tt;
  more_within = λ name rest h hs. tt;
  first_within = λ name rest h. tt;
  others_within = λ name rest h. tt;
}

-- an expression has a token and a level
pub expression_tokens-some : (e : ExpSyntax) → 0 < length (expression_tokens e)
expression_tokens-some (UnitSyntax at) = omega arith
expression_tokens-some (BoolSyntax at b) = omega arith
expression_tokens-some (IntSyntax at z) = omega arith
expression_tokens-some (TextSyntax at bytes) = omega arith
expression_tokens-some (LocalSyntax at name) = omega arith
expression_tokens-some (PairSyntax at first second) = omega arith
expression_tokens-some (UnarySyntax at operation operand) = omega arith
expression_tokens-some (BinarySyntax at operation first second) = omega arith
expression_tokens-some (CallSyntax at name operands) = omega arith
expression_tokens-some (ConstructorSyntax at name operands) = omega arith
expression_tokens-some (OperateSyntax at operation operands) = omega arith
expression_tokens-some (LetSyntax at name bound body) = omega arith
expression_tokens-some (IfSyntax at test first other) = omega arith
expression_tokens-some (MatchSyntax at subject arms) = omega arith

expression_levels-some : (e : ExpSyntax) → 0 < expression_levels e
expression_levels-some (UnitSyntax at) = omega arith
expression_levels-some (BoolSyntax at b) = omega arith
expression_levels-some (IntSyntax at z) = omega arith
expression_levels-some (TextSyntax at bytes) = omega arith
expression_levels-some (LocalSyntax at name) = omega arith
expression_levels-some (PairSyntax at first second) = omega arith
expression_levels-some (UnarySyntax at operation operand) = omega arith
expression_levels-some (BinarySyntax at operation first second) = omega arith
expression_levels-some (CallSyntax at name operands) = omega arith
expression_levels-some (ConstructorSyntax at name operands) = omega arith
expression_levels-some (OperateSyntax at operation operands) = omega arith
expression_levels-some (LetSyntax at name bound body) = omega arith
expression_levels-some (IfSyntax at test first other) = omega arith
expression_levels-some (MatchSyntax at subject arms) = omega arith

-- no expression begins with a parenthesis that closes
abbrev pub IsNotClosing : Tokens → Type 0
IsNotClosing (Next at (MarkToken RightParenthesis) rest) = ⊥
IsNotClosing tokens = Unit {0}

not_closing_first : (tokens : Tokens) (written : Written) (others : List Written) (left : Tokens) (h : First tokens written others left)
    → IsNotClosing (Next h.at written.token h.rest) → IsNotClosing tokens
not_closing_first tokens written others left h clear =
    subst IsNotClosing (sym h.is) (subst (λ (t : Token). IsNotClosing (Next h.at t h.rest)) (sym h.stands) clear)

not_closing : (e : ExpSyntax) (tokens left : Tokens) → Begin tokens (expression_tokens e) left → IsNotClosing tokens
not_closing (UnitSyntax at) tokens left begin = not_closing_first tokens _ _ left (begin-first begin) tt
not_closing (BoolSyntax at b) tokens left begin = not_closing_first tokens _ _ left (begin-first begin) tt
not_closing (IntSyntax at z) tokens left begin = not_closing_first tokens _ _ left (begin-first begin) tt
not_closing (TextSyntax at bytes) tokens left begin = not_closing_first tokens _ _ left (begin-first begin) tt
not_closing (LocalSyntax at name) tokens left begin = not_closing_first tokens _ _ left (begin-first begin) tt
not_closing (PairSyntax at first second) tokens left begin = not_closing_first tokens _ _ left (begin-first begin) tt
not_closing (UnarySyntax at operation operand) tokens left begin = not_closing_first tokens _ _ left (begin-first begin) tt
not_closing (BinarySyntax at operation first second) tokens left begin = not_closing_first tokens _ _ left (begin-first begin) tt
not_closing (CallSyntax at name operands) tokens left begin = not_closing_first tokens _ _ left (begin-first begin) tt
not_closing (ConstructorSyntax at name operands) tokens left begin = not_closing_first tokens _ _ left (begin-first begin) tt
not_closing (OperateSyntax at operation operands) tokens left begin = not_closing_first tokens _ _ left (begin-first begin) tt
not_closing (LetSyntax at name bound body) tokens left begin = not_closing_first tokens _ _ left (begin-first begin) tt
not_closing (IfSyntax at test first other) tokens left begin = not_closing_first tokens _ _ left (begin-first begin) tt
not_closing (MatchSyntax at subject arms) tokens left begin = not_closing_first tokens _ _ left (begin-first begin) tt

-- expressions in a row and lists of them
abbrev from_row : ExpsSyntax → List ExpSyntax
from_row NoExp = []
from_row (AndExp e rest) = e ∷ from_row rest

in_a_row-from : (es : ExpsSyntax) → in_a_row (from_row es) ≡ es
in_a_row-from NoExp = refl
in_a_row-from (AndExp e rest) = ap (AndExp e) (in_a_row-from rest)

-- a row is as long as its list
pub row_length-is : (es : List ExpSyntax) → row_length (in_a_row es) ≡ length es
row_length-is [] = refl
row_length-is (e ∷ rest) = ap suc (row_length-is rest)

-- the words of operations
pub unary_of-word : (keyword : Keyword) (operation : UnaryOperation) → unary_of keyword ≡ Some operation → keyword ≡ unary_word operation
unary_of-word FstWord operation h = ap unary_word (same_Some _ _ h)
unary_of-word SndWord operation h = ap unary_word (same_Some _ _ h)
unary_of-word AuthWord operation h = ap unary_word (same_Some _ _ h)
unary_of-word UnauthWord operation h = ap unary_word (same_Some _ _ h)
unary_of-word LenWord operation h = ap unary_word (same_Some _ _ h)
unary_of-word NotWord operation h = ap unary_word (same_Some _ _ h)
unary_of-word keyword operation h = absurd (cc)

pub binary_of-word : (keyword : Keyword) (operation : BinaryOperator) → binary_of keyword ≡ Some operation → keyword ≡ BinaryWord operation
binary_of-word (BinaryWord found) operation h = ap BinaryWord (same_Some _ _ h)
binary_of-word keyword operation h = absurd (cc)

-- the arms behind their first bar, with the `end` that ends them, as they are read
abbrev pub arms_read_written : ArmsSyntax → List Written
arms_read_written NoArmSyntax = []
arms_read_written (AndArmSyntax constructor fields body rest) =
    upper constructor ∷ (in_parentheses (names_tokens fields) ++ (mark Arrow ∷ (expression_tokens body ++ (arms_tokens rest ++ (word EndWord ∷ [])))))

abbrev pub IsSomeArm : ArmsSyntax → Type 0
IsSomeArm NoArmSyntax = ⊥
IsSomeArm (AndArmSyntax constructor fields body rest) = Unit {0}

abbrev arms_count : ArmsSyntax → ℕ
arms_count NoArmSyntax = 0
arms_count (AndArmSyntax constructor fields body rest) = suc (arms_count rest)

arms_fit : (arms : ArmsSyntax) → arms_count arms ≤ length (arms_tokens arms)
arms_fit NoArmSyntax = omega arith
arms_fit (AndArmSyntax constructor fields body rest) =
    let others = arms_fit rest in
    omega (arith, others, length-append (in_parentheses (names_tokens fields) ++ mark Arrow ∷ expression_tokens body) (arms_tokens rest))

pub arms_joined : (constructor : NameSyntax) (fields : List NameSyntax) (body : ExpSyntax) (rest : ArmsSyntax)
    → arms_tokens (AndArmSyntax constructor fields body rest) ++ word EndWord ∷ []
    ≡ mark Bar ∷ arms_read_written (AndArmSyntax constructor fields body rest)
arms_joined constructor fields body rest = simp append_assoc

abbrev pub AreExpressionsRead : ℕ → Type 0
AreExpressionsRead levels = IsReader levels read_expression expression_tokens IsExpression

abbrev pub parts_of : (levels : ℕ) → AreExpressionsRead levels → Reader levels
parts_of levels parts =
    record { A = ExpSyntax; read = read_expression; written = expression_tokens; within = IsExpression; is = parts }

-- lists of expressions
abbrev pub row_tokens : List ExpSyntax → List Written
row_tokens es = expressions_tokens (in_a_row es)

abbrev pub row_parts : ℕ → List ExpSyntax → Type 0
row_parts at_most es = HaveParts (in_a_row es) × (expressions_levels (in_a_row es) ≤ at_most)

pub expressions_listed : (levels : ℕ) → IsListed levels (mark Comma) expression_tokens IsExpression row_tokens row_parts
expressions_listed levels = record {
  none = refl;
  single = λ e. refl;
  several = λ e next rest. refl;
  some = expression_tokens-some;
  none_within = (tt, omega arith);
  more_within = λ e rest h hs. ((h.0, hs.0), omega (arith, h.1, hs.1));
  first_within = λ e rest h. (h.0.0, omega (arith, h.1));
  others_within = λ e rest h. (h.0.1, omega (arith, h.1));
}

-- arms
abbrev arms_within : ℕ → ℕ → ArmsSyntax → Type 0
arms_within most at_most arms = IsSomeArm arms × ArmsHaveParts arms × (arms_levels arms ≤ at_most) × (arms_count arms ≤ most)

abbrev others_within : ℕ → ℕ → ArmsSyntax → Type 0
others_within most at_most arms = ArmsHaveParts arms × (arms_levels arms ≤ at_most) × (arms_count arms ≤ most)

abbrev others_written : ArmsSyntax → List Written
others_written arms = arms_tokens arms ++ (word EndWord ∷ [])

module _ (levels : ℕ) (parts : AreExpressionsRead levels) where
  abbrev AreArmsRead : ℕ → Type 0
  AreArmsRead most = IsReader levels (λ at_most. read_arms (read_expression at_most) most) arms_read_written (arms_within most)

  abbrev arms_on : ℕ → ℕ → Bool → Tokens → Reading ArmsSyntax
  arms_on most at_most follows rest = cond follows (read_arms (read_expression at_most) most rest) (Found NoArmSyntax rest)

  last_arm : (most : ℕ) (tokens : Tokens) (found : ArmsSyntax) (rest left : Tokens) → Begin tokens (word EndWord ∷ []) rest
      → Found NoArmSyntax rest ≡ Found found left → Begin tokens (others_written found) left × others_within most levels found
  last_arm most tokens found rest left begin e =
      found_is others_written (others_within most levels) tokens NoArmSyntax found rest left e begin (tt, omega arith, omega arith)

  next_arm : (most : ℕ) → AreArmsRead most → (at : Place) (rest : Tokens) (found : ArmsSyntax) (left : Tokens)
      → read_arms (read_expression levels) most rest ≡ Found found left
      → Begin (Next at (MarkToken Bar) rest) (others_written found) left × others_within most levels found
  next_arm most arms at rest NoArmSyntax left e = absurd (arms.sound rest NoArmSyntax left e).1.0
  next_arm most arms at rest (AndArmSyntax constructor fields body others) left e =
      let s = arms.sound rest (AndArmSyntax constructor fields body others) left e in
      (begin-as (sym (arms_joined constructor fields body others)) (begin-next at (MarkToken Bar) (mark Bar) refl tt s.0), (s.1.1, s.1.2, s.1.3))

  others_found : (most : ℕ) → AreArmsRead most → (tokens : Tokens) (found : ArmsSyntax) (left : Tokens)
      → read_other_arms (read_arm_separator tokens) (read_arms (read_expression levels) most) ≡ Found found left
      → Begin tokens (others_written found) left × others_within most levels found
  others_found most arms (Next at (MarkToken Bar) rest) found left e = next_arm most arms at rest found left e
  others_found most arms (Next at (KeywordToken EndWord) rest) found left e =
      last_arm most (Next at (KeywordToken EndWord) rest) found rest left
      (begin-next at (KeywordToken EndWord) (word EndWord) refl tt (begin-none rest)) e
  others_found most arms tokens found left e = absurd (cc)

  others_read : (most : ℕ) → AreArmsRead most → (arms : ArmsSyntax) (tokens left : Tokens) → Begin tokens (others_written arms) left
      → others_within most levels arms → IsClear left
      → read_other_arms (read_arm_separator tokens) (read_arms (read_expression levels) most) ≡ Found arms left
  others_read most arms NoArmSyntax tokens left begin within clear =
      let f = begin-first begin in
      ap (λ ts. read_other_arms (read_arm_separator ts) (read_arms (read_expression levels) most)) (f.is ∙ ap (λ t. Next f.at t f.rest) f.stands)
      ∙ ap (λ ts. Found NoArmSyntax ts) (none-begin f.begin)
  others_read most arms (AndArmSyntax constructor fields body rest) tokens left begin within clear =
      let f = begin-first (begin-as (arms_joined constructor fields body rest) begin) in
      ap (λ ts. read_other_arms (read_arm_separator ts) (read_arms (read_expression levels) most)) (f.is ∙ ap (λ t. Next f.at t f.rest) f.stands)
      ∙ arms.complete (AndArmSyntax constructor fields body rest) f.rest left f.begin (tt, within.0, within.1, within.2) clear

  pub others_are : (most : ℕ) → AreArmsRead most
      → IsReader levels (λ at_most tokens. read_other_arms (read_arm_separator tokens) (read_arms (read_expression at_most) most)) others_written
      (others_within most)
  others_are most arms = record { sound = others_found most arms; complete = others_read most arms }

  abbrev other_arms : (most : ℕ) → AreArmsRead most → Reader levels
  other_arms most arms = record {
    A = ArmsSyntax;
    read = λ at_most tokens. read_other_arms (read_arm_separator tokens) (read_arms (read_expression at_most) most);
    written = others_written;
    within = others_within most;
    is = others_are most arms;
  }

  others_clear : (most : ℕ) (arms : ArmsSyntax) (tokens left : Tokens) → Begin tokens (others_written arms) left → IsClear left → IsClear tokens
  others_clear most NoArmSyntax tokens left begin clear = let f = begin-first begin in clear_first tokens (word EndWord) [] left f tt
  others_clear most (AndArmSyntax constructor fields body rest) tokens left begin clear =
      let f = begin-first begin in clear_first tokens (mark Bar) _ left f tt

  abbrev pub field_names : Reader levels
  field_names = optional levels (names levels) names_tokens (λ at_most names. Unit {0}) (names_listed levels)

  -- an arm behind its bar, and the others
  abbrev arms_row : (most : ℕ) → AreArmsRead most → Row levels ArmsSyntax
  arms_row most arms =
      ThenUpper (λ constructor. Then field_names (λ fields. ThenMark Arrow
      (Then (parts_of levels parts) (λ body. Last (other_arms most arms) (λ rest. AndArmSyntax constructor fields body rest)))))

  arms_found : (most : ℕ) (arms : AreArmsRead most) (tokens : Tokens) (found : ArmsSyntax) (left : Tokens)
      → read_row (arms_row most arms) levels tokens ≡ Found found left → Begin tokens (arms_read_written found) left × arms_within (suc most) levels found
  arms_found most arms tokens found left e =
      let s = row_sound (arms_row most arms) tokens found left e in
      subst (λ (a : ArmsSyntax). Begin tokens (arms_read_written a) left × arms_within (suc most) levels a) s.is
      (s.begin, (tt, (s.fits.1.0.0, s.fits.1.1.0), omega (arith, s.fits.1.0.1, s.fits.1.1.1), omega (arith, s.fits.1.1.2)))

  arms_complete : (most : ℕ) (arms : AreArmsRead most) (thing : ArmsSyntax) (tokens left : Tokens) → Begin tokens (arms_read_written thing) left
      → arms_within (suc most) levels thing → IsClear left → read_row (arms_row most arms) levels tokens ≡ Found thing left
  arms_complete most arms NoArmSyntax tokens left begin within clear = absurd within.0
  arms_complete most arms (AndArmSyntax constructor fields body rest) tokens left begin within clear =
      row_complete (arms_row most arms) (λ constructor fields. (refl, λ body. (others_clear most, tt))) (constructor, (fields, (body, rest))) tokens left begin
      (tt, ((within.1.0, omega (arith, within.2)), (within.1.1, omega (arith, within.2), omega (arith, within.3)))) clear

  pub arms_are : (most : ℕ) → AreArmsRead most
  arms_are zero = record {
    sound = λ tokens found left e. absurd (refused_found tokens found left e);
    complete = λ arms tokens left begin within clear. absurd (no_arms arms within.0 within.3);
  } where
    no_arms : (arms : ArmsSyntax) → IsSomeArm arms → arms_count arms ≤ 0 → ⊥
    no_arms NoArmSyntax some h = some
    no_arms (AndArmSyntax constructor fields body rest) some h = absurd (omega arith)
  arms_are (suc most) = record { sound = arms_found most (arms_are most); complete = arms_complete most (arms_are most) }

  -- as many as there are tokens are enough
  abbrev pub some_arms : ℕ → ArmsSyntax → Type 0
  some_arms at_most arms = IsSomeArm arms × ArmsHaveParts arms × (arms_levels arms ≤ at_most)

  pub counted_arms_are : IsReader levels (λ at_most tokens. read_arms (read_expression at_most) (count tokens) tokens) arms_read_written some_arms
  counted_arms_are = record {
    sound = λ tokens found left e. let s = (arms_are (count tokens)).sound tokens found left e in (s.0, (s.1.0, s.1.1, s.1.2));
    complete = λ arms tokens left begin within clear.
        (arms_are (count tokens)).complete arms tokens left begin (within.0, within.1, within.2, fits arms tokens left begin within.0) clear;
  } where
    fits : (arms : ArmsSyntax) (tokens left : Tokens) → Begin tokens (arms_read_written arms) left → IsSomeArm arms → arms_count arms ≤ count tokens
    fits NoArmSyntax tokens left begin some = absurd some
    fits (AndArmSyntax constructor fields body rest) tokens left begin some =
        let arms : ArmsSyntax = AndArmSyntax constructor fields body rest in
        omega (
          arith,
          begins_fit (arms_read_written arms) tokens left begin.is,
          arms_fit arms,
          ap length (arms_joined constructor fields body rest),
          length-append (arms_tokens arms) (word EndWord ∷ []),
        )

  abbrev pub counted_arms : Reader levels
  counted_arms = record {
    A = ArmsSyntax;
    read = λ at_most tokens. read_arms (read_expression at_most) (count tokens) tokens;
    written = arms_read_written;
    within = some_arms;
    is = counted_arms_are;
  }

  -- the rows behind the first token of an expression
  abbrev pub operands : Reader levels
  operands = list levels (parts_of levels parts) row_tokens row_parts (expressions_listed levels)

  abbrev pub optional_operands : Reader levels
  optional_operands = optional levels (parts_of levels parts) row_tokens row_parts (expressions_listed levels)

  abbrev pub pair_row : Place → Row levels ExpSyntax
  pair_row at =
      Then (parts_of levels parts) (λ first. ThenMark Comma
      (Then (parts_of levels parts) (λ second. ThenMark RightParenthesis (Done (PairSyntax at first second)))))

  abbrev pub unary_row : Place → UnaryOperation → Row levels ExpSyntax
  unary_row at operation =
      ThenMark LeftParenthesis (Then (parts_of levels parts) (λ operand. ThenMark RightParenthesis (Done (UnarySyntax at operation operand))))

  abbrev pub binary_row : Place → BinaryOperator → Row levels ExpSyntax
  binary_row at operation =
      ThenMark LeftParenthesis (Then (parts_of levels parts) (λ first. ThenMark Comma
      (Then (parts_of levels parts) (λ second. ThenMark RightParenthesis (Done (BinarySyntax at operation first second))))))

  abbrev pub call_row : Place → List ℕ → Row levels ExpSyntax
  call_row at name = Last operands (λ es. CallSyntax at name (in_a_row es))

  abbrev pub constructor_row : Place → List ℕ → Row levels ExpSyntax
  constructor_row at name = Last optional_operands (λ es. ConstructorSyntax at name (in_a_row es))

  -- behind the word of an operation on arrays, or behind the length of an array that is filled
  abbrev pub so_many_operands : ℕ → Reader levels
  so_many_operands = so_many levels read_expression expression_tokens IsExpression parts row_tokens row_parts (expressions_listed levels)

  abbrev pub operate_row : Place → ArrayOperation → Row levels ExpSyntax
  operate_row at operation = ThenMark LeftParenthesis (Last (so_many_operands (others_of operation)) (λ es. OperateSyntax at operation (in_a_row es)))

  abbrev pub fill_row : Place → Row levels ExpSyntax
  fill_row at = length_row (λ n. operate_row at (FillOperation n))

  pub fill_row-is : (at : Place) (at_most : ℕ) (tokens : Tokens)
      → read_operate (read_expression at_most) at VecFillWord tokens ≡ read_row (fill_row at) at_most tokens
  fill_row-is at at_most tokens =
      in_turn (read_length tokens) (λ n rest. Found (FillOperation n) rest) _ ∙ length_row-is (λ n. operate_row at (FillOperation n)) at_most tokens

  abbrev pub let_row : Place → Row levels ExpSyntax
  let_row at =
      ThenLower (λ name. ThenMark EqualsSign (Then (parts_of levels parts) (λ bound. ThenWord InWord
      (Last (parts_of levels parts) (λ body. LetSyntax at name bound body)))))

  abbrev pub if_row : Place → Row levels ExpSyntax
  if_row at =
      Then (parts_of levels parts) (λ test. ThenWord ThenWord' (Then (parts_of levels parts) (λ first. ThenWord ElseWord
      (Last (parts_of levels parts) (λ other. IfSyntax at test first other)))))

  abbrev pub match_row : Place → Row levels ExpSyntax
  match_row at =
      Then (parts_of levels parts) (λ subject. ThenWord WithWord (ThenMark Bar (Last counted_arms (λ arms. MatchSyntax at subject arms))))

  -- an expression that is found behind this token
  abbrev IsFrom : Place → Token → Tokens → ExpSyntax → Tokens → Type 0
  IsFrom at token rest found left = Begin (Next at token rest) (expression_tokens found) left × IsExpression (suc levels) found

  -- by its row, which makes it as it is written
  row_from : (at : Place) (token : Token) (row : Row levels ExpSyntax)
      → ((things : Things row) → row_within row levels things → (standing at token ∷ row_written row things ≡ expression_tokens (made row things))
      × IsExpression (suc levels) (made row things))
      → (rest : Tokens) (found : ExpSyntax) (left : Tokens) → read_row row levels rest ≡ Found found left → IsFrom at token rest found left
  row_from at token row makes rest found left e =
      let s = row_sound row rest found left e in let m = makes s.thing s.fits in
      subst (λ (x : ExpSyntax). IsFrom at token rest x left) s.is
      (begin-as m.0 (begin-next at token (standing at token) refl refl s.begin), m.1)

  alone : (at : Place) (token : Token) (rest : Tokens) (thing found : ExpSyntax) (left : Tokens) → Found thing rest ≡ Found found left
      → expression_tokens thing ≡ standing at token ∷ [] → IsExpression (suc levels) thing → IsFrom at token rest found left
  alone at token rest thing found left e h within =
      found_is expression_tokens (IsExpression (suc levels)) (Next at token rest) thing found rest left e
      (one_written at token (expression_tokens thing) rest h) within

  pub pair_written : (at : Place) (first second : ExpSyntax)
      → standing at (MarkToken LeftParenthesis) ∷ (expression_tokens first ++ (mark Comma ∷ (expression_tokens second ++ (mark RightParenthesis ∷ []))))
      ≡ expression_tokens (PairSyntax at first second)
  pair_written at first second = simp append_assoc

  pub binary_written : (at : Place) (operation : BinaryOperator) (first second : ExpSyntax)
      → standing at (KeywordToken (BinaryWord operation))
      ∷ (mark LeftParenthesis ∷ (expression_tokens first ++ (mark Comma ∷ (expression_tokens second ++ (mark RightParenthesis ∷ [])))))
      ≡ expression_tokens (BinarySyntax at operation first second)
  binary_written at operation first second = simp append_assoc

  pub let_written : (at : Place) (name : NameSyntax) (bound body : ExpSyntax)
      → standing at (KeywordToken LetWord) ∷ (lower name ∷ (mark EqualsSign ∷ (expression_tokens bound ++ (word InWord ∷ expression_tokens body))))
      ≡ expression_tokens (LetSyntax at name bound body)
  let_written at name bound body = refl

  pub if_written : (at : Place) (test first other : ExpSyntax)
      → standing at (KeywordToken IfWord)
      ∷ (expression_tokens test ++ (word ThenWord' ∷ (expression_tokens first ++ (word ElseWord ∷ expression_tokens other))))
      ≡ expression_tokens (IfSyntax at test first other)
  if_written at test first other = simp append_assoc

  pub match_written : (at : Place) (subject : ExpSyntax) (arms : ArmsSyntax) → IsSomeArm arms
      → standing at (KeywordToken MatchWord) ∷ (expression_tokens subject ++ (word WithWord ∷ (mark Bar ∷ arms_read_written arms)))
      ≡ expression_tokens (MatchSyntax at subject arms)
  match_written at subject NoArmSyntax some = absurd some
  match_written at subject (AndArmSyntax constructor fields body rest) some =
      ap (λ ws. standing at (KeywordToken MatchWord) ∷ (expression_tokens subject ++ (word WithWord ∷ ws))) (sym (arms_joined constructor fields body rest))
      ∙ ap (λ ws. standing at (KeywordToken MatchWord) ∷ ws) (sym (append_assoc (expression_tokens subject)
      (word WithWord ∷ arms_tokens (AndArmSyntax constructor fields body rest)) (word EndWord ∷ [])))

  pub match_parts : (at : Place) (subject : ExpSyntax) (arms : ArmsSyntax) → IsSomeArm arms → HasParts subject
      → ArmsHaveParts arms → HasParts (MatchSyntax at subject arms)
  match_parts at subject NoArmSyntax some hs ha = absurd some
  match_parts at subject (AndArmSyntax constructor fields body rest) some hs ha = (hs, ha)

  pub call_parts : (at : Place) (name : List ℕ) (es : List ExpSyntax) → IsSome es → HaveParts (in_a_row es)
      → HasParts (CallSyntax at name (in_a_row es))
  call_parts at name [] some hs = absurd some
  call_parts at name (e ∷ es) some hs = hs

  pub operate_parts : (at : Place) (operation : ArrayOperation) (es : List ExpSyntax) → has_length operation ≡ true
      → length es ≡ suc (others_of operation) → HaveParts (in_a_row es) → HasParts (OperateSyntax at operation (in_a_row es))
  operate_parts at operation es fits many hs = (fits, row_length-is es ∙ many, hs)

  -- behind a parenthesis: its end, or a pair
  pair_found : (at : Place) (rest : Tokens) (found : ExpSyntax) (left : Tokens)
      → read_pair (read_expression levels) at rest ≡ Found found left → IsFrom at (MarkToken LeftParenthesis) rest found left
  pair_found at rest found left e =
      row_from at (MarkToken LeftParenthesis) (pair_row at)
      (λ t w. (pair_written at t.0 t.1.0, ((w.0.0, w.1.0.0), omega (arith, w.0.1, w.1.0.1)))) rest found left e

  parenthesis_found : (at : Place) (rest : Tokens) (found : ExpSyntax) (left : Tokens)
      → read_unit_or_pair (read_expression levels) at rest ≡ Found found left → IsFrom at (MarkToken LeftParenthesis) rest found left
  parenthesis_found at (Next next (MarkToken RightParenthesis) rest) found left e =
      found_is expression_tokens (IsExpression (suc levels)) _ (UnitSyntax at) found rest left e
      (begin-next at (MarkToken LeftParenthesis) (standing at (MarkToken LeftParenthesis)) refl refl
      (begin-next next (MarkToken RightParenthesis) (mark RightParenthesis) refl tt (begin-none rest))) (tt, omega arith)
  parenthesis_found at rest found left e = pair_found at rest found left e

  -- behind a lower name: a call, or nothing
  local_found : (at : Place) (name : List ℕ) (rest : Tokens) (found : ExpSyntax) (left : Tokens)
      → Found (LocalSyntax at name) rest ≡ Found found left → IsFrom at (LowerToken name) rest found left
  local_found at name rest found left e = alone at (LowerToken name) rest (LocalSyntax at name) found left e refl (tt, omega arith)

  call_found : (at : Place) (name : List ℕ) (rest : Tokens) (found : ExpSyntax) (left : Tokens)
      → read_call (read_expression levels) at name rest ≡ Found found left → IsFrom at (LowerToken name) rest found left
  call_found at name (Next next (MarkToken LeftParenthesis) rest) found left e =
      let s = row_sound (call_row at name) rest found left e in
      subst (λ (x : ExpSyntax). IsFrom at (LowerToken name) (Next next (MarkToken LeftParenthesis) rest) x left) s.is (
        begin-next at (LowerToken name) (standing at (LowerToken name)) refl refl
            (begin-next next (MarkToken LeftParenthesis) (mark LeftParenthesis) refl tt s.begin),
        (call_parts at name s.thing s.fits.0 s.fits.1.0, omega (arith, s.fits.1.1)),
      )
  call_found at name rest found left e = local_found at name rest found left e

  -- behind a keyword
  operation_found : (at : Place) (keyword : Keyword) (unary : Option UnaryOperation) (binary : Option BinaryOperator)
      → unary_of keyword ≡ unary → binary_of keyword ≡ binary → (rest : Tokens) (found : ExpSyntax) (left : Tokens)
      → operation_from (read_expression levels) at unary binary rest ≡ Found found left → IsFrom at (KeywordToken keyword) rest found left
  operation_found at keyword (Some operation) binary h h' rest found left e =
      subst (λ (k : Keyword). IsFrom at (KeywordToken k) rest found left) (sym (unary_of-word keyword operation h))
      (row_from at (KeywordToken (unary_word operation)) (unary_row at operation) (λ t w. (refl, (w.0.0, omega (arith, w.0.1)))) rest found left e)
  operation_found at keyword None (Some operation) h h' rest found left e =
      subst (λ (k : Keyword). IsFrom at (KeywordToken k) rest found left) (sym (binary_of-word keyword operation h'))
      (row_from at (KeywordToken (BinaryWord operation)) (binary_row at operation)
      (λ t w. (binary_written at operation t.0 t.1.0, ((w.0.0, w.1.0.0), omega (arith, w.0.1, w.1.0.1)))) rest found left e)
  operation_found at keyword None None h h' rest found left e = absurd (cc)

  word_found : (at : Place) (keyword : Keyword) (rest : Tokens) (found : ExpSyntax) (left : Tokens)
      → word_from (read_expression levels) at keyword rest ≡ Found found left → IsFrom at (KeywordToken keyword) rest found left
  word_found at TrueWord rest found left e = alone at _ rest (BoolSyntax at true) found left e refl (tt, omega arith)
  word_found at FalseWord rest found left e = alone at _ rest (BoolSyntax at false) found left e refl (tt, omega arith)
  word_found at LetWord rest found left e =
      row_from at (KeywordToken LetWord) (let_row at)
      (λ t w. (let_written at t.0 t.1.0 t.1.1, ((w.0.0, w.1.0), omega (arith, w.0.1, w.1.1)))) rest found left e
  word_found at IfWord rest found left e =
      row_from at (KeywordToken IfWord) (if_row at)
      (λ t w. (if_written at t.0 t.1.0 t.1.1, ((w.0.0, w.1.0.0, w.1.1.0), omega (arith, w.0.1, w.1.0.1, w.1.1.1)))) rest found left e
  word_found at MatchWord rest found left e =
      row_from at (KeywordToken MatchWord) (match_row at)
      (λ t w. (match_written at t.0 t.1 w.1.0, (match_parts at t.0 t.1 w.1.0 w.0.0 w.1.1, omega (arith, w.0.1, w.1.2)))) rest found left e
  word_found at VecFillWord rest found left e =
      row_from at (KeywordToken VecFillWord) (fill_row at)
      (λ t w. (refl, (operate_parts at (FillOperation t.0) t.1 w.0 w.1.0 w.1.1.0, omega (arith, w.1.1.1)))) rest found left
      (sym (fill_row-is at levels rest) ∙ e)
  word_found at VecGetWord rest found left e =
      row_from at (KeywordToken VecGetWord) (operate_row at GetOperation)
      (λ t w. (refl, (operate_parts at GetOperation t refl w.0 w.1.0, omega (arith, w.1.1)))) rest found left e
  word_found at VecPutWord rest found left e =
      row_from at (KeywordToken VecPutWord) (operate_row at PutOperation)
      (λ t w. (refl, (operate_parts at PutOperation t refl w.0 w.1.0, omega (arith, w.1.1)))) rest found left e
  word_found at keyword rest found left e = operation_found at keyword (unary_of keyword) (binary_of keyword) refl refl rest found left e

  expression_found : (at : Place) (token : Token) (rest : Tokens) (found : ExpSyntax) (left : Tokens)
      → expression_from (read_expression levels) at token rest ≡ Found found left → IsFrom at token rest found left
  expression_found at (MarkToken LeftParenthesis) rest found left e = parenthesis_found at rest found left e
  expression_found at (LowerToken name) rest found left e = call_found at name rest found left e
  expression_found at (UpperToken name) rest found left e =
      row_from at (UpperToken name) (constructor_row at name) (λ t w. (refl, (w.0, omega (arith, w.1)))) rest found left e
  expression_found at (IntToken z) rest found left e = alone at _ rest (IntSyntax at z) found left e refl (tt, omega arith)
  expression_found at (TextToken bytes) rest found left e = alone at _ rest (TextSyntax at bytes) found left e refl (tt, omega arith)
  expression_found at (KeywordToken keyword) rest found left e = word_found at keyword rest found left e
  expression_found at token rest found left e = absurd (cc)

  -- an expression that is written is found
  from : (at : Place) (token : Token) (others : List Written) (tokens left : Tokens) (result : Reading ExpSyntax)
      (h : First tokens (standing at token) others left)
      → expression_from (read_expression levels) at token h.rest ≡ result → read_expression (suc levels) tokens ≡ result
  from at token others tokens left result h e = ap (read_expression (suc levels)) (head_is at token others tokens left h) ∙ e

  -- behind a parenthesis that no other closes at once
  pair_from : (at : Place) (tokens : Tokens) → IsNotClosing tokens
      → read_unit_or_pair (read_expression levels) at tokens ≡ read_pair (read_expression levels) at tokens
  pair_from at (Next next (MarkToken RightParenthesis) rest) h = absurd h
  pair_from at tokens h = refl

  -- behind a name
  local_from : (at : Place) (name : List ℕ) (tokens : Tokens) → IsClear tokens
      → read_call (read_expression levels) at name tokens ≡ Found (LocalSyntax at name) tokens
  local_from at name (Next next (MarkToken LeftParenthesis) rest) clear = absurd clear
  local_from at name tokens clear = refl

  -- behind the word of an operation
  unary_from : (at : Place) (operation : UnaryOperation) (rest : Tokens)
      → word_from (read_expression levels) at (unary_word operation) rest ≡ read_row (unary_row at operation) levels rest
  unary_from at FstOperation rest = refl
  unary_from at SndOperation rest = refl
  unary_from at AuthOperation rest = refl
  unary_from at UnauthOperation rest = refl
  unary_from at LenOperation rest = refl
  unary_from at NotOperation rest = refl

  bool_from : (at : Place) (b : Bool) (rest : Tokens)
      → word_from (read_expression levels) at (bool_word b) rest ≡ Found (BoolSyntax at b) rest
  bool_from at true rest = refl
  bool_from at false rest = refl

  -- operands from a row
  row_fits : (es : ExpsSyntax) → HaveParts es → expressions_levels es ≤ levels → row_parts levels (from_row es)
  row_fits es h h' =
      (subst HaveParts (sym (in_a_row-from es)) h, subst (λ (es : ExpsSyntax). expressions_levels es ≤ levels) (sym (in_a_row-from es)) h')

  operands_fit : (operation : ArrayOperation) (es : ExpsSyntax) → row_length es ≡ suc (others_of operation) → HaveParts es → expressions_levels es ≤ levels
      → (length (from_row es) ≡ suc (others_of operation)) × row_parts levels (from_row es)
  operands_fit operation es many h h' =
      (sym (row_length-is (from_row es)) ∙ (ap row_length (in_a_row-from es) ∙ many), row_fits es h h')

  -- behind the word of an operation on arrays that has no length of its own
  operate_complete : (at : Place) (operation : ArrayOperation)
      → ((rest : Tokens) → word_from (read_expression levels) at (array_word operation) rest ≡ read_row (operate_row at operation) levels rest)
      → brackets operation ≡ [] → (es : ExpsSyntax) (tokens left : Tokens) → Begin tokens (expression_tokens (OperateSyntax at operation es)) left
      → IsExpression (suc levels) (OperateSyntax at operation es) → IsClear left → read_expression (suc levels) tokens ≡ Found (OperateSyntax at operation es) left
  operate_complete at operation word_is bare es tokens left begin within clear =
      let f = begin-first begin in
      from at _ _ tokens left _ f
      (word_is f.rest
      ∙ row_complete (operate_row at operation) tt (from_row es) f.rest left
      (begin-as (ap (λ (ws : List Written). ws ++ mark LeftParenthesis ∷ expressions_tokens es ++ mark RightParenthesis ∷ []) bare
      ∙ ap (λ (es : ExpsSyntax). mark LeftParenthesis ∷ (expressions_tokens es ++ (mark RightParenthesis ∷ []))) (sym (in_a_row-from es))) f.begin)
      (operands_fit operation es within.0.1 within.0.2 (omega (arith, within.1))) clear
      ∙ ap (λ es. Found (OperateSyntax at operation es) left) (in_a_row-from es))

  expression_complete : (e : ExpSyntax) (tokens left : Tokens) → Begin tokens (expression_tokens e) left → IsExpression (suc levels) e
      → IsClear left → read_expression (suc levels) tokens ≡ Found e left
  expression_complete (UnitSyntax at) tokens left begin within clear =
      let f = begin-first begin in let g = begin-first f.begin in
      from at _ _ tokens left _ f
      (ap (read_unit_or_pair (read_expression levels) at) (g.is ∙ ap (λ t. Next g.at t g.rest) g.stands)
      ∙ ap (λ ts. Found (UnitSyntax at) ts) (none-begin g.begin))
  expression_complete (BoolSyntax at b) tokens left begin within clear =
      let f = begin-first begin in
      from at _ _ tokens left _ f (bool_from at b f.rest ∙ ap (λ ts. Found (BoolSyntax at b) ts) (none-begin f.begin))
  expression_complete (IntSyntax at z) tokens left begin within clear =
      let f = begin-first begin in from at _ _ tokens left _ f (ap (λ ts. Found (IntSyntax at z) ts) (none-begin f.begin))
  expression_complete (TextSyntax at bytes) tokens left begin within clear =
      let f = begin-first begin in from at _ _ tokens left _ f (ap (λ ts. Found (TextSyntax at bytes) ts) (none-begin f.begin))
  expression_complete (LocalSyntax at name) tokens left begin within clear =
      let f = begin-first begin in
      from at _ _ tokens left _ f (ap (read_call (read_expression levels) at name) (none-begin f.begin) ∙ local_from at name left clear)
  expression_complete (PairSyntax at first second) tokens left begin within clear =
      let f = begin-first (begin-as (sym (pair_written at first second)) begin) in
      let p = begin-parted (expression_tokens first) _ f.rest left f.begin in
      from at _ _ tokens left _ f
      (pair_from at f.rest (not_closing first f.rest p.middle p.begin)
      ∙ row_complete (pair_row at) (λ first. (refl, λ second. (refl, tt))) (first, (second, tt)) f.rest left f.begin
      ((within.0.0, omega (arith, within.1)), ((within.0.1, omega (arith, within.1)), tt)) clear)
  expression_complete (UnarySyntax at operation operand) tokens left begin within clear =
      let f = begin-first begin in
      from at _ _ tokens left _ f
      (unary_from at operation f.rest
      ∙ row_complete (unary_row at operation) (λ operand. (refl, tt)) (operand, tt) f.rest left f.begin
      ((within.0, omega (arith, within.1)), tt) clear)
  expression_complete (BinarySyntax at operation first second) tokens left begin within clear =
      let f = begin-first (begin-as (sym (binary_written at operation first second)) begin) in
      from at _ _ tokens left _ f
      (row_complete (binary_row at operation) (λ first. (refl, λ second. (refl, tt))) (first, (second, tt)) f.rest left f.begin
      ((within.0.0, omega (arith, within.1)), ((within.0.1, omega (arith, within.1)), tt)) clear)
  expression_complete (CallSyntax at name NoExp) tokens left begin within clear = absurd within.0
  expression_complete (CallSyntax at name (AndExp e rest)) tokens left begin within clear =
      let es : ExpsSyntax = AndExp e rest in
      let f = begin-first begin in let g = begin-first f.begin in
      from at _ _ tokens left _ f
      (ap (read_call (read_expression levels) at name) (g.is ∙ ap (λ t. Next g.at t g.rest) g.stands)
      ∙ (row_complete (call_row at name) tt (from_row es) g.rest left
      (begin-as (ap (λ (es : ExpsSyntax). expressions_tokens es ++ (mark RightParenthesis ∷ [])) (sym (in_a_row-from es))) g.begin)
      (tt, row_fits es within.0 (omega (arith, within.1))) clear
      ∙ ap (λ es. Found (CallSyntax at name es) left) (in_a_row-from es)))
  expression_complete (ConstructorSyntax at name es) tokens left begin within clear =
      let f = begin-first begin in
      from at _ _ tokens left _ f
      (row_complete (constructor_row at name) tt (from_row es) f.rest left
      (begin-as (ap (λ (es : ExpsSyntax). in_parentheses (expressions_tokens es)) (sym (in_a_row-from es))) f.begin)
      (row_fits es within.0 (omega (arith, within.1))) clear
      ∙ ap (λ es. Found (ConstructorSyntax at name es) left) (in_a_row-from es))
  expression_complete (OperateSyntax at (FillOperation n) es) tokens left begin within clear =
      let f = begin-first begin in
      from at _ _ tokens left _ f
      (fill_row-is at levels f.rest
      ∙ row_complete (fill_row at) (λ n. (refl, tt)) (n, from_row es) f.rest left
      (begin-as (ap (λ (es : ExpsSyntax). length_tokens n ++ (mark LeftParenthesis ∷ (expressions_tokens es ++ (mark RightParenthesis ∷ []))))
      (sym (in_a_row-from es))) f.begin)
      (within.0.0, operands_fit (FillOperation n) es within.0.1 within.0.2 (omega (arith, within.1))) clear
      ∙ ap (λ es. Found (OperateSyntax at (FillOperation n) es) left) (in_a_row-from es))
  expression_complete (OperateSyntax at GetOperation es) tokens left begin within clear = operate_complete at GetOperation (λ rest. refl) refl es tokens left begin within clear
  expression_complete (OperateSyntax at PutOperation es) tokens left begin within clear = operate_complete at PutOperation (λ rest. refl) refl es tokens left begin within clear
  expression_complete (LetSyntax at name bound body) tokens left begin within clear =
      let f = begin-first begin in
      from at _ _ tokens left _ f
      (row_complete (let_row at) (λ name bound. (tt, tt)) (name, (bound, body)) f.rest left f.begin
      ((within.0.0, omega (arith, within.1)), (within.0.1, omega (arith, within.1))) clear)
  expression_complete (IfSyntax at test first other) tokens left begin within clear =
      let f = begin-first (begin-as (sym (if_written at test first other)) begin) in
      from at _ _ tokens left _ f
      (row_complete (if_row at) (λ test. (tt, λ first. (tt, tt))) (test, (first, other)) f.rest left f.begin
      ((within.0.0, omega (arith, within.1)), ((within.0.1, omega (arith, within.1)), (within.0.2, omega (arith, within.1)))) clear)
  expression_complete (MatchSyntax at subject NoArmSyntax) tokens left begin within clear = absurd within.0
  expression_complete (MatchSyntax at subject (AndArmSyntax constructor fields body rest)) tokens left begin within clear =
      let arms : ArmsSyntax = AndArmSyntax constructor fields body rest in
      let f = begin-first (begin-as (sym (match_written at subject arms tt)) begin) in
      from at _ _ tokens left _ f
      (row_complete (match_row at) (λ subject. (tt, tt)) (subject, arms) f.rest left f.begin
      ((within.0.0, omega (arith, within.1)), (tt, within.0.1, omega (arith, within.1))) clear)

  some_levels : (tokens : Tokens) (found : ExpSyntax) (left : Tokens) → read_expression (suc levels) tokens ≡ Found found left
      → Begin tokens (expression_tokens found) left × IsExpression (suc levels) found
  some_levels (Next at token rest) found left e = expression_found at token rest found left e
  some_levels (End at) found left e = absurd (cc)
  some_levels (Faulty at kind) found left e = absurd (cc)

no_levels : (tokens : Tokens) (found : ExpSyntax) (left : Tokens) → read_expression zero tokens ≡ Found found left → ⊥
no_levels (Next at token rest) found left e = cc
no_levels (End at) found left e = cc
no_levels (Faulty at kind) found left e = cc

pub expressions_are : (levels : ℕ) → AreExpressionsRead levels
expressions_are zero = record {
  sound = λ tokens found left e. absurd (no_levels tokens found left e);
  complete = λ e tokens left begin within clear. absurd (omega (arith, expression_levels-some e, within.1));
}
expressions_are (suc levels) = record {
  sound = some_levels levels (expressions_are levels);
  complete = expression_complete levels (expressions_are levels);
}

abbrev pub expressions : (levels : ℕ) → Reader levels
expressions levels = parts_of levels (expressions_are levels)
