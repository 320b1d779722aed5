-- Trees whose tokens stand elsewhere: where tokens begin with those of a tree, wherever they stand, they begin with a tree that is equal
-- but for places.
use Rattle.std.proofs.Common.{◌≡◌, ℕ, pos, List, [], ◌∷◌, ◌++◌, map, codes, Option, Some, None, refl, sym, ap, ap₂, subst, ◌∙◌, arith, length-append}
use Rattle.core_terms.specs.declared.format.Format.{Format}
use Rattle.lexemes.specs.declared.place.Place.{Place}
use Rattle.lexemes.specs.declared.token.Keyword.{Keyword}
use Rattle.lexemes.specs.declared.token.Keyword.TheVariants.{«Type» as TypeWord, State as StateWord, Let as LetWord, In as InWord, Match as MatchWord, With as WithWord, End as EndWord, If as IfWord, Then as ThenWord, Else as ElseWord, Auth as AuthWord, Unit as UnitWord, Bool as BoolWord, Int as IntWord, Text as TextWord, Vec as VecWord, Binary as BinaryWord}
use Rattle.lexemes.specs.declared.token.Mark.{Mark}
use Rattle.lexemes.specs.declared.token.Mark.TheVariants.{LeftParenthesis, RightParenthesis, Comma, Semicolon, Colon, EqualsSign, Bar, Arrow, LeftBracket, RightBracket}
use Rattle.lexemes.specs.Places.{start}
use Rattle.lexemes.specs.Tokens.{Token, KeywordToken, MarkToken, LowerToken, UpperToken, IntToken, TextToken, Tokens, Next, End, Faulty}
use Rattle.auth_syntax.specs.Syntax.{NameSyntax, TypeSyntax, UnitTypeSyntax, BoolTypeSyntax, IntTypeSyntax, TextTypeSyntax, NamedTypeSyntax, AuthTypeSyntax, PairTypeSyntax, VecTypeSyntax, ArrayOperation, FillOperation, GetOperation, PutOperation, ExpSyntax, UnitSyntax, BoolSyntax, IntSyntax, TextSyntax, LocalSyntax, PairSyntax, UnarySyntax, BinarySyntax, CallSyntax, ConstructorSyntax, OperateSyntax, LetSyntax, IfSyntax, MatchSyntax, ExpsSyntax, NoExp, AndExp, ArmsSyntax, NoArmSyntax, AndArmSyntax, ParameterSyntax, KindSyntax, FunctionSyntax, ConstructorDeclaration, DeclarationSyntax, TypeDeclaration, StateDeclaration, FunctionDeclaration}
use Rattle.auth_syntax.specs.ProgramTokens.{format_word}
use Rattle.auth_syntax.specs.Grammar.{Written, anywhere, standing, mark, word, lower, upper, unary_word, array_word, bool_word, length_tokens, brackets, type_tokens, names_tokens, in_parentheses, expression_tokens, expressions_tokens, arms_tokens, parameter_tokens, parameters_tokens, types_tokens, constructor_tokens, constructors_tokens, kind_keyword, declaration_tokens, declarations_tokens, format_number, format_tokens, program_tokens}
use Rattle.printed_syntax.specs.PrintedPrograms.{token_text, blank_before, in_line, declaration_text, declarations_text}
use Rattle.printed_syntax.specs.WithoutPlaces.{name_without_place, type_without_places, expression_without_places, expressions_without_places, arms_without_places, parameter_without_places, constructor_without_places, declaration_without_places}
use Rattle.auth_syntax.proofs.Beginnings.{Begin, begin-append}
use Rattle.printed_syntax.proofs.BeginAnywhere.{TellAnywhere, tell-parted, tell-count, begin-tell}

-- a thing with which tokens begin, and what is asked of it
pub record Moved {A : Type 0} (written : A → List Written) (same : A → Type 0) (tokens left : Tokens) : Type 0 where
  pub thing : A
  pub begin : Begin tokens (written thing) left
  pub is_same : same thing

-- tokens that begin with these, wherever they stand, begin with such a thing
pub record CanMove {A : Type 0} (written : A → List Written) (same : A → Type 0) (ws : List Written) : Type 0 where
  pub move : (tokens left : Tokens) → TellAnywhere tokens ws left → Moved written same tokens left

-- no token
nothing : CanMove (λ (u : Unit {0}). []) (λ u. Unit {0}) []
nothing = record { move = λ tokens left h. record { thing = tt; begin = record { is = h.is }; is_same = tt } }

-- one token, whose place is kept
module _ {A : Type 0} (token : Token) (written : A → Written) (same : A → Type 0) (make : Place → A)
    (is : (at : Place) → written (make at) ≡ standing at token) (fits : (at : Place) → same (make at)) (w : Written) (told : w.token ≡ token) where
  one_moved : (tokens left : Tokens) → TellAnywhere tokens (w ∷ []) left → Moved (λ thing. written thing ∷ []) same tokens left
  one_moved (Next at found rest) left h = record {
    thing = make at;
    begin = subst (λ (w : Written). Begin (Next at found rest) (w ∷ []) left) (sym (is at)) (record { is = (h.is.0 ∙ told, refl, h.is.1) });
    is_same = fits at;
  }
  one_moved (End at) left h = absurd h.is
  one_moved (Faulty at kind) left h = absurd h.is

stands : (token : Token) (at : Place) → CanMove (λ (at : Place). standing at token ∷ []) (λ at. Unit {0}) (standing at token ∷ [])
stands token at =
    record { move = one_moved token (λ (at : Place). standing at token) (λ at. Unit {0}) (λ at. at) (λ at. refl) (λ at. tt) (standing at token) refl }

lower_moves : (name : NameSyntax) → CanMove (λ (other : NameSyntax). lower other ∷ []) (λ other. name_without_place other ≡ name_without_place name) (lower name ∷ [])
lower_moves name = record {
  move = one_moved (LowerToken name.name) lower (λ other. name_without_place other ≡ name_without_place name) (λ at. record { at = at; name = name.name })
      (λ at. refl) (λ at. refl) (lower name) refl;
}

upper_moves : (name : NameSyntax) → CanMove (λ (other : NameSyntax). upper other ∷ []) (λ other. name_without_place other ≡ name_without_place name) (upper name ∷ [])
upper_moves name = record {
  move = one_moved (UpperToken name.name) upper (λ other. name_without_place other ≡ name_without_place name) (λ at. record { at = at; name = name.name })
      (λ at. refl) (λ at. refl) (upper name) refl;
}

-- one token, whose place is not kept
fixed_moved : (token : Token) (tokens left : Tokens) → TellAnywhere tokens (anywhere token ∷ []) left
    → Moved (λ (u : Unit {0}). anywhere token ∷ []) (λ u. Unit {0}) tokens left
fixed_moved token (Next at found rest) left h = record { thing = tt; begin = record { is = (h.is.0, tt, h.is.1) }; is_same = tt }
fixed_moved token (End at) left h = absurd h.is
fixed_moved token (Faulty at kind) left h = absurd h.is

fixed : (token : Token) → CanMove (λ (u : Unit {0}). anywhere token ∷ []) (λ u. Unit {0}) (anywhere token ∷ [])
fixed token = record { move = fixed_moved token }

the_mark : (m : Mark) → CanMove (λ (u : Unit {0}). mark m ∷ []) (λ u. Unit {0}) (mark m ∷ [])
the_mark m = fixed (MarkToken m)

the_word : (keyword : Keyword) → CanMove (λ (u : Unit {0}). word keyword ∷ []) (λ u. Unit {0}) (word keyword ∷ [])
the_word keyword = fixed (KeywordToken keyword)

-- one thing behind another
both : {A B : Type 0} {written : A → List Written} {same : A → Type 0} {ws : List Written} {written' : B → List Written} {same' : B → Type 0} {vs : List Written}
    → CanMove written same ws → CanMove written' same' vs
    → CanMove (λ (p : A × B). written p.0 ++ written' p.1) (λ p. same p.0 × same' p.1) (ws ++ vs)
both {ws = ws} {vs = vs} a b = record {
  move = λ tokens left h.
      let p = tell-parted ws vs tokens left h in
      let first = a.move tokens p.middle p.first in
      let second = b.move p.middle left p.second in
      record { thing = (first.thing, second.thing); begin = begin-append first.begin second.begin; is_same = (first.is_same, second.is_same) };
}

-- what such a thing makes
made : {A B : Type 0} {written : A → List Written} {same : A → Type 0} {ws : List Written} (written' : B → List Written) (same' : B → Type 0) (make : A → B)
    → CanMove written same ws → ((thing : A) → written' (make thing) ≡ written thing) → ((thing : A) → same thing → same' (make thing))
    → CanMove written' same' ws
made written' same' make a writes keeps = record {
  move = λ tokens left h.
      let m = a.move tokens left h in
      record {
        thing = make m.thing;
        begin = subst (λ (ws : List Written). Begin tokens ws left) (sym (writes m.thing)) m.begin;
        is_same = keeps m.thing m.is_same;
      };
}

-- things between parentheses, or none
none_begin : (vs : List Written) (tokens left : Tokens) → TellAnywhere tokens [] left → Begin tokens vs left → Begin tokens (in_parentheses vs) left
none_begin [] tokens left h begin = begin
none_begin (v ∷ vs) tokens left h begin =
    absurd (omega (arith, tell-count [] tokens left h, tell-count (v ∷ vs) tokens left (begin-tell (v ∷ vs) tokens left begin)))

some_begin : (w : Written) (ws vs : List Written) (tokens left : Tokens)
    → TellAnywhere tokens (mark LeftParenthesis ∷ (w ∷ ws) ++ mark RightParenthesis ∷ []) left
    → Begin tokens (mark LeftParenthesis ∷ vs ++ mark RightParenthesis ∷ []) left → Begin tokens (in_parentheses vs) left
some_begin w ws [] tokens left h begin =
    let two = mark LeftParenthesis ∷ mark RightParenthesis ∷ [] in
    absurd (omega (
      arith,
      length-append ws (mark RightParenthesis ∷ []),
      tell-count (mark LeftParenthesis ∷ (w ∷ ws) ++ mark RightParenthesis ∷ []) tokens left h,
      tell-count two tokens left (begin-tell two tokens left begin),
    ))
some_begin w ws (v ∷ vs) tokens left h begin = begin

parenthesized : {A : Type 0} (written : A → List Written) (same : A → Type 0) (ws : List Written) → CanMove written same ws
    → CanMove (λ thing. in_parentheses (written thing)) same (in_parentheses ws)
parenthesized written same [] a = record {
  move = λ tokens left h.
      let m = a.move tokens left h in
      record { thing = m.thing; begin = none_begin (written m.thing) tokens left h m.begin; is_same = m.is_same };
}
parenthesized written same (w ∷ ws) a = record {
  move = λ tokens left h.
      let m = (both (both (the_mark LeftParenthesis) a) (the_mark RightParenthesis)).move tokens left h in
      record { thing = m.thing.0.1; begin = some_begin w ws (written m.thing.0.1) tokens left h m.begin; is_same = m.is_same.0.1 };
}

-- things in a row, with marks between them
module _ {A : Type 0} (between : Mark) (one : A → List Written) (all : List A → List Written) (plain : A → A) (none : all [] ≡ [])
    (single : (thing : A) → all (thing ∷ []) ≡ one thing)
    (several : (thing next : A) (rest : List A) → all (thing ∷ next ∷ rest) ≡ one thing ++ mark between ∷ all (next ∷ rest))
    (moves : (thing : A) → CanMove one (λ other. plain other ≡ plain thing) (one thing)) where
  some_move : (thing : A) (rest : List A)
      → CanMove (λ (p : A × List A). all (p.0 ∷ p.1)) (λ p. plain p.0 ∷ map plain p.1 ≡ plain thing ∷ map plain rest) (all (thing ∷ rest))
  some_move thing [] =
      subst (CanMove (λ (p : A × List A). all (p.0 ∷ p.1)) (λ p. plain p.0 ∷ map plain p.1 ≡ plain thing ∷ [])) (sym (single thing))
      (made (λ (p : A × List A). all (p.0 ∷ p.1)) (λ p. plain p.0 ∷ map plain p.1 ≡ plain thing ∷ []) (λ other. (other, []))
      (moves thing) (λ other. single other) (λ other h. ap (λ x. x ∷ []) h))
  some_move thing (next ∷ rest) =
      subst (CanMove (λ (p : A × List A). all (p.0 ∷ p.1)) (λ p. plain p.0 ∷ map plain p.1 ≡ plain thing ∷ plain next ∷ map plain rest)) (sym (several thing next rest))
      (made (λ (p : A × List A). all (p.0 ∷ p.1)) (λ p. plain p.0 ∷ map plain p.1 ≡ plain thing ∷ plain next ∷ map plain rest)
      (λ p. (p.0, p.1.1.0 ∷ p.1.1.1)) (both (moves thing) (both (the_mark between) (some_move next rest)))
      (λ p. several p.0 p.1.1.0 p.1.1.1) (λ p h. ap₂ (λ x xs. x ∷ xs) h.0 h.1.1))

  all_move : (things : List A) → CanMove all (λ others. map plain others ≡ map plain things) (all things)
  all_move [] =
      subst (CanMove all (λ others. map plain others ≡ [])) (sym none)
      (made all (λ others. map plain others ≡ []) (λ u. []) nothing (λ u. none) (λ u h. refl))
  all_move (thing ∷ rest) =
      made all (λ others. map plain others ≡ plain thing ∷ map plain rest) (λ p. p.0 ∷ p.1) (some_move thing rest) (λ p. refl) (λ p h. h)

-- types
abbrev SameType : TypeSyntax → TypeSyntax → Type 0
SameType t other = type_without_places other ≡ type_without_places t

-- the length of an array, in brackets
length_moves : (n : ℕ) → CanMove (λ (u : Unit {0}). length_tokens n) (λ u. Unit {0}) (length_tokens n)
length_moves n =
    made (λ (u : Unit {0}). length_tokens n) (λ u. Unit {0}) (λ p. tt)
    (both (the_mark LeftBracket) (both (fixed (IntToken (pos n))) (the_mark RightBracket))) (λ p. refl) (λ p h. tt)

type_moves : (t : TypeSyntax) → CanMove type_tokens (SameType t) (type_tokens t)
type_moves (UnitTypeSyntax at) =
    made type_tokens (SameType (UnitTypeSyntax at)) UnitTypeSyntax (stands (KeywordToken UnitWord) at) (λ p. refl) (λ p h. refl)
type_moves (BoolTypeSyntax at) =
    made type_tokens (SameType (BoolTypeSyntax at)) BoolTypeSyntax (stands (KeywordToken BoolWord) at) (λ p. refl) (λ p h. refl)
type_moves (IntTypeSyntax at) =
    made type_tokens (SameType (IntTypeSyntax at)) IntTypeSyntax (stands (KeywordToken IntWord) at) (λ p. refl) (λ p h. refl)
type_moves (TextTypeSyntax at) =
    made type_tokens (SameType (TextTypeSyntax at)) TextTypeSyntax (stands (KeywordToken TextWord) at) (λ p. refl) (λ p h. refl)
type_moves (NamedTypeSyntax at name) =
    made type_tokens (SameType (NamedTypeSyntax at name)) (λ at. NamedTypeSyntax at name) (stands (LowerToken name) at) (λ p. refl) (λ p h. refl)
type_moves (AuthTypeSyntax at inner) =
    made type_tokens (SameType (AuthTypeSyntax at inner)) (λ p. AuthTypeSyntax p.0 p.1) (both (stands (KeywordToken AuthWord) at) (type_moves inner))
    (λ p. refl) (λ p h. ap (AuthTypeSyntax start) h.1)
type_moves (PairTypeSyntax at first second) =
    made type_tokens (SameType (PairTypeSyntax at first second)) (λ p. PairTypeSyntax p.0.0.0 p.0.0.1 p.0.1.1)
    (both (both (both (stands (MarkToken LeftParenthesis) at) (type_moves first)) (both (the_mark Comma) (type_moves second))) (the_mark RightParenthesis))
    (λ p. refl) (λ p h. ap₂ (PairTypeSyntax start) h.0.0.1 h.0.1.1)
type_moves (VecTypeSyntax at n item) =
    made type_tokens (SameType (VecTypeSyntax at n item)) (λ p. VecTypeSyntax p.0.0 n p.1)
    (both (both (stands (KeywordToken VecWord) at) (length_moves n)) (type_moves item)) (λ p. refl) (λ p h. ap (VecTypeSyntax start n) h.1)

types_move : (ts : List TypeSyntax) → CanMove types_tokens (λ others. map type_without_places others ≡ map type_without_places ts) (types_tokens ts)
types_move = all_move Comma type_tokens types_tokens type_without_places refl (λ t. refl) (λ t next rest. refl) type_moves

names_move : (names : List NameSyntax) → CanMove names_tokens (λ others. map name_without_place others ≡ map name_without_place names) (names_tokens names)
names_move = all_move Comma (λ (name : NameSyntax). lower name ∷ []) names_tokens name_without_place refl (λ t. refl) (λ t next rest. refl) lower_moves

-- what stands between the word of an operation on arrays and its operands
brackets_move : (operation : ArrayOperation) → CanMove (λ (u : Unit {0}). brackets operation) (λ u. Unit {0}) (brackets operation)
brackets_move (FillOperation n) = length_moves n
brackets_move GetOperation = nothing
brackets_move PutOperation = nothing

-- expressions
abbrev SameExpression : ExpSyntax → ExpSyntax → Type 0
SameExpression e other = expression_without_places other ≡ expression_without_places e

abbrev SameExpressions : ExpsSyntax → ExpsSyntax → Type 0
SameExpressions es others = expressions_without_places others ≡ expressions_without_places es

abbrev SameArms : ArmsSyntax → ArmsSyntax → Type 0
SameArms arms others = arms_without_places others ≡ arms_without_places arms

mutual
  expression_moves : (e : ExpSyntax) → CanMove expression_tokens (SameExpression e) (expression_tokens e)
  expression_moves (UnitSyntax at) =
      made expression_tokens (SameExpression (UnitSyntax at)) (λ p. UnitSyntax p.0)
      (both (stands (MarkToken LeftParenthesis) at) (the_mark RightParenthesis)) (λ p. refl) (λ p h. refl)
  expression_moves (BoolSyntax at b) =
      made expression_tokens (SameExpression (BoolSyntax at b)) (λ at. BoolSyntax at b) (stands (KeywordToken (bool_word b)) at) (λ p. refl) (λ p h. refl)
  expression_moves (IntSyntax at z) =
      made expression_tokens (SameExpression (IntSyntax at z)) (λ at. IntSyntax at z) (stands (IntToken z) at) (λ p. refl) (λ p h. refl)
  expression_moves (TextSyntax at bytes) =
      made expression_tokens (SameExpression (TextSyntax at bytes)) (λ at. TextSyntax at bytes) (stands (TextToken bytes) at) (λ p. refl) (λ p h. refl)
  expression_moves (LocalSyntax at name) =
      made expression_tokens (SameExpression (LocalSyntax at name)) (λ at. LocalSyntax at name) (stands (LowerToken name) at) (λ p. refl) (λ p h. refl)
  expression_moves (PairSyntax at first second) =
      made expression_tokens (SameExpression (PairSyntax at first second)) (λ p. PairSyntax p.0.0.0 p.0.0.1 p.0.1.1)
      (both
      (both (both (stands (MarkToken LeftParenthesis) at) (expression_moves first)) (both (the_mark Comma) (expression_moves second)))
      (the_mark RightParenthesis))
      (λ p. refl) (λ p h. ap₂ (PairSyntax start) h.0.0.1 h.0.1.1)
  expression_moves (UnarySyntax at operation operand) =
      made expression_tokens (SameExpression (UnarySyntax at operation operand)) (λ p. UnarySyntax p.0.0 operation p.0.1.1)
      (both
      (both (stands (KeywordToken (unary_word operation)) at) (both (the_mark LeftParenthesis) (expression_moves operand)))
      (the_mark RightParenthesis))
      (λ p. refl) (λ p h. ap (UnarySyntax start operation) h.0.1.1)
  expression_moves (BinarySyntax at operation first second) =
      made expression_tokens (SameExpression (BinarySyntax at operation first second)) (λ p. BinarySyntax p.0.0.0 operation p.0.0.1.1 p.0.1.1)
      (both
      (both
      (both (stands (KeywordToken (BinaryWord operation)) at) (both (the_mark LeftParenthesis) (expression_moves first)))
      (both (the_mark Comma) (expression_moves second)))
      (the_mark RightParenthesis))
      (λ p. refl) (λ p h. ap₂ (BinarySyntax start operation) h.0.0.1.1 h.0.1.1)
  expression_moves (CallSyntax at name operands) =
      made expression_tokens (SameExpression (CallSyntax at name operands)) (λ p. CallSyntax p.0.0 name p.0.1.1)
      (both (both (stands (LowerToken name) at) (both (the_mark LeftParenthesis) (expressions_move operands))) (the_mark RightParenthesis))
      (λ p. refl) (λ p h. ap (CallSyntax start name) h.0.1.1)
  expression_moves (ConstructorSyntax at name operands) =
      made expression_tokens (SameExpression (ConstructorSyntax at name operands)) (λ p. ConstructorSyntax p.0 name p.1)
      (both (stands (UpperToken name) at)
      (parenthesized expressions_tokens (SameExpressions operands) (expressions_tokens operands) (expressions_move operands)))
      (λ p. refl) (λ p h. ap (ConstructorSyntax start name) h.1)
  expression_moves (OperateSyntax at operation operands) =
      made expression_tokens (SameExpression (OperateSyntax at operation operands)) (λ p. OperateSyntax p.0.0.0 operation p.0.1.1)
      (both
      (both (both (stands (KeywordToken (array_word operation)) at) (brackets_move operation)) (both (the_mark LeftParenthesis) (expressions_move operands)))
      (the_mark RightParenthesis))
      (λ p. refl) (λ p h. ap (OperateSyntax start operation) h.0.1.1)
  expression_moves (LetSyntax at name bound body) =
      made expression_tokens (SameExpression (LetSyntax at name bound body)) (λ p. LetSyntax p.0.0 p.0.1.0 p.0.1.1.1 p.1.1)
      (both
      (both (stands (KeywordToken LetWord) at) (both (lower_moves name) (both (the_mark EqualsSign) (expression_moves bound))))
      (both (the_word InWord) (expression_moves body)))
      (λ p. refl) (λ p h. ap₂ (λ name (parts : ExpSyntax × ExpSyntax). LetSyntax start name parts.0 parts.1) h.0.1.0 (ap₂ (λ bound body. (bound, body)) h.0.1.1.1 h.1.1))
  expression_moves (IfSyntax at test first other) =
      made expression_tokens (SameExpression (IfSyntax at test first other)) (λ p. IfSyntax p.0.0.0 p.0.0.1 p.0.1.1 p.1.1)
      (both
      (both (both (stands (KeywordToken IfWord) at) (expression_moves test)) (both (the_word ThenWord) (expression_moves first)))
      (both (the_word ElseWord) (expression_moves other)))
      (λ p. refl) (λ p h. ap₂ (λ test (parts : ExpSyntax × ExpSyntax). IfSyntax start test parts.0 parts.1) h.0.0.1 (ap₂ (λ first other. (first, other)) h.0.1.1 h.1.1))
  expression_moves (MatchSyntax at subject arms) =
      made expression_tokens (SameExpression (MatchSyntax at subject arms)) (λ p. MatchSyntax p.0.0.0 p.0.0.1 p.0.1.1)
      (both
      (both (both (stands (KeywordToken MatchWord) at) (expression_moves subject)) (both (the_word WithWord) (arms_move arms)))
      (the_word EndWord))
      (λ p. refl) (λ p h. ap₂ (MatchSyntax start) h.0.0.1 h.0.1.1)

  some_expressions_move : (e : ExpSyntax) (first : CanMove expression_tokens (SameExpression e) (expression_tokens e)) (rest : ExpsSyntax)
      → CanMove (λ (p : ExpSyntax × ExpsSyntax). expressions_tokens (AndExp p.0 p.1)) (λ p. SameExpressions (AndExp e rest) (AndExp p.0 p.1)) (expressions_tokens (AndExp e rest))
  some_expressions_move e first NoExp =
      made (λ (p : ExpSyntax × ExpsSyntax). expressions_tokens (AndExp p.0 p.1)) (λ p. SameExpressions (AndExp e NoExp) (AndExp p.0 p.1)) (λ other. (other, NoExp))
      first (λ other. refl) (λ other h. ap (λ e. AndExp e NoExp) h)
  some_expressions_move e first (AndExp next rest) =
      made (λ (p : ExpSyntax × ExpsSyntax). expressions_tokens (AndExp p.0 p.1)) (λ p. SameExpressions (AndExp e (AndExp next rest)) (AndExp p.0 p.1))
      (λ p. (p.0, AndExp p.1.1.0 p.1.1.1)) (both first (both (the_mark Comma) (some_expressions_move next (expression_moves next) rest)))
      (λ p. refl) (λ p h. ap₂ AndExp h.0 h.1.1)

  expressions_move : (es : ExpsSyntax) → CanMove expressions_tokens (SameExpressions es) (expressions_tokens es)
  expressions_move NoExp = made expressions_tokens (SameExpressions NoExp) (λ u. NoExp) nothing (λ u. refl) (λ u h. refl)
  expressions_move (AndExp e rest) =
      made expressions_tokens (SameExpressions (AndExp e rest)) (λ p. AndExp p.0 p.1) (some_expressions_move e (expression_moves e) rest) (λ p. refl) (λ p h. h)

  arms_move : (arms : ArmsSyntax) → CanMove arms_tokens (SameArms arms) (arms_tokens arms)
  arms_move NoArmSyntax = made arms_tokens (SameArms NoArmSyntax) (λ u. NoArmSyntax) nothing (λ u. refl) (λ u h. refl)
  arms_move (AndArmSyntax constructor fields body rest) =
      made arms_tokens (SameArms (AndArmSyntax constructor fields body rest)) (λ p. AndArmSyntax p.0.0.1.0 p.0.0.1.1 p.0.1.1 p.1)
      (both
      (both
      (both (the_mark Bar) (both (upper_moves constructor)
      (parenthesized names_tokens (λ others. map name_without_place others ≡ map name_without_place fields) (names_tokens fields) (names_move fields))))
      (both (the_mark Arrow) (expression_moves body)))
      (arms_move rest))
      (λ p. refl)
      (λ p h. ap₂ (λ (head : NameSyntax × List NameSyntax) (others : ExpSyntax × ArmsSyntax). AndArmSyntax head.0 head.1 others.0 others.1)
      (ap₂ (λ constructor fields. (constructor, fields)) h.0.0.1.0 h.0.0.1.1) (ap₂ (λ body rest. (body, rest)) h.0.1.1 h.1))

-- declarations
parameter_moves : (parameter : ParameterSyntax)
    → CanMove parameter_tokens (λ other. parameter_without_places other ≡ parameter_without_places parameter) (parameter_tokens parameter)
parameter_moves parameter =
    made parameter_tokens (λ other. parameter_without_places other ≡ parameter_without_places parameter) (λ p. record { name = p.0; of_type = p.1.1 })
    (both (lower_moves parameter.name) (both (the_mark Colon) (type_moves parameter.of_type)))
    (λ p. refl) (λ p h. ap₂ (λ name of_type. record { name = name; of_type = of_type }) h.0 h.1.1)

parameters_move : (parameters : List ParameterSyntax)
    → CanMove parameters_tokens (λ others. map parameter_without_places others ≡ map parameter_without_places parameters) (parameters_tokens parameters)
parameters_move = all_move Comma parameter_tokens parameters_tokens parameter_without_places refl (λ t. refl) (λ t next rest. refl) parameter_moves

constructor_moves : (constructor : ConstructorDeclaration)
    → CanMove constructor_tokens (λ other. constructor_without_places other ≡ constructor_without_places constructor) (constructor_tokens constructor)
constructor_moves constructor =
    made constructor_tokens (λ other. constructor_without_places other ≡ constructor_without_places constructor) (λ p. record { name = p.0; fields = p.1 })
    (both (upper_moves constructor.name)
    (parenthesized types_tokens (λ others. map type_without_places others ≡ map type_without_places constructor.fields) (types_tokens constructor.fields)
    (types_move constructor.fields)))
    (λ p. refl) (λ p h. ap₂ (λ name fields. record { name = name; fields = fields }) h.0 h.1)

constructors_move : (constructors : List ConstructorDeclaration)
    → CanMove constructors_tokens (λ others. map constructor_without_places others ≡ map constructor_without_places constructors) (constructors_tokens constructors)
constructors_move = all_move Bar constructor_tokens constructors_tokens constructor_without_places refl (λ t. refl) (λ t next rest. refl) constructor_moves

abbrev SameDeclaration : DeclarationSyntax → DeclarationSyntax → Type 0
SameDeclaration declaration other = declaration_without_places other ≡ declaration_without_places declaration

abbrev with_parts : KindSyntax → NameSyntax × List ParameterSyntax × TypeSyntax × ExpSyntax → FunctionSyntax
with_parts kind parts = record { kind = kind; name = parts.0; parameters = parts.1; result_type = parts.2; body = parts.3 }

declaration_moves : (d : DeclarationSyntax) → CanMove declaration_tokens (SameDeclaration d) (declaration_tokens d)
declaration_moves (TypeDeclaration at name constructors) =
    made declaration_tokens (SameDeclaration (TypeDeclaration at name constructors)) (λ p. TypeDeclaration p.0.0 p.0.1.0 p.0.1.1.1)
    (both
    (both (stands (KeywordToken TypeWord) at) (both (lower_moves name) (both (the_mark EqualsSign) (constructors_move constructors))))
    (the_mark Semicolon))
    (λ p. refl) (λ p h. ap₂ (TypeDeclaration start) h.0.1.0 h.0.1.1.1)
declaration_moves (StateDeclaration at of_type) =
    made declaration_tokens (SameDeclaration (StateDeclaration at of_type)) (λ p. StateDeclaration p.0.0 p.0.1)
    (both (both (stands (KeywordToken StateWord) at) (type_moves of_type)) (the_mark Semicolon))
    (λ p. refl) (λ p h. ap (StateDeclaration start) h.0.1)
declaration_moves (FunctionDeclaration at function) =
    made declaration_tokens (SameDeclaration (FunctionDeclaration at function))
    (λ p. FunctionDeclaration p.0.0.0.0 (with_parts function.kind (p.0.0.0.1.0, p.0.0.0.1.1.1, p.0.0.1.1.1, p.0.1.1)))
    (both
    (both
    (both
    (both (stands (KeywordToken (kind_keyword function.kind)) at)
    (both (lower_moves function.name) (both (the_mark LeftParenthesis) (parameters_move function.parameters))))
    (both (the_mark RightParenthesis) (both (the_mark Colon) (type_moves function.result_type))))
    (both (the_mark EqualsSign) (expression_moves function.body)))
    (the_mark Semicolon))
    (λ p. refl) (λ p h. ap₂ (λ (head : NameSyntax × List ParameterSyntax) (rest : TypeSyntax × ExpSyntax).
    FunctionDeclaration start (with_parts function.kind (head.0, head.1, rest.0, rest.1)))
    (ap₂ (λ name parameters. (name, parameters)) h.0.0.0.1.0 h.0.0.0.1.1.1) (ap₂ (λ result_type body. (result_type, body)) h.0.0.1.1.1 h.0.1.1))

-- the tokens of a tree are the same, wherever they stand, and so is their line
same_line : (ws vs : List Written) (tokens left : Tokens) (last : Option Token) → TellAnywhere tokens ws left → Begin tokens vs left
    → in_line last vs ≡ in_line last ws
same_line [] [] tokens left last h begin = refl
same_line [] (v ∷ vs) tokens left last h begin =
    absurd (omega (arith, tell-count [] tokens left h, tell-count (v ∷ vs) tokens left (begin-tell (v ∷ vs) tokens left begin)))
same_line (w ∷ ws) [] tokens left last h begin =
    absurd (omega (arith, tell-count (w ∷ ws) tokens left h, tell-count [] tokens left (begin-tell [] tokens left begin)))
same_line (w ∷ ws) (v ∷ vs) (Next at token rest) left last h begin =
    let same : v.token ≡ w.token = sym begin.is.0 ∙ h.is.0 in
    ap (λ token. blank_before last token ++ token_text token ++ in_line (Some token) vs) same
    ∙ ap (λ line. blank_before last w.token ++ token_text w.token ++ line)
    (same_line ws vs rest left (Some w.token) (record { is = h.is.1 }) (record { is = begin.is.2 }))
same_line (w ∷ ws) (v ∷ vs) (End at) left last h begin = absurd h.is
same_line (w ∷ ws) (v ∷ vs) (Faulty at kind) left last h begin = absurd h.is

with_line : (d : DeclarationSyntax)
    → CanMove declaration_tokens (λ other. SameDeclaration d other × (declaration_text other ≡ declaration_text d)) (declaration_tokens d)
with_line d = record {
  move = λ tokens left h.
      let m = (declaration_moves d).move tokens left h in
      record {
        thing = m.thing;
        begin = m.begin;
        is_same = (m.is_same, ap (λ line. line ++ codes "\n") (same_line (declaration_tokens d) (declaration_tokens m.thing) tokens left None h m.begin));
      };
}

-- declarations that are equal but for places, and whose text is the same
abbrev pub SameDeclarations : List DeclarationSyntax → List DeclarationSyntax → Type 0
SameDeclarations ds others =
    (map declaration_without_places others ≡ map declaration_without_places ds) × (declarations_text others ≡ declarations_text ds)

declarations_move : (ds : List DeclarationSyntax) → CanMove declarations_tokens (SameDeclarations ds) (declarations_tokens ds)
declarations_move [] = made declarations_tokens (SameDeclarations []) (λ u. []) nothing (λ u. refl) (λ u h. (refl, refl))
declarations_move (d ∷ ds) =
    made declarations_tokens (SameDeclarations (d ∷ ds)) (λ p. p.0 ∷ p.1) (both (with_line d) (declarations_move ds)) (λ p. refl)
    (λ p h. (ap₂ (λ d ds. d ∷ ds) h.0.0 h.1.0, ap₂ (λ line lines. line ++ lines) h.0.1 h.1.1))

-- what a program tells of its format, before its declarations
format_moves : (format : Option Format) → CanMove (λ (u : Unit {0}). format_tokens format) (λ u. Unit {0}) (format_tokens format)
format_moves None = nothing
format_moves (Some format) =
    made (λ (u : Unit {0}). format_tokens (Some format)) (λ u. Unit {0}) (λ p. tt)
    (both (fixed (LowerToken format_word)) (both (fixed (IntToken (format_number format))) (the_mark Semicolon))) (λ p. refl) (λ p h. tt)

pub program_moves : (format : Option Format) (ds : List DeclarationSyntax) → CanMove (program_tokens format) (SameDeclarations ds) (program_tokens format ds)
program_moves format ds = made (program_tokens format) (SameDeclarations ds) (λ p. p.1) (both (format_moves format) (declarations_move ds)) (λ p. refl) (λ p h. h.1)
