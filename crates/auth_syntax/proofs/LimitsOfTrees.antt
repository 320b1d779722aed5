-- A tree has the names and texts of the tokens with which it is written, and no more expressions than tokens.
use Rattle.std.proofs.Common.{◌≡◌, ℕ, ◌≤◌, List, [], ◌∷◌, ◌++◌, length, refl, sym, ap, ap₂, ◌∙◌, arith}
use Rattle.std.proofs.lemmas.List.{append-nil, length-append}
use Rattle.std.proofs.lemmas.Grind.{flat_map-append}
use Rattle.std.specs.Prelude.{flat_map}
use Rattle.lexemes.specs.declared.token.Keyword.TheVariants.{In as InWord, Then as ThenWord, Else as ElseWord, With as WithWord, End as EndWord}
use Rattle.lexemes.specs.declared.token.Mark.TheVariants.{LeftParenthesis, RightParenthesis, Comma, Semicolon, Colon, EqualsSign, Bar, Arrow}
use Rattle.auth_syntax.specs.Syntax.{NameSyntax, TypeSyntax, UnitTypeSyntax, BoolTypeSyntax, IntTypeSyntax, TextTypeSyntax, NamedTypeSyntax, AuthTypeSyntax, PairTypeSyntax, VecTypeSyntax, ArrayOperation, FillOperation, GetOperation, PutOperation, ExpSyntax, UnitSyntax, BoolSyntax, IntSyntax, TextSyntax, LocalSyntax, PairSyntax, UnarySyntax, BinarySyntax, CallSyntax, ConstructorSyntax, OperateSyntax, LetSyntax, IfSyntax, MatchSyntax, ExpsSyntax, NoExp, AndExp, ArmsSyntax, NoArmSyntax, AndArmSyntax, ParameterSyntax, FunctionSyntax, ConstructorDeclaration, DeclarationSyntax, TypeDeclaration, StateDeclaration, FunctionDeclaration}
use Rattle.auth_syntax.specs.Grammar.{Written, mark, word, type_tokens, types_tokens, names_tokens, in_parentheses, brackets, expression_tokens, expressions_tokens, arms_tokens, parameters_tokens, constructor_tokens, constructors_tokens, declaration_tokens, declarations_tokens}
use Rattle.auth_syntax.specs.TreeLimits.{expressions_in, expressions_in_row, expressions_in_arms, expressions_in_declaration, names_in_type, names_among, names_in, names_in_row, names_in_arms, names_in_declaration, texts_in, texts_in_row, texts_in_arms, bodies_in_declaration, bodies_in_program, names_in_program, texts_in_program, expressions_in_program}
use Rattle.auth_syntax.proofs.LimitsOfTokens.{name_in, text_in, names_written, texts_written}

-- what is picked from two parts, and from a part that others end from which nothing is picked
module _ (pick : Written → List (List ℕ)) where
  picked_on : (ws vs : List Written) (xs ys : List (List ℕ)) → flat_map pick ws ≡ xs → flat_map pick vs ≡ ys → flat_map pick (ws ++ vs) ≡ xs ++ ys
  picked_on ws vs xs ys h h' = flat_map-append pick ws vs ∙ ap₂ (λ (xs ys : List (List ℕ)). xs ++ ys) h h'

  picked_last : (ws vs : List Written) (xs : List (List ℕ)) → flat_map pick ws ≡ xs → flat_map pick vs ≡ [] → flat_map pick (ws ++ vs) ≡ xs
  picked_last ws vs xs h h' = picked_on ws vs xs [] h h' ∙ append-nil xs

-- names
on : (ws vs : List Written) (xs ys : List (List ℕ)) → names_written ws ≡ xs → names_written vs ≡ ys → names_written (ws ++ vs) ≡ xs ++ ys
on = picked_on name_in

last : (ws vs : List Written) (xs : List (List ℕ)) → names_written ws ≡ xs → names_written vs ≡ [] → names_written (ws ++ vs) ≡ xs
last = picked_last name_in

in_parentheses-names : (ws : List Written) → names_written (in_parentheses ws) ≡ names_written ws
in_parentheses-names [] = refl
in_parentheses-names (w ∷ ws) = last (w ∷ ws) (mark RightParenthesis ∷ []) _ refl refl

type_names : (t : TypeSyntax) → names_written (type_tokens t) ≡ names_in_type t
type_names (UnitTypeSyntax at) = refl
type_names (BoolTypeSyntax at) = refl
type_names (IntTypeSyntax at) = refl
type_names (TextTypeSyntax at) = refl
type_names (NamedTypeSyntax at name) = refl
type_names (AuthTypeSyntax at inner) = type_names inner
type_names (PairTypeSyntax at first second) =
    last (type_tokens first ++ mark Comma ∷ type_tokens second) (mark RightParenthesis ∷ []) _
    (on (type_tokens first) (mark Comma ∷ type_tokens second) _ _ (type_names first) (type_names second)) refl
type_names (VecTypeSyntax at n item) = type_names item

types_names : (ts : List TypeSyntax) → names_written (types_tokens ts) ≡ flat_map names_in_type ts
types_names [] = refl
types_names (t ∷ []) = type_names t ∙ sym (append-nil (names_in_type t))
types_names (t ∷ next ∷ rest) = on (type_tokens t) (mark Comma ∷ types_tokens (next ∷ rest)) _ _ (type_names t) (types_names (next ∷ rest))

names_names : (names : List NameSyntax) → names_written (names_tokens names) ≡ names_among names
names_names [] = refl
names_names (name ∷ []) = refl
names_names (name ∷ next ∷ rest) = ap (λ (xs : List (List ℕ)). name.name ∷ xs) (names_names (next ∷ rest))

bracket_names : (operation : ArrayOperation) → names_written (brackets operation) ≡ []
bracket_names (FillOperation n) = refl
bracket_names GetOperation = refl
bracket_names PutOperation = refl

mutual
  expression_names : (e : ExpSyntax) → names_written (expression_tokens e) ≡ names_in e
  expression_names (UnitSyntax at) = refl
  expression_names (BoolSyntax at b) = refl
  expression_names (IntSyntax at z) = refl
  expression_names (TextSyntax at bytes) = refl
  expression_names (LocalSyntax at name) = refl
  expression_names (PairSyntax at first second) =
      last (expression_tokens first ++ mark Comma ∷ expression_tokens second) (mark RightParenthesis ∷ []) _
      (on (expression_tokens first) (mark Comma ∷ expression_tokens second) _ _ (expression_names first) (expression_names second)) refl
  expression_names (UnarySyntax at operation operand) =
      last (expression_tokens operand) (mark RightParenthesis ∷ []) _ (expression_names operand) refl
  expression_names (BinarySyntax at operation first second) =
      last (expression_tokens first ++ mark Comma ∷ expression_tokens second) (mark RightParenthesis ∷ []) _
      (on (expression_tokens first) (mark Comma ∷ expression_tokens second) _ _ (expression_names first) (expression_names second)) refl
  expression_names (CallSyntax at name operands) =
      ap (λ (xs : List (List ℕ)). name ∷ xs) (last (expressions_tokens operands) (mark RightParenthesis ∷ []) _ (row_names operands) refl)
  expression_names (ConstructorSyntax at name operands) =
      ap (λ (xs : List (List ℕ)). name ∷ xs) (in_parentheses-names (expressions_tokens operands) ∙ row_names operands)
  expression_names (OperateSyntax at operation operands) =
      last (brackets operation ++ mark LeftParenthesis ∷ expressions_tokens operands) (mark RightParenthesis ∷ []) _
      (on (brackets operation) (mark LeftParenthesis ∷ expressions_tokens operands) [] _ (bracket_names operation) (row_names operands)) refl
  expression_names (LetSyntax at name bound body) =
      ap (λ (xs : List (List ℕ)). name.name ∷ xs)
      (on (expression_tokens bound) (word InWord ∷ expression_tokens body) _ _ (expression_names bound) (expression_names body))
  expression_names (IfSyntax at test first other) =
      on (expression_tokens test ++ word ThenWord ∷ expression_tokens first) (word ElseWord ∷ expression_tokens other) _ _
      (on (expression_tokens test) (word ThenWord ∷ expression_tokens first) _ _ (expression_names test) (expression_names first))
      (expression_names other)
  expression_names (MatchSyntax at subject arms) =
      last (expression_tokens subject ++ word WithWord ∷ arms_tokens arms) (word EndWord ∷ []) _
      (on (expression_tokens subject) (word WithWord ∷ arms_tokens arms) _ _ (expression_names subject) (arms_names arms)) refl

  row_names : (es : ExpsSyntax) → names_written (expressions_tokens es) ≡ names_in_row es
  row_names NoExp = refl
  row_names (AndExp e NoExp) = expression_names e ∙ sym (append-nil (names_in e))
  row_names (AndExp e (AndExp next rest)) =
      on (expression_tokens e) (mark Comma ∷ expressions_tokens (AndExp next rest)) _ _ (expression_names e) (row_names (AndExp next rest))

  arms_names : (arms : ArmsSyntax) → names_written (arms_tokens arms) ≡ names_in_arms arms
  arms_names NoArmSyntax = refl
  arms_names (AndArmSyntax constructor fields body rest) =
      ap (λ (xs : List (List ℕ)). constructor.name ∷ xs)
      (on (in_parentheses (names_tokens fields) ++ mark Arrow ∷ expression_tokens body) (arms_tokens rest) _ _
      (on (in_parentheses (names_tokens fields)) (mark Arrow ∷ expression_tokens body) _ _
      (in_parentheses-names (names_tokens fields) ∙ names_names fields) (expression_names body))
      (arms_names rest))

parameters_names : (parameters : List ParameterSyntax) → names_written (parameters_tokens parameters)
    ≡ flat_map (λ (parameter : ParameterSyntax). parameter.name.name ∷ names_in_type parameter.of_type) parameters
parameters_names [] = refl
parameters_names (parameter ∷ []) =
    ap (λ (xs : List (List ℕ)). parameter.name.name ∷ xs) (type_names parameter.of_type ∙ sym (append-nil (names_in_type parameter.of_type)))
parameters_names (parameter ∷ next ∷ rest) =
    ap (λ (xs : List (List ℕ)). parameter.name.name ∷ xs)
    (on (type_tokens parameter.of_type) (mark Comma ∷ parameters_tokens (next ∷ rest)) _ _ (type_names parameter.of_type) (parameters_names (next ∷ rest)))

constructor_names : (constructor : ConstructorDeclaration) → names_written (constructor_tokens constructor)
    ≡ constructor.name.name ∷ flat_map names_in_type constructor.fields
constructor_names constructor =
    ap (λ (xs : List (List ℕ)). constructor.name.name ∷ xs) (in_parentheses-names (types_tokens constructor.fields) ∙ types_names constructor.fields)

constructors_names : (constructors : List ConstructorDeclaration) → names_written (constructors_tokens constructors)
    ≡ flat_map (λ (constructor : ConstructorDeclaration). constructor.name.name ∷ flat_map names_in_type constructor.fields) constructors
constructors_names [] = refl
constructors_names (constructor ∷ []) =
    constructor_names constructor ∙ sym (append-nil (constructor.name.name ∷ flat_map names_in_type constructor.fields))
constructors_names (constructor ∷ next ∷ rest) =
    on (constructor_tokens constructor) (mark Bar ∷ constructors_tokens (next ∷ rest)) _ _ (constructor_names constructor) (constructors_names (next ∷ rest))

-- a function from its first parameter to the type of its result
abbrev heading : FunctionSyntax → List Written
heading function = parameters_tokens function.parameters ++ mark RightParenthesis ∷ mark Colon ∷ type_tokens function.result_type

declaration_names : (declaration : DeclarationSyntax) → names_written (declaration_tokens declaration) ≡ names_in_declaration declaration
declaration_names (TypeDeclaration at name constructors) =
    ap (λ (xs : List (List ℕ)). name.name ∷ xs)
    (last (constructors_tokens constructors) (mark Semicolon ∷ []) _ (constructors_names constructors) refl)
declaration_names (StateDeclaration at of_type) = last (type_tokens of_type) (mark Semicolon ∷ []) _ (type_names of_type) refl
declaration_names (FunctionDeclaration at function) =
    ap (λ (xs : List (List ℕ)). function.name.name ∷ xs)
    (last (heading function ++ mark EqualsSign ∷ expression_tokens function.body) (mark Semicolon ∷ []) _
    (on (heading function) (mark EqualsSign ∷ expression_tokens function.body) _ _
    (on (parameters_tokens function.parameters) (mark RightParenthesis ∷ mark Colon ∷ type_tokens function.result_type) _ _
    (parameters_names function.parameters) (type_names function.result_type))
    (expression_names function.body)) refl)

pub program_names : (declarations : List DeclarationSyntax) → names_written (declarations_tokens declarations) ≡ names_in_program declarations
program_names [] = refl
program_names (declaration ∷ rest) =
    on (declaration_tokens declaration) (declarations_tokens rest) _ _ (declaration_names declaration) (program_names rest)

-- texts: none stands in a type or in a row of names
on_texts : (ws vs : List Written) (xs ys : List (List ℕ)) → texts_written ws ≡ xs → texts_written vs ≡ ys → texts_written (ws ++ vs) ≡ xs ++ ys
on_texts = picked_on text_in

last_texts : (ws vs : List Written) (xs : List (List ℕ)) → texts_written ws ≡ xs → texts_written vs ≡ [] → texts_written (ws ++ vs) ≡ xs
last_texts = picked_last text_in

in_parentheses-texts : (ws : List Written) → texts_written (in_parentheses ws) ≡ texts_written ws
in_parentheses-texts [] = refl
in_parentheses-texts (w ∷ ws) = last_texts (w ∷ ws) (mark RightParenthesis ∷ []) _ refl refl

type_textless : (t : TypeSyntax) → texts_written (type_tokens t) ≡ []
type_textless (UnitTypeSyntax at) = refl
type_textless (BoolTypeSyntax at) = refl
type_textless (IntTypeSyntax at) = refl
type_textless (TextTypeSyntax at) = refl
type_textless (NamedTypeSyntax at name) = refl
type_textless (AuthTypeSyntax at inner) = type_textless inner
type_textless (PairTypeSyntax at first second) =
    last_texts (type_tokens first ++ mark Comma ∷ type_tokens second) (mark RightParenthesis ∷ []) _
    (last_texts (type_tokens first) (mark Comma ∷ type_tokens second) _ (type_textless first) (type_textless second)) refl
type_textless (VecTypeSyntax at n item) = type_textless item

types_textless : (ts : List TypeSyntax) → texts_written (types_tokens ts) ≡ []
types_textless [] = refl
types_textless (t ∷ []) = type_textless t
types_textless (t ∷ next ∷ rest) = last_texts (type_tokens t) (mark Comma ∷ types_tokens (next ∷ rest)) _ (type_textless t) (types_textless (next ∷ rest))

names_textless : (names : List NameSyntax) → texts_written (names_tokens names) ≡ []
names_textless [] = refl
names_textless (name ∷ []) = refl
names_textless (name ∷ next ∷ rest) = names_textless (next ∷ rest)

parameters_textless : (parameters : List ParameterSyntax) → texts_written (parameters_tokens parameters) ≡ []
parameters_textless [] = refl
parameters_textless (parameter ∷ []) = type_textless parameter.of_type
parameters_textless (parameter ∷ next ∷ rest) =
    last_texts (type_tokens parameter.of_type) (mark Comma ∷ parameters_tokens (next ∷ rest)) _ (type_textless parameter.of_type)
    (parameters_textless (next ∷ rest))

constructor_textless : (constructor : ConstructorDeclaration) → texts_written (constructor_tokens constructor) ≡ []
constructor_textless constructor = in_parentheses-texts (types_tokens constructor.fields) ∙ types_textless constructor.fields

constructors_textless : (constructors : List ConstructorDeclaration) → texts_written (constructors_tokens constructors) ≡ []
constructors_textless [] = refl
constructors_textless (constructor ∷ []) = constructor_textless constructor
constructors_textless (constructor ∷ next ∷ rest) =
    last_texts (constructor_tokens constructor) (mark Bar ∷ constructors_tokens (next ∷ rest)) _ (constructor_textless constructor)
    (constructors_textless (next ∷ rest))

bracket_texts : (operation : ArrayOperation) → texts_written (brackets operation) ≡ []
bracket_texts (FillOperation n) = refl
bracket_texts GetOperation = refl
bracket_texts PutOperation = refl

mutual
  expression_texts : (e : ExpSyntax) → texts_written (expression_tokens e) ≡ texts_in e
  expression_texts (UnitSyntax at) = refl
  expression_texts (BoolSyntax at b) = refl
  expression_texts (IntSyntax at z) = refl
  expression_texts (TextSyntax at bytes) = refl
  expression_texts (LocalSyntax at name) = refl
  expression_texts (PairSyntax at first second) =
      last_texts (expression_tokens first ++ mark Comma ∷ expression_tokens second) (mark RightParenthesis ∷ []) _
      (on_texts (expression_tokens first) (mark Comma ∷ expression_tokens second) _ _ (expression_texts first) (expression_texts second)) refl
  expression_texts (UnarySyntax at operation operand) =
      last_texts (expression_tokens operand) (mark RightParenthesis ∷ []) _ (expression_texts operand) refl
  expression_texts (BinarySyntax at operation first second) =
      last_texts (expression_tokens first ++ mark Comma ∷ expression_tokens second) (mark RightParenthesis ∷ []) _
      (on_texts (expression_tokens first) (mark Comma ∷ expression_tokens second) _ _ (expression_texts first) (expression_texts second)) refl
  expression_texts (CallSyntax at name operands) = last_texts (expressions_tokens operands) (mark RightParenthesis ∷ []) _ (row_texts operands) refl
  expression_texts (ConstructorSyntax at name operands) = in_parentheses-texts (expressions_tokens operands) ∙ row_texts operands
  expression_texts (OperateSyntax at operation operands) =
      last_texts (brackets operation ++ mark LeftParenthesis ∷ expressions_tokens operands) (mark RightParenthesis ∷ []) _
      (on_texts (brackets operation) (mark LeftParenthesis ∷ expressions_tokens operands) [] _ (bracket_texts operation) (row_texts operands)) refl
  expression_texts (LetSyntax at name bound body) =
      on_texts (expression_tokens bound) (word InWord ∷ expression_tokens body) _ _ (expression_texts bound) (expression_texts body)
  expression_texts (IfSyntax at test first other) =
      on_texts (expression_tokens test ++ word ThenWord ∷ expression_tokens first) (word ElseWord ∷ expression_tokens other) _ _
      (on_texts (expression_tokens test) (word ThenWord ∷ expression_tokens first) _ _ (expression_texts test) (expression_texts first))
      (expression_texts other)
  expression_texts (MatchSyntax at subject arms) =
      last_texts (expression_tokens subject ++ word WithWord ∷ arms_tokens arms) (word EndWord ∷ []) _
      (on_texts (expression_tokens subject) (word WithWord ∷ arms_tokens arms) _ _ (expression_texts subject) (arms_texts arms)) refl

  row_texts : (es : ExpsSyntax) → texts_written (expressions_tokens es) ≡ texts_in_row es
  row_texts NoExp = refl
  row_texts (AndExp e NoExp) = expression_texts e ∙ sym (append-nil (texts_in e))
  row_texts (AndExp e (AndExp next rest)) =
      on_texts (expression_tokens e) (mark Comma ∷ expressions_tokens (AndExp next rest)) _ _ (expression_texts e) (row_texts (AndExp next rest))

  arms_texts : (arms : ArmsSyntax) → texts_written (arms_tokens arms) ≡ texts_in_arms arms
  arms_texts NoArmSyntax = refl
  arms_texts (AndArmSyntax constructor fields body rest) =
      on_texts (in_parentheses (names_tokens fields) ++ mark Arrow ∷ expression_tokens body) (arms_tokens rest) _ _
      (on_texts (in_parentheses (names_tokens fields)) (mark Arrow ∷ expression_tokens body) [] _
      (in_parentheses-texts (names_tokens fields) ∙ names_textless fields) (expression_texts body))
      (arms_texts rest)

declaration_texts : (declaration : DeclarationSyntax) → texts_written (declaration_tokens declaration) ≡ flat_map texts_in (bodies_in_declaration declaration)
declaration_texts (TypeDeclaration at name constructors) =
    last_texts (constructors_tokens constructors) (mark Semicolon ∷ []) _ (constructors_textless constructors) refl
declaration_texts (StateDeclaration at of_type) = last_texts (type_tokens of_type) (mark Semicolon ∷ []) _ (type_textless of_type) refl
declaration_texts (FunctionDeclaration at function) =
    on_texts (heading function ++ mark EqualsSign ∷ expression_tokens function.body) (mark Semicolon ∷ []) _ []
    (on_texts (heading function) (mark EqualsSign ∷ expression_tokens function.body) [] _
    (last_texts (parameters_tokens function.parameters) (mark RightParenthesis ∷ mark Colon ∷ type_tokens function.result_type) []
    (parameters_textless function.parameters) (type_textless function.result_type))
    (expression_texts function.body)) refl

pub program_texts : (declarations : List DeclarationSyntax) → texts_written (declarations_tokens declarations) ≡ texts_in_program declarations
program_texts [] = refl
program_texts (declaration ∷ rest) =
    on_texts (declaration_tokens declaration) (declarations_tokens rest) _ _ (declaration_texts declaration) (program_texts rest)
    ∙ sym (flat_map-append texts_in (bodies_in_declaration declaration) (bodies_in_program rest))

-- each expression has its first token
in_parentheses-counted : (ws : List Written) → length ws ≤ length (in_parentheses ws)
in_parentheses-counted [] = omega arith
in_parentheses-counted (w ∷ ws) = omega (arith, length-append (w ∷ ws) (mark RightParenthesis ∷ []))

mutual
  expression_counted : (e : ExpSyntax) → expressions_in e ≤ length (expression_tokens e)
  expression_counted (UnitSyntax at) = omega arith
  expression_counted (BoolSyntax at b) = omega arith
  expression_counted (IntSyntax at z) = omega arith
  expression_counted (TextSyntax at bytes) = omega arith
  expression_counted (LocalSyntax at name) = omega arith
  expression_counted (PairSyntax at first second) =
      omega (
        arith,
        expression_counted first,
        expression_counted second,
        length-append (expression_tokens first ++ mark Comma ∷ expression_tokens second) (mark RightParenthesis ∷ []),
        length-append (expression_tokens first) (mark Comma ∷ expression_tokens second),
      )
  expression_counted (UnarySyntax at operation operand) =
      omega (arith, expression_counted operand, length-append (expression_tokens operand) (mark RightParenthesis ∷ []))
  expression_counted (BinarySyntax at operation first second) =
      omega (
        arith,
        expression_counted first,
        expression_counted second,
        length-append (expression_tokens first ++ mark Comma ∷ expression_tokens second) (mark RightParenthesis ∷ []),
        length-append (expression_tokens first) (mark Comma ∷ expression_tokens second),
      )
  expression_counted (CallSyntax at name operands) =
      omega (arith, row_counted operands, length-append (expressions_tokens operands) (mark RightParenthesis ∷ []))
  expression_counted (ConstructorSyntax at name operands) =
      omega (arith, row_counted operands, in_parentheses-counted (expressions_tokens operands))
  expression_counted (OperateSyntax at operation operands) =
      omega (
        arith,
        row_counted operands,
        length-append (brackets operation ++ mark LeftParenthesis ∷ expressions_tokens operands) (mark RightParenthesis ∷ []),
        length-append (brackets operation) (mark LeftParenthesis ∷ expressions_tokens operands),
      )
  expression_counted (LetSyntax at name bound body) =
      omega (
        arith,
        expression_counted bound,
        expression_counted body,
        length-append (expression_tokens bound) (word InWord ∷ expression_tokens body),
      )
  expression_counted (IfSyntax at test first other) =
      omega (
        arith,
        expression_counted test,
        expression_counted first,
        expression_counted other,
        length-append (expression_tokens test ++ word ThenWord ∷ expression_tokens first) (word ElseWord ∷ expression_tokens other),
        length-append (expression_tokens test) (word ThenWord ∷ expression_tokens first),
      )
  expression_counted (MatchSyntax at subject arms) =
      omega (
        arith,
        expression_counted subject,
        arms_counted arms,
        length-append (expression_tokens subject ++ word WithWord ∷ arms_tokens arms) (word EndWord ∷ []),
        length-append (expression_tokens subject) (word WithWord ∷ arms_tokens arms),
      )

  row_counted : (es : ExpsSyntax) → expressions_in_row es ≤ length (expressions_tokens es)
  row_counted NoExp = omega arith
  row_counted (AndExp e NoExp) = omega (arith, expression_counted e)
  row_counted (AndExp e (AndExp next rest)) =
      omega (
        arith,
        expression_counted e,
        row_counted (AndExp next rest),
        length-append (expression_tokens e) (mark Comma ∷ expressions_tokens (AndExp next rest)),
      )

  arms_counted : (arms : ArmsSyntax) → expressions_in_arms arms ≤ length (arms_tokens arms)
  arms_counted NoArmSyntax = omega arith
  arms_counted (AndArmSyntax constructor fields body rest) =
      omega (
        arith,
        expression_counted body,
        arms_counted rest,
        length-append (in_parentheses (names_tokens fields) ++ mark Arrow ∷ expression_tokens body) (arms_tokens rest),
        length-append (in_parentheses (names_tokens fields)) (mark Arrow ∷ expression_tokens body),
      )

declaration_counted : (declaration : DeclarationSyntax) → expressions_in_declaration declaration ≤ length (declaration_tokens declaration)
declaration_counted (TypeDeclaration at name constructors) = omega arith
declaration_counted (StateDeclaration at of_type) = omega arith
declaration_counted (FunctionDeclaration at function) =
    omega (
      arith,
      expression_counted function.body,
      length-append (heading function ++ mark EqualsSign ∷ expression_tokens function.body) (mark Semicolon ∷ []),
      length-append (heading function) (mark EqualsSign ∷ expression_tokens function.body),
    )

pub program_counted : (declarations : List DeclarationSyntax) → expressions_in_program declarations ≤ length (declarations_tokens declarations)
program_counted [] = omega arith
program_counted (declaration ∷ rest) =
    omega (
      arith,
      declaration_counted declaration,
      program_counted rest,
      length-append (declaration_tokens declaration) (declarations_tokens rest),
    )
