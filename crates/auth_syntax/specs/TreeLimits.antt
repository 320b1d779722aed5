-- The limits of the tree of a program: how long its names and text literals are, how far its types and expressions are nested, and how many
-- expressions it has.
use Rattle.std.specs.Prelude.{ℕ, suc, ◌+◌, ◌≤◌, List, [], ◌∷◌, ◌++◌, length, map, flat_map, All}
use Rattle.lexemes.specs.Tokens.{name_limit, text_limit}
use Rattle.auth_syntax.specs.Syntax.{NameSyntax, TypeSyntax, NamedTypeSyntax, AuthTypeSyntax, PairTypeSyntax, VecTypeSyntax, ExpSyntax, TextSyntax, LocalSyntax, PairSyntax, UnarySyntax, BinarySyntax, CallSyntax, ConstructorSyntax, OperateSyntax, LetSyntax, IfSyntax, MatchSyntax, ExpsSyntax, NoExp, AndExp, ArmsSyntax, NoArmSyntax, AndArmSyntax, ParameterSyntax, ConstructorDeclaration, DeclarationSyntax, TypeDeclaration, StateDeclaration, FunctionDeclaration}
use Rattle.auth_syntax.specs.Grammar.{type_levels, expression_levels}
use Rattle.auth_syntax.specs.Nesting.{nesting_limit}

-- how many expressions a program has at most
abbrev pub expression_limit : ℕ
expression_limit = 262144

abbrev mutual
  -- how many expressions an expression consists of: itself, and those inside it
  pub expressions_in : ExpSyntax → ℕ
  expressions_in (PairSyntax at first second) = suc (expressions_in first + expressions_in second)
  expressions_in (UnarySyntax at operation operand) = suc (expressions_in operand)
  expressions_in (BinarySyntax at operation first second) = suc (expressions_in first + expressions_in second)
  expressions_in (CallSyntax at name operands) = suc (expressions_in_row operands)
  expressions_in (ConstructorSyntax at name operands) = suc (expressions_in_row operands)
  expressions_in (OperateSyntax at operation operands) = suc (expressions_in_row operands)
  expressions_in (LetSyntax at name bound body) = suc (expressions_in bound + expressions_in body)
  expressions_in (IfSyntax at test first other) = suc (expressions_in test + expressions_in first + expressions_in other)
  expressions_in (MatchSyntax at subject arms) = suc (expressions_in subject + expressions_in_arms arms)
  expressions_in e = 1

  pub expressions_in_row : ExpsSyntax → ℕ
  expressions_in_row NoExp = 0
  expressions_in_row (AndExp e rest) = expressions_in e + expressions_in_row rest

  pub expressions_in_arms : ArmsSyntax → ℕ
  expressions_in_arms NoArmSyntax = 0
  expressions_in_arms (AndArmSyntax constructor fields body rest) = expressions_in body + expressions_in_arms rest

-- the names that stand in a type, from left to right
abbrev pub names_in_type : TypeSyntax → List (List ℕ)
names_in_type (NamedTypeSyntax at name) = name ∷ []
names_in_type (AuthTypeSyntax at inner) = names_in_type inner
names_in_type (PairTypeSyntax at first second) = names_in_type first ++ names_in_type second
names_in_type (VecTypeSyntax at n item) = names_in_type item
names_in_type t = []

-- the names, without their places
abbrev pub names_among : List NameSyntax → List (List ℕ)
names_among names = map (λ (name : NameSyntax). name.name) names

abbrev mutual
  -- the names that stand in an expression, from left to right: locals, functions, constructors, and what is bound
  pub names_in : ExpSyntax → List (List ℕ)
  names_in (LocalSyntax at name) = name ∷ []
  names_in (PairSyntax at first second) = names_in first ++ names_in second
  names_in (UnarySyntax at operation operand) = names_in operand
  names_in (BinarySyntax at operation first second) = names_in first ++ names_in second
  names_in (CallSyntax at name operands) = name ∷ names_in_row operands
  names_in (ConstructorSyntax at name operands) = name ∷ names_in_row operands
  names_in (OperateSyntax at operation operands) = names_in_row operands
  names_in (LetSyntax at name bound body) = name.name ∷ names_in bound ++ names_in body
  names_in (IfSyntax at test first other) = names_in test ++ names_in first ++ names_in other
  names_in (MatchSyntax at subject arms) = names_in subject ++ names_in_arms arms
  names_in e = []

  pub names_in_row : ExpsSyntax → List (List ℕ)
  names_in_row NoExp = []
  names_in_row (AndExp e rest) = names_in e ++ names_in_row rest

  pub names_in_arms : ArmsSyntax → List (List ℕ)
  names_in_arms NoArmSyntax = []
  names_in_arms (AndArmSyntax constructor fields body rest) = constructor.name ∷ names_among fields ++ names_in body ++ names_in_arms rest

-- the names that stand in a declaration
abbrev pub names_in_declaration : DeclarationSyntax → List (List ℕ)
names_in_declaration (TypeDeclaration at name constructors) =
    name.name ∷ flat_map (λ (constructor : ConstructorDeclaration). constructor.name.name ∷ flat_map names_in_type constructor.fields) constructors
names_in_declaration (StateDeclaration at of_type) = names_in_type of_type
names_in_declaration (FunctionDeclaration at function) =
    function.name.name
    ∷ flat_map (λ (parameter : ParameterSyntax). parameter.name.name ∷ names_in_type parameter.of_type) function.parameters
    ++ names_in_type function.result_type ++ names_in function.body

abbrev mutual
  -- the text literals that stand in an expression, from left to right: of each the bytes that it stands for
  pub texts_in : ExpSyntax → List (List ℕ)
  texts_in (TextSyntax at bytes) = bytes ∷ []
  texts_in (PairSyntax at first second) = texts_in first ++ texts_in second
  texts_in (UnarySyntax at operation operand) = texts_in operand
  texts_in (BinarySyntax at operation first second) = texts_in first ++ texts_in second
  texts_in (CallSyntax at name operands) = texts_in_row operands
  texts_in (ConstructorSyntax at name operands) = texts_in_row operands
  texts_in (OperateSyntax at operation operands) = texts_in_row operands
  texts_in (LetSyntax at name bound body) = texts_in bound ++ texts_in body
  texts_in (IfSyntax at test first other) = texts_in test ++ texts_in first ++ texts_in other
  texts_in (MatchSyntax at subject arms) = texts_in subject ++ texts_in_arms arms
  texts_in e = []

  pub texts_in_row : ExpsSyntax → List (List ℕ)
  texts_in_row NoExp = []
  texts_in_row (AndExp e rest) = texts_in e ++ texts_in_row rest

  pub texts_in_arms : ArmsSyntax → List (List ℕ)
  texts_in_arms NoArmSyntax = []
  texts_in_arms (AndArmSyntax constructor fields body rest) = texts_in body ++ texts_in_arms rest

-- the types that are written in a declaration, each as a whole: those of fields, of the state, of parameters and of results
abbrev pub types_in_declaration : DeclarationSyntax → List TypeSyntax
types_in_declaration (TypeDeclaration at name constructors) = flat_map (λ (constructor : ConstructorDeclaration). constructor.fields) constructors
types_in_declaration (StateDeclaration at of_type) = of_type ∷ []
types_in_declaration (FunctionDeclaration at function) =
    map (λ (parameter : ParameterSyntax). parameter.of_type) function.parameters ++ function.result_type ∷ []

-- the body of a declaration that is a function
abbrev pub bodies_in_declaration : DeclarationSyntax → List ExpSyntax
bodies_in_declaration (TypeDeclaration at name constructors) = []
bodies_in_declaration (StateDeclaration at of_type) = []
bodies_in_declaration (FunctionDeclaration at function) = function.body ∷ []

-- the names and the types that stand in a program, its bodies, and the texts that stand in these
abbrev pub names_in_program : List DeclarationSyntax → List (List ℕ)
names_in_program declarations = flat_map names_in_declaration declarations

abbrev pub types_in_program : List DeclarationSyntax → List TypeSyntax
types_in_program declarations = flat_map types_in_declaration declarations

abbrev pub bodies_in_program : List DeclarationSyntax → List ExpSyntax
bodies_in_program declarations = flat_map bodies_in_declaration declarations

abbrev pub texts_in_program : List DeclarationSyntax → List (List ℕ)
texts_in_program declarations = flat_map texts_in (bodies_in_program declarations)

-- how many expressions a declaration has, and a program
abbrev pub expressions_in_declaration : DeclarationSyntax → ℕ
expressions_in_declaration (TypeDeclaration at name constructors) = 0
expressions_in_declaration (StateDeclaration at of_type) = 0
expressions_in_declaration (FunctionDeclaration at function) = expressions_in function.body

abbrev pub expressions_in_program : List DeclarationSyntax → ℕ
expressions_in_program [] = 0
expressions_in_program (declaration ∷ rest) = expressions_in_declaration declaration + expressions_in_program rest

-- The declarations of a program are within the limits: each name has 1 to 64 bytes, and each text literal at most 65,532; no type and no
-- body has more than 100 levels; and there are at most 262,144 expressions in all.
pub record IsWithinLimits (declarations : List DeclarationSyntax) : Type 0 where
  pub names : All (λ name. (1 ≤ length name) × (length name ≤ name_limit)) (names_in_program declarations)
  pub texts : All (λ bytes. length bytes ≤ text_limit) (texts_in_program declarations)
  pub types : All (λ t. type_levels t ≤ nesting_limit) (types_in_program declarations)
  pub bodies : All (λ body. expression_levels body ≤ nesting_limit) (bodies_in_program declarations)
  pub expressions : expressions_in_program declarations ≤ expression_limit
