-- The syntax trees of programs: what a text says, without its blanks, comments and marks. Each node has the place of its first token.
use Rattle.std.specs.Prelude.{ℕ, ℤ, Bool, List, Option}
use Rattle.core_terms.specs.declared.format.Format.{Format}
use Rattle.core_terms.specs.declared.term.BinaryOperator.{BinaryOperator}
use Rattle.lexemes.specs.declared.place.Place.{Place}

-- a name where it stands: a list of bytes
pub record NameSyntax : Type 0 where
  pub at : Place
  pub name : List ℕ

-- a type, as it is written; a named type goes by its name
pub data TypeSyntax : Type 0 where
  UnitTypeSyntax BoolTypeSyntax IntTypeSyntax TextTypeSyntax : (at : Place) → TypeSyntax
  NamedTypeSyntax : (at : Place) (name : List ℕ) → TypeSyntax
  AuthTypeSyntax : (at : Place) (inner : TypeSyntax) → TypeSyntax
  PairTypeSyntax : (at : Place) (first second : TypeSyntax) → TypeSyntax
  -- an array of so many
  VecTypeSyntax : (at : Place) (n : ℕ) (item : TypeSyntax) → TypeSyntax

-- the operations on one operand
pub data UnaryOperation : Type 0 where
  FstOperation SndOperation AuthOperation UnauthOperation LenOperation NotOperation : UnaryOperation

-- the operations on arrays; the first makes one of so many
pub data ArrayOperation : Type 0 where
  FillOperation : (n : ℕ) → ArrayOperation
  GetOperation PutOperation : ArrayOperation

mutual
  -- an expression; locals, functions and constructors go by their names
  pub data ExpSyntax : Type 0 where
    UnitSyntax : (at : Place) → ExpSyntax
    BoolSyntax : (at : Place) (b : Bool) → ExpSyntax
    IntSyntax : (at : Place) (z : ℤ) → ExpSyntax
    TextSyntax : (at : Place) (bytes : List ℕ) → ExpSyntax
    LocalSyntax : (at : Place) (name : List ℕ) → ExpSyntax
    PairSyntax : (at : Place) (first second : ExpSyntax) → ExpSyntax
    UnarySyntax : (at : Place) (operation : UnaryOperation) (operand : ExpSyntax) → ExpSyntax
    BinarySyntax : (at : Place) (operation : BinaryOperator) (first second : ExpSyntax) → ExpSyntax
    -- a call, with its arguments; a constructor, which is written without parentheses where it has no fields
    CallSyntax ConstructorSyntax : (at : Place) (name : List ℕ) (operands : ExpsSyntax) → ExpSyntax
    OperateSyntax : (at : Place) (operation : ArrayOperation) (operands : ExpsSyntax) → ExpSyntax
    LetSyntax : (at : Place) (name : NameSyntax) (bound body : ExpSyntax) → ExpSyntax
    IfSyntax : (at : Place) (test first other : ExpSyntax) → ExpSyntax
    MatchSyntax : (at : Place) (subject : ExpSyntax) (arms : ArmsSyntax) → ExpSyntax

  -- expressions in a row
  pub data ExpsSyntax : Type 0 where
    NoExp : ExpsSyntax
    AndExp : (expression : ExpSyntax) (rest : ExpsSyntax) → ExpsSyntax

  -- the arms of a match: of each its constructor, the names of its fields and its body
  pub data ArmsSyntax : Type 0 where
    NoArmSyntax : ArmsSyntax
    AndArmSyntax : (constructor : NameSyntax) (fields : List NameSyntax) (body : ExpSyntax) (rest : ArmsSyntax) → ArmsSyntax

-- a parameter of a function, with its type
pub record ParameterSyntax : Type 0 where
  pub name : NameSyntax
  pub of_type : TypeSyntax

-- how a function may be entered: by calls of the program alone, or also from outside, to make a first state, to ask about a state, or
-- to change it
pub data KindSyntax : Type 0 where
  InnerSyntax InitSyntax QuerySyntax UpdateSyntax : KindSyntax

-- a function: its kind, its name, its parameters in order, the type of its result, and its body
pub record FunctionSyntax : Type 0 where
  pub kind : KindSyntax
  pub name : NameSyntax
  pub parameters : List ParameterSyntax
  pub result_type : TypeSyntax
  pub body : ExpSyntax

-- a constructor of a named type, with the types of its fields
pub record ConstructorDeclaration : Type 0 where
  pub name : NameSyntax
  pub fields : List TypeSyntax

-- a declaration: a named type with its constructors in order, the type of the state, or a function; the place is that of its keyword
pub data DeclarationSyntax : Type 0 where
  TypeDeclaration : (at : Place) (name : NameSyntax) (constructors : List ConstructorDeclaration) → DeclarationSyntax
  StateDeclaration : (at : Place) (of_type : TypeSyntax) → DeclarationSyntax
  FunctionDeclaration : (at : Place) (function : FunctionSyntax) → DeclarationSyntax

-- a program: its format, where it tells one, its declarations in order, and the place behind its last byte
pub record Program : Type 0 where
  pub format : Option Format
  pub declarations : List DeclarationSyntax
  pub end : Place

-- the place of an expression, and of a type
abbrev pub place_of : ExpSyntax → Place
place_of (UnitSyntax at) = at
place_of (BoolSyntax at b) = at
place_of (IntSyntax at z) = at
place_of (TextSyntax at bytes) = at
place_of (LocalSyntax at name) = at
place_of (PairSyntax at first second) = at
place_of (UnarySyntax at operation operand) = at
place_of (BinarySyntax at operation first second) = at
place_of (CallSyntax at name operands) = at
place_of (ConstructorSyntax at name operands) = at
place_of (OperateSyntax at operation operands) = at
place_of (LetSyntax at name bound body) = at
place_of (IfSyntax at test first other) = at
place_of (MatchSyntax at subject arms) = at

abbrev pub place_of_type : TypeSyntax → Place
place_of_type (UnitTypeSyntax at) = at
place_of_type (BoolTypeSyntax at) = at
place_of_type (IntTypeSyntax at) = at
place_of_type (TextTypeSyntax at) = at
place_of_type (NamedTypeSyntax at name) = at
place_of_type (AuthTypeSyntax at inner) = at
place_of_type (PairTypeSyntax at first second) = at
place_of_type (VecTypeSyntax at n item) = at
