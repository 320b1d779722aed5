-- Trees without their places: each place is that of a text's first byte. Two trees are equal but for places where they are equal so.
use Rattle.std.specs.Prelude.{map}
use Rattle.lexemes.specs.Places.{start}
use Rattle.auth_syntax.specs.Syntax.{NameSyntax, TypeSyntax, UnitTypeSyntax, BoolTypeSyntax, IntTypeSyntax, TextTypeSyntax, NamedTypeSyntax, AuthTypeSyntax, PairTypeSyntax, VecTypeSyntax, ExpSyntax, UnitSyntax, BoolSyntax, IntSyntax, TextSyntax, LocalSyntax, PairSyntax, UnarySyntax, BinarySyntax, CallSyntax, ConstructorSyntax, OperateSyntax, LetSyntax, IfSyntax, MatchSyntax, ExpsSyntax, NoExp, AndExp, ArmsSyntax, NoArmSyntax, AndArmSyntax, ParameterSyntax, FunctionSyntax, ConstructorDeclaration, DeclarationSyntax, TypeDeclaration, StateDeclaration, FunctionDeclaration, Program}

-- a name, a type
abbrev pub name_without_place : NameSyntax → NameSyntax
name_without_place name = record { at = start; name = name.name }

abbrev pub type_without_places : TypeSyntax → TypeSyntax
type_without_places (UnitTypeSyntax at) = UnitTypeSyntax start
type_without_places (BoolTypeSyntax at) = BoolTypeSyntax start
type_without_places (IntTypeSyntax at) = IntTypeSyntax start
type_without_places (TextTypeSyntax at) = TextTypeSyntax start
type_without_places (NamedTypeSyntax at name) = NamedTypeSyntax start name
type_without_places (AuthTypeSyntax at inner) = AuthTypeSyntax start (type_without_places inner)
type_without_places (PairTypeSyntax at first second) = PairTypeSyntax start (type_without_places first) (type_without_places second)
type_without_places (VecTypeSyntax at n item) = VecTypeSyntax start n (type_without_places item)

abbrev mutual
  -- an expression, expressions in a row, and the arms of a match
  pub expression_without_places : ExpSyntax → ExpSyntax
  expression_without_places (UnitSyntax at) = UnitSyntax start
  expression_without_places (BoolSyntax at b) = BoolSyntax start b
  expression_without_places (IntSyntax at z) = IntSyntax start z
  expression_without_places (TextSyntax at bytes) = TextSyntax start bytes
  expression_without_places (LocalSyntax at name) = LocalSyntax start name
  expression_without_places (PairSyntax at first second) = PairSyntax start (expression_without_places first) (expression_without_places second)
  expression_without_places (UnarySyntax at operation operand) = UnarySyntax start operation (expression_without_places operand)
  expression_without_places (BinarySyntax at operation first second) =
      BinarySyntax start operation (expression_without_places first) (expression_without_places second)
  expression_without_places (CallSyntax at name operands) = CallSyntax start name (expressions_without_places operands)
  expression_without_places (ConstructorSyntax at name operands) = ConstructorSyntax start name (expressions_without_places operands)
  expression_without_places (OperateSyntax at operation operands) = OperateSyntax start operation (expressions_without_places operands)
  expression_without_places (LetSyntax at name bound body) =
      LetSyntax start (name_without_place name) (expression_without_places bound) (expression_without_places body)
  expression_without_places (IfSyntax at test first other) =
      IfSyntax start (expression_without_places test) (expression_without_places first) (expression_without_places other)
  expression_without_places (MatchSyntax at subject arms) = MatchSyntax start (expression_without_places subject) (arms_without_places arms)

  pub expressions_without_places : ExpsSyntax → ExpsSyntax
  expressions_without_places NoExp = NoExp
  expressions_without_places (AndExp e rest) = AndExp (expression_without_places e) (expressions_without_places rest)

  pub arms_without_places : ArmsSyntax → ArmsSyntax
  arms_without_places NoArmSyntax = NoArmSyntax
  arms_without_places (AndArmSyntax constructor fields body rest) =
      AndArmSyntax (name_without_place constructor) (map name_without_place fields) (expression_without_places body) (arms_without_places rest)

-- a parameter, a function, a constructor of a named type, and a declaration
abbrev pub parameter_without_places : ParameterSyntax → ParameterSyntax
parameter_without_places parameter = record { name = name_without_place parameter.name; of_type = type_without_places parameter.of_type }

abbrev pub function_without_places : FunctionSyntax → FunctionSyntax
function_without_places function = record {
  kind = function.kind;
  name = name_without_place function.name;
  parameters = map parameter_without_places function.parameters;
  result_type = type_without_places function.result_type;
  body = expression_without_places function.body;
}

abbrev pub constructor_without_places : ConstructorDeclaration → ConstructorDeclaration
constructor_without_places constructor = record { name = name_without_place constructor.name; fields = map type_without_places constructor.fields }

abbrev pub declaration_without_places : DeclarationSyntax → DeclarationSyntax
declaration_without_places (TypeDeclaration at name constructors) = TypeDeclaration start (name_without_place name) (map constructor_without_places constructors)
declaration_without_places (StateDeclaration at of_type) = StateDeclaration start (type_without_places of_type)
declaration_without_places (FunctionDeclaration at function) = FunctionDeclaration start (function_without_places function)

-- a program
abbrev pub without_places : Program → Program
without_places program = record {
  format = program.format;
  declarations = map declaration_without_places program.declarations;
  end = start;
}
