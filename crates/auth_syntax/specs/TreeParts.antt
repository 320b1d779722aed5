-- What the parts of the trees of the code stand for.
use Rattle.std.specs.Prelude.{List, [], ◌∷◌, map, Box, Vec}
use Rattle.std.specs.declared.alloc.Global.{Global}
use Rattle.core_terms.specs.Texts.{bytes_of}
use Rattle.auth_syntax.specs.Syntax.{NameSyntax, TypeSyntax, UnitTypeSyntax, BoolTypeSyntax, IntTypeSyntax, TextTypeSyntax, NamedTypeSyntax, AuthTypeSyntax, PairTypeSyntax, VecTypeSyntax, UnaryOperation, FstOperation, SndOperation, AuthOperation, UnauthOperation, LenOperation, NotOperation, ArrayOperation, FillOperation, GetOperation, PutOperation, ExpSyntax, UnitSyntax, BoolSyntax, IntSyntax, TextSyntax, LocalSyntax, PairSyntax, UnarySyntax, BinarySyntax, CallSyntax, ConstructorSyntax, OperateSyntax, LetSyntax, IfSyntax, MatchSyntax, ArmsSyntax, NoArmSyntax, AndArmSyntax, ParameterSyntax, KindSyntax, InnerSyntax, InitSyntax, QuerySyntax, UpdateSyntax, FunctionSyntax, ConstructorDeclaration, DeclarationSyntax, TypeDeclaration, StateDeclaration, FunctionDeclaration}
use Rattle.auth_syntax.specs.Parsing.{in_a_row}
use Rattle.lexemes.specs.declared.place.Place.{Place}
use Rattle.auth_syntax.specs.declared.tree.PlacedName.{PlacedName}
use Rattle.auth_syntax.specs.declared.tree.TypeTree.{TypeTree}
use Rattle.auth_syntax.specs.declared.tree.TypeTree.TheVariants.{UnitType, BoolType, IntType, TextType, NamedType, AuthType', PairType', VecType'}
use Rattle.auth_syntax.specs.declared.tree.UnaryOperator.{UnaryOperator}
use Rattle.auth_syntax.specs.declared.tree.UnaryOperator.TheVariants.{Fst, Snd, Auth, Unauth, Len, Not}
use Rattle.auth_syntax.specs.declared.tree.ArrayOperator.{ArrayOperator}
use Rattle.auth_syntax.specs.declared.tree.ArrayOperator.TheVariants.{VecFill, VecGet, VecPut}
use Rattle.auth_syntax.specs.declared.tree.ExpTree.{ExpTree}
use Rattle.auth_syntax.specs.declared.tree.ExpTree.TheOpen.{ExpTree-F, Arm-F}
use Rattle.auth_syntax.specs.declared.tree.ExpTree.TheFolds.{fold-ExpTree, fold-Arm}
use Rattle.auth_syntax.specs.declared.tree.Arm.{Arm}
use Rattle.auth_syntax.specs.declared.tree.Parameter.{Parameter}
use Rattle.auth_syntax.specs.declared.tree.FunctionKind.{FunctionKind}
use Rattle.auth_syntax.specs.declared.tree.FunctionKind.TheVariants.{Inner, Init, Query, Update}
use Rattle.auth_syntax.specs.declared.tree.Function.{Function}
use Rattle.auth_syntax.specs.declared.tree.ConstructorDeclaration.{ConstructorDeclaration as ConstructorTree}
use Rattle.auth_syntax.specs.declared.tree.TypeDeclaration.{TypeDeclaration as TypeDeclarationTree}
use Rattle.auth_syntax.specs.declared.tree.Declaration.{Declaration}
use Rattle.auth_syntax.specs.declared.tree.Declaration.TheVariants.{«Type» as TypeVariant, State, Function as FunctionVariant}

-- a name where it stands, and names in order
abbrev pub name_of : PlacedName → NameSyntax
name_of placed = record { at = placed.at; name = placed.name }

abbrev pub names_of : Vec PlacedName Global → List NameSyntax
names_of names = map name_of names.items

-- the type that a tree stands for, and types in order
abbrev pub type_of : TypeTree → TypeSyntax
type_of (UnitType at) = UnitTypeSyntax at
type_of (BoolType at) = BoolTypeSyntax at
type_of (IntType at) = IntTypeSyntax at
type_of (TextType at) = TextTypeSyntax at
type_of (NamedType at name) = NamedTypeSyntax at name
type_of (AuthType' at p inner) = AuthTypeSyntax at (type_of inner)
type_of (PairType' at p first q second) = PairTypeSyntax at (type_of first) (type_of second)
type_of (VecType' at n p item) = VecTypeSyntax at n (type_of item)

abbrev pub boxed_type_of : Box TypeTree Global → TypeSyntax
boxed_type_of tree = type_of tree.value

abbrev pub types_of : Vec TypeTree Global → List TypeSyntax
types_of types = map type_of types.items

-- the operations on one operand
abbrev pub unary_of : UnaryOperator → UnaryOperation
unary_of Fst = FstOperation
unary_of Snd = SndOperation
unary_of Auth = AuthOperation
unary_of Unauth = UnauthOperation
unary_of Len = LenOperation
unary_of Not = NotOperation

-- the operations on arrays
abbrev pub array_of : ArrayOperator → ArrayOperation
array_of (VecFill n) = FillOperation n
array_of VecGet = GetOperation
array_of VecPut = PutOperation

-- an arm of a match: its constructor, the names of its fields and its body
pub record ArmSyntax : Type 0 where
  pub constructor : NameSyntax
  pub fields : List NameSyntax
  pub body : ExpSyntax

-- arms in a row, from a list of them
abbrev pub arms_in_a_row : List ArmSyntax → ArmsSyntax
arms_in_a_row [] = NoArmSyntax
arms_in_a_row (arm ∷ rest) = AndArmSyntax arm.constructor arm.fields arm.body (arms_in_a_row rest)

-- an expression, and an arm, whose parts stand for these already
abbrev pub expression_from_parts : ExpTree-F ExpSyntax ArmSyntax → ExpSyntax
expression_from_parts (ExpTree-F.UnitLiteral at) = UnitSyntax at
expression_from_parts (ExpTree-F.BoolLiteral at b) = BoolSyntax at b
expression_from_parts (ExpTree-F.IntLiteral at z) = IntSyntax at z
expression_from_parts (ExpTree-F.TextLiteral at text) = TextSyntax at (bytes_of text)
expression_from_parts (ExpTree-F.Local at name) = LocalSyntax at name
expression_from_parts (ExpTree-F.Pair at first second) = PairSyntax at first.value second.value
expression_from_parts (ExpTree-F.Unary at operation operand) = UnarySyntax at (unary_of operation) operand.value
expression_from_parts (ExpTree-F.Binary at operation first second) = BinarySyntax at operation first.value second.value
expression_from_parts (ExpTree-F.Call at name operands) = CallSyntax at name (in_a_row operands.items)
expression_from_parts (ExpTree-F.Constructor at name operands) = ConstructorSyntax at name (in_a_row operands.items)
expression_from_parts (ExpTree-F.Operate at operation operands) = OperateSyntax at (array_of operation) (in_a_row operands.items)
expression_from_parts (ExpTree-F.Let at name bound body) = LetSyntax at (name_of name) bound.value body.value
expression_from_parts (ExpTree-F.If at test first other) = IfSyntax at test.value first.value other.value
expression_from_parts (ExpTree-F.Match at subject arms) = MatchSyntax at subject.value (arms_in_a_row arms.items)

abbrev pub arm_from_parts : Arm-F ExpSyntax ArmSyntax → ArmSyntax
arm_from_parts arm = record { constructor = name_of arm.constructor; fields = names_of arm.fields; body = arm.body }

-- the expression that a tree stands for, and expressions in order
abbrev pub expression_of : ExpTree → ExpSyntax
expression_of = fold-ExpTree ExpSyntax ArmSyntax expression_from_parts arm_from_parts

abbrev pub boxed_of : Box ExpTree Global → ExpSyntax
boxed_of tree = expression_of tree.value

abbrev pub expressions_of : Vec ExpTree Global → List ExpSyntax
expressions_of expressions = map expression_of expressions.items

-- the arm, and arms in a row
abbrev pub arm_of : Arm → ArmSyntax
arm_of = fold-Arm ExpSyntax ArmSyntax expression_from_parts arm_from_parts

abbrev pub arms_of : Vec Arm Global → ArmsSyntax
arms_of arms = arms_in_a_row (map arm_of arms.items)

-- a parameter, and parameters in order
abbrev pub parameter_of : Parameter → ParameterSyntax
parameter_of parameter = record { name = name_of parameter.name; of_type = type_of parameter.of_type }

abbrev pub parameters_of : Vec Parameter Global → List ParameterSyntax
parameters_of parameters = map parameter_of parameters.items

-- the kind of a function, and the function
abbrev pub kind_of : FunctionKind → KindSyntax
kind_of Inner = InnerSyntax
kind_of Init = InitSyntax
kind_of Query = QuerySyntax
kind_of Update = UpdateSyntax

abbrev pub function_of : Function → FunctionSyntax
function_of function = record {
  kind = kind_of function.kind;
  name = name_of function.name;
  parameters = parameters_of function.parameters;
  result_type = type_of function.result_type;
  body = expression_of function.body;
}

-- a constructor of a named type, and constructors in order
abbrev pub constructor_of : ConstructorTree → ConstructorDeclaration
constructor_of constructor = record { name = name_of constructor.name; fields = types_of constructor.fields }

abbrev pub constructors_of : Vec ConstructorTree Global → List ConstructorDeclaration
constructors_of constructors = map constructor_of constructors.items

-- a named type whose keyword stands here
abbrev pub type_declaration_of : Place → TypeDeclarationTree → DeclarationSyntax
type_declaration_of at declared = TypeDeclaration at (name_of declared.name) (constructors_of declared.constructors)

-- a declaration, and declarations in order
abbrev pub declaration_of : Declaration → DeclarationSyntax
declaration_of (TypeVariant at declared) = type_declaration_of at declared
declaration_of (State at of_type) = StateDeclaration at (type_of of_type)
declaration_of (FunctionVariant at function) = FunctionDeclaration at (function_of function)

abbrev pub declarations_of : Vec Declaration Global → List DeclarationSyntax
declarations_of declarations = map declaration_of declarations.items
