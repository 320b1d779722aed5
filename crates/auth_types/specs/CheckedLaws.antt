-- The laws of the passes: what a reader may hold a program that passes them to.
use Rattle.std.specs.Prelude.{◌≡◌, ◌≤◌, ◌<◌, ℕ, true, List, length, map, Some, slice_get, All, IsUtf8}
use Rattle.core_terms.specs.Types.{Ty, PairTy, NamedTy, AuthTy, VecTy}
use Rattle.core_terms.specs.Terms.{Function}
use Rattle.core_terms.specs.TypingRules.{HasType}
use Rattle.core_terms.specs.Terms as tree
use Rattle.core_terms.specs.ProgramSizes as programs
use Rattle.core_terms.specs.Typing.{is_typed, is_shaped}
use Rattle.core_terms.specs.Values.{int_fits}
use Rattle.auth_syntax.specs.Syntax.{ExpSyntax, IntSyntax, TextSyntax, PairSyntax, UnarySyntax, BinarySyntax, CallSyntax, ConstructorSyntax, OperateSyntax, LetSyntax, IfSyntax, MatchSyntax, ExpsSyntax, NoExp, AndExp, ArmsSyntax, NoArmSyntax, AndArmSyntax, Program}
use Rattle.auth_syntax.specs.TreeLimits as trees
use Rattle.auth_syntax.specs.Parsing.{parsed, Tree}
use Rattle.declared_types.specs.Checking.{Sound}
use Rattle.declared_types.specs.Declarations.{most_types, most_constructors, most_fields, most_functions, most_parameters}
use Rattle.declared_types.specs.WrittenTypes.{functions_in, type_names}
use Rattle.auth_types.specs.Bodies.{Local, Typed, elaborated}
use Rattle.declared_types.specs.Signatures.{Scope, Signature}
use Rattle.auth_types.specs.CheckedPrograms.{IsProgram, all_passes, checked}
use Rattle.declared_types.specs.DeclaredPrograms.{scope_of}

-- Each int literal has 64 bits, and each text literal is UTF-8 of at most 65,532 bytes. So it is in each tree that a text has.
abbrev mutual
  pub HasGoodLiterals : ExpSyntax → Type 0
  HasGoodLiterals (IntSyntax at z) = int_fits z ≡ true
  HasGoodLiterals (TextSyntax at bytes) = IsUtf8 bytes × (length bytes ≤ 65532)
  HasGoodLiterals (PairSyntax at first second) = HasGoodLiterals first × HasGoodLiterals second
  HasGoodLiterals (UnarySyntax at operation operand) = HasGoodLiterals operand
  HasGoodLiterals (BinarySyntax at operation first second) = HasGoodLiterals first × HasGoodLiterals second
  HasGoodLiterals (CallSyntax at name operands) = HaveGoodLiterals operands
  HasGoodLiterals (ConstructorSyntax at name operands) = HaveGoodLiterals operands
  HasGoodLiterals (OperateSyntax at operation operands) = HaveGoodLiterals operands
  HasGoodLiterals (LetSyntax at name bound body) = HasGoodLiterals bound × HasGoodLiterals body
  HasGoodLiterals (IfSyntax at test first other) = HasGoodLiterals test × HasGoodLiterals first × HasGoodLiterals other
  HasGoodLiterals (MatchSyntax at subject arms) = HasGoodLiterals subject × ArmsHaveGoodLiterals arms
  HasGoodLiterals expression = Unit {0}

  pub HaveGoodLiterals : ExpsSyntax → Type 0
  HaveGoodLiterals NoExp = Unit {0}
  HaveGoodLiterals (AndExp expression rest) = HasGoodLiterals expression × HaveGoodLiterals rest

  pub ArmsHaveGoodLiterals : ArmsSyntax → Type 0
  ArmsHaveGoodLiterals NoArmSyntax = Unit {0}
  ArmsHaveGoodLiterals (AndArmSyntax constructor fields body rest) = HasGoodLiterals body × ArmsHaveGoodLiterals rest

-- a program whose bodies have such literals
abbrev pub ProgramHasGoodLiterals : Program → Type 0
ProgramHasGoodLiterals program = All (λ f. HasGoodLiterals f.body) (functions_in program.declarations)

-- the signature of a function
abbrev pub signature : Function → Signature
signature g = record { name = g.name; parameters = g.parameters; result = g.result }

-- What is declared for the bodies of a program: its functions by number, and the constructors of each type of its table.
pub record IsScopeOf (scope : Scope) (P : tree.Program) : Type 0 where
  pub functions : scope.functions ≡ map signature P.functions
  pub table : scope.table ≡ P.types
  pub constructors : map length scope.constructors ≡ map length P.types

-- The bodies of a program that passes are checked with what it has.
abbrev pub ScopeIsOfProgram : Type 0
ScopeIsOfProgram = (program : Program) (P : tree.Program) → all_passes program ≡ Sound P → IsScopeOf (scope_of program) P

-- the types of locals, by number
abbrev pub types_of_locals : List Local → List Ty
types_of_locals locals = map (λ l. l.of_type) locals

-- An expression that passes has the type that it says, where the locals have theirs.
abbrev pub ElaboratedHasType : Type 0
ElaboratedHasType =
    (P : tree.Program) (scope : Scope) → IsScopeOf scope P
    → (locals : List Local) (expression : ExpSyntax) (found : Typed) → HasGoodLiterals expression
    → elaborated scope locals expression ≡ Sound found
    → HasType P (types_of_locals locals) found.expression found.of_type

-- A program that passes is well-typed, and each function of it that can be entered from outside has the shape of its role.
abbrev pub CheckedIsTyped : Type 0
CheckedIsTyped =
    (program : Program) (P : tree.Program) → ProgramHasGoodLiterals program → all_passes program ≡ Sound P
    → (is_typed P ≡ true) × (is_shaped P ≡ true)

-- What the checker gives of a text that has a tree is well-typed, and its roles have their shapes.
abbrev pub ParsedIsTyped : Type 0
ParsedIsTyped =
    (text : List ℕ) (program : Program) (P : tree.Program) → parsed text ≡ Tree program → checked program ≡ IsProgram P
    → (is_typed P ≡ true) × (is_shaped P ≡ true)

-- each named type in a type is one of so many
abbrev pub NamesTypesBelow : ℕ → Ty → Type 0
NamesTypesBelow count (PairTy a b) = NamesTypesBelow count a × NamesTypesBelow count b
NamesTypesBelow count (NamedTy number) = number < count
NamesTypesBelow count (AuthTy t) = NamesTypesBelow count t
NamesTypesBelow count (VecTy n t) = NamesTypesBelow count t
NamesTypesBelow count t = Unit {0}

-- each type that a function names is one of so many
pub record FunctionNamesTypesBelow (count : ℕ) (g : Function) : Type 0 where
  pub parameters : All (NamesTypesBelow count) g.parameters
  pub result : NamesTypesBelow count g.result

-- each type that a program names is one of so many
pub record ProgramNamesTypesBelow (count : ℕ) (P : tree.Program) : Type 0 where
  pub table : All (All (All (NamesTypesBelow count))) P.types
  pub state : NamesTypesBelow count P.state
  pub functions : All (FunctionNamesTypesBelow count) P.functions

-- A program that passes has the types that are declared, and names no others.
abbrev pub CheckedNamesItsTypes : Type 0
CheckedNamesItsTypes =
    (program : Program) (P : tree.Program) → all_passes program ≡ Sound P
    → (length P.types ≡ length (type_names program.declarations)) × ProgramNamesTypesBelow (length P.types) P

-- Nothing in a program goes beyond its limit.
pub record IsWithinLimits (P : tree.Program) : Type 0 where
  pub types : length P.types ≤ most_types
  pub constructors : All (λ constructors. length constructors ≤ most_constructors) P.types
  pub fields : All (All (λ fields. length fields ≤ most_fields)) P.types
  pub functions : length P.functions ≤ most_functions
  pub parameters : All (λ g. length g.parameters ≤ most_parameters) P.functions

-- A program that passes is within the limits.
abbrev pub CheckedIsWithinLimits : Type 0
CheckedIsWithinLimits = (program : Program) (P : tree.Program) → all_passes program ≡ Sound P → IsWithinLimits P

-- A program that passes is within all limits of programs, where its tree is within those of trees.
abbrev pub CheckedIsWithinAllLimits : Type 0
CheckedIsWithinAllLimits =
    (program : Program) (P : tree.Program) → trees.IsWithinLimits program.declarations → all_passes program ≡ Sound P → programs.IsWithinLimits P

-- No two functions of a program that passes have one name.
abbrev pub CheckedNamesDiffer : Type 0
CheckedNamesDiffer =
    (program : Program) (P : tree.Program) → all_passes program ≡ Sound P
    → (f g : ℕ) (F G : Function) → slice_get P.functions f ≡ Some F → slice_get P.functions g ≡ Some G → F.name ≡ G.name → f ≡ g
