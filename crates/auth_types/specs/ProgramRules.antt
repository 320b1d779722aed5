-- The rules of the language for a whole program: the program that a tree stands for, and the first rule that a tree breaks.
use Rattle.std.specs.Prelude.{◌≡◌, ℕ, List, [], None, map}
use Rattle.std.specs.List.{AllZip}
use Rattle.core_terms.specs.Terms.{Function}
use Rattle.core_terms.specs.Terms as tree
use Rattle.lexemes.specs.declared.place.Place.{Place}
use Rattle.auth_syntax.specs.Syntax.{ParameterSyntax, FunctionSyntax, Program}
use Rattle.auth_types.specs.CheckedPrograms.{program_format}
use Rattle.auth_types.specs.Bodies.{parameter_locals}
use Rattle.declared_types.specs.Signatures.{Scope}
use Rattle.declared_types.specs.DeclaredPrograms.{format_of, names_of, scope_of, state_of, table_of_program}
use Rattle.declared_types.specs.RoleKinds.{kind_meant}
use Rattle.declared_types.specs.WrittenTypes.{functions_in, type_meant}
use Rattle.auth_types.specs.InOrder.{EachMeets, OneBreaks}
use Rattle.auth_types.specs.TypingRules.{Elaborates}
use Rattle.auth_types.specs.BrokenRules.{Misfits}
use Rattle.auth_types.specs.DeclarationRules.{AreDeclared, BreaksDeclared, AreKnown, BreaksTypeNames}
use Rattle.auth_types.specs.RoleShapes.{MeetsRole, BreaksRole}
use Rattle.declared_types.specs.declared.fault.TypeKind.{TypeKind}

-- A function of the tree stands for this one: its body has the type of its result, where its parameters are the locals.
pub record FunctionStandsFor (names : List (List ℕ)) (scope : Scope) (function : FunctionSyntax) (g : Function) : Type 0 where
  pub name : g.name ≡ function.name.name
  pub kind : g.kind ≡ kind_meant function.kind
  pub parameters : g.parameters ≡ map (λ (p : ParameterSyntax). type_meant scope.format names p.of_type) function.parameters
  pub result : g.result ≡ type_meant scope.format names function.result_type
  pub body : Elaborates scope (parameter_locals scope.format names function.parameters) function.body g.body (type_meant scope.format names function.result_type)

-- it stands for some, whatever stands before it; or its body breaks a rule or has another type
abbrev pub HasBody : List (List ℕ) → Scope → List FunctionSyntax → FunctionSyntax → Type 0
HasBody names scope before function = (g : Function) × FunctionStandsFor names scope function g

abbrev pub BreaksBody : List (List ℕ) → Scope → List FunctionSyntax → FunctionSyntax → TypeKind → Place → Type 0
BreaksBody names scope before function kind at = Misfits scope (parameter_locals scope.format names function.parameters) (type_meant scope.format names function.result_type) function.body kind at

module _ (program : Program) where
  -- the roles of the program
  abbrev pub AreRoles : Type 0
  AreRoles = EachMeets (MeetsRole (format_of program) (names_of program) (table_of_program program) (state_of program)) [] (functions_in program.declarations)

  abbrev pub BreaksRoles : TypeKind → Place → Type 0
  BreaksRoles kind at =
      OneBreaks (MeetsRole (format_of program) (names_of program) (table_of_program program) (state_of program)) (BreaksRole (format_of program) (names_of program) (table_of_program program) (state_of program)) [] (functions_in program.declarations) kind at

  -- its bodies
  abbrev pub BreaksBodies : TypeKind → Place → Type 0
  BreaksBodies kind at = OneBreaks (HasBody (names_of program) (scope_of program)) (BreaksBody (names_of program) (scope_of program)) [] (functions_in program.declarations) kind at

-- The tree stands for this program: its declarations may stand where they do, the types that are named are declared and the arrays may be had,
-- its roles have their shapes, and its functions stand for those of the program, which is of the format that the tree tells.
pub record Denotes (program : Program) (P : tree.Program) : Type 0 where
  pub declared : AreDeclared program
  pub known : AreKnown program
  pub roles : AreRoles program
  pub functions : AllZip (FunctionStandsFor (names_of program) (scope_of program)) (functions_in program.declarations) P.functions
  pub types : P.types ≡ table_of_program program
  pub state : P.state ≡ state_of program
  pub format : P.format ≡ program_format program
  pub code : P.code ≡ None

-- The tree breaks this rule at this place, which is the first in its pass, and the passes before it find no fault.
pub data BreaksProgram (program : Program) : TypeKind → Place → Type 0 where
  InDeclared : {kind : TypeKind} {at : Place} → BreaksDeclared program kind at → BreaksProgram program kind at
  InTypeNames : {kind : TypeKind} {at : Place} → AreDeclared program → BreaksTypeNames program kind at → BreaksProgram program kind at
  InRoles : {kind : TypeKind} {at : Place} → AreDeclared program → AreKnown program → BreaksRoles program kind at → BreaksProgram program kind at
  InBodies : {kind : TypeKind} {at : Place} → AreDeclared program → AreKnown program → AreRoles program → BreaksBodies program kind at
      → BreaksProgram program kind at
