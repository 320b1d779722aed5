-- What the parts of a program are held to: their types and the limits of a program. Of the expressions that a program may still have,
-- so many are left before a part and so many after it.
use Rattle.std.specs.Prelude.{◌≡◌, true, ℕ, ◌+◌, ◌<◌, ◌≤◌, List, length, map, All}
use Rattle.core_terms.specs.Types.{Ty}
use Rattle.core_terms.specs.Terms.{Expression, Expressions, Arms, Program}
use Rattle.core_terms.specs.TypingRules.{HasType, HaveTypes, HaveArms}
use Rattle.core_terms.specs.ProgramLimits.{most_constructors, most_expressions, most_fields, most_functions, most_levels, most_locals, most_parameters, most_types, IsName}
use Rattle.core_terms.specs.ProgramSizes.{levels_of, levels_of_row, levels_of_arms, locals_in, locals_in_row, locals_in_arms, expressions_in, expressions_in_row, expressions_in_arms, expressions_in_all, IsFlatType}
use Rattle.core_terms.specs.ProgramTrees.{expression_of, function_of, kind_of, program_of, types_at}
use Rattle.core_terms.specs.Programs.{types_in}
use Rattle.core_terms.specs.TypeTables.{type_at}
use Rattle.core_terms.specs.RoleShapes.{shape_test}
use Rattle.core_terms.specs.declared.types.TyId.{TyId}
use Rattle.core_terms.specs.declared.types.TyTable.{TyTable}
use Rattle.core_terms.specs.declared.term.NamedType.{NamedType}
use Rattle.core_terms.specs.declared.term.Constructor as code
use Rattle.core_terms.specs.declared.term.Function.{Function}

-- the program of these parts
abbrev pub judged : TyTable → List NamedType → TyId → List Function → Program
judged types named state functions = program_of types.format types.forms.keys named state functions

-- an expression has its type, and at most so many levels
pub record Fits (P : Program) (env : List Ty) (e : Expression) (t : Ty) (levels before after : ℕ) : Type 0 where
  pub typed : HasType P env e t
  pub flat : levels_of e ≤ levels
  pub few : locals_in P.types (length env) e ≤ most_locals
  pub counted : expressions_in e + after ≤ before

-- two expressions, one behind the other
pub record FitBoth (P : Program) (env : List Ty) (x : Expression) (a : Ty) (y : Expression) (b : Ty) (levels before after : ℕ) : Type 0 where
  pub middle : ℕ
  pub first : Fits P env x a levels before middle
  pub second : Fits P env y b levels middle after

-- expressions in a row
pub record RowFits (P : Program) (env : List Ty) (xs : Expressions) (ts : List Ty) (levels before after : ℕ) : Type 0 where
  pub typed : HaveTypes P env xs ts
  pub flat : levels_of_row xs ≤ levels
  pub few : locals_in_row P.types (length env) xs ≤ most_locals
  pub counted : expressions_in_row xs + after ≤ before

-- arms of constructors with fields of these types
pub record ArmsFit (P : Program) (env : List Ty) (cs : List (List Ty)) (arms : Arms) (t : Ty) (levels before after : ℕ) : Type 0 where
  pub typed : HaveArms P env cs arms t
  pub flat : levels_of_arms arms ≤ levels
  pub few : locals_in_arms P.types (length env) cs arms ≤ most_locals
  pub counted : expressions_in_arms arms + after ≤ before

-- a type is in the table, and may be written
pub record TypeFits (types : List Ty) (id : TyId) : Type 0 where
  pub flat : IsFlatType (type_at types id)
  pub below : id.0 < length types

-- a constructor, and a named type
pub record ConstructorFits (types : List Ty) (c : code.Constructor) : Type 0 where
  pub name : IsName c.name
  pub few : length c.fields.items ≤ most_fields
  pub fields : All (TypeFits types) c.fields.items

pub record NamedFits (types : List Ty) (d : NamedType) : Type 0 where
  pub name : IsName d.name
  pub few : length d.constructors.items ≤ most_constructors
  pub constructors : All (ConstructorFits types) d.constructors.items

-- a function, of the shape that its kind asks for
pub record FunctionFits (P : Program) (types : List Ty) (f : Function) : Type 0 where
  pub shaped : shape_test P (kind_of f.kind) (types_at types f.parameters.items) (type_at types f.result) ≡ true
  pub name : IsName f.name
  pub few : length f.parameters.items ≤ most_parameters
  pub parameters : All (TypeFits types) f.parameters.items
  pub result : TypeFits types f.result
  pub typed : HasType P (types_at types f.parameters.items) (expression_of types f.body) (type_at types f.result)
  pub flat : levels_of (expression_of types f.body) ≤ most_levels
  pub locals : locals_in P.types (length (types_at types f.parameters.items)) (expression_of types f.body) ≤ most_locals

-- the parts of a program
pub record PartsFit (types : TyTable) (named : List NamedType) (state : TyId) (functions : List Function) : Type 0 where
  pub few_named : length named ≤ most_types
  pub few_functions : length functions ≤ most_functions
  pub state_fits : TypeFits (types_in types) state
  pub each_named : All (NamedFits (types_in types)) named
  pub each_function : All (FunctionFits (judged types named state functions) (types_in types)) functions
  pub expressions : expressions_in_all (map (function_of (types_in types)) functions) ≤ most_expressions
