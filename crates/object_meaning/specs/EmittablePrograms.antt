-- What a program must be so that its object is accepted, unless that is too long. Each text's program of the first format is so.
use Rattle.std.specs.Prelude.{◌≡◌, ◌≤◌, ℕ, true, List, [], ◌∷◌, ◌++◌, length, All, if◌then◌else◌}
use Rattle.core_terms.specs.Types.{Ty, Table}
use Rattle.core_terms.specs.ProgramLimits.{most_constructors, most_fields, most_functions, most_parameters, most_types}
use Rattle.core_terms.specs.Roles.{is_entered}
use Rattle.core_terms.specs.Terms.{Kind, Inner, Function, Program}
use Rattle.core_terms.specs.TypingRules.{IsWrittenWell}
use Rattle.core_terms.specs.Typing.{is_shaped}
use Rattle.object_meaning.specs.ObjectBodies.{object_format}
use Rattle.object_meaning.specs.ReadObjects.{is_upper_name, is_lower_name}
use Rattle.object_meaning.specs.WellFormedObjects.{IsNewName}
use Rattle.object_meaning.specs.ClosedPrograms.{IsClosedProgram}
use Rattle.object_meaning.specs.KindLaws.{IsWritten}

-- upper names, each new
abbrev pub AreNewNames : List (List ℕ) → List (List ℕ) → Type 0
AreNewNames before [] = Unit {0}
AreNewNames before (name ∷ names) = IsNewName is_upper_name before name × AreNewNames (before ++ name ∷ []) names

-- each constructor has few fields
abbrev pub HaveFewFields : List (List Ty) → Type 0
HaveFewFields [] = Unit {0}
HaveFewFields (ts ∷ cs) = (length ts ≤ most_fields) × HaveFewFields cs

-- a named type, behind these names: it has a constructor, and each of them a name
pub record IsNamedType (before : List (List ℕ)) (cs : List (List Ty)) (names : List (List ℕ)) : Type 0 where
  pub some : 1 ≤ length cs
  pub few : length cs ≤ most_constructors
  pub fields : HaveFewFields cs
  pub each : length names ≡ length cs
  pub new : AreNewNames before names

abbrev pub IsNamedTable : List (List ℕ) → Table → List (List (List ℕ)) → Type 0
IsNamedTable before [] [] = Unit {0}
IsNamedTable before (cs ∷ types) (ns ∷ names) = IsNamedType before cs ns × IsNamedTable (before ++ ns) types names
IsNamedTable before types names = ⊥

-- the name that no later role may have: a function's, where it is a role
abbrev pub name_taken : Function → List (List ℕ)
name_taken f = if is_entered f.kind then f.name ∷ [] else []

-- a role has a new lower name
abbrev pub HasNewName : Kind → List (List ℕ) → List ℕ → Type 0
HasNewName Inner before name = Unit {0}
HasNewName kind before name = IsNewName is_lower_name before name

-- a function has a parameter, and where it is a role its name is none of these
pub record IsEmittableFunction (before : List (List ℕ)) (f : Function) : Type 0 where
  pub name : HasNewName f.kind before f.name
  pub some : 1 ≤ length f.parameters
  pub few : length f.parameters ≤ most_parameters

abbrev pub AreEmittable : List (List ℕ) → List Function → Type 0
AreEmittable before [] = Unit {0}
AreEmittable before (f ∷ fs) = IsEmittableFunction before f × AreEmittable (before ++ name_taken f) fs

-- The program is well-typed and within the limits, its roles have their shapes, and the names of its constructors and roles are names.
pub record IsEmittable (P : Program) (names : List (List (List ℕ))) : Type 0 where
  pub limit : P.format.limit ≡ object_format.limit
  pub typed : IsWrittenWell P
  pub shaped : is_shaped P ≡ true
  pub written : All (IsWritten P) P.functions
  pub closed : IsClosedProgram P
  pub few_types : length P.types ≤ most_types
  pub named : IsNamedTable [] P.types names
  pub few_functions : length P.functions ≤ most_functions
  pub functions : AreEmittable [] P.functions
