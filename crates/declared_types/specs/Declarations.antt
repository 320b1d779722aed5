-- The first pass: the names that are declared, and how many. Types, constructors and functions are name spaces of the whole program, the
-- parameters of a function one of the function.
use Rattle.std.specs.Prelude.{ℕ, Bool, true, false, not, List, [], ◌∷◌, nat_lt, ◌+◌}
use Rattle.lexemes.specs.declared.place.Place.{Place}
use Rattle.auth_syntax.specs.Syntax.{TypeSyntax, place_of_type, ParameterSyntax, ConstructorDeclaration, DeclarationSyntax, TypeDeclaration, StateDeclaration, FunctionDeclaration, Program}
pub use Rattle.core_terms.specs.ProgramLimits.{most_types, most_constructors, most_fields, most_functions, most_parameters}
use Rattle.declared_types.specs.Checking.{Checking, Sound, then_checked, unless_fault, is_among, new_name}
use Rattle.declared_types.specs.declared.fault.TypeKind.TheVariants.{Twice, Limit, NoState}
use Rattle.declared_types.specs.declared.fault.Limited.TheVariants.{Types, Constructors, Fields, Functions, Parameters}

-- what was declared so far: the names of types, constructors and functions, the last ones first, and whether the state was
pub record Declared : Type 0 where
  pub types : List (List ℕ)
  pub constructors : List (List ℕ)
  pub functions : List (List ℕ)
  pub state : Bool

abbrev pub nothing_declared : Declared
nothing_declared = record { types = []; constructors = []; functions = []; state = false }

-- at most so many more fields
abbrev pub checked_fields : ℕ → List TypeSyntax → Checking (Unit {0})
checked_fields before [] = Sound tt
checked_fields before (field ∷ rest) =
    unless_fault (nat_lt before most_fields) (Limit Fields) (place_of_type field) (checked_fields (before + 1) rest)

-- A constructor behind so many others of its type, where these names stood before in the program. Where its name is both a second one
-- and one too many, it is a second one.
abbrev pub checked_constructor : {A : Type 0} → ℕ → List (List ℕ) → ConstructorDeclaration → Checking A → Checking A
checked_constructor before names constructor rest =
    unless_fault (not (is_among constructor.name.name names)) Twice constructor.name.at
    (unless_fault (nat_lt before most_constructors) (Limit Constructors) constructor.name.at
    (then_checked (checked_fields 0 constructor.fields) (λ _. rest)))

-- the constructors of a type, behind so many: the names of all constructors so far
abbrev pub checked_constructors : ℕ → List (List ℕ) → List ConstructorDeclaration → Checking (List (List ℕ))
checked_constructors before names [] = Sound names
checked_constructors before names (constructor ∷ rest) =
    checked_constructor before names constructor (checked_constructors (before + 1) (constructor.name.name ∷ names) rest)

-- the parameters of a function, behind these
abbrev pub checked_parameters : List (List ℕ) → List ParameterSyntax → Checking (Unit {0})
checked_parameters before [] = Sound tt
checked_parameters before (parameter ∷ rest) =
    new_name before most_parameters Parameters parameter.name (checked_parameters (parameter.name.name ∷ before) rest)

-- a declaration, behind what was declared so far
abbrev pub checked_declaration : Declared → DeclarationSyntax → Checking Declared
checked_declaration declared (TypeDeclaration at name constructors) =
    new_name declared.types most_types Types name
    (then_checked (checked_constructors 0 declared.constructors constructors) (λ names.
    Sound (record { types = name.name ∷ declared.types; constructors = names; functions = declared.functions; state = declared.state })))
checked_declaration declared (StateDeclaration at of_type) =
    unless_fault (not declared.state) Twice at
    (Sound (record { types = declared.types; constructors = declared.constructors; functions = declared.functions; state = true }))
checked_declaration declared (FunctionDeclaration at function) =
    new_name declared.functions most_functions Functions function.name
    (then_checked (checked_parameters [] function.parameters) (λ _.
    Sound (record { types = declared.types; constructors = declared.constructors; functions = function.name.name ∷ declared.functions; state = declared.state })))

abbrev pub checked_declarations : Declared → List DeclarationSyntax → Checking Declared
checked_declarations declared [] = Sound declared
checked_declarations declared (declaration ∷ rest) =
    then_checked (checked_declaration declared declaration) (λ declared. checked_declarations declared rest)

-- all declarations of a text that ends here: no name stands twice in its space and nothing goes beyond its limit; after all, a state is declared
abbrev pub checked_whole : List DeclarationSyntax → Place → Checking (Unit {0})
checked_whole declarations end =
    then_checked (checked_declarations nothing_declared declarations) (λ declared.
    unless_fault declared.state NoState end (Sound tt))

-- the first pass
abbrev pub first_pass : Program → Checking (Unit {0})
first_pass program = checked_whole program.declarations program.end
