-- The second pass: written types, whose names are all declared and whose arrays the program may have; and the types that they stand for.
use Rattle.std.specs.Prelude.{ℕ, suc, Bool, ◌&&◌, List, [], ◌∷◌, map, Option, Some, None, option_map, bytes_eq, unwrap_or, if◌then◌else◌}
use Rattle.core_terms.specs.ProgramFormats.{arrays_of}
use Rattle.core_terms.specs.Types.{Ty, UnitTy, BoolTy, IntTy, TextTy, PairTy, NamedTy, AuthTy, VecTy, Table, is_length}
use Rattle.core_terms.specs.declared.format.Format.{Format}
use Rattle.lexemes.specs.declared.place.Place.{Place}
use Rattle.auth_syntax.specs.ProgramTokens.{format_or_first}
use Rattle.auth_syntax.specs.Syntax.{TypeSyntax, UnitTypeSyntax, BoolTypeSyntax, IntTypeSyntax, TextTypeSyntax, NamedTypeSyntax, AuthTypeSyntax, PairTypeSyntax, VecTypeSyntax, FunctionSyntax, ConstructorDeclaration, DeclarationSyntax, TypeDeclaration, StateDeclaration, FunctionDeclaration, Program}
use Rattle.declared_types.specs.Checking.{Checking, Sound, then_checked, unless_fault, is_among}
use Rattle.declared_types.specs.declared.fault.TypeKind.TheVariants.{NotVec, UnknownName}

-- the place of a name among names, from 0
abbrev pub number_of : List (List ℕ) → List ℕ → Option ℕ
number_of [] name = None
number_of (other ∷ others) name = if bytes_eq other name then Some 0 else option_map suc (number_of others name)

-- the names of the types that are declared, and of the constructors of each; a type goes by its number among them
abbrev pub type_names : List DeclarationSyntax → List (List ℕ)
type_names [] = []
type_names (TypeDeclaration at name constructors ∷ rest) = name.name ∷ type_names rest
type_names (declaration ∷ rest) = type_names rest

-- Programs of the format may have arrays of this length. No text has an array that it may not have; a tree may.
abbrev pub may_have : Format → ℕ → Bool
may_have format n = arrays_of format && is_length n

-- a type has the name that is written at this place
abbrev pub known_name : List (List ℕ) → Place → List ℕ → Checking (Unit {0})
known_name names at name = unless_fault (is_among name names) UnknownName at (Sound tt)

-- the program may have the array of this length that is written at this place
abbrev pub known_array : Format → Place → ℕ → Checking (Unit {0})
known_array format at n = unless_fault (may_have format n) NotVec at (Sound tt)

-- an array of elements of this type, where the program may have it; else what its elements are, which no checked program has
abbrev pub array_meant : Format → ℕ → Ty → Ty
array_meant format n t = if may_have format n then VecTy n t else t

module _ (format : Format) (names : List (List ℕ)) where
  -- the type that is written; a name that isn't declared stands for the first type, which no checked program has
  abbrev pub type_meant : TypeSyntax → Ty
  type_meant (UnitTypeSyntax at) = UnitTy
  type_meant (BoolTypeSyntax at) = BoolTy
  type_meant (IntTypeSyntax at) = IntTy
  type_meant (TextTypeSyntax at) = TextTy
  type_meant (NamedTypeSyntax at name) = NamedTy (unwrap_or (number_of names name) 0)
  type_meant (AuthTypeSyntax at inner) = AuthTy (type_meant inner)
  type_meant (PairTypeSyntax at first second) = PairTy (type_meant first) (type_meant second)
  type_meant (VecTypeSyntax at n item) = array_meant format n (type_meant item)

  -- the names in a type are declared, and the program may have its arrays; an array is judged before its elements
  abbrev pub known_type : TypeSyntax → Checking (Unit {0})
  known_type (NamedTypeSyntax at name) = known_name names at name
  known_type (AuthTypeSyntax at inner) = known_type inner
  known_type (PairTypeSyntax at first second) = then_checked (known_type first) (λ _. known_type second)
  known_type (VecTypeSyntax at n item) = then_checked (known_array format at n) (λ _. known_type item)
  known_type t = Sound tt

  abbrev pub known_types : List TypeSyntax → Checking (Unit {0})
  known_types [] = Sound tt
  known_types (t ∷ ts) = then_checked (known_type t) (λ _. known_types ts)

  abbrev pub known_constructors : List ConstructorDeclaration → Checking (Unit {0})
  known_constructors [] = Sound tt
  known_constructors (constructor ∷ rest) = then_checked (known_types constructor.fields) (λ _. known_constructors rest)

  -- those of the parameters, and then that of the result
  abbrev pub known_signature : FunctionSyntax → Checking (Unit {0})
  known_signature function =
      then_checked (known_types (map (λ p. p.of_type) function.parameters)) (λ _. known_type function.result_type)

  abbrev pub known_declaration : DeclarationSyntax → Checking (Unit {0})
  known_declaration (TypeDeclaration at name constructors) = known_constructors constructors
  known_declaration (StateDeclaration at of_type) = known_type of_type
  known_declaration (FunctionDeclaration at function) = known_signature function

  abbrev pub known_declarations : List DeclarationSyntax → Checking (Unit {0})
  known_declarations [] = Sound tt
  known_declarations (declaration ∷ rest) = then_checked (known_declaration declaration) (λ _. known_declarations rest)

  -- the field types of the constructors of each type
  abbrev pub table_of : List DeclarationSyntax → Table
  table_of [] = []
  table_of (TypeDeclaration at name constructors ∷ rest) = map (λ c. map type_meant c.fields) constructors ∷ table_of rest
  table_of (declaration ∷ rest) = table_of rest

-- the second pass: each name of a type is declared, and each array may be had
abbrev pub second_pass : Program → Checking (Unit {0})
second_pass program = known_declarations (format_or_first program.format) (type_names program.declarations) program.declarations

-- the functions that are declared, in order
abbrev pub functions_in : List DeclarationSyntax → List FunctionSyntax
functions_in [] = []
functions_in (FunctionDeclaration at function ∷ rest) = function ∷ functions_in rest
functions_in (declaration ∷ rest) = functions_in rest

-- the written types of the states that are declared; a checked program has one
abbrev pub states_in : List DeclarationSyntax → List TypeSyntax
states_in [] = []
states_in (StateDeclaration at of_type ∷ rest) = of_type ∷ states_in rest
states_in (declaration ∷ rest) = states_in rest
