-- The rules of declarations, each by itself: names are new in their space and nothing goes beyond its limit, and what is written in types is
-- declared or may be had. What breaks such a rule, and at which place.
use Rattle.std.specs.Prelude.{◌≡◌, ℕ, ◌<◌, ◌≤◌, true, List, [], ◌∷◌, ◌++◌, length, map}
use Rattle.std.specs.List.{Contains}
use Rattle.core_terms.specs.declared.format.Format.{Format}
use Rattle.lexemes.specs.declared.place.Place.{Place}
use Rattle.auth_syntax.specs.Syntax.{NameSyntax, TypeSyntax, NamedTypeSyntax, AuthTypeSyntax, PairTypeSyntax, VecTypeSyntax, place_of_type, ParameterSyntax, FunctionSyntax, ConstructorDeclaration, DeclarationSyntax, TypeDeclaration, StateDeclaration, FunctionDeclaration, Program}
use Rattle.declared_types.specs.Declarations.{most_types, most_constructors, most_fields, most_functions, most_parameters}
use Rattle.declared_types.specs.WrittenTypes.{may_have, type_names, functions_in, states_in}
use Rattle.declared_types.specs.DeclaredPrograms.{constructors_in, format_of}
use Rattle.declared_types.specs.ScopeNames.{joined}
use Rattle.auth_types.specs.InOrder.{EachMeets, OneBreaks}
use Rattle.declared_types.specs.declared.fault.TypeKind.{TypeKind}
use Rattle.declared_types.specs.declared.fault.TypeKind.TheVariants.{Twice, Limit, NoState, NotVec, UnknownName}
use Rattle.declared_types.specs.declared.fault.Limited.{Limited}
use Rattle.declared_types.specs.declared.fault.Limited.TheVariants.{Types, Constructors, Fields, Functions, Parameters}

-- A name of a space in which these stand already: it is none of them, and they are fewer than there may be.
pub record MayStand (before : List (List ℕ)) (most : ℕ) (name : List ℕ) : Type 0 where
  pub is_new : Contains before name → ⊥
  pub has_room : length before < most

-- It is one of them; or it is new, and as many as there may be stand already.
pub data BreaksSpace (before : List (List ℕ)) (most : ℕ) (thing : Limited) : NameSyntax → TypeKind → Place → Type 0 where
  StandsTwice : {name : NameSyntax} → Contains before name.name → BreaksSpace before most thing name Twice name.at
  StandsTooMany : {name : NameSyntax} → (Contains before name.name → ⊥) → most ≤ length before → BreaksSpace before most thing name (Limit thing) name.at

-- a field of a constructor, behind others of it
abbrev pub MayHaveField : List TypeSyntax → TypeSyntax → Type 0
MayHaveField before field = length before < most_fields

pub data BreaksField : List TypeSyntax → TypeSyntax → TypeKind → Place → Type 0 where
  FieldTooMany : {before : List TypeSyntax} {field : TypeSyntax} → most_fields ≤ length before → BreaksField before field (Limit Fields) (place_of_type field)

-- A constructor, behind others of its type, where these names of constructors stand in the program before that type. Its name is the first
-- to break a rule, then how many constructors the type has, and then the fields.
abbrev pub constructor_names_before : List (List ℕ) → List ConstructorDeclaration → List (List ℕ)
constructor_names_before names before = names ++ map (λ (c : ConstructorDeclaration). c.name.name) before

pub record MayConstruct (names : List (List ℕ)) (before : List ConstructorDeclaration) (constructor : ConstructorDeclaration) : Type 0 where
  pub is_new : Contains (constructor_names_before names before) constructor.name.name → ⊥
  pub has_room : length before < most_constructors
  pub fields : EachMeets MayHaveField [] constructor.fields

pub data BreaksConstructor (names : List (List ℕ)) : List ConstructorDeclaration → ConstructorDeclaration → TypeKind → Place → Type 0 where
  ConstructorTwice : {before : List ConstructorDeclaration} {constructor : ConstructorDeclaration}
      → Contains (constructor_names_before names before) constructor.name.name → BreaksConstructor names before constructor Twice constructor.name.at
  ConstructorTooMany : {before : List ConstructorDeclaration} {constructor : ConstructorDeclaration}
      → (Contains (constructor_names_before names before) constructor.name.name → ⊥) → most_constructors ≤ length before
      → BreaksConstructor names before constructor (Limit Constructors) constructor.name.at
  InFieldTypes : {before : List ConstructorDeclaration} {constructor : ConstructorDeclaration} {kind : TypeKind} {at : Place}
      → (Contains (constructor_names_before names before) constructor.name.name → ⊥) → length before < most_constructors
      → OneBreaks MayHaveField BreaksField [] constructor.fields kind at → BreaksConstructor names before constructor kind at

-- a parameter, behind others of its function
abbrev pub parameter_names : List ParameterSyntax → List (List ℕ)
parameter_names parameters = map (λ (p : ParameterSyntax). p.name.name) parameters

abbrev pub MayHaveParameter : List ParameterSyntax → ParameterSyntax → Type 0
MayHaveParameter before parameter = MayStand (parameter_names before) most_parameters parameter.name.name

abbrev pub BreaksParameter : List ParameterSyntax → ParameterSyntax → TypeKind → Place → Type 0
BreaksParameter before parameter kind at = BreaksSpace (parameter_names before) most_parameters Parameters parameter.name kind at

-- the names of the functions and constructors that are declared
abbrev pub function_names : List DeclarationSyntax → List (List ℕ)
function_names declarations = map (λ (f : FunctionSyntax). f.name.name) (functions_in declarations)

abbrev pub constructor_names_in : List DeclarationSyntax → List (List ℕ)
constructor_names_in declarations = joined (constructors_in declarations)

-- a declaration, behind these
abbrev pub MayDeclare : List DeclarationSyntax → DeclarationSyntax → Type 0
MayDeclare before (TypeDeclaration at name constructors) =
    MayStand (type_names before) most_types name.name × EachMeets (MayConstruct (constructor_names_in before)) [] constructors
MayDeclare before (StateDeclaration at of_type) = states_in before ≡ []
MayDeclare before (FunctionDeclaration at function) =
    MayStand (function_names before) most_functions function.name.name × EachMeets MayHaveParameter [] function.parameters

pub data BreaksDeclaration (before : List DeclarationSyntax) : DeclarationSyntax → TypeKind → Place → Type 0 where
  InTypeName : {at : Place} {name : NameSyntax} {constructors : List ConstructorDeclaration} {kind : TypeKind} {place : Place}
      → BreaksSpace (type_names before) most_types Types name kind place → BreaksDeclaration before (TypeDeclaration at name constructors) kind place
  InConstructors : {at : Place} {name : NameSyntax} {constructors : List ConstructorDeclaration} {kind : TypeKind} {place : Place}
      → MayStand (type_names before) most_types name.name
      → OneBreaks (MayConstruct (constructor_names_in before)) (BreaksConstructor (constructor_names_in before)) [] constructors kind place
      → BreaksDeclaration before (TypeDeclaration at name constructors) kind place
  StateTwice : {at : Place} {of_type : TypeSyntax} → (states_in before ≡ [] → ⊥) → BreaksDeclaration before (StateDeclaration at of_type) Twice at
  InFunctionName : {at : Place} {function : FunctionSyntax} {kind : TypeKind} {place : Place}
      → BreaksSpace (function_names before) most_functions Functions function.name kind place
      → BreaksDeclaration before (FunctionDeclaration at function) kind place
  InParameters : {at : Place} {function : FunctionSyntax} {kind : TypeKind} {place : Place}
      → MayStand (function_names before) most_functions function.name.name → OneBreaks MayHaveParameter BreaksParameter [] function.parameters kind place
      → BreaksDeclaration before (FunctionDeclaration at function) kind place

-- All declarations may stand where they do, and there is a state. Else the first that may not breaks a rule; or, where all may, none is a state's.
pub record AreDeclared (program : Program) : Type 0 where
  pub all : EachMeets MayDeclare [] program.declarations
  pub has_state : states_in program.declarations ≡ [] → ⊥

pub data BreaksDeclared (program : Program) : TypeKind → Place → Type 0 where
  InDeclarations : {kind : TypeKind} {at : Place} → OneBreaks MayDeclare BreaksDeclaration [] program.declarations kind at → BreaksDeclared program kind at
  HasNoState : EachMeets MayDeclare [] program.declarations → states_in program.declarations ≡ [] → BreaksDeclared program NoState program.end

-- What a written type needs of its program: a named type that is declared, and an array that the program may have.
pub data Need : Type 0 where
  NeedsType : (name : NameSyntax) → Need
  NeedsArray : (at : Place) (n : ℕ) → Need

-- what is needed in a type, in the types of a constructor's fields, and in declarations, from left to right
abbrev pub needs_of_type : TypeSyntax → List Need
needs_of_type (NamedTypeSyntax at name) = NeedsType (record { at = at; name = name }) ∷ []
needs_of_type (AuthTypeSyntax at inner) = needs_of_type inner
needs_of_type (PairTypeSyntax at first second) = needs_of_type first ++ needs_of_type second
needs_of_type (VecTypeSyntax at n item) = NeedsArray at n ∷ needs_of_type item
needs_of_type t = []

abbrev pub needs_of_types : List TypeSyntax → List Need
needs_of_types [] = []
needs_of_types (t ∷ ts) = needs_of_type t ++ needs_of_types ts

abbrev pub needs_of_constructors : List ConstructorDeclaration → List Need
needs_of_constructors [] = []
needs_of_constructors (constructor ∷ rest) = needs_of_types constructor.fields ++ needs_of_constructors rest

abbrev pub needs_of_declaration : DeclarationSyntax → List Need
needs_of_declaration (TypeDeclaration at name constructors) = needs_of_constructors constructors
needs_of_declaration (StateDeclaration at of_type) = needs_of_type of_type
needs_of_declaration (FunctionDeclaration at function) = needs_of_types (map (λ (p : ParameterSyntax). p.of_type) function.parameters) ++ needs_of_type function.result_type

abbrev pub needs_of_declarations : List DeclarationSyntax → List Need
needs_of_declarations [] = []
needs_of_declarations (declaration ∷ rest) = needs_of_declaration declaration ++ needs_of_declarations rest

-- each of them is met, by the types that are declared anywhere in the program and by its format; else the first that isn't is told
abbrev pub IsMet : Format → List (List ℕ) → List Need → Need → Type 0
IsMet format declared before (NeedsType name) = Contains declared name.name
IsMet format declared before (NeedsArray at n) = may_have format n ≡ true

pub data BreaksNeed (format : Format) (declared : List (List ℕ)) : List Need → Need → TypeKind → Place → Type 0 where
  UnknownType : {before : List Need} {name : NameSyntax} → (Contains declared name.name → ⊥)
      → BreaksNeed format declared before (NeedsType name) UnknownName name.at
  WritesNoVec : {before : List Need} {at : Place} {n : ℕ} → (may_have format n ≡ true → ⊥)
      → BreaksNeed format declared before (NeedsArray at n) NotVec at

abbrev pub AreKnown : Program → Type 0
AreKnown program = EachMeets (IsMet (format_of program) (type_names program.declarations)) [] (needs_of_declarations program.declarations)

abbrev pub BreaksTypeNames : Program → TypeKind → Place → Type 0
BreaksTypeNames program kind at =
    OneBreaks (IsMet (format_of program) (type_names program.declarations)) (BreaksNeed (format_of program) (type_names program.declarations)) []
    (needs_of_declarations program.declarations) kind at
