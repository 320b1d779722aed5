-- The names that the first pass finds are those that are declared, in order.
use Rattle.std.proofs.Common.{◌≡◌, ℕ, ◌+◌, not, List, [], ◌∷◌, ◌++◌, map, reverse, nat_lt, sym, ap, ◌∙◌, append_assoc}
use Rattle.std.proofs.lemmas.List.{append-nil, reverse-append, reverse-reverse}
use Rattle.auth_syntax.specs.Syntax.{ConstructorDeclaration, DeclarationSyntax, FunctionDeclaration, FunctionSyntax, NameSyntax, StateDeclaration, TypeDeclaration, TypeSyntax}
use Rattle.lexemes.specs.declared.place.Place.{Place}
use Rattle.declared_types.specs.Checking.{Sound, is_among}
use Rattle.declared_types.specs.DeclaredPrograms.{constructors_in}
use Rattle.declared_types.specs.Declarations.{Declared, checked_constructors, checked_declaration, checked_declarations, checked_fields, checked_parameters, most_constructors, most_functions, most_types, nothing_declared}
use Rattle.declared_types.specs.DeclaredNames.{declared_of}
use Rattle.declared_types.specs.ScopeNames.{joined, names_in}
use Rattle.declared_types.specs.WrittenTypes.{functions_in, type_names}
use Rattle.declared_types.specs.declared.declarations.Declared.{Declared as DeclaredSets}
use Rattle.declared_types.specs.declared.fault.TypeKind.TheVariants.{Limit, Twice}
use Rattle.declared_types.specs.declared.fault.Limited.TheVariants.{Constructors, Functions, Types}
use Rattle.declared_types.proofs.SoundLimits.{gives_new}
use Rattle.declared_types.proofs.SoundSteps.{Gives, given, gives_any, gives_more, gives_then, gives_unless}

-- the names behind others, the last one first
abbrev Adds : List (List ℕ) → List (List ℕ) → List (List ℕ) → Type 0
Adds before names after = reverse after ≡ reverse before ++ names

adds_none : (names : List (List ℕ)) → Adds names [] names
adds_none names = sym (append-nil (reverse names))

adds_one : (before : List (List ℕ)) (name : List ℕ) (names after : List (List ℕ)) → Adds (name ∷ before) names after
    → Adds before (name ∷ names) after
adds_one before name names after h = h ∙ ap (λ l. l ++ names) (reverse-append (name ∷ []) before) ∙ append_assoc (reverse before) (name ∷ []) names

adds_more : (before names middle others after : List (List ℕ)) → Adds before names middle → Adds middle others after
    → Adds before (names ++ others) after
adds_more before names middle others after first second = second ∙ ap (λ l. l ++ others) first ∙ append_assoc (reverse before) names others

abbrev names_of_constructors : List ConstructorDeclaration → List (List ℕ)
names_of_constructors cs = map (λ c. c.name.name) cs

constructors_added : (before : ℕ) (names : List (List ℕ)) (cs : List ConstructorDeclaration)
    → Gives (Adds names (names_of_constructors cs)) (checked_constructors before names cs)
constructors_added before names [] = adds_none names
constructors_added before names (c ∷ cs) =
    let R : List (List ℕ) → Type 0 = Adds names (c.name.name ∷ names_of_constructors cs) in
    gives_unless R (not (is_among c.name.name names)) Twice c.name.at _
    (λ _. gives_unless R (nat_lt before most_constructors) (Limit Constructors) c.name.at _
    (λ _. gives_then (λ _. Unit {0}) R (checked_fields 0 c.fields) _ (gives_any (checked_fields 0 c.fields))
    (λ _ _. gives_more (Adds (c.name.name ∷ names) (names_of_constructors cs)) R (checked_constructors (before + 1) (c.name.name ∷ names) cs)
    (λ after h. adds_one names c.name.name (names_of_constructors cs) after h)
    (constructors_added (before + 1) (c.name.name ∷ names) cs))))

-- what declarations add to what was declared before
record Declares (before : Declared) (ds : List DeclarationSyntax) (after : Declared) : Type 0 where
  types : Adds before.types (type_names ds) after.types
  constructors : Adds before.constructors (joined (constructors_in ds)) after.constructors
  functions : Adds before.functions (map (λ f. f.name.name) (functions_in ds)) after.functions

-- what the first one adds, and what those behind it add
record DeclaresNames (before : Declared) (ts cs fs : List (List ℕ)) (after : Declared) : Type 0 where
  types : Adds before.types ts after.types
  constructors : Adds before.constructors cs after.constructors
  functions : Adds before.functions fs after.functions

type_declares : (before : Declared) (at : Place) (name : NameSyntax) (cs : List ConstructorDeclaration)
    → Gives (DeclaresNames before (name.name ∷ []) (names_of_constructors cs) []) (checked_declaration before (TypeDeclaration at name cs))
type_declares before at name cs =
    let R : Declared → Type 0 = DeclaresNames before (name.name ∷ []) (names_of_constructors cs) [] in
    gives_new R before.types most_types Types name _
    (λ _ _. gives_then (Adds before.constructors (names_of_constructors cs)) R (checked_constructors 0 before.constructors cs)
    _ (constructors_added 0 before.constructors cs)
    (λ names h. record { types = reverse-append (name.name ∷ []) before.types; constructors = h; functions = adds_none before.functions }))

state_declares : (before : Declared) (at : Place) (t : TypeSyntax) → Gives (DeclaresNames before [] [] [])
    (checked_declaration before (StateDeclaration at t))
state_declares before at t = gives_unless (DeclaresNames before [] [] []) (not before.state) Twice at _
    (λ _. record { types = adds_none before.types; constructors = adds_none before.constructors; functions = adds_none before.functions })

function_declares : (before : Declared) (at : Place) (f : FunctionSyntax)
    → Gives (DeclaresNames before [] [] (f.name.name ∷ [])) (checked_declaration before (FunctionDeclaration at f))
function_declares before at f =
    let R : Declared → Type 0 = DeclaresNames before [] [] (f.name.name ∷ []) in
    gives_new R before.functions most_functions Functions f.name _
    (λ _ _. gives_then (λ _. Unit {0}) R (checked_parameters [] f.parameters) _ (gives_any (checked_parameters [] f.parameters))
    (λ _ _. record {
      types = adds_none before.types;
      constructors = adds_none before.constructors;
      functions = reverse-append (f.name.name ∷ [])
          before.functions;
    }))

declares_more : (before : Declared) (types constructors functions : List (List ℕ)) (middle : Declared) (ds : List DeclarationSyntax)
    (after : Declared)
    → DeclaresNames before types constructors functions middle → Declares middle ds after
    → DeclaresNames before (types ++ type_names ds) (constructors ++ joined (constructors_in ds))
    (functions ++ map (λ f. f.name.name) (functions_in ds)) after
declares_more before types constructors functions middle ds after first second = record {
  types = adds_more before.types types middle.types (type_names ds) after.types first.types second.types;
  constructors = adds_more before.constructors constructors middle.constructors (joined (constructors_in ds)) after.constructors first.constructors
      second.constructors;
  functions = adds_more before.functions functions middle.functions (map (λ f. f.name.name) (functions_in ds)) after.functions first.functions
      second.functions;
}

all_declare : (before : Declared) (ds : List DeclarationSyntax) → Gives (Declares before ds) (checked_declarations before ds)
all_declare before [] = record {
  types = adds_none before.types;
  constructors = adds_none before.constructors;
  functions = adds_none before.functions;
}
all_declare before (TypeDeclaration at name cs ∷ ds) =
    let Q = DeclaresNames before (name.name ∷ []) (names_of_constructors cs) [] in
    let R = Declares before (TypeDeclaration at name cs ∷ ds) in
    gives_then Q R (checked_declaration before (TypeDeclaration at name cs)) _ (type_declares before at name cs)
    (λ middle first. gives_more (Declares middle ds) R (checked_declarations middle ds)
    (λ after second. let whole = declares_more before (name.name ∷ []) (names_of_constructors cs) [] middle ds after first second in
    record { types = whole.types; constructors = whole.constructors; functions = whole.functions })
    (all_declare middle ds))
all_declare before (StateDeclaration at t ∷ ds) =
    let Q = DeclaresNames before [] [] [] in
    let R = Declares before (StateDeclaration at t ∷ ds) in
    gives_then Q R (checked_declaration before (StateDeclaration at t)) _ (state_declares before at t)
    (λ middle first. gives_more (Declares middle ds) R (checked_declarations middle ds)
    (λ after second. let whole = declares_more before [] [] [] middle ds after first second in
    record { types = whole.types; constructors = whole.constructors; functions = whole.functions })
    (all_declare middle ds))
all_declare before (FunctionDeclaration at f ∷ ds) =
    let Q = DeclaresNames before [] [] (f.name.name ∷ []) in
    let R = Declares before (FunctionDeclaration at f ∷ ds) in
    gives_then Q R (checked_declaration before (FunctionDeclaration at f)) _ (function_declares before at f)
    (λ middle first. gives_more (Declares middle ds) R (checked_declarations middle ds)
    (λ after second. let whole = declares_more before [] [] (f.name.name ∷ []) middle ds after first second in
    record { types = whole.types; constructors = whole.constructors; functions = whole.functions })
    (all_declare middle ds))

-- what the sets of the first pass hold, where it found no fault in these declarations
module _ (declared : DeclaredSets) (ds : List DeclarationSyntax) (sound : checked_declarations nothing_declared ds ≡ Sound (declared_of declared))
  where
    found : Declares nothing_declared ds (declared_of declared)
    found = given (Declares nothing_declared ds) (checked_declarations nothing_declared ds) (declared_of declared) (all_declare nothing_declared ds)
        sound

    pub types_named : names_in declared.types.keys ≡ type_names ds
    types_named = sym (reverse-reverse (names_in declared.types.keys)) ∙ found.types

    pub constructors_named : names_in declared.constructors.keys ≡ joined (constructors_in ds)
    constructors_named = sym (reverse-reverse (names_in declared.constructors.keys)) ∙ found.constructors

    pub functions_named : names_in declared.functions.keys ≡ map (λ f. f.name.name) (functions_in ds)
    functions_named = sym (reverse-reverse (names_in declared.functions.keys)) ∙ found.functions
