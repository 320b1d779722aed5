-- The first pass is by the rules of declarations.
use Rattle.std.proofs.Common.{◌≡◌, ℕ, Bool, true, false, not, List, [], ◌∷◌, ◌++◌, ◌⊎◌, inl, inr, map, reverse, refl, sym, ap, ◌∙◌, subst, append_assoc}
use Rattle.std.specs.Bool.{Decides}
use Rattle.std.proofs.lemmas.List.{reverse-append, map-append, append-nil}
use Rattle.lexemes.specs.declared.place.Place.{Place}
use Rattle.auth_syntax.specs.Syntax.{NameSyntax, TypeSyntax, ConstructorDeclaration, DeclarationSyntax, TypeDeclaration, StateDeclaration, FunctionDeclaration, FunctionSyntax, Program}
use Rattle.declared_types.specs.Checking.{Checking, Sound, then_checked, unless_fault}
use Rattle.declared_types.specs.Declarations.{Declared, checked_constructors, checked_declaration, checked_declarations, checked_parameters, first_pass, most_functions, most_types}
use Rattle.declared_types.specs.WrittenTypes.{type_names, functions_in, states_in}
use Rattle.auth_types.specs.InOrder.{EachMeets, OneBreaks}
use Rattle.auth_types.specs.DeclarationRules.{AreDeclared, BreaksDeclared, BreaksDeclaration, BreaksSpace, BreaksConstructor, BreaksParameter, InDeclarations, HasNoState, InTypeName, InConstructors, StateTwice, InFunctionName, InParameters, MayConstruct, MayDeclare, MayHaveParameter, MayStand, constructor_names_before, constructor_names_in, function_names}
use Rattle.declared_types.specs.declared.fault.TypeKind.{TypeKind}
use Rattle.declared_types.specs.declared.fault.TypeKind.TheVariants.{NoState, Twice}
use Rattle.declared_types.specs.declared.fault.Limited.TheVariants.{Types, Functions}
use Rattle.auth_types.proofs.Ruled.{Ruled, each_checked, each_ruled, ruled_like, ruled_same, ruled_then, ruled_unless, fine, nothing_left, then_then, unless_then}
use Rattle.auth_types.proofs.RuledSpaces.{constructor_ruled, constructor_step, constructors_each, name_reverse, name_ruled, name_step, name_then, parameters_ruled}

-- some are there
abbrev has_some : {A : Type 0} → List A → Bool
has_some [] = false
has_some (x ∷ xs) = true

some_decides : {A : Type 0} (xs : List A) → Decides (not (has_some xs)) (xs ≡ [])
some_decides [] = (λ e. refl, λ e. refl)
some_decides (x ∷ xs) = (λ e. absurd (cc), λ e. absurd (cc))

there_decides : {A : Type 0} (xs : List A) → Decides (has_some xs) (xs ≡ [] → ⊥)
there_decides [] = (λ e. absurd (cc), λ h. absurd (h refl))
there_decides (x ∷ xs) = (λ e same. absurd (cc), λ h. refl)

some_more : {A : Type 0} (xs : List A) (x : A) → has_some (xs ++ x ∷ []) ≡ true
some_more [] x = refl
some_more (y ∷ xs) x = refl

-- what is declared, and what is with one declaration more
abbrev declared_as : (types constructors functions : List (List ℕ)) → Bool → Declared
declared_as types constructors functions state = record { types = types; constructors = constructors; functions = functions; state = state }

abbrev pub declared_by : List DeclarationSyntax → Declared
declared_by before = record {
  types = reverse (type_names before);
  constructors = reverse (constructor_names_in before);
  functions = reverse (function_names before);
  state = has_some (states_in before);
}

types_append : (before : List DeclarationSyntax) (d : DeclarationSyntax) → type_names (before ++ d ∷ []) ≡ type_names before ++ type_names (d ∷ [])
types_append [] d = refl
types_append (TypeDeclaration at name constructors ∷ before) d = ap (λ l. name.name ∷ l) (types_append before d)
types_append (StateDeclaration at of_type ∷ before) d = types_append before d
types_append (FunctionDeclaration at function ∷ before) d = types_append before d

functions_append : (before : List DeclarationSyntax) (d : DeclarationSyntax) → functions_in (before ++ d ∷ []) ≡ functions_in before ++ functions_in (d ∷ [])
functions_append [] d = refl
functions_append (TypeDeclaration at name constructors ∷ before) d = functions_append before d
functions_append (StateDeclaration at of_type ∷ before) d = functions_append before d
functions_append (FunctionDeclaration at function ∷ before) d = ap (λ l. function ∷ l) (functions_append before d)

states_append : (before : List DeclarationSyntax) (d : DeclarationSyntax) → states_in (before ++ d ∷ []) ≡ states_in before ++ states_in (d ∷ [])
states_append [] d = refl
states_append (TypeDeclaration at name constructors ∷ before) d = states_append before d
states_append (StateDeclaration at of_type ∷ before) d = ap (λ l. of_type ∷ l) (states_append before d)
states_append (FunctionDeclaration at function ∷ before) d = states_append before d

constructors_append : (before : List DeclarationSyntax) (d : DeclarationSyntax) → constructor_names_in (before ++ d ∷ []) ≡ constructor_names_in before ++ constructor_names_in (d ∷ [])
constructors_append [] d = refl
constructors_append (TypeDeclaration at name constructors ∷ before) d =
    ap (λ l. map (λ (c : ConstructorDeclaration). c.name.name) constructors ++ l) (constructors_append before d)
    ∙ sym (append_assoc (map (λ (c : ConstructorDeclaration). c.name.name) constructors) (constructor_names_in before) (constructor_names_in (d ∷ [])))
constructors_append (StateDeclaration at of_type ∷ before) d = constructors_append before d
constructors_append (FunctionDeclaration at function ∷ before) d = constructors_append before d

names_append : (before : List DeclarationSyntax) (d : DeclarationSyntax) → function_names (before ++ d ∷ []) ≡ function_names before ++ function_names (d ∷ [])
names_append before d =
    ap (map (λ (f : FunctionSyntax). f.name.name)) (functions_append before d)
    ∙ map-append (λ (f : FunctionSyntax). f.name.name) (functions_in before) (functions_in (d ∷ []))

nothing_more : {A : Type 0} (xs ys : List A) → ys ≡ xs ++ [] → ys ≡ xs
nothing_more xs ys is = is ∙ append-nil xs

one_more : {A : Type 0} (xs ys : List A) (x : A) → ys ≡ xs ++ x ∷ [] → reverse ys ≡ x ∷ reverse xs
one_more xs ys x is = ap reverse is ∙ reverse-append xs (x ∷ [])

with_type : (before : List DeclarationSyntax) (at : Place) (name : NameSyntax) (constructors : List ConstructorDeclaration)
    → declared_as (name.name ∷ reverse (type_names before)) (reverse (constructor_names_before (constructor_names_in before) constructors))
    (reverse (function_names before)) (has_some (states_in before))
    ≡ declared_by (before ++ TypeDeclaration at name constructors ∷ [])
with_type before at name constructors =
    let d = TypeDeclaration at name constructors in
    let types : reverse (type_names (before ++ d ∷ [])) ≡ name.name ∷ reverse (type_names before) =
    one_more (type_names before) (type_names (before ++ d ∷ [])) name.name (types_append before d) in
    let made : constructor_names_in (before ++ d ∷ []) ≡ constructor_names_before (constructor_names_in before) constructors =
    constructors_append before d ∙ ap (λ l. constructor_names_in before ++ l) (append-nil (map (λ (c : ConstructorDeclaration). c.name.name) constructors)) in
    let functions : function_names (before ++ d ∷ []) ≡ function_names before = nothing_more (function_names before) (function_names (before ++ d ∷ [])) (names_append before d) in
    let states : states_in (before ++ d ∷ []) ≡ states_in before = nothing_more (states_in before) (states_in (before ++ d ∷ [])) (states_append before d) in
    by (reverse (type_names (before ++ d ∷ []))) (reverse (constructor_names_in (before ++ d ∷ []))) (reverse (function_names (before ++ d ∷ []))) (has_some (states_in (before ++ d ∷ [])))
    types (ap reverse made) (ap reverse functions) (ap has_some states)
  where
    by : (types made functions : List (List ℕ)) (state : Bool) → types ≡ name.name ∷ reverse (type_names before)
        → made ≡ reverse (constructor_names_before (constructor_names_in before) constructors)
        → functions ≡ reverse (function_names before) → state ≡ has_some (states_in before)
        → declared_as (name.name ∷ reverse (type_names before)) (reverse (constructor_names_before (constructor_names_in before) constructors))
        (reverse (function_names before)) (has_some (states_in before))
        ≡ declared_as types made functions state
    by types made functions state a b c e = cc

with_state : (before : List DeclarationSyntax) (at : Place) (of_type : TypeSyntax)
    → declared_as (reverse (type_names before)) (reverse (constructor_names_in before)) (reverse (function_names before)) true
    ≡ declared_by (before ++ StateDeclaration at of_type ∷ [])
with_state before at of_type =
    let d = StateDeclaration at of_type in
    by (reverse (type_names (before ++ d ∷ []))) (reverse (constructor_names_in (before ++ d ∷ []))) (reverse (function_names (before ++ d ∷ []))) (has_some (states_in (before ++ d ∷ [])))
    (ap reverse (nothing_more (type_names before) (type_names (before ++ d ∷ [])) (types_append before d)))
    (ap reverse (nothing_more (constructor_names_in before) (constructor_names_in (before ++ d ∷ [])) (constructors_append before d)))
    (ap reverse (nothing_more (function_names before) (function_names (before ++ d ∷ [])) (names_append before d)))
    (ap has_some (states_append before d) ∙ some_more (states_in before) of_type)
  where
    by : (types made functions : List (List ℕ)) (state : Bool) → types ≡ reverse (type_names before) → made ≡ reverse (constructor_names_in before)
        → functions ≡ reverse (function_names before) → state ≡ true
        → declared_as (reverse (type_names before)) (reverse (constructor_names_in before)) (reverse (function_names before)) true
        ≡ declared_as types made functions state
    by types made functions state a b c e = cc

with_function : (before : List DeclarationSyntax) (at : Place) (function : FunctionSyntax)
    → declared_as (reverse (type_names before)) (reverse (constructor_names_in before)) (function.name.name ∷ reverse (function_names before)) (has_some (states_in before))
    ≡ declared_by (before ++ FunctionDeclaration at function ∷ [])
with_function before at function =
    let d = FunctionDeclaration at function in
    by (reverse (type_names (before ++ d ∷ []))) (reverse (constructor_names_in (before ++ d ∷ []))) (reverse (function_names (before ++ d ∷ []))) (has_some (states_in (before ++ d ∷ [])))
    (ap reverse (nothing_more (type_names before) (type_names (before ++ d ∷ [])) (types_append before d)))
    (ap reverse (nothing_more (constructor_names_in before) (constructor_names_in (before ++ d ∷ [])) (constructors_append before d)))
    (one_more (function_names before) (function_names (before ++ d ∷ [])) function.name.name (names_append before d))
    (ap has_some (nothing_more (states_in before) (states_in (before ++ d ∷ [])) (states_append before d)))
  where
    by : (types made functions : List (List ℕ)) (state : Bool) → types ≡ reverse (type_names before) → made ≡ reverse (constructor_names_in before)
        → functions ≡ function.name.name ∷ reverse (function_names before)
        → state ≡ has_some (states_in before)
        → declared_as (reverse (type_names before)) (reverse (constructor_names_in before)) (function.name.name ∷ reverse (function_names before)) (has_some (states_in before))
        ≡ declared_as types made functions state
    by types made functions state a b c e = cc

-- a declaration behind others
abbrev pub declaration_step : List DeclarationSyntax → DeclarationSyntax → Checking (Unit {0})
declaration_step before (TypeDeclaration at name constructors) =
    then_checked (name_step (type_names before) most_types Types name) (λ _. each_checked (constructor_step (constructor_names_in before)) [] constructors)
declaration_step before (StateDeclaration at of_type) = unless_fault (not (has_some (states_in before))) Twice at (fine)
declaration_step before (FunctionDeclaration at function) =
    then_checked (name_step (function_names before) most_functions Functions function.name) (λ _. checked_parameters [] function.parameters)

step_is : (before : List DeclarationSyntax) (d : DeclarationSyntax)
    → checked_declaration (declared_by before) d ≡ then_checked (declaration_step before d) (λ _. Sound (declared_by (before ++ d ∷ [])))
step_is before (TypeDeclaration at name constructors) =
    let d = TypeDeclaration at name constructors in
    let made = constructor_names_in before in
    let steps = each_checked (constructor_step made) [] constructors in
    let held : List (List ℕ) → Checking Declared =
    λ names. Sound (declared_as (name.name ∷ reverse (type_names before)) names (reverse (function_names before)) (has_some (states_in before))) in
    let all = then_checked (checked_constructors 0 (reverse made) constructors) held in
    let whole : all ≡ then_checked steps (λ _. Sound (declared_by (before ++ d ∷ []))) =
    ap (λ c. then_checked c held) (constructors_each made [] constructors 0 (reverse made) refl (ap reverse (sym (append-nil made))))
    ∙ then_then steps (λ _. Sound (reverse (constructor_names_before made constructors))) held
    ∙ ap (λ v. then_checked steps (λ _. Sound v)) (with_type before at name constructors) in
    name_reverse (type_names before) most_types Types name all
    ∙ name_then (type_names before) most_types Types name all
    ∙ ap (λ r. then_checked (name_step (type_names before) most_types Types name) (λ _. r)) whole
    ∙ sym (then_then (name_step (type_names before) most_types Types name) (λ _. steps) (λ _. Sound (declared_by (before ++ d ∷ []))))
step_is before (StateDeclaration at of_type) =
    ap (λ v. unless_fault (not (has_some (states_in before))) Twice at (Sound v)) (with_state before at of_type)
    ∙ sym (unless_then (not (has_some (states_in before))) Twice at (fine) (λ _. Sound (declared_by (before ++ StateDeclaration at of_type ∷ []))))
step_is before (FunctionDeclaration at function) =
    let d = FunctionDeclaration at function in
    let steps = checked_parameters [] function.parameters in
    let all = then_checked steps (λ _. Sound (declared_as (reverse (type_names before)) (reverse (constructor_names_in before))
    (function.name.name ∷ reverse (function_names before)) (has_some (states_in before)))) in
    name_reverse (function_names before) most_functions Functions function.name all
    ∙ name_then (function_names before) most_functions Functions function.name all
    ∙ ap (λ v. then_checked (name_step (function_names before) most_functions Functions function.name) (λ _. then_checked steps (λ _. Sound v))) (with_function before at function)
    ∙ sym (then_then (name_step (function_names before) most_functions Functions function.name) (λ _. steps) (λ _. Sound (declared_by (before ++ d ∷ []))))

all_steps : (before rest : List DeclarationSyntax)
    → checked_declarations (declared_by before) rest ≡ then_checked (each_checked declaration_step before rest) (λ _. Sound (declared_by (before ++ rest)))
all_steps before [] = ap (λ l. Sound (declared_by l)) (sym (append-nil before))
all_steps before (d ∷ rest) =
    ap (λ c. then_checked c (λ declared. checked_declarations declared rest)) (step_is before d)
    ∙ then_then (declaration_step before d) (λ _. Sound (declared_by (before ++ d ∷ []))) (λ declared. checked_declarations declared rest)
    ∙ ap (λ r. then_checked (declaration_step before d) (λ _. r)) (all_steps (before ++ d ∷ []) rest)
    ∙ ap (λ l. then_checked (declaration_step before d) (λ _. then_checked (each_checked declaration_step (before ++ d ∷ []) rest)
    (λ _. Sound (declared_by l)))) (append_assoc before (d ∷ []) rest)
    ∙ sym (then_then (declaration_step before d) (λ _. each_checked declaration_step (before ++ d ∷ []) rest) (λ _. Sound (declared_by (before ++ d ∷ rest))))

pub first_steps : (program : Program) → first_pass program
    ≡ then_checked (each_checked declaration_step [] program.declarations) (λ _. unless_fault (has_some (states_in program.declarations)) NoState program.end (fine))
first_steps program =
    ap (λ c. then_checked c (λ declared. unless_fault declared.state NoState program.end (fine))) (all_steps [] program.declarations)
    ∙ then_then (each_checked declaration_step [] program.declarations) (λ _. Sound (declared_by program.declarations)) (λ declared. unless_fault declared.state NoState program.end (fine))

-- what a declaration breaks
type_breaks : {before : List DeclarationSyntax} {at : Place} {name : NameSyntax} {constructors : List ConstructorDeclaration} {kind : TypeKind} {place : Place}
    → BreaksDeclaration before (TypeDeclaration at name constructors) kind place
    → BreaksSpace (type_names before) most_types Types name kind place
    ⊎ ((a : Unit {0}) × MayStand (type_names before) most_types name.name ×
    OneBreaks (MayConstruct (constructor_names_in before)) (BreaksConstructor (constructor_names_in before)) [] constructors kind place)
type_breaks (InTypeName b) = inl b
type_breaks (InConstructors may b) = inr (tt, may, b)

breaks_type : {before : List DeclarationSyntax} {at : Place} {name : NameSyntax} {constructors : List ConstructorDeclaration} {kind : TypeKind} {place : Place}
    → BreaksSpace (type_names before) most_types Types name kind place
    ⊎ ((a : Unit {0}) × MayStand (type_names before) most_types name.name ×
    OneBreaks (MayConstruct (constructor_names_in before)) (BreaksConstructor (constructor_names_in before)) [] constructors kind place)
    → BreaksDeclaration before (TypeDeclaration at name constructors) kind place
breaks_type (inl b) = InTypeName b
breaks_type (inr (a, may, b)) = InConstructors may b

state_breaks : {before : List DeclarationSyntax} {at : Place} {of_type : TypeSyntax} {kind : TypeKind} {place : Place} → BreaksDeclaration before (StateDeclaration at of_type) kind place
    → ((states_in before ≡ [] → ⊥) × (Twice ≡ kind) × (at ≡ place)) ⊎ ((states_in before ≡ []) × ⊥)
state_breaks (StateTwice never) = inl (never, refl, refl)

breaks_state : {before : List DeclarationSyntax} {at : Place} {of_type : TypeSyntax} {kind : TypeKind} {place : Place}
    → ((states_in before ≡ [] → ⊥) × (Twice ≡ kind) × (at ≡ place)) ⊎ ((states_in before ≡ []) × ⊥) → BreaksDeclaration before (StateDeclaration at of_type) kind place
breaks_state {before} {at} {of_type} {kind} (inl (never, same, here)) =
    subst (λ p. BreaksDeclaration before (StateDeclaration at of_type) kind p) here (subst (λ k. BreaksDeclaration before (StateDeclaration at of_type) k at) same (StateTwice never))
breaks_state (inr (none, never)) = absurd never

function_breaks : {before : List DeclarationSyntax} {at : Place} {function : FunctionSyntax} {kind : TypeKind} {place : Place} → BreaksDeclaration before (FunctionDeclaration at function) kind place
    → BreaksSpace (function_names before) most_functions Functions function.name kind place
    ⊎ ((a : Unit {0}) × MayStand (function_names before) most_functions function.name.name × OneBreaks MayHaveParameter BreaksParameter [] function.parameters kind place)
function_breaks (InFunctionName b) = inl b
function_breaks (InParameters may b) = inr (tt, may, b)

breaks_function : {before : List DeclarationSyntax} {at : Place} {function : FunctionSyntax} {kind : TypeKind} {place : Place}
    → BreaksSpace (function_names before) most_functions Functions function.name kind place
    ⊎ ((a : Unit {0}) × MayStand (function_names before) most_functions function.name.name × OneBreaks MayHaveParameter BreaksParameter [] function.parameters kind place)
    → BreaksDeclaration before (FunctionDeclaration at function) kind place
breaks_function (inl b) = InFunctionName b
breaks_function (inr (a, may, b)) = InParameters may b

declaration_ruled : (before : List DeclarationSyntax) (d : DeclarationSyntax) → Ruled (declaration_step before d) (λ _. MayDeclare before d) (BreaksDeclaration before d)
declaration_ruled before (TypeDeclaration at name constructors) =
    let d = TypeDeclaration at name constructors in
    let names = constructor_names_in before in
    let Stands = MayStand (type_names before) most_types name.name in
    let All = EachMeets (MayConstruct names) [] constructors in
    let Breaks : TypeKind → Place → Type 0 = OneBreaks (MayConstruct names) (BreaksConstructor names) [] constructors in
    ruled_like (declaration_step before d) (λ _. (a : Unit {0}) × Stands × All) (λ _. MayDeclare before d)
    (λ kind place. BreaksSpace (type_names before) most_types Types name kind place ⊎ ((a : Unit {0}) × Stands × Breaks kind place)) (BreaksDeclaration before d)
    (λ _ (a, stands, all). (stands, all)) (λ _ h. (tt, h.0, h.1)) (λ kind place b. breaks_type b) (λ kind place b. type_breaks b)
    (ruled_then (λ _. Stands) (BreaksSpace (type_names before) most_types Types name) (λ _ _. All) (λ _. Breaks) (name_step (type_names before) most_types Types name)
    (λ _. each_checked (constructor_step names) [] constructors) (name_ruled (type_names before) most_types Types name)
    (λ _ _. each_ruled (MayConstruct names) (BreaksConstructor names) (constructor_step names) (constructor_ruled names) [] constructors))
declaration_ruled before (StateDeclaration at of_type) =
    let d = StateDeclaration at of_type in
    let None : Type 0 = states_in before ≡ [] in
    ruled_like (declaration_step before d) (λ _. None × Unit {0}) (λ _. MayDeclare before d)
    (λ kind place. ((None → ⊥) × (Twice ≡ kind) × (at ≡ place)) ⊎ (None × ⊥)) (BreaksDeclaration before d)
    (λ _ h. h.0) (λ _ h. (h, tt)) (λ kind place b. breaks_state b) (λ kind place b. state_breaks b)
    (ruled_unless None (λ _. Unit {0}) (λ kind place. ⊥) (not (has_some (states_in before))) Twice at (fine) (some_decides (states_in before)) (λ _. nothing_left))
declaration_ruled before (FunctionDeclaration at function) =
    let d = FunctionDeclaration at function in
    let Stands = MayStand (function_names before) most_functions function.name.name in
    let All = EachMeets MayHaveParameter [] function.parameters in
    let Breaks : TypeKind → Place → Type 0 = OneBreaks MayHaveParameter BreaksParameter [] function.parameters in
    ruled_like (declaration_step before d) (λ _. (a : Unit {0}) × Stands × All) (λ _. MayDeclare before d)
    (λ kind place. BreaksSpace (function_names before) most_functions Functions function.name kind place ⊎ ((a : Unit {0}) × Stands × Breaks kind place)) (BreaksDeclaration before d)
    (λ _ (a, stands, all). (stands, all)) (λ _ h. (tt, h.0, h.1)) (λ kind place b. breaks_function b) (λ kind place b. function_breaks b)
    (ruled_then (λ _. Stands) (BreaksSpace (function_names before) most_functions Functions function.name) (λ _ _. All) (λ _. Breaks)
    (name_step (function_names before) most_functions Functions function.name)
    (λ _. checked_parameters [] function.parameters) (name_ruled (function_names before) most_functions Functions function.name)
    (λ _ _. parameters_ruled function.parameters))

-- the first pass
pub declared_ruled : (program : Program) → Ruled (first_pass program) (λ _. AreDeclared program) (BreaksDeclared program)
declared_ruled program =
    let ds = program.declarations in
    let All = EachMeets MayDeclare [] ds in
    let Some : Type 0 = states_in ds ≡ [] → ⊥ in
    let ending = unless_fault (has_some (states_in ds)) NoState program.end (fine) in
    let F : TypeKind → Place → Type 0 = OneBreaks MayDeclare BreaksDeclaration [] ds in
    let G : TypeKind → Place → Type 0 = λ kind at. ((Some → ⊥) × (NoState ≡ kind) × (program.end ≡ at)) ⊎ (Some × ⊥) in
    let steps = then_checked (each_checked declaration_step [] ds) (λ _. ending) in
    ruled_same (first_pass program) steps (λ _. AreDeclared program) (BreaksDeclared program) (first_steps program)
    (ruled_like steps (λ _. (a : Unit {0}) × All × (Some × Unit {0})) (λ _. AreDeclared program) (λ kind at. F kind at ⊎ ((a : Unit {0}) × All × G kind at)) (BreaksDeclared program)
    (λ _ (a, all, some). record { all = all; has_state = some.0 }) (λ _ h. (tt, h.all, (h.has_state, tt))) breaks broken
    (ruled_then (λ _. All) F (λ _ _. Some × Unit {0}) (λ _. G) (each_checked declaration_step [] ds) (λ _. ending)
    (each_ruled MayDeclare BreaksDeclaration declaration_step declaration_ruled [] ds)
    (λ _ _. ruled_unless Some (λ _. Unit {0}) (λ kind at. ⊥) (has_some (states_in ds)) NoState program.end (fine) (there_decides (states_in ds)) (λ _. nothing_left))))
  where
    none : {A : Type 0} (xs : List A) → ((xs ≡ [] → ⊥) → ⊥) → xs ≡ []
    none [] h = refl
    none (x ∷ xs) h = absurd (h (λ same. absurd (cc)))

    breaks : (kind : TypeKind) (at : Place) → OneBreaks MayDeclare BreaksDeclaration [] program.declarations kind at
        ⊎ ((a : Unit {0}) × EachMeets MayDeclare [] program.declarations
        × ((((states_in program.declarations ≡ [] → ⊥) → ⊥) × (NoState ≡ kind) × (program.end ≡ at)) ⊎ ((states_in program.declarations ≡ [] → ⊥) × ⊥)))
        → BreaksDeclared program kind at
    breaks kind at (inl b) = InDeclarations b
    breaks kind at (inr (a, all, inl (never, same, here))) =
        subst (λ p. BreaksDeclared program kind p) here (subst (λ k. BreaksDeclared program k program.end) same (HasNoState all (none (states_in program.declarations) never)))
    breaks kind at (inr (a, all, inr (some, never))) = absurd never

    broken : (kind : TypeKind) (at : Place) → BreaksDeclared program kind at → OneBreaks MayDeclare BreaksDeclaration [] program.declarations kind at
        ⊎ ((a : Unit {0}) × EachMeets MayDeclare [] program.declarations
        × ((((states_in program.declarations ≡ [] → ⊥) → ⊥) × (NoState ≡ kind) × (program.end ≡ at)) ⊎ ((states_in program.declarations ≡ [] → ⊥) × ⊥)))
    broken kind at (InDeclarations b) = inl b
    broken kind at (HasNoState all empty) = inr (tt, all, inl (λ some. some empty, refl, refl))
