-- Names in their spaces, fields, constructors and parameters are judged by the rules of declarations.
use Rattle.std.proofs.Common.{◌≡◌, ℕ, ◌+◌, ◌<◌, ◌≤◌, Bool, true, false, not, List, [], ◌∷◌, ◌++◌, length, map, reverse, nat_lt, if◌then◌else◌, refl, sym, ap, ◌∙◌, append_assoc, arith}
use Rattle.std.specs.Bool.{Decides}
use Rattle.std.specs.List.{Contains}
use Rattle.std.proofs.lemmas.List.{length-reverse, reverse-append, map-append, append-nil}
use Rattle.lexemes.specs.declared.place.Place.{Place}
use Rattle.auth_syntax.specs.Syntax.{NameSyntax, TypeSyntax, ParameterSyntax, ConstructorDeclaration, place_of_type}
use Rattle.declared_types.specs.Checking.{Checking, Sound, FaultAt, is_among, new_name, then_checked, unless_fault}
use Rattle.declared_types.specs.Declarations.{checked_constructor, checked_constructors, checked_fields, checked_parameters, most_constructors, most_fields, most_parameters}
use Rattle.auth_types.specs.InOrder.{EachMeets, OneBreaks}
use Rattle.auth_types.specs.DeclarationRules.{MayStand, BreaksSpace, StandsTwice, StandsTooMany, MayHaveField, BreaksField, FieldTooMany, MayConstruct, BreaksConstructor, ConstructorTwice, ConstructorTooMany, InFieldTypes, MayHaveParameter, BreaksParameter, constructor_names_before, parameter_names}
use Rattle.declared_types.specs.declared.fault.TypeKind.{TypeKind}
use Rattle.declared_types.specs.declared.fault.TypeKind.TheVariants.{Twice, Limit}
use Rattle.declared_types.specs.declared.fault.Limited.{Limited}
use Rattle.declared_types.specs.declared.fault.Limited.TheVariants.{Constructors, Fields, Parameters}
use Rattle.declared_types.proofs.NamesBefore.{among_reverse}
use Rattle.auth_types.proofs.NamedParts.{among_decides}
use Rattle.auth_types.proofs.Judging.{below_decides}
use Rattle.auth_types.proofs.JudgedNames.{one_longer}
use Rattle.auth_types.proofs.Ruled.{Ruled, fine, refused, each_checked, each_ruled, ruled_same, then_then, unless_then}

pub not_below : (a b : ℕ) → (a < b → ⊥) → b ≤ a
not_below a b never = grind arith

pub below : (a b : ℕ) → b ≤ a → a < b → ⊥
below a b full room = absurd (omega (arith, full, room))

-- a name of a space, and then the rest
abbrev pub name_step : List (List ℕ) → ℕ → Limited → NameSyntax → Checking (Unit {0})
name_step before most thing name = new_name before most thing name fine

pub name_then : {A : Type 0} (before : List (List ℕ)) (most : ℕ) (thing : Limited) (name : NameSyntax) (rest : Checking A)
    → new_name before most thing name rest ≡ then_checked (name_step before most thing name) (λ _. rest)
name_then before most thing name rest = by (is_among name.name before) (nat_lt (length before) most)
  where
    by : (b c : Bool) → (if b then FaultAt Twice name.at else (if c then rest else FaultAt (Limit thing) name.at))
        ≡ then_checked (if b then FaultAt Twice name.at else (if c then fine else FaultAt (Limit thing) name.at)) (λ _. rest)
    by true c = refl
    by false true = refl
    by false false = refl

-- in any order
pub name_reverse : {A : Type 0} (names : List (List ℕ)) (most : ℕ) (thing : Limited) (name : NameSyntax) (rest : Checking A)
    → new_name (reverse names) most thing name rest ≡ new_name names most thing name rest
name_reverse names most thing name rest =
    ap (λ b. if b then FaultAt Twice name.at else (if nat_lt (length (reverse names)) most then rest else FaultAt (Limit thing) name.at)) (among_reverse name.name names)
    ∙ ap (λ n. if is_among name.name names then FaultAt Twice name.at else (if nat_lt n most then rest else FaultAt (Limit thing) name.at)) (length-reverse names)

pub name_ruled : (before : List (List ℕ)) (most : ℕ) (thing : Limited) (name : NameSyntax)
    → Ruled (name_step before most thing name) (λ _. MayStand before most name.name) (BreaksSpace before most thing name)
name_ruled before most thing name = by (is_among name.name before) (nat_lt (length before) most) (among_decides name.name before) (below_decides (length before) most)
  where
    by : (b c : Bool) → Decides b (Contains before name.name) → Decides c (length before < most)
        → Ruled (if b then FaultAt Twice name.at else (if c then fine else FaultAt (Limit thing) name.at)) (λ _. MayStand before most name.name) (BreaksSpace before most thing name)
    by true c d e = record {
      judged = StandsTwice (d.0 refl);
      passes = λ a may. absurd (may.is_new (d.0 refl));
      tells = λ kind at b. told kind at b;
    }
      where
        told : (kind : TypeKind) (at : Place) → BreaksSpace before most thing name kind at → refused Twice name.at ≡ FaultAt kind at
        told kind at (StandsTwice has) = refl
        told kind at (StandsTooMany new full) = absurd (new (d.0 refl))
    by false true d e = record {
      judged = record { is_new = λ has. let f : false ≡ true = d.1 has in absurd (cc); has_room = e.0 refl };
      passes = λ a may. refl;
      tells = λ kind at b. told kind at b;
    }
      where
        told : (kind : TypeKind) (at : Place) → BreaksSpace before most thing name kind at → fine ≡ FaultAt kind at
        told kind at (StandsTwice has) = let f : false ≡ true = d.1 has in absurd (cc)
        told kind at (StandsTooMany new full) = absurd (below (length before) most full (e.0 refl))
    by false false d e = record {
      judged = StandsTooMany (λ has. let f : false ≡ true = d.1 has in absurd (cc)) (not_below (length before) most (λ room. let f : false ≡ true = e.1 room in absurd (cc)));
      passes = λ a may. let f : false ≡ true = e.1 may.has_room in absurd (cc);
      tells = λ kind at b. told kind at b;
    }
      where
        told : (kind : TypeKind) (at : Place) → BreaksSpace before most thing name kind at → refused (Limit thing) name.at ≡ FaultAt kind at
        told kind at (StandsTwice has) = let f : false ≡ true = d.1 has in absurd (cc)
        told kind at (StandsTooMany new full) = refl

-- fields
abbrev pub field_step : List TypeSyntax → TypeSyntax → Checking (Unit {0})
field_step before field = unless_fault (nat_lt (length before) most_fields) (Limit Fields) (place_of_type field) fine

fields_each : (front fields : List TypeSyntax) (n : ℕ) → n ≡ length front → checked_fields n fields ≡ each_checked field_step front fields
fields_each front [] n is = refl
fields_each front (field ∷ rest) n is =
    ap (λ r. unless_fault (nat_lt n most_fields) (Limit Fields) (place_of_type field) r) (fields_each (front ++ field ∷ []) rest (n + 1) (omega (arith, is, one_longer front field)))
    ∙ ap (λ n. unless_fault (nat_lt n most_fields) (Limit Fields) (place_of_type field) (each_checked field_step (front ++ field ∷ []) rest)) is
    ∙ sym (unless_then (nat_lt (length front) most_fields) (Limit Fields) (place_of_type field) fine (λ _. each_checked field_step (front ++ field ∷ []) rest))

field_ruled : (before : List TypeSyntax) (field : TypeSyntax) → Ruled (field_step before field) (λ _. MayHaveField before field) (BreaksField before field)
field_ruled before field = by (nat_lt (length before) most_fields) (below_decides (length before) most_fields)
  where
    by : (b : Bool) → Decides b (length before < most_fields) → Ruled (unless_fault b (Limit Fields) (place_of_type field) fine) (λ _. MayHaveField before field) (BreaksField before field)
    by true d = record { judged = d.0 refl; passes = λ a may. refl; tells = λ kind at b. told kind at b }
      where
        told : (kind : TypeKind) (at : Place) → BreaksField before field kind at → fine ≡ FaultAt kind at
        told kind at (FieldTooMany full) = absurd (below (length before) most_fields full (d.0 refl))
    by false d = record {
      judged = FieldTooMany (not_below (length before) most_fields (λ room. let f : false ≡ true = d.1 room in absurd (cc)));
      passes = λ a may. let f : false ≡ true = d.1 may in absurd (cc);
      tells = λ kind at b. told kind at b;
    }
      where
        told : (kind : TypeKind) (at : Place) → BreaksField before field kind at → refused (Limit Fields) (place_of_type field) ≡ FaultAt kind at
        told kind at (FieldTooMany full) = refl

pub fields_ruled : (fields : List TypeSyntax) → Ruled (checked_fields 0 fields) (λ _. EachMeets MayHaveField [] fields) (OneBreaks MayHaveField BreaksField [] fields)
fields_ruled fields =
    ruled_same (checked_fields 0 fields) (each_checked field_step [] fields) (λ _. EachMeets MayHaveField [] fields) (OneBreaks MayHaveField BreaksField [] fields) (fields_each [] fields 0 refl)
    (each_ruled MayHaveField BreaksField field_step field_ruled [] fields)

-- parameters
abbrev pub parameter_step : List ParameterSyntax → ParameterSyntax → Checking (Unit {0})
parameter_step before parameter = name_step (parameter_names before) most_parameters Parameters parameter.name

parameters_each : (front parameters : List ParameterSyntax) (before : List (List ℕ)) → before ≡ reverse (parameter_names front)
    → checked_parameters before parameters ≡ each_checked parameter_step front parameters
parameters_each front [] before is = refl
parameters_each front (parameter ∷ rest) before is =
    ap (λ r. new_name before most_parameters Parameters parameter.name r) (parameters_each (front ++ parameter ∷ []) rest (parameter.name.name ∷ before) (more is))
    ∙ ap (λ b. new_name b most_parameters Parameters parameter.name (each_checked parameter_step (front ++ parameter ∷ []) rest)) is
    ∙ name_reverse (parameter_names front) most_parameters Parameters parameter.name (each_checked parameter_step (front ++ parameter ∷ []) rest)
    ∙ name_then (parameter_names front) most_parameters Parameters parameter.name (each_checked parameter_step (front ++ parameter ∷ []) rest)
  where
    more : before ≡ reverse (parameter_names front) → parameter.name.name ∷ before ≡ reverse (parameter_names (front ++ parameter ∷ []))
    more is = ap (λ b. parameter.name.name ∷ b) is
        ∙ sym (ap reverse (map-append (λ (p : ParameterSyntax). p.name.name) front (parameter ∷ [])) ∙ reverse-append (parameter_names front) (parameter.name.name ∷ []))

pub parameters_ruled : (parameters : List ParameterSyntax)
    → Ruled (checked_parameters [] parameters) (λ _. EachMeets MayHaveParameter [] parameters) (OneBreaks MayHaveParameter BreaksParameter [] parameters)
parameters_ruled parameters =
    ruled_same (checked_parameters [] parameters) (each_checked parameter_step [] parameters) (λ _. EachMeets MayHaveParameter [] parameters)
    (OneBreaks MayHaveParameter BreaksParameter [] parameters)
    (parameters_each [] parameters [] refl)
    (each_ruled MayHaveParameter BreaksParameter parameter_step (λ before p. name_ruled (parameter_names before) most_parameters Parameters p.name) [] parameters)

-- constructors, where these names stand before their type
abbrev pub constructor_step : List (List ℕ) → List ConstructorDeclaration → ConstructorDeclaration → Checking (Unit {0})
constructor_step names before constructor = checked_constructor (length before) (constructor_names_before names before) constructor fine

constructor_then : {A : Type 0} (n : ℕ) (names : List (List ℕ)) (constructor : ConstructorDeclaration) (rest : Checking A)
    → checked_constructor n names constructor rest ≡ then_checked (checked_constructor n names constructor fine) (λ _. rest)
constructor_then n names constructor rest = by (not (is_among constructor.name.name names)) (nat_lt n most_constructors) (checked_fields 0 constructor.fields)
  where
    by : (b c : Bool) (fields : Checking (Unit {0})) → unless_fault b Twice constructor.name.at (unless_fault c (Limit Constructors) constructor.name.at (then_checked fields (λ _. rest)))
        ≡ then_checked (unless_fault b Twice constructor.name.at (unless_fault c (Limit Constructors) constructor.name.at (then_checked fields (λ _. fine)))) (λ _. rest)
    by true true (Sound a) = refl
    by true true (FaultAt kind at) = refl
    by true false fields = refl
    by false c fields = refl

names_more : (names : List (List ℕ)) (front : List ConstructorDeclaration) (constructor : ConstructorDeclaration) (held : List (List ℕ)) → held ≡ reverse (constructor_names_before names front)
    → constructor.name.name ∷ held ≡ reverse (constructor_names_before names (front ++ constructor ∷ []))
names_more names front constructor held is =
    ap (λ h. constructor.name.name ∷ h) is
    ∙ sym (ap (λ m. reverse (names ++ m)) (map-append (λ (c : ConstructorDeclaration). c.name.name) front (constructor ∷ []))
    ∙ ap reverse (sym (append_assoc names (map (λ (c : ConstructorDeclaration). c.name.name) front) (constructor.name.name ∷ [])))
    ∙ reverse-append (constructor_names_before names front) (constructor.name.name ∷ []))

pub constructors_each : (names : List (List ℕ)) (front constructors : List ConstructorDeclaration) (n : ℕ) (held : List (List ℕ)) → n ≡ length front
    → held ≡ reverse (constructor_names_before names front)
    → checked_constructors n held constructors ≡ then_checked (each_checked (constructor_step names) front constructors) (λ _. Sound (reverse (constructor_names_before names (front ++ constructors))))
constructors_each names front [] n held many is = ap Sound (is ∙ ap (λ f. reverse (constructor_names_before names f)) (sym (append-nil front)))
constructors_each names front (constructor ∷ rest) n held many is =
    let all = Sound (reverse (constructor_names_before names (front ++ constructor ∷ rest))) in
    let next = then_checked (each_checked (constructor_step names) (front ++ constructor ∷ []) rest)
    (λ _. Sound (reverse (constructor_names_before names ((front ++ constructor ∷ []) ++ rest)))) in
    ap (λ r. checked_constructor n held constructor r) (constructors_each names (front ++ constructor ∷ []) rest (n + 1) (constructor.name.name ∷ held)
    (omega (arith, many, one_longer front constructor)) (names_more names front constructor held is))
    ∙ ap (λ n. checked_constructor n held constructor next) many
    ∙ ap (λ h. checked_constructor (length front) h constructor next) is
    ∙ ap (λ b. unless_fault (not b) Twice constructor.name.at
    (unless_fault (nat_lt (length front) most_constructors) (Limit Constructors) constructor.name.at (then_checked (checked_fields 0 constructor.fields) (λ _. next))))
    (among_reverse constructor.name.name (constructor_names_before names front))
    ∙ constructor_then (length front) (constructor_names_before names front) constructor next
    ∙ ap (λ l. then_checked (constructor_step names front constructor)
    (λ _. then_checked (each_checked (constructor_step names) (front ++ constructor ∷ []) rest) (λ _. Sound (reverse (constructor_names_before names l)))))
    (append_assoc front (constructor ∷ []) rest)
    ∙ sym (then_then (constructor_step names front constructor) (λ _. each_checked (constructor_step names) (front ++ constructor ∷ []) rest) (λ _. all))

pub constructor_ruled : (names : List (List ℕ)) (before : List ConstructorDeclaration) (constructor : ConstructorDeclaration)
    → Ruled (constructor_step names before constructor) (λ _. MayConstruct names before constructor) (BreaksConstructor names before constructor)
constructor_ruled names before constructor =
    by (is_among constructor.name.name (constructor_names_before names before)) (nat_lt (length before) most_constructors) (checked_fields 0 constructor.fields)
    (among_decides constructor.name.name (constructor_names_before names before)) (below_decides (length before) most_constructors) (fields_ruled constructor.fields)
  where
    by : (b c : Bool) (fields : Checking (Unit {0})) → Decides b (Contains (constructor_names_before names before) constructor.name.name) → Decides c (length before < most_constructors)
        → Ruled fields (λ _. EachMeets MayHaveField [] constructor.fields) (OneBreaks MayHaveField BreaksField [] constructor.fields)
        → Ruled (unless_fault (not b) Twice constructor.name.at (unless_fault c (Limit Constructors) constructor.name.at (then_checked fields (λ _. fine))))
        (λ _. MayConstruct names before constructor) (BreaksConstructor names before constructor)
    by true c fields d e r = record {
      judged = ConstructorTwice (d.0 refl);
      passes = λ a may. absurd (may.is_new (d.0 refl));
      tells = λ kind at b. told kind at b;
    }
      where
        told : (kind : TypeKind) (at : Place) → BreaksConstructor names before constructor kind at → refused Twice constructor.name.at ≡ FaultAt kind at
        told kind at (ConstructorTwice has) = refl
        told kind at (ConstructorTooMany new full) = absurd (new (d.0 refl))
        told kind at (InFieldTypes new room b) = absurd (new (d.0 refl))
    by false false fields d e r = record {
      judged = ConstructorTooMany (λ has. let f : false ≡ true = d.1 has in absurd (cc)) (not_below (length before) most_constructors (λ room. let f : false ≡ true = e.1 room in absurd (cc)));
      passes = λ a may. let f : false ≡ true = e.1 may.has_room in absurd (cc);
      tells = λ kind at b. told kind at b;
    }
      where
        told : (kind : TypeKind) (at : Place) → BreaksConstructor names before constructor kind at → refused (Limit Constructors) constructor.name.at ≡ FaultAt kind at
        told kind at (ConstructorTwice has) = let f : false ≡ true = d.1 has in absurd (cc)
        told kind at (ConstructorTooMany new full) = refl
        told kind at (InFieldTypes new room b) = let f : false ≡ true = e.1 room in absurd (cc)
    by false true (Sound u) d e r = record {
      judged = record { is_new = λ has. let f : false ≡ true = d.1 has in absurd (cc); has_room = e.0 refl; fields = r.judged };
      passes = λ a may. refl;
      tells = λ kind at b. told kind at b;
    }
      where
        told : (kind : TypeKind) (at : Place) → BreaksConstructor names before constructor kind at → fine ≡ FaultAt kind at
        told kind at (ConstructorTwice has) = let f : false ≡ true = d.1 has in absurd (cc)
        told kind at (ConstructorTooMany new full) = absurd (below (length before) most_constructors full (e.0 refl))
        told kind at (InFieldTypes new room b) = let f : Sound u ≡ FaultAt kind at = r.tells kind at b in absurd (cc)
    by false true (FaultAt k p) d e r = record {
      judged = InFieldTypes (λ has. let f : false ≡ true = d.1 has in absurd (cc)) (e.0 refl) r.judged;
      passes = λ a may. let f : refused k p ≡ fine = r.passes tt may.fields in absurd (cc);
      tells = λ kind at b. told kind at b;
    }
      where
        told : (kind : TypeKind) (at : Place) → BreaksConstructor names before constructor kind at → refused k p ≡ FaultAt kind at
        told kind at (ConstructorTwice has) = let f : false ≡ true = d.1 has in absurd (cc)
        told kind at (ConstructorTooMany new full) = absurd (below (length before) most_constructors full (e.0 refl))
        told kind at (InFieldTypes new room b) = r.tells kind at b
