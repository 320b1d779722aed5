-- What passes the first pass is within its limits.
use Rattle.std.proofs.Common.{◌≡◌, ℕ, suc, ◌+◌, ◌<◌, ◌≤◌, Bool, true, false, not, List, [], ◌∷◌, length, map, nat_lt, slice_index_or, if◌then◌else◌, refl, ap, subst, arith}
use Rattle.std.specs.Prelude.{All}
use Rattle.std.proofs.lemmas.Bool.{ltb-true}
use Rattle.std.proofs.lemmas.List.{length-map}
use Rattle.std.proofs.lemmas.List.Elements.{All-cons, All-map, All-nil}
use Rattle.core_terms.specs.Types.{Ty}
use Rattle.core_terms.specs.declared.format.Format.{Format}
use Rattle.auth_syntax.specs.Syntax.{ConstructorDeclaration, DeclarationSyntax, FunctionDeclaration, FunctionSyntax, NameSyntax, ParameterSyntax, StateDeclaration, TypeDeclaration, TypeSyntax, place_of_type}
use Rattle.lexemes.specs.declared.place.Place.{Place}
use Rattle.declared_types.specs.Checking.{Checking, FaultAt, is_among, new_name}
use Rattle.declared_types.specs.Declarations.{Declared, checked_constructors, checked_declaration, checked_declarations, checked_fields, checked_parameters, most_constructors, most_fields, most_functions, most_parameters, most_types}
use Rattle.declared_types.specs.WrittenTypes.{functions_in, table_of, type_meant, type_names}
use Rattle.declared_types.specs.declared.fault.TypeKind.TheVariants.{Limit, Twice}
use Rattle.declared_types.specs.declared.fault.Limited.{Limited}
use Rattle.declared_types.specs.declared.fault.Limited.TheVariants.{Constructors, Fields, Functions, Parameters, Types}
use Rattle.declared_types.proofs.SoundSteps.{Gives, gives_more, gives_then, gives_unless}

-- a new name is none of those before, and they are below the limit
pub gives_new : {A : Type 0} (R : A → Type 0) (before : List (List ℕ)) (most : ℕ) (thing : Limited) (name : NameSyntax) (rest : Checking A)
    → (is_among name.name before ≡ false → length before < most → Gives R rest) → Gives R (new_name before most thing name rest)
gives_new R before most thing name rest h =
    by (is_among name.name before) (nat_lt (length before) most) h (λ below. ltb-true (length before) most below)
  where
    by : (among below : Bool) → (among ≡ false → length before < most → Gives R rest) → (below ≡ true → length before < most)
        → Gives R (if among then FaultAt Twice name.at else (if below then rest else FaultAt (Limit thing) name.at))
    by true below h less = tt
    by false true h less = h refl (less refl)
    by false false h less = tt

fields_within : (before : ℕ) (fields : List TypeSyntax) → before ≤ most_fields
    → Gives (λ _. before + length fields ≤ most_fields) (checked_fields before fields)
fields_within before [] so_far = omega (arith, so_far)
fields_within before (field ∷ rest) so_far =
    gives_unless (λ _. before + suc (length rest) ≤ most_fields) (nat_lt before most_fields) (Limit Fields) (place_of_type field)
    (checked_fields (before + 1) rest)
    (λ less. let below : before < most_fields = ltb-true before most_fields less in
    gives_more (λ _. (before + 1) + length rest ≤ most_fields) (λ _. before + suc (length rest) ≤ most_fields) (checked_fields (before + 1) rest)
    (λ _ h. omega (arith, h)) (fields_within (before + 1) rest (omega (arith, below))))

-- the fields of each constructor
abbrev HasFewFields : ConstructorDeclaration → Type 0
HasFewFields c = length c.fields ≤ most_fields

constructors_within : (before : ℕ) (names : List (List ℕ)) (cs : List ConstructorDeclaration) → before ≤ most_constructors
    → Gives (λ _. (before + length cs ≤ most_constructors) × All HasFewFields cs) (checked_constructors before names cs)
constructors_within before names [] so_far = (omega (arith, so_far), All-nil HasFewFields)
constructors_within before names (c ∷ cs) so_far =
    let R : List (List ℕ) → Type 0 = λ _. (before + suc (length cs) ≤ most_constructors) × All HasFewFields (c ∷ cs) in
    gives_unless R (not (is_among c.name.name names)) Twice c.name.at _
    (λ _. gives_unless R (nat_lt before most_constructors) (Limit Constructors) c.name.at _
    (λ less. let below : before < most_constructors = ltb-true before most_constructors less in
    gives_then (λ _. 0 + length c.fields ≤ most_fields) R (checked_fields 0 c.fields) _ (fields_within 0 c.fields (omega arith))
    (λ _ few. gives_more (λ _. ((before + 1) + length cs ≤ most_constructors) × All HasFewFields cs) R
    (checked_constructors (before + 1) (c.name.name ∷ names) cs)
    (λ _ h. (omega (arith, h.0), All-cons HasFewFields c cs (omega (arith, few)) h.1))
    (constructors_within (before + 1) (c.name.name ∷ names) cs (omega (arith, below))))))

parameters_within : (before : List (List ℕ)) (ps : List ParameterSyntax) → length before ≤ most_parameters
    → Gives (λ _. length before + length ps ≤ most_parameters) (checked_parameters before ps)
parameters_within before [] so_far = omega (arith, so_far)
parameters_within before (p ∷ ps) so_far =
    gives_new (λ _. length before + suc (length ps) ≤ most_parameters) before most_parameters Parameters p.name
    (checked_parameters (p.name.name ∷ before) ps)
    (λ _ below. gives_more (λ _. suc (length before) + length ps ≤ most_parameters) (λ _. length before + suc (length ps) ≤ most_parameters)
    (checked_parameters (p.name.name ∷ before) ps)
    (λ _ h. omega (arith, h)) (parameters_within (p.name.name ∷ before) ps (omega (arith, below))))

-- the rows of a type in the table
abbrev pub rows_of : Format → List (List ℕ) → List ConstructorDeclaration → List (List Ty)
rows_of format names constructors = map (λ c. map (type_meant format names) c.fields) constructors

-- the rows of the table are as long as their constructors
rows_within : (format : Format) (names : List (List ℕ)) (cs : List ConstructorDeclaration) → All HasFewFields cs
    → All (λ (ts : List Ty). length ts ≤ most_fields) (rows_of format names cs)
rows_within format names cs few = All-map (λ (ts : List Ty). length ts ≤ most_fields) (λ (c : ConstructorDeclaration). map (type_meant format names) c.fields) cs
    (λ k d inside. omega (arith, few k d inside, length-map (slice_index_or cs k d).fields (type_meant format names)))

-- functions whose names are new, one after another, behind these
abbrev pub AreNew : List (List ℕ) → List FunctionSyntax → Type 0
AreNew before [] = Unit {0}
AreNew before (f ∷ fs) = (is_among f.name.name before ≡ false) × AreNew (f.name.name ∷ before) fs

-- a type that is declared behind what was declared so far
record WithType (declared : Declared) (name : NameSyntax) (cs : List ConstructorDeclaration) (next : Declared) : Type 0 where
  below : length declared.types < most_types
  constructors : length cs ≤ most_constructors
  fields : All HasFewFields cs
  types : next.types ≡ name.name ∷ declared.types
  functions : next.functions ≡ declared.functions

type_within : (declared : Declared) (at : Place) (name : NameSyntax) (cs : List ConstructorDeclaration)
    → Gives (WithType declared name cs) (checked_declaration declared (TypeDeclaration at name cs))
type_within declared at name cs =
    gives_new (WithType declared name cs) declared.types most_types Types name _
    (λ _ below. gives_then (λ _. (0 + length cs ≤ most_constructors) × All HasFewFields cs) (WithType declared name cs)
    (checked_constructors 0 declared.constructors cs) _ (constructors_within 0 declared.constructors cs (omega arith))
    (λ _ h. record { below = below; constructors = omega (arith, h.0); fields = h.1; types = refl; functions = refl }))

-- a state, which is no type and no function
record WithState (declared next : Declared) : Type 0 where
  types : next.types ≡ declared.types
  functions : next.functions ≡ declared.functions

state_within : (declared : Declared) (at : Place) (t : TypeSyntax) → Gives (WithState declared) (checked_declaration declared (StateDeclaration at t))
state_within declared at t = gives_unless (WithState declared) (not declared.state) Twice at _ (λ _. record { types = refl; functions = refl })

-- a function
record WithFunction (declared : Declared) (f : FunctionSyntax) (next : Declared) : Type 0 where
  new : is_among f.name.name declared.functions ≡ false
  below : length declared.functions < most_functions
  parameters : length f.parameters ≤ most_parameters
  types : next.types ≡ declared.types
  functions : next.functions ≡ f.name.name ∷ declared.functions

function_within : (declared : Declared) (at : Place) (f : FunctionSyntax)
    → Gives (WithFunction declared f) (checked_declaration declared (FunctionDeclaration at f))
function_within declared at f =
    gives_new (WithFunction declared f) declared.functions most_functions Functions f.name _
    (λ new below. gives_then (λ _. 0 + length f.parameters ≤ most_parameters) (WithFunction declared f) (checked_parameters [] f.parameters)
    _ (parameters_within [] f.parameters (omega arith))
    (λ _ few. record { new = new; below = below; parameters = omega (arith, few); types = refl; functions = refl }))

-- a row of the table, and a function
abbrev FewConstructors : List (List Ty) → Type 0
FewConstructors constructors = length constructors ≤ most_constructors

abbrev FewFields : List (List Ty) → Type 0
FewFields constructors = All (λ (ts : List Ty). length ts ≤ most_fields) constructors

abbrev pub FewParameters : FunctionSyntax → Type 0
FewParameters f = length f.parameters ≤ most_parameters

module _ (format : Format) (names : List (List ℕ)) where
  -- what is declared behind what was declared so far
  pub record AreWithin (declared : Declared) (ds : List DeclarationSyntax) : Type 0 where
    pub types : length declared.types + length (type_names ds) ≤ most_types
    pub constructors : All FewConstructors (table_of format names ds)
    pub fields : All FewFields (table_of format names ds)
    pub functions : length declared.functions + length (functions_in ds) ≤ most_functions
    pub parameters : All FewParameters (functions_in ds)
    pub new : AreNew declared.functions (functions_in ds)

  pub declarations_within : (declared : Declared) (ds : List DeclarationSyntax) → length declared.types ≤ most_types
      → length declared.functions ≤ most_functions
      → Gives (λ _. AreWithin declared ds) (checked_declarations declared ds)
  declarations_within declared [] few_types few_functions =
      record {
        types = omega (arith, few_types);
        constructors = All-nil FewConstructors;
        fields = All-nil FewFields;
        functions =
            omega (arith, few_functions);
        parameters = All-nil FewParameters;
        new = tt;
      }
  declarations_within declared (TypeDeclaration at name cs ∷ ds) few_types few_functions =
      let R : Declared → Type 0 = λ _. AreWithin declared (TypeDeclaration at name cs ∷ ds) in
      gives_then (WithType declared name cs) R (checked_declaration declared (TypeDeclaration at name cs)) _ (type_within declared at name cs)
      (λ next q. gives_more (λ _. AreWithin next ds) R (checked_declarations next ds)
      (λ _ h. record {
        types = omega (arith, h.types, ap length q.types);
        constructors = All-cons FewConstructors (rows_of format names cs) (table_of format names ds)
            (omega (arith, q.constructors, length-map cs (λ (c : ConstructorDeclaration). map (type_meant format names) c.fields))) h.constructors;
        fields = All-cons FewFields (rows_of format names cs) (table_of format names ds) (rows_within format names cs q.fields) h.fields;
        functions = omega (arith, h.functions, ap length q.functions);
        parameters = h.parameters;
        new = subst (λ before. AreNew before (functions_in ds)) q.functions h.new;
      })
      (declarations_within next ds (omega (arith, q.below, ap length q.types)) (omega (arith, few_functions, ap length q.functions))))
  declarations_within declared (StateDeclaration at t ∷ ds) few_types few_functions =
      let R : Declared → Type 0 = λ _. AreWithin declared (StateDeclaration at t ∷ ds) in
      gives_then (WithState declared) R (checked_declaration declared (StateDeclaration at t)) _ (state_within declared at t)
      (λ next q. gives_more (λ _. AreWithin next ds) R (checked_declarations next ds)
      (λ _ h. record {
        types = omega (arith, h.types, ap length q.types);
        constructors = h.constructors;
        fields = h.fields;
        functions = omega (arith, h.functions, ap length q.functions);
        parameters = h.parameters;
        new = subst (λ before. AreNew before (functions_in ds)) q.functions h.new;
      })
      (declarations_within next ds (omega (arith, few_types, ap length q.types)) (omega (arith, few_functions, ap length q.functions))))
  declarations_within declared (FunctionDeclaration at f ∷ ds) few_types few_functions =
      let R : Declared → Type 0 = λ _. AreWithin declared (FunctionDeclaration at f ∷ ds) in
      gives_then (WithFunction declared f) R (checked_declaration declared (FunctionDeclaration at f)) _ (function_within declared at f)
      (λ next q. gives_more (λ _. AreWithin next ds) R (checked_declarations next ds)
      (λ _ h. record {
        types = omega (arith, h.types, ap length q.types);
        constructors = h.constructors;
        fields = h.fields;
        functions = omega (arith, h.functions, ap length q.functions);
        parameters = All-cons FewParameters f (functions_in ds) q.parameters h.parameters;
        new = (q.new, subst (λ before. AreNew before (functions_in ds)) q.functions h.new);
      })
      (declarations_within next ds (omega (arith, few_types, ap length q.types)) (omega (arith, q.below, ap length q.functions))))
