-- Each named type in what passes is one that is declared.
use Rattle.std.proofs.Common.{◌≡◌, ℕ, zero, suc, ◌<◌, Bool, true, false, ◌||◌, List, [], ◌∷◌, length, map, Some, option_map, unwrap_or, bytes_eq, if◌then◌else◌, refl, sym, ap, subst}
use Rattle.std.specs.Prelude.{All}
use Rattle.std.proofs.lemmas.List.Elements.{All-cons, All-head, All-nil}
use Rattle.core_terms.specs.Types.{Ty, VecTy}
use Rattle.core_terms.specs.declared.format.Format.{Format}
use Rattle.core_terms.specs.Terms.{Function}
use Rattle.auth_syntax.specs.Syntax.{AuthTypeSyntax, BoolTypeSyntax, ConstructorDeclaration, DeclarationSyntax, FunctionDeclaration, FunctionSyntax, IntTypeSyntax, NamedTypeSyntax, PairTypeSyntax, VecTypeSyntax, ParameterSyntax, StateDeclaration, TextTypeSyntax, TypeDeclaration, TypeSyntax, UnitTypeSyntax}
use Rattle.declared_types.specs.Checking.{Sound, is_among}
use Rattle.declared_types.specs.WrittenTypes.{array_meant, functions_in, known_array, known_constructors, known_declarations, known_signature, known_type, known_types, may_have, number_of, states_in, table_of, type_meant, type_names}
use Rattle.auth_types.specs.Bodies.{checked_functions}
use Rattle.declared_types.specs.Signatures.{Scope}
use Rattle.declared_types.specs.DeclaredPrograms.{first_state}
use Rattle.auth_types.specs.CheckedLaws.{FunctionNamesTypesBelow, NamesTypesBelow}
use Rattle.declared_types.specs.declared.fault.TypeKind.TheVariants.{UnknownName}
use Rattle.declared_types.proofs.SoundSteps.{Gives, gives_any, gives_more, gives_then, gives_unless}
use Rattle.declared_types.proofs.SoundLimits.{rows_of}
use Rattle.declared_types.proofs.SoundNames.{number_within}
use Rattle.auth_types.proofs.SoundFunctions.{each_made, of_its_type, parameter_types}

-- there are as many types in the table as names of types
pub as_many_types : (format : Format) (names : List (List ℕ)) (ds : List DeclarationSyntax) → length (table_of format names ds) ≡ length (type_names ds)
as_many_types format names [] = refl
as_many_types format names (TypeDeclaration at name constructors ∷ ds) = ap suc (as_many_types format names ds)
as_many_types format names (StateDeclaration at t ∷ ds) = as_many_types format names ds
as_many_types format names (FunctionDeclaration at f ∷ ds) = as_many_types format names ds

-- a name that is among others has a place there
among_has_number : (names : List (List ℕ)) (name : List ℕ) → is_among name names ≡ true → (i : ℕ) × (number_of names name ≡ Some i)
among_has_number [] name among = absurd (cc)
among_has_number (other ∷ names) name among = by (bytes_eq other name) (is_among name names) (λ e. among_has_number names name e) among
  where
    by : (b rest : Bool) → (rest ≡ true → (i : ℕ) × (number_of names name ≡ Some i)) → b || rest ≡ true → (i : ℕ)
        × ((if b then Some 0 else option_map suc (number_of names name)) ≡ Some i)
    by true rest later among = (zero, refl)
    by false rest later among = let (i, is) = later among in (suc i, ap (option_map suc) is)

module _ (format : Format) (names : List (List ℕ)) where
  abbrev Below : Ty → Type 0
  Below t = NamesTypesBelow (length names) t

  named_below : (name : List ℕ) → is_among name names ≡ true → unwrap_or (number_of names name) 0 < length names
  named_below name among =
      let (i, is) = among_has_number names name among in
      subst (λ o. unwrap_or o 0 < length names) (sym is) (number_within names name i is)

  array_below : (n : ℕ) (t : Ty) → Below t → Below (array_meant format n t)
  array_below n t h = by (may_have format n)
    where
      by : (b : Bool) → Below (if b then VecTy n t else t)
      by true = h
      by false = h

  known_below : (t : TypeSyntax) → Gives (λ _. Below (type_meant format names t)) (known_type format names t)
  known_below (UnitTypeSyntax at) = tt
  known_below (BoolTypeSyntax at) = tt
  known_below (IntTypeSyntax at) = tt
  known_below (TextTypeSyntax at) = tt
  known_below (NamedTypeSyntax at name) =
      gives_unless (λ _. Below (type_meant format names (NamedTypeSyntax at name))) (is_among name names) UnknownName at (Sound tt)
      (λ among. named_below name among)
  known_below (AuthTypeSyntax at t) = known_below t
  known_below (VecTypeSyntax at n item) =
      gives_then (λ _. Unit {0}) (λ _. Below (type_meant format names (VecTypeSyntax at n item))) (known_array format at n) _ (gives_any (known_array format at n))
      (λ _ _. gives_more (λ _. Below (type_meant format names item)) (λ _. Below (type_meant format names (VecTypeSyntax at n item))) (known_type format names item)
      (λ _ h. array_below n (type_meant format names item) h) (known_below item))
  known_below (PairTypeSyntax at a b) =
      gives_then (λ _. Below (type_meant format names a)) (λ _. Below (type_meant format names (PairTypeSyntax at a b))) (known_type format names a) _ (known_below a)
      (λ _ h. gives_more (λ _. Below (type_meant format names b)) (λ _. Below (type_meant format names (PairTypeSyntax at a b))) (known_type format names b)
      (λ _ j. (h, j)) (known_below b))

  all_below : (ts : List TypeSyntax) → Gives (λ _. All Below (map (type_meant format names) ts)) (known_types format names ts)
  all_below [] = All-nil Below
  all_below (t ∷ ts) =
      gives_then (λ _. Below (type_meant format names t)) (λ _. All Below (map (type_meant format names) (t ∷ ts))) (known_type format names t) _ (known_below t)
      (λ _ h. gives_more (λ _. All Below (map (type_meant format names) ts)) (λ _. All Below (map (type_meant format names) (t ∷ ts))) (known_types format names ts)
      (λ _ j. All-cons Below (type_meant format names t) (map (type_meant format names) ts) h j) (all_below ts))

  constructors_below : (cs : List ConstructorDeclaration) → Gives (λ _. All (All Below) (rows_of format names cs)) (known_constructors format names cs)
  constructors_below [] = All-nil (All Below)
  constructors_below (c ∷ cs) =
      gives_then (λ _. All Below (map (type_meant format names) c.fields)) (λ _. All (All Below) (rows_of format names (c ∷ cs))) (known_types format names c.fields)
      _ (all_below c.fields)
      (λ _ h. gives_more (λ _. All (All Below) (rows_of format names cs)) (λ _. All (All Below) (rows_of format names (c ∷ cs))) (known_constructors format names cs)
      (λ _ j. All-cons (All Below) (map (type_meant format names) c.fields) (rows_of format names cs) h j) (constructors_below cs))

  parameters_below : (ps : List ParameterSyntax) → Gives (λ _. All Below (parameter_types names format ps)) (known_types format names (map (λ p. p.of_type) ps))
  parameters_below [] = All-nil Below
  parameters_below (p ∷ ps) =
      gives_then (λ _. Below (type_meant format names p.of_type)) (λ _. All Below (parameter_types names format (p ∷ ps))) (known_type format names p.of_type)
      _ (known_below p.of_type)
      (λ _ h. gives_more (λ _. All Below (parameter_types names format ps)) (λ _. All Below (parameter_types names format (p ∷ ps)))
      (known_types format names (map (λ p. p.of_type) ps)) (λ _ j. All-cons Below (type_meant format names p.of_type) (parameter_types names format ps) h j)
      (parameters_below ps))

  -- the types that a written function names
  abbrev pub SignatureBelow : FunctionSyntax → Type 0
  SignatureBelow f = All Below (parameter_types names format f.parameters) × Below (type_meant format names f.result_type)

  signature_below : (f : FunctionSyntax) → Gives (λ _. SignatureBelow f) (known_signature format names f)
  signature_below f =
      gives_then (λ _. All Below (parameter_types names format f.parameters)) (λ _. SignatureBelow f) (known_types format names (map (λ p. p.of_type) f.parameters))
      _ (parameters_below f.parameters)
      (λ _ h. gives_more (λ _. Below (type_meant format names f.result_type)) (λ _. SignatureBelow f) (known_type format names f.result_type) (λ _ j. (h, j))
      (known_below f.result_type))

  -- what declarations name
  pub record AreBelow (ds : List DeclarationSyntax) : Type 0 where
    pub table : All (All (All Below)) (table_of format names ds)
    pub states : All Below (map (type_meant format names) (states_in ds))
    pub functions : All SignatureBelow (functions_in ds)

  pub declarations_below : (ds : List DeclarationSyntax) → Gives (λ _. AreBelow ds) (known_declarations format names ds)
  declarations_below [] = record { table = All-nil (All (All Below)); states = All-nil Below; functions = All-nil SignatureBelow }
  declarations_below (TypeDeclaration at name cs ∷ ds) =
      gives_then (λ _. All (All Below) (rows_of format names cs)) (λ _. AreBelow (TypeDeclaration at name cs ∷ ds)) (known_constructors format names cs)
      _ (constructors_below cs)
      (λ _ h. gives_more (λ _. AreBelow ds) (λ _. AreBelow (TypeDeclaration at name cs ∷ ds)) (known_declarations format names ds)
      (λ _ j. record { table = All-cons (All (All Below)) (rows_of format names cs) (table_of format names ds) h j.table; states = j.states; functions = j.functions })
      (declarations_below ds))
  declarations_below (StateDeclaration at t ∷ ds) =
      gives_then (λ _. Below (type_meant format names t)) (λ _. AreBelow (StateDeclaration at t ∷ ds)) (known_type format names t) _ (known_below t)
      (λ _ h. gives_more (λ _. AreBelow ds) (λ _. AreBelow (StateDeclaration at t ∷ ds)) (known_declarations format names ds)
      (λ _ j. record {
        table = j.table;
        states = All-cons Below (type_meant format names t) (map (type_meant format names) (states_in ds)) h j.states;
        functions =
            j.functions;
      }) (declarations_below ds))
  declarations_below (FunctionDeclaration at f ∷ ds) =
      gives_then (λ _. SignatureBelow f) (λ _. AreBelow (FunctionDeclaration at f ∷ ds)) (known_signature format names f) _ (signature_below f)
      (λ _ h. gives_more (λ _. AreBelow ds) (λ _. AreBelow (FunctionDeclaration at f ∷ ds)) (known_declarations format names ds)
      (λ _ j. record { table = j.table; states = j.states; functions = All-cons SignatureBelow f (functions_in ds) h j.functions })
      (declarations_below ds))

  -- the state that is declared first
  pub state_below : (ts : List TypeSyntax) → All Below (map (type_meant format names) ts) → Below (first_state format names ts)
  state_below [] h = tt
  state_below (t ∷ ts) h = All-head Below (type_meant format names t) (map (type_meant format names) ts) h

-- the functions that are made name the types that are written
pub functions_below : (names : List (List ℕ)) (scope : Scope) (fs : List FunctionSyntax) → All (SignatureBelow scope.format names) fs
    → Gives (λ gs. All (FunctionNamesTypesBelow (length names)) gs) (checked_functions names scope fs)
functions_below names scope =
    let Q : Function → Type 0 = FunctionNamesTypesBelow (length names) in
    each_made names scope (SignatureBelow scope.format names) Q
    (λ f h. gives_then (λ x. Unit {0}) Q (of_its_type names scope f) _ (gives_any (of_its_type names scope f))
    (λ x _. record { parameters = h.0; result = h.1 }))
    (All Q) (All-nil Q) (λ g gs here others. All-cons Q g gs here others)
