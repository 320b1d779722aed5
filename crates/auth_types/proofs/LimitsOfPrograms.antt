-- What passes of a tree that is within the limits of trees is within those of programs, whatever the passes count themselves.
use Rattle.std.proofs.Common.{◌≡◌, ℕ, suc, ◌+◌, ◌≤◌, Bool, true, false, if◌then◌else◌, List, [], ◌∷◌, ◌++◌, length, map, refl, subst, sym, arith}
use Rattle.std.specs.Prelude.{All, flat_map}
use Rattle.std.proofs.lemmas.List.{length-map}
use Rattle.std.proofs.lemmas.List.Elements.{All-cons, All-head, All-nil, All-tail}
use Rattle.core_terms.specs.Types.{Ty, VecTy}
use Rattle.core_terms.specs.declared.format.Format.{Format}
use Rattle.core_terms.specs.Terms.{Expression, Function}
use Rattle.core_terms.specs.TypeNames as code
use Rattle.core_terms.specs.TypeNames.{AreNamed, all_constructor_names}
use Rattle.core_terms.specs.declared.term.NamedType.{NamedType}
use Rattle.core_terms.specs.ProgramLimits.{most_parameters}
use Rattle.core_terms.specs.ProgramSizes.{IsBodyWithin, IsFlatType, IsFunctionWithin, expressions_in_all, levels_of_type, locals_in}
use Rattle.auth_syntax.specs.Grammar.{expression_levels, type_levels}
use Rattle.auth_syntax.specs.Nesting.{nesting_limit}
use Rattle.auth_syntax.specs.Syntax.{AuthTypeSyntax, BoolTypeSyntax, ConstructorDeclaration, DeclarationSyntax, ExpSyntax, FunctionDeclaration, FunctionSyntax, IntTypeSyntax, NamedTypeSyntax, PairTypeSyntax, VecTypeSyntax, ParameterSyntax, StateDeclaration, TextTypeSyntax, TypeDeclaration, TypeSyntax, UnitTypeSyntax, place_of}
use Rattle.auth_syntax.specs.TreeLimits as written
use Rattle.auth_syntax.specs.TreeLimits.{bodies_in_program, names_in_declaration, names_in_program, names_in_type, types_in_declaration, types_in_program}
use Rattle.lexemes.specs.Tokens.{name_limit}
use Rattle.auth_types.specs.Bodies.{Local, checked_function, checked_functions, elaborated, most_locals, parameter_locals}
use Rattle.declared_types.specs.Signatures.{Scope}
use Rattle.declared_types.specs.DeclaredPrograms.{constructors_in, first_state}
use Rattle.declared_types.specs.WrittenTypes.{functions_in, may_have, states_in, table_of, type_meant, type_names}
use Rattle.auth_types.proofs.SoundFunctions.{each_made, of_its_type}
use Rattle.declared_types.proofs.SoundLimits.{FewParameters}
use Rattle.auth_types.proofs.SoundSizes.{IsSized, elaborated_sized, wanted_sized}
use Rattle.declared_types.proofs.SoundSteps.{Gives, gives_then}

-- the parts of a list
all_front : {A : Type 0} (P : A → Type 0) (xs ys : List A) → All P (xs ++ ys) → All P xs
all_front P [] ys h = All-nil P
all_front P (x ∷ xs) ys h = All-cons P x xs (All-head P x (xs ++ ys) h) (all_front P xs ys (All-tail P x (xs ++ ys) h))

all_back : {A : Type 0} (P : A → Type 0) (xs ys : List A) → All P (xs ++ ys) → All P ys
all_back P [] ys h = h
all_back P (x ∷ xs) ys h = all_back P xs ys (All-tail P x (xs ++ ys) h)

-- the limits of trees
abbrev HasNameSize : List ℕ → Type 0
HasNameSize name = (1 ≤ length name) × (length name ≤ name_limit)

abbrev IsFlatTree : TypeSyntax → Type 0
IsFlatTree t = type_levels t ≤ nesting_limit

abbrev IsFlatBody : ExpSyntax → Type 0
IsFlatBody body = expression_levels body ≤ nesting_limit

record IsWithin (f : FunctionSyntax) : Type 0 where
  name : HasNameSize f.name.name
  parameters : All IsFlatTree (map (λ (parameter : ParameterSyntax). parameter.of_type) f.parameters)
  result : IsFlatTree f.result_type
  body : IsFlatBody f.body

functions_within : (ds : List DeclarationSyntax) → All HasNameSize (names_in_program ds) → All IsFlatTree (types_in_program ds)
    → All IsFlatBody (bodies_in_program ds) → All IsWithin (functions_in ds)
functions_within [] names types bodies = All-nil IsWithin
functions_within (TypeDeclaration at name cs ∷ ds) names types bodies =
    functions_within ds (all_back HasNameSize (names_in_declaration (TypeDeclaration at name cs)) (names_in_program ds) names)
    (all_back IsFlatTree (types_in_declaration (TypeDeclaration at name cs)) (types_in_program ds) types) bodies
functions_within (StateDeclaration at t ∷ ds) names types bodies =
    functions_within ds (all_back HasNameSize (names_in_declaration (StateDeclaration at t)) (names_in_program ds) names)
    (All-tail IsFlatTree t (types_in_program ds) types) bodies
functions_within (FunctionDeclaration at f ∷ ds) names types bodies =
    let own = all_front HasNameSize (names_in_declaration (FunctionDeclaration at f)) (names_in_program ds) names in
    let written_types = map (λ (parameter : ParameterSyntax). parameter.of_type) f.parameters in
    let here : All IsFlatTree (written_types ++ f.result_type ∷ []) =
    all_front IsFlatTree (types_in_declaration (FunctionDeclaration at f)) (types_in_program ds) types in
    let is : IsWithin f = record {
      name = All-head HasNameSize f.name.name _ own;
      parameters = all_front IsFlatTree written_types (f.result_type ∷ []) here;
      result = All-head IsFlatTree f.result_type [] (all_back IsFlatTree written_types (f.result_type ∷ []) here);
      body = All-head IsFlatBody f.body (bodies_in_program ds) bodies;
    } in
    All-cons IsWithin f (functions_in ds) is
    (functions_within ds (all_back HasNameSize (names_in_declaration (FunctionDeclaration at f)) (names_in_program ds) names)
    (all_back IsFlatTree (types_in_declaration (FunctionDeclaration at f)) (types_in_program ds) types)
    (All-tail IsFlatBody f.body (bodies_in_program ds) bodies))

-- the names of types and of constructors
names_of_constructors : (cs : List ConstructorDeclaration)
    → All HasNameSize (flat_map (λ (constructor : ConstructorDeclaration). constructor.name.name ∷ flat_map names_in_type constructor.fields) cs)
    → All HasNameSize (map (λ (c : ConstructorDeclaration). c.name.name) cs)
names_of_constructors [] h = All-nil HasNameSize
names_of_constructors (c ∷ cs) h =
    let own = c.name.name ∷ flat_map names_in_type c.fields in
    let others = flat_map (λ (constructor : ConstructorDeclaration). constructor.name.name ∷ flat_map names_in_type constructor.fields) cs in
    All-cons HasNameSize c.name.name (map (λ (c : ConstructorDeclaration). c.name.name) cs)
    (All-head HasNameSize c.name.name (flat_map names_in_type c.fields) (all_front HasNameSize own others h))
    (names_of_constructors cs (all_back HasNameSize own others h))

record AreNamesOf (ds : List DeclarationSyntax) : Type 0 where
  types : All HasNameSize (type_names ds)
  constructors : All (All HasNameSize) (constructors_in ds)

names_of_types : (ds : List DeclarationSyntax) → All HasNameSize (names_in_program ds) → AreNamesOf ds
names_of_types [] h = record { types = All-nil HasNameSize; constructors = All-nil (All HasNameSize) }
names_of_types (TypeDeclaration at name cs ∷ ds) h =
    let own = all_front HasNameSize (names_in_declaration (TypeDeclaration at name cs)) (names_in_program ds) h in
    let rest = names_of_types ds (all_back HasNameSize (names_in_declaration (TypeDeclaration at name cs)) (names_in_program ds) h) in
    record {
      types = All-cons HasNameSize name.name (type_names ds) (All-head HasNameSize name.name _ own) rest.types;
      constructors = All-cons (All HasNameSize) (map (λ (c : ConstructorDeclaration). c.name.name) cs) (constructors_in ds)
          (names_of_constructors cs (All-tail HasNameSize name.name _ own)) rest.constructors;
    }
names_of_types (StateDeclaration at t ∷ ds) h =
    let rest = names_of_types ds (all_back HasNameSize (names_in_declaration (StateDeclaration at t)) (names_in_program ds) h) in
    record { types = rest.types; constructors = rest.constructors }
names_of_types (FunctionDeclaration at f ∷ ds) h =
    let rest = names_of_types ds (all_back HasNameSize (names_in_declaration (FunctionDeclaration at f)) (names_in_program ds) h) in
    record { types = rest.types; constructors = rest.constructors }

-- named types with the names that are declared
pub are_named : (ds : List DeclarationSyntax) (named : List NamedType) → written.IsWithinLimits ds → code.type_names named ≡ type_names ds
    → all_constructor_names named ≡ constructors_in ds → AreNamed named
are_named ds named limits types constructors =
    let names = names_of_types ds limits.names in
    record {
      types = subst (All HasNameSize) (sym types) names.types;
      constructors = subst (All (All HasNameSize)) (sym constructors) names.constructors;
    }

-- the expressions of functions in all
abbrev pub expressions_written : List FunctionSyntax → ℕ
expressions_written [] = 0
expressions_written (f ∷ fs) = written.expressions_in f.body + expressions_written fs

pub expressions_counted : (ds : List DeclarationSyntax) → written.expressions_in_program ds ≡ expressions_written (functions_in ds)
expressions_counted [] = refl
expressions_counted (TypeDeclaration at name cs ∷ ds) = omega (arith, expressions_counted ds)
expressions_counted (StateDeclaration at t ∷ ds) = omega (arith, expressions_counted ds)
expressions_counted (FunctionDeclaration at f ∷ ds) = omega (arith, expressions_counted ds)

module _ (format : Format) (names : List (List ℕ)) where
  -- a type has no more levels than it is written with
  levels_kept : (t : TypeSyntax) → levels_of_type (type_meant format names t) ≤ type_levels t
  levels_kept (UnitTypeSyntax at) = omega arith
  levels_kept (BoolTypeSyntax at) = omega arith
  levels_kept (IntTypeSyntax at) = omega arith
  levels_kept (TextTypeSyntax at) = omega arith
  levels_kept (NamedTypeSyntax at name) = omega arith
  levels_kept (AuthTypeSyntax at inner) = omega (arith, levels_kept inner)
  levels_kept (PairTypeSyntax at first second) = omega (arith, levels_kept first, levels_kept second)
  levels_kept (VecTypeSyntax at n item) = by (may_have format n) (type_meant format names item) (levels_kept item)
    where
      by : (b : Bool) (t : Ty) → levels_of_type t ≤ type_levels item → levels_of_type (if b then VecTy n t else t) ≤ suc (type_levels item)
      by true t h = omega (arith, h)
      by false t h = omega (arith, h)

  is_flat : (t : TypeSyntax) → IsFlatTree t → IsFlatType (type_meant format names t)
  is_flat t h = omega (arith, h, levels_kept t)

  flat_types : (ts : List TypeSyntax) → All IsFlatTree ts → All IsFlatType (map (type_meant format names) ts)
  flat_types [] h = All-nil IsFlatType
  flat_types (t ∷ ts) h =
      All-cons IsFlatType (type_meant format names t) (map (type_meant format names) ts) (is_flat t (All-head IsFlatTree t ts h)) (flat_types ts (All-tail IsFlatTree t ts h))

  flat_parameters : (ps : List ParameterSyntax) → All IsFlatTree (map (λ (parameter : ParameterSyntax). parameter.of_type) ps)
      → All IsFlatType (map (λ (p : ParameterSyntax). type_meant format names p.of_type) ps)
  flat_parameters [] h = All-nil IsFlatType
  flat_parameters (p ∷ ps) h =
      let others = map (λ (parameter : ParameterSyntax). parameter.of_type) ps in
      All-cons IsFlatType (type_meant format names p.of_type) (map (λ (p : ParameterSyntax). type_meant format names p.of_type) ps)
      (is_flat p.of_type (All-head IsFlatTree p.of_type others h)) (flat_parameters ps (All-tail IsFlatTree p.of_type others h))

  -- the fields of constructors
  abbrev rows : List ConstructorDeclaration → List (List Ty)
  rows cs = map (λ (c : ConstructorDeclaration). map (type_meant format names) c.fields) cs

  flat_rows : (cs : List ConstructorDeclaration) → All IsFlatTree (flat_map (λ (c : ConstructorDeclaration). c.fields) cs) → All (All IsFlatType) (rows cs)
  flat_rows [] h = All-nil (All IsFlatType)
  flat_rows (c ∷ cs) h =
      let others = flat_map (λ (c : ConstructorDeclaration). c.fields) cs in
      All-cons (All IsFlatType) (map (type_meant format names) c.fields) (rows cs) (flat_types c.fields (all_front IsFlatTree c.fields others h))
      (flat_rows cs (all_back IsFlatTree c.fields others h))

  pub flat_table : (ds : List DeclarationSyntax) → All IsFlatTree (types_in_program ds) → All (All (All IsFlatType)) (table_of format names ds)
  flat_table [] h = All-nil (All (All IsFlatType))
  flat_table (TypeDeclaration at name cs ∷ ds) h =
      let own = flat_map (λ (c : ConstructorDeclaration). c.fields) cs in
      All-cons (All (All IsFlatType)) (rows cs) (table_of format names ds) (flat_rows cs (all_front IsFlatTree own (types_in_program ds) h))
      (flat_table ds (all_back IsFlatTree own (types_in_program ds) h))
  flat_table (StateDeclaration at t ∷ ds) h = flat_table ds (All-tail IsFlatTree t (types_in_program ds) h)
  flat_table (FunctionDeclaration at f ∷ ds) h =
      flat_table ds (all_back IsFlatTree (types_in_declaration (FunctionDeclaration at f)) (types_in_program ds) h)

  pub flat_state : (ds : List DeclarationSyntax) → All IsFlatTree (types_in_program ds) → IsFlatType (first_state format names (states_in ds))
  flat_state [] h = omega arith
  flat_state (TypeDeclaration at name cs ∷ ds) h =
      flat_state ds (all_back IsFlatTree (types_in_declaration (TypeDeclaration at name cs)) (types_in_program ds) h)
  flat_state (StateDeclaration at t ∷ ds) h = is_flat t (All-head IsFlatTree t (types_in_program ds) h)
  flat_state (FunctionDeclaration at f ∷ ds) h =
      flat_state ds (all_back IsFlatTree (types_in_declaration (FunctionDeclaration at f)) (types_in_program ds) h)

module _ (names : List (List ℕ)) (scope : Scope) where
  -- the body of a function, where its parameters are the locals
  abbrev parameters_of : FunctionSyntax → List Local
  parameters_of f = parameter_locals scope.format names f.parameters

  abbrev IsBodySized : FunctionSyntax → Expression → Type 0
  IsBodySized f x = IsSized scope (length (parameters_of f)) (written.expressions_in f.body) (expression_levels f.body) x

  body_sized : (f : FunctionSyntax) → Gives (IsBodySized f) (of_its_type names scope f)
  body_sized f =
      wanted_sized scope (length (parameters_of f)) (written.expressions_in f.body) (expression_levels f.body) (place_of f.body)
      (type_meant scope.format names f.result_type) (elaborated scope (parameters_of f) f.body) (elaborated_sized scope (parameters_of f) f.body)

  -- a function of the program
  record MayPass (f : FunctionSyntax) : Type 0 where
    within : IsWithin f
    few : FewParameters f

  may_pass : (fs : List FunctionSyntax) → All IsWithin fs → All FewParameters fs → All MayPass fs
  may_pass fs within few = λ k d inside. record { within = within k d inside; few = few k d inside }

  -- within the limits, with its body
  record IsWithinWhole (g : Function) : Type 0 where
    function : IsFunctionWithin g
    body : IsBodyWithin scope.table g

  function_within : (f : FunctionSyntax) → MayPass f → Gives IsWithinWhole (checked_function names scope f)
  function_within f may =
      gives_then (IsBodySized f) IsWithinWhole (of_its_type names scope f) _ (body_sized f)
      (λ x sized.
      let count = length-map f.parameters (λ (p : ParameterSyntax). type_meant scope.format names p.of_type) in
      let locals : length (parameters_of f) ≡ length f.parameters =
      length-map f.parameters (λ (p : ParameterSyntax). record { name = p.name.name; of_type = type_meant scope.format names p.of_type }) in
      let few : length f.parameters ≤ most_parameters = may.few in
      record {
        function = record { name = may.within.name; parameters = omega (arith, few, count) };
        body = record {
          parameter_types = flat_parameters scope.format names f.parameters may.within.parameters;
          result_type = is_flat scope.format names f.result_type may.within.result;
          locals = subst (λ n. locals_in scope.table n x ≤ most_locals) (omega (arith, locals, count)) (sized.room (omega (arith, few, locals)));
          levels = omega (arith, sized.flat, may.within.body);
        };
      })

  -- each function is, and its body
  pub record FunctionsAreWithin (gs : List Function) : Type 0 where
    pub functions : All IsFunctionWithin gs
    pub bodies : All (IsBodyWithin scope.table) gs

  pub each_within : (ds : List DeclarationSyntax) → written.IsWithinLimits ds → All FewParameters (functions_in ds) → Gives FunctionsAreWithin (checked_functions names scope (functions_in ds))
  each_within ds limits few =
      each_made names scope MayPass IsWithinWhole function_within FunctionsAreWithin
      (record { functions = All-nil IsFunctionWithin; bodies = All-nil (IsBodyWithin scope.table) })
      (λ g gs here others. record {
        functions = All-cons IsFunctionWithin g gs here.function others.functions;
        bodies = All-cons (IsBodyWithin scope.table) g gs here.body others.bodies;
      })
      (functions_in ds)
      (may_pass (functions_in ds) (functions_within ds limits.names limits.types limits.bodies) few)

  -- how many expressions
  abbrev HasFew : FunctionSyntax → Function → Type 0
  HasFew f g = expressions_in_all (g ∷ []) ≤ written.expressions_in f.body

  has_few : (f : FunctionSyntax) → Gives (HasFew f) (checked_function names scope f)
  has_few f = gives_then (IsBodySized f) (HasFew f) (of_its_type names scope f) _ (body_sized f) (λ x sized. omega (arith, sized.few))

  pub few_expressions : (fs : List FunctionSyntax) → Gives (λ gs. expressions_in_all gs ≤ expressions_written fs) (checked_functions names scope fs)
  few_expressions [] = omega arith
  few_expressions (f ∷ fs) =
      gives_then (HasFew f) (λ gs. expressions_in_all gs ≤ expressions_written (f ∷ fs)) (checked_function names scope f) _ (has_few f)
      (λ g here. gives_then (λ gs. expressions_in_all gs ≤ expressions_written fs) (λ gs. expressions_in_all gs ≤ expressions_written (f ∷ fs))
      (checked_functions names scope fs) _ (few_expressions fs)
      (λ gs others. omega (arith, here, others)))
