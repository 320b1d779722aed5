-- What the numbered parts of a text stand for: the scope of its declarations.
use Rattle.std.proofs.Common.{◌≡◌, ℕ, ◌<◌, ◌≤◌, List, [], ◌∷◌, length, map, slice_get, Some, refl, sym, ap, ◌∙◌, subst, arith}
use Rattle.std.specs.Prelude.{All}
use Rattle.std.specs.List.{AllZip}
use Rattle.std.proofs.lemmas.List.{length-map}
use Rattle.std.proofs.lemmas.List.Elements.{All-cons, All-head, All-nil, All-tail}
use Rattle.std.proofs.lemmas.Option.{get_or_from_slice_get, slice_get_within}
use Rattle.core_terms.specs.Types.{Ty, UnitTy}
use Rattle.core_terms.specs.declared.format.Format.{Format}
use Rattle.core_terms.specs.Programs as language
use Rattle.core_terms.specs.ProgramTrees.{table_of, types_at}
use Rattle.core_terms.specs.TypeTables.{type_at}
use Rattle.core_terms.specs.declared.types.TyId.{TyId}
use Rattle.core_terms.specs.declared.term.Constructor.{Constructor}
use Rattle.core_terms.specs.declared.term.NamedType.{NamedType}
use Rattle.auth_syntax.specs.Syntax.{ConstructorDeclaration, DeclarationSyntax, FunctionDeclaration, FunctionSyntax, ParameterSyntax, StateDeclaration, TypeDeclaration}
use Rattle.auth_syntax.specs.Trees.{function_of}
use Rattle.declared_types.specs.Signatures.{Scope as MeantScope}
use Rattle.declared_types.specs.DeclaredPrograms.{constructors_in, signature_of}
use Rattle.declared_types.specs.Checking.{Sound}
use Rattle.declared_types.specs.Declarations.{checked_declarations, most_constructors, nothing_declared}
use Rattle.declared_types.specs.DeclaredNames.{declared_of}
use Rattle.declared_types.specs.Numbering.{AreConstructorsOf, AreNamedOf, IsHeadOf}
use Rattle.declared_types.specs.OverTypes.{AreNumbers}
use Rattle.declared_types.specs.ScopeNames.{constructors_meant}
use Rattle.declared_types.specs.Scopes.{AreWithin, IsConstructorWithin, IsHeadWithin, IsNamedWithin, IsWithin, scope_in, signature_meant}
use Rattle.declared_types.specs.WrittenTypes as defined
use Rattle.declared_types.specs.WrittenTypes.{functions_in, type_meant, type_names}
use Rattle.declared_types.specs.declared.declarations.Declared.{Declared}
use Rattle.declared_types.specs.declared.scope.Head.{Head}
use Rattle.declared_types.specs.declared.scope.Scope.{Scope}
use Rattle.declared_types.proofs.SoundLimits.{declarations_within}
use Rattle.declared_types.proofs.SoundLimits as limits
use Rattle.declared_types.proofs.SoundSteps.{given}
use Rattle.declared_types.proofs.TypeNumbers.{numbers_types}

-- numbers of types are within
numbers_within : (types : List Ty) (ids : List TyId) (ts : List Ty) → AreNumbers types ids ts → AreWithin (length types) ids
numbers_within types [] ts are = All-nil (λ (id : TyId). id.0 < length types)
numbers_within types (id ∷ ids) [] are = absurd (cc)
numbers_within types (id ∷ ids) (t ∷ ts) are =
    let here : slice_get types id.0 ≡ Some t = cc in
    let rest : AreNumbers types ids ts = cc in
    All-cons (λ (id : TyId). id.0 < length types) id ids (slice_get_within types id.0 t here) (numbers_within types ids ts rest)

module _ (format : Format) (names : List (List ℕ)) (types : List Ty) where
  -- the constructors of a type
  constructor_names : (ds : List ConstructorDeclaration) (cs : List Constructor) → AreConstructorsOf format names types ds cs
      → map (λ (c : Constructor). c.name) cs ≡ map (λ (d : ConstructorDeclaration). d.name.name) ds
  constructor_names [] [] are = refl
  constructor_names [] (c ∷ cs) are = absurd are
  constructor_names (d ∷ ds) [] are = absurd are
  constructor_names (d ∷ ds) (c ∷ cs) are = let here = are.0.name in let rest = constructor_names ds cs are.1 in cc

  constructor_fields : (ds : List ConstructorDeclaration) (cs : List Constructor) → AreConstructorsOf format names types ds cs
      → map (λ (c : Constructor). types_at types c.fields.items) cs ≡ map (λ (d : ConstructorDeclaration). map (type_meant format names) d.fields) ds
  constructor_fields [] [] are = refl
  constructor_fields [] (c ∷ cs) are = absurd are
  constructor_fields (d ∷ ds) [] are = absurd are
  constructor_fields (d ∷ ds) (c ∷ cs) are =
      let here : types_at types c.fields.items ≡ map (type_meant format names) d.fields =
      numbers_types types c.fields.items (map (type_meant format names) d.fields) are.0.fields in
      let rest = constructor_fields ds cs are.1 in
      cc

  constructors_within : (ds : List ConstructorDeclaration) (cs : List Constructor) → AreConstructorsOf format names types ds cs
      → All (IsConstructorWithin (length types)) cs
  constructors_within [] [] are = All-nil (IsConstructorWithin (length types))
  constructors_within [] (c ∷ cs) are = absurd are
  constructors_within (d ∷ ds) [] are = absurd are
  constructors_within (d ∷ ds) (c ∷ cs) are =
      All-cons (IsConstructorWithin (length types)) c cs (numbers_within types c.fields.items (map (type_meant format names) d.fields) are.0.fields)
      (constructors_within ds cs are.1)

  -- the named types
  pub named_names : (ds : List DeclarationSyntax) (named : List NamedType) → AreNamedOf format names types ds named
      → language.type_names named ≡ type_names ds
  named_names [] [] are = refl
  named_names [] (t ∷ named) are = absurd are
  named_names (TypeDeclaration at name cs ∷ ds) [] are = absurd are
  named_names (TypeDeclaration at name cs ∷ ds) (t ∷ named) are = let here = are.0.name in let rest = named_names ds named are.1 in cc
  named_names (StateDeclaration at t ∷ ds) named are = named_names ds named are
  named_names (FunctionDeclaration at f ∷ ds) named are = named_names ds named are

  pub named_constructors : (ds : List DeclarationSyntax) (named : List NamedType) → AreNamedOf format names types ds named
      → constructors_meant named ≡ constructors_in ds
  named_constructors [] [] are = refl
  named_constructors [] (t ∷ named) are = absurd are
  named_constructors (TypeDeclaration at name cs ∷ ds) [] are = absurd are
  named_constructors (TypeDeclaration at name cs ∷ ds) (t ∷ named) are =
      let here = constructor_names cs t.constructors.items are.0.constructors in let rest = named_constructors ds named are.1 in cc
  named_constructors (StateDeclaration at t ∷ ds) named are = named_constructors ds named are
  named_constructors (FunctionDeclaration at f ∷ ds) named are = named_constructors ds named are

  pub named_table : (ds : List DeclarationSyntax) (named : List NamedType) → AreNamedOf format names types ds named
      → table_of types named ≡ defined.table_of format names ds
  named_table [] [] are = refl
  named_table [] (t ∷ named) are = absurd are
  named_table (TypeDeclaration at name cs ∷ ds) [] are = absurd are
  named_table (TypeDeclaration at name cs ∷ ds) (t ∷ named) are =
      let here = constructor_fields cs t.constructors.items are.0.constructors in let rest = named_table ds named are.1 in cc
  named_table (StateDeclaration at t ∷ ds) named are = named_table ds named are
  named_table (FunctionDeclaration at f ∷ ds) named are = named_table ds named are

  pub named_within : (ds : List DeclarationSyntax) (named : List NamedType) → AreNamedOf format names types ds named
      → All (IsNamedWithin (length types)) named
  named_within [] [] are = All-nil (IsNamedWithin (length types))
  named_within [] (t ∷ named) are = absurd are
  named_within (TypeDeclaration at name cs ∷ ds) [] are = absurd are
  named_within (TypeDeclaration at name cs ∷ ds) (t ∷ named) are =
      All-cons (IsNamedWithin (length types)) t named (constructors_within cs t.constructors.items are.0.constructors) (named_within ds named are.1)
  named_within (StateDeclaration at t ∷ ds) named are = named_within ds named are
  named_within (FunctionDeclaration at f ∷ ds) named are = named_within ds named are

  -- no type has more constructors than there may be
  few_constructors : (named : List NamedType) → All (λ (constructors : List (List Ty)). length constructors ≤ most_constructors)
      (table_of types named)
      → All (λ (t : NamedType). length t.constructors.items ≤ 255) named
  few_constructors [] few = All-nil (λ (t : NamedType). length t.constructors.items ≤ 255)
  few_constructors (t ∷ named) few =
      let P : List (List Ty) → Type 0 = λ constructors. length constructors ≤ most_constructors in
      let row = map (λ (c : Constructor). types_at types c.fields.items) t.constructors.items in
      All-cons (λ (t : NamedType). length t.constructors.items ≤ 255) t named
      (omega (arith, All-head P row (table_of types named) few, length-map t.constructors.items (λ (c : Constructor). types_at types c.fields.items)))
      (few_constructors named (All-tail P row (table_of types named) few))

  pub named_few : (declared : Declared) (ds : List DeclarationSyntax) (named : List NamedType) → AreNamedOf format names types ds named
      → checked_declarations nothing_declared ds ≡ Sound (declared_of declared)
      → All (λ (t : NamedType). length t.constructors.items ≤ 255) named
  named_few declared ds named are sound =
      let within = given (λ _. limits.AreWithin format names nothing_declared ds) (checked_declarations nothing_declared ds) (declared_of declared)
      (declarations_within format names nothing_declared ds (omega arith) (omega arith)) sound in
      few_constructors named (subst (All (λ (constructors : List (List Ty)). length constructors ≤ most_constructors))
      (sym (named_table ds named are)) within.constructors)

  -- the functions
  head_signature_is : (f : FunctionSyntax) (head : Head) → IsHeadOf format names types f head → signature_meant types head ≡ signature_of format names f
  head_signature_is f head is =
      let name : head.function.now.name.name ≡ f.name.name = ap (λ (g : FunctionSyntax). g.name.name) is.function in
      let parameters : types_at types head.parameters.items ≡ map (λ (p : ParameterSyntax). type_meant format names p.of_type) f.parameters =
      numbers_types types head.parameters.items (map (λ (p : ParameterSyntax). type_meant format names p.of_type) f.parameters) is.parameters in
      let result : type_at types head.result ≡ type_meant format names f.result_type =
      get_or_from_slice_get types head.result.0 (type_meant format names f.result_type) UnitTy is.result in
      cc

  pub heads_signatures : (fs : List FunctionSyntax) (heads : List Head) → AllZip (IsHeadOf format names types) fs heads
      → map (signature_meant types) heads ≡ map (signature_of format names) fs
  heads_signatures [] [] are = refl
  heads_signatures [] (h ∷ heads) are = absurd are
  heads_signatures (f ∷ fs) [] are = absurd are
  heads_signatures (f ∷ fs) (h ∷ heads) are = let here = head_signature_is f h are.0 in let rest = heads_signatures fs heads are.1 in cc

  pub heads_functions : (fs : List FunctionSyntax) (heads : List Head) → AllZip (IsHeadOf format names types) fs heads
      → map (λ (h : Head). function_of h.function.now) heads ≡ fs
  heads_functions [] [] are = refl
  heads_functions [] (h ∷ heads) are = absurd are
  heads_functions (f ∷ fs) [] are = absurd are
  heads_functions (f ∷ fs) (h ∷ heads) are = let here = are.0.function in let rest = heads_functions fs heads are.1 in cc

  pub heads_names : (fs : List FunctionSyntax) (heads : List Head) → AllZip (IsHeadOf format names types) fs heads
      → map (λ (h : Head). h.function.now.name.name) heads ≡ map (λ (f : FunctionSyntax). f.name.name) fs
  heads_names [] [] are = refl
  heads_names [] (h ∷ heads) are = absurd are
  heads_names (f ∷ fs) [] are = absurd are
  heads_names (f ∷ fs) (h ∷ heads) are =
      let here : h.function.now.name.name ≡ f.name.name = ap (λ (g : FunctionSyntax). g.name.name) are.0.function in
      let rest = heads_names fs heads are.1 in
      cc

  pub heads_within : (fs : List FunctionSyntax) (heads : List Head) → AllZip (IsHeadOf format names types) fs heads → All (IsHeadWithin (length types)) heads
  heads_within [] [] are = All-nil (IsHeadWithin (length types))
  heads_within [] (h ∷ heads) are = absurd are
  heads_within (f ∷ fs) [] are = absurd are
  heads_within (f ∷ fs) (h ∷ heads) are =
      All-cons (IsHeadWithin (length types)) h heads
      (record {
        parameters = numbers_within types h.parameters.items (map (λ (p : ParameterSyntax). type_meant format names p.of_type) f.parameters)
            are.0.parameters;
        result = slice_get_within types h.result.0 (type_meant format names f.result_type) are.0.result;
      })
      (heads_within fs heads are.1)

-- the scope that these parts make
pub scope_is : (format : Format) (names : List (List ℕ)) (types : List Ty) (ds : List DeclarationSyntax) (named : List NamedType) (heads : List Head)
    → names ≡ type_names ds → AreNamedOf format names types ds named → AllZip (IsHeadOf format names types) (functions_in ds) heads
    → ◌≡◌ {A = MeantScope} (record {
      format = format;
      functions = map (signature_meant types) heads;
      constructors = constructors_meant named;
      table = table_of types
          named;
    }) (scope_in format ds)
scope_is format names types ds named heads is are signed =
    let functions : map (signature_meant types) heads ≡ map (signature_of format (type_names ds)) (functions_in ds) =
    heads_signatures format names types (functions_in ds) heads signed ∙ ap (λ ns. map (signature_of format ns) (functions_in ds)) is in
    let constructors : constructors_meant named ≡ constructors_in ds = named_constructors format names types ds named are in
    let table : table_of types named ≡ defined.table_of format (type_names ds) ds =
    named_table format names types ds named are ∙ ap (λ ns. defined.table_of format ns ds) is in
    cc

pub scope_within : (format : Format) (names : List (List ℕ)) (types : List Ty) (ds : List DeclarationSyntax) (scope : Scope)
    → AreNamedOf format names types ds scope.named.items → AllZip (IsHeadOf format names types) (functions_in ds) scope.heads.items → IsWithin (length types) scope
scope_within format names types ds scope are heads =
    record { heads = heads_within format names types (functions_in ds) scope.heads.items heads; named = named_within format names types ds scope.named.items are }
