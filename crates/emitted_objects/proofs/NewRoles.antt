-- The functions of a checked text: each has a parameter, and each role a word for a name, which no role before it has.
use Rattle.std.proofs.Common.{◌≡◌, ℕ, zero, suc, ◌≤◌, List, [], ◌∷◌, ◌++◌, ◌⊎◌, inl, inr, length, map, if◌then◌else◌, refl, sym, ap, ◌∙◌, subst, arith}
use Rattle.std.specs.Prelude.{All, Contains}
use Rattle.std.specs.List.{AllZip}
use Rattle.std.proofs.lemmas.List.Elements.{All-head, All-tail, Contains-append_cases, Contains-append_left, Contains-push}
use Rattle.core_terms.specs.ProgramLimits.{most_parameters}
use Rattle.core_terms.specs.Roles.{is_entered}
use Rattle.core_terms.specs.Terms.{Function, Init, Inner, Kind, Query, Update}
use Rattle.auth_syntax.specs.Grammar.{AreDeclarations}
use Rattle.auth_syntax.specs.Syntax.{DeclarationSyntax, FunctionDeclaration, FunctionSyntax, ParameterSyntax, StateDeclaration, TypeDeclaration}
use Rattle.declared_types.specs.Signatures.{Scope}
use Rattle.declared_types.specs.WrittenTypes.{functions_in, type_meant}
use Rattle.auth_types.specs.DeclarationRules.{MayDeclare, function_names}
use Rattle.auth_types.specs.InOrder.{EachMeets}
use Rattle.auth_types.specs.ProgramRules.{FunctionStandsFor}
use Rattle.object_meaning.specs.EmittablePrograms.{AreEmittable, HasNewName, IsEmittableFunction, name_taken}
use Rattle.object_meaning.specs.ReadObjects.{is_lower_name}
use Rattle.object_meaning.specs.WellFormedObjects.{IsNewName}
use Rattle.emitted_objects.proofs.DeclaredWords.{DeclareWords}
use Rattle.emitted_objects.proofs.NewNames.{among_holds, first_meets, not_among, others_meet, some_long}

-- the functions of one more declaration
function_behind : (done : List DeclarationSyntax) (d : DeclarationSyntax) → function_names (done ++ d ∷ []) ≡ function_names done ++ function_names (d ∷ [])
function_behind [] d = refl
function_behind (TypeDeclaration at name cs ∷ done) d = function_behind done d
function_behind (StateDeclaration at t ∷ done) d = function_behind done d
function_behind (FunctionDeclaration at f ∷ done) d = ap (λ l. f.name.name ∷ l) (function_behind done d)

-- what may be taken: the names of functions that are declared
abbrev AreDeclared : List DeclarationSyntax → List (List ℕ) → Type 0
AreDeclared done taken = (name : List ℕ) → Contains taken name → Contains (function_names done) name

one_name : (own name : List ℕ) → Contains (own ∷ []) name → own ≡ name
one_name own name (zero, inside, is) = is
one_name own name (suc k, inside, is) = absurd (omega (arith, inside))

taken_name : (kind : Kind) (own name : List ℕ) → Contains (if is_entered kind then own ∷ [] else []) name → own ≡ name
taken_name Inner own name has = absurd (omega (arith, has.1))
taken_name Init own name has = one_name own name has
taken_name Query own name has = one_name own name has
taken_name Update own name has = one_name own name has

name_for : (kind : Kind) (taken : List (List ℕ)) (name : List ℕ) → IsNewName is_lower_name taken name → HasNewName kind taken name
name_for Inner taken name h = tt
name_for Init taken name h = h
name_for Query taken name h = h
name_for Update taken name h = h

abbrev pub FewParameters : Function → Type 0
FewParameters g = length g.parameters ≤ most_parameters

module _ (limit : ℕ) (names : List (List ℕ)) (scope : Scope) where
  abbrev Stand : List FunctionSyntax → List Function → Type 0
  Stand fs gs = AllZip (FunctionStandsFor names scope) fs gs

  -- behind another declaration more names may be taken
  kept : (done : List DeclarationSyntax) (d : DeclarationSyntax) (taken : List (List ℕ)) → AreDeclared done taken → AreDeclared (done ++ d ∷ []) taken
  kept done d taken h name has =
      subst (λ l. Contains l name) (sym (function_behind done d)) (Contains-append_left (function_names done) (function_names (d ∷ [])) name (h name has))

  functions_emittable : (done ds : List DeclarationSyntax) (gs : List Function) (taken : List (List ℕ)) → EachMeets MayDeclare done ds → DeclareWords ds
      → AreDeclarations limit ds → Stand (functions_in ds) gs → All FewParameters gs → AreDeclared done taken → AreEmittable taken gs
  functions_emittable done [] [] taken each words formed stand few declared = tt
  functions_emittable done [] (g ∷ gs) taken each words formed stand few declared = absurd stand
  functions_emittable done (TypeDeclaration at name cs ∷ ds) gs taken each words formed stand few declared =
      functions_emittable (done ++ TypeDeclaration at name cs ∷ []) ds gs taken (others_meet each) words.1 formed.1 stand few
      (kept done (TypeDeclaration at name cs) taken declared)
  functions_emittable done (StateDeclaration at t ∷ ds) gs taken each words formed stand few declared =
      functions_emittable (done ++ StateDeclaration at t ∷ []) ds gs taken (others_meet each) words.1 formed.1 stand few
      (kept done (StateDeclaration at t) taken declared)
  functions_emittable done (FunctionDeclaration at f ∷ ds) [] taken each words formed stand few declared = absurd stand
  functions_emittable done (FunctionDeclaration at f ∷ ds) (g ∷ gs) taken each words formed stand few declared =
      let own = f.name.name in
      let d = FunctionDeclaration at f in
      let new : IsNewName is_lower_name taken own =
      record { is_formed = words.0; is_new = not_among own taken (λ among. (first_meets each).0.is_new (declared own (among_holds own taken among))) } in
      let long : 1 ≤ length (map (λ (p : ParameterSyntax). type_meant scope.format names p.of_type) f.parameters) =
      some_long (λ (p : ParameterSyntax). type_meant scope.format names p.of_type) f.parameters formed.0.has_parameter in
      let one : IsEmittableFunction taken g = record {
        name = name_for g.kind taken g.name (subst (IsNewName is_lower_name taken) (sym stand.0.name) new);
        some = omega (arith, long, ap length stand.0.parameters);
        few = All-head FewParameters g gs few;
      } in
      let more : AreDeclared (done ++ d ∷ []) (taken ++ name_taken g) = λ name has. by name (Contains-append_cases taken (name_taken g) name has) in
      (one, functions_emittable (done ++ d ∷ []) ds gs (taken ++ name_taken g) (others_meet each) words.1 formed.1 stand.1 (All-tail FewParameters g gs few) more)
    where
      by : (name : List ℕ) → Contains taken name ⊎ Contains (name_taken g) name → Contains (function_names (done ++ FunctionDeclaration at f ∷ [])) name
      by name (inl before) = kept done (FunctionDeclaration at f) taken declared name before
      by name (inr own) =
          let same : f.name.name ≡ name = sym stand.0.name ∙ taken_name g.kind g.name name own in
          subst (λ l. Contains l name) (sym (function_behind done (FunctionDeclaration at f)))
          (subst (Contains (function_names done ++ f.name.name ∷ [])) same (Contains-push (function_names done) f.name.name))

  pub text_functions : (ds : List DeclarationSyntax) (gs : List Function) → EachMeets MayDeclare [] ds → DeclareWords ds → AreDeclarations limit ds
      → Stand (functions_in ds) gs → All FewParameters gs → AreEmittable [] gs
  text_functions ds gs each words formed stand few = functions_emittable [] ds gs [] each words formed stand few (λ name has. absurd (omega (arith, has.1)))
