-- The functions that pass are those of the tree, their bodies have the types of their results, and roles have their shapes.
use Rattle.std.proofs.Common.{◌≡◌, ℕ, Bool, true, false, not, ◌&&◌, List, [], ◌∷◌, map, refl, ap, ap₂, subst}
use Rattle.std.specs.Prelude.{All}
use Rattle.std.proofs.lemmas.List.Elements.{All-cons, All-head, All-nil, All-tail}
use Rattle.core_terms.specs.Types.{Ty, UnitTy, BoolTy, IntTy, TextTy, PairTy, NamedTy, AuthTy, VecTy, same_type}
use Rattle.core_terms.specs.declared.format.Format.{Format}
use Rattle.core_terms.specs.Terms.{Expression, Function}
use Rattle.core_terms.specs.TypingRules.{HasType}
use Rattle.core_terms.specs.Terms as tree
use Rattle.core_terms.specs.Roles.{has_auth}
use Rattle.core_terms.specs.Typing.{all_shaped, all_typed, has_type}
use Rattle.core_terms.specs.RoleShapes.{shape_test}
use Rattle.core_terms.proofs.TypingComplete.{both, type_complete}
use Rattle.core_terms.proofs.SameTypes as test
use Rattle.auth_syntax.specs.Syntax.{FunctionSyntax, InitSyntax, InnerSyntax, KindSyntax, ParameterSyntax, QuerySyntax, TypeSyntax, UpdateSyntax, place_of, place_of_type}
use Rattle.declared_types.specs.Checking.{Checking, Sound}
use Rattle.declared_types.specs.WrittenTypes.{type_meant}
use Rattle.declared_types.specs.RoleRules.{checked_role, checked_roles, is_new_state, plain_argument}
use Rattle.declared_types.specs.RoleKinds.{kind_meant}
use Rattle.auth_types.specs.Bodies.{checked_function, checked_functions, elaborated, parameter_locals, wanted}
use Rattle.declared_types.specs.Signatures.{Scope}
use Rattle.declared_types.specs.DeclaredPrograms.{signature_of}
use Rattle.auth_types.specs.CheckedLaws.{HasGoodLiterals, IsScopeOf, signature, types_of_locals}
use Rattle.declared_types.specs.declared.fault.TypeKind.TheVariants.{AuthInArgument, RoleShape}
use Rattle.declared_types.proofs.SoundSteps.{Gives, gives_any, gives_more, gives_then, gives_unless}
use Rattle.auth_types.proofs.SoundBodies.{elaborated_fits, wanted_fits}

module _ (names : List (List ℕ)) where
  -- the types of the parameters
  abbrev pub parameter_types : Format → List ParameterSyntax → List Ty
  parameter_types format parameters = map (λ p. type_meant format names p.of_type) parameters

  types_of_parameters : (format : Format) (parameters : List ParameterSyntax)
      → types_of_locals (parameter_locals format names parameters) ≡ parameter_types format parameters
  types_of_parameters format [] = refl
  types_of_parameters format (p ∷ ps) = ap (λ ts. type_meant format names p.of_type ∷ ts) (types_of_parameters format ps)

  module _ (scope : Scope) where
    -- the body of a function, which has the type of its result
    abbrev pub of_its_type : FunctionSyntax → Checking Expression
    of_its_type f = wanted (place_of f.body) (type_meant scope.format names f.result_type) (elaborated scope (parameter_locals scope.format names f.parameters) f.body)

    -- a function, with its signature and its kind
    abbrev IsMade : FunctionSyntax → Function → Type 0
    IsMade f g = (signature_of scope.format names f ≡ signature g) × (kind_meant f.kind ≡ g.kind)

    is_made : (f : FunctionSyntax) → Gives (IsMade f) (checked_function names scope f)
    is_made f = gives_then (λ x. Unit {0}) (IsMade f) (of_its_type f) _ (gives_any (of_its_type f)) (λ x _. (refl, refl))

    -- what holds of each function that is made of one with such a property
    pub each_made : (Q : FunctionSyntax → Type 0) (R : Function → Type 0) → ((f : FunctionSyntax) → Q f → Gives R (checked_function names scope f))
        → (C : List Function → Type 0) → C [] → ((g : Function) (gs : List Function) → R g → C gs → C (g ∷ gs)) → (fs : List FunctionSyntax)
        → All Q fs → Gives C (checked_functions names scope fs)
    each_made Q R one C none more [] all = none
    each_made Q R one C none more (f ∷ fs) all =
        gives_then R C (checked_function names scope f) _ (one f (All-head Q f fs all))
        (λ g here. gives_then C C (checked_functions names scope fs) _ (each_made Q R one C none more fs (All-tail Q f fs all))
        (λ gs others. more g gs here others))

    -- the signatures are those of the tree
    pub signatures_kept : (fs : List FunctionSyntax) → Gives (λ gs. map (signature_of scope.format names) fs ≡ map signature gs) (checked_functions names scope fs)
    signatures_kept [] = refl
    signatures_kept (f ∷ fs) =
        gives_then (IsMade f) (λ gs. map (signature_of scope.format names) (f ∷ fs) ≡ map signature gs) (checked_function names scope f) _ (is_made f)
        (λ g here. gives_then (λ gs. map (signature_of scope.format names) fs ≡ map signature gs) (λ gs. map (signature_of scope.format names) (f ∷ fs) ≡ map signature gs)
        (checked_functions names scope fs) _ (signatures_kept fs)
        (λ gs others. ap₂ (λ s ss. s ∷ ss) here.0 others))

    -- each body has the type of its result
    module _ (P : tree.Program) (is : IsScopeOf scope P) where
      function_typed : (f : FunctionSyntax) → HasGoodLiterals f.body
          → Gives (λ g. has_type P g.parameters g.body g.result ≡ true) (checked_function names scope f)
      function_typed f good =
          let result = type_meant scope.format names f.result_type in
          let locals = parameter_locals scope.format names f.parameters in
          gives_then (λ x. HasType P (types_of_locals locals) x result) (λ g. has_type P g.parameters g.body g.result ≡ true) (of_its_type f) _
          (wanted_fits P locals (place_of f.body) result (elaborated scope locals f.body) (elaborated_fits P scope is locals f.body good))
          (λ x h. type_complete P (parameter_types scope.format f.parameters) x result
          (subst (λ env. HasType P env x result) (types_of_parameters scope.format f.parameters) h))

      pub functions_typed : (fs : List FunctionSyntax) → All (λ f. HasGoodLiterals f.body) fs
          → Gives (λ gs. all_typed P gs ≡ true) (checked_functions names scope fs)
      functions_typed =
          each_made (λ f. HasGoodLiterals f.body) (λ g. has_type P g.parameters g.body g.result ≡ true) function_typed (λ gs. all_typed P gs ≡ true)
          refl (λ g gs here others. both _ _ here others)

  module _ (format : Format) (P : tree.Program) where
    -- the written function has the shape of its role
    abbrev pub HasShape : FunctionSyntax → Type 0
    HasShape f = shape_test P (kind_meant f.kind) (parameter_types format f.parameters) (type_meant format names f.result_type) ≡ true

    -- an argument without `auth`, where the rest has its shape
    plain_sound : (f : FunctionSyntax) (fits : Bool) (argument : TypeSyntax)
        → Gives (λ _. (fits ≡ true) × (not (has_auth P.types (type_meant format names argument)) ≡ true)) (plain_argument format names P.types f fits argument)
    plain_sound f fits argument =
        let Q : Unit {0} → Type 0 = λ _. (fits ≡ true) × (not (has_auth P.types (type_meant format names argument)) ≡ true) in
        gives_unless Q fits RoleShape f.name.at _ (λ h. gives_unless Q (not (has_auth P.types (type_meant format names argument))) AuthInArgument
        (place_of_type argument) (Sound tt) (λ j. (h, j)))

    -- an update of a state gives a pair with a new one
    update_sound : (state argument result : Ty) → same_type P.state state && is_new_state P.state result ≡ true
        → not (has_auth P.types argument) ≡ true
        → shape_test P tree.Update (state ∷ argument ∷ []) result ≡ true
    update_sound state argument (PairTy new answer) h j = both _ _ (test.first_of _ _ h) (both _ _ (test.second_of (same_type P.state state) _ h) j)
    update_sound state argument UnitTy h j = absurd (let no = test.second_of (same_type P.state state) false h in cc)
    update_sound state argument BoolTy h j = absurd (let no = test.second_of (same_type P.state state) false h in cc)
    update_sound state argument IntTy h j = absurd (let no = test.second_of (same_type P.state state) false h in cc)
    update_sound state argument TextTy h j = absurd (let no = test.second_of (same_type P.state state) false h in cc)
    update_sound state argument (NamedTy number) h j = absurd (let no = test.second_of (same_type P.state state) false h in cc)
    update_sound state argument (VecTy n t) h j = absurd (let no = test.second_of (same_type P.state state) false h in cc)
    update_sound state argument (AuthTy t) h j = absurd (let no = test.second_of (same_type P.state state) false h in cc)

    role_shaped : (f : FunctionSyntax) (kind : KindSyntax) (parameters : List ParameterSyntax)
        → Gives (λ _. shape_test P (kind_meant kind) (parameter_types format parameters) (type_meant format names f.result_type) ≡ true)
        (checked_role format names P.types P.state f kind parameters)
    role_shaped f InnerSyntax parameters = refl
    role_shaped f InitSyntax [] = tt
    role_shaped f InitSyntax (a ∷ []) =
        gives_more _ _ (plain_argument format names P.types f (same_type P.state (type_meant format names f.result_type)) a.of_type) (λ _ h. both _ _ h.0 h.1)
        (plain_sound f _ a.of_type)
    role_shaped f InitSyntax (a ∷ b ∷ rest) = tt
    role_shaped f QuerySyntax [] = tt
    role_shaped f QuerySyntax (s ∷ []) = tt
    role_shaped f QuerySyntax (s ∷ a ∷ []) =
        gives_more _ _ (plain_argument format names P.types f (same_type P.state (type_meant format names s.of_type)) a.of_type) (λ _ h. both _ _ h.0 h.1)
        (plain_sound f _ a.of_type)
    role_shaped f QuerySyntax (s ∷ a ∷ b ∷ rest) = tt
    role_shaped f UpdateSyntax [] = tt
    role_shaped f UpdateSyntax (s ∷ []) = tt
    role_shaped f UpdateSyntax (s ∷ a ∷ []) =
        gives_more _ _ (plain_argument format names P.types f (same_type P.state (type_meant format names s.of_type) && is_new_state P.state
        (type_meant format names f.result_type)) a.of_type)
        (λ _ h. update_sound (type_meant format names s.of_type) (type_meant format names a.of_type) (type_meant format names f.result_type) h.0 h.1)
        (plain_sound f _ a.of_type)
    role_shaped f UpdateSyntax (s ∷ a ∷ b ∷ rest) = tt

    -- the roles that pass have their shapes
    pub roles_shaped : (fs : List FunctionSyntax) → Gives (λ _. All HasShape fs) (checked_roles format names P.types P.state fs)
    roles_shaped [] = All-nil HasShape
    roles_shaped (f ∷ fs) =
        gives_then (λ _. HasShape f) (λ _. All HasShape (f ∷ fs)) (checked_role format names P.types P.state f f.kind f.parameters)
        _ (role_shaped f f.kind f.parameters)
        (λ _ here. gives_more (λ _. All HasShape fs) (λ _. All HasShape (f ∷ fs)) (checked_roles format names P.types P.state fs)
        (λ _ others. All-cons HasShape f fs here others) (roles_shaped fs))

  pub functions_shaped : (P : tree.Program) (scope : Scope) (fs : List FunctionSyntax) → All (HasShape scope.format P) fs
      → Gives (λ gs. all_shaped P gs ≡ true) (checked_functions names scope fs)
  functions_shaped P scope =
      each_made scope (HasShape scope.format P) (λ g. shape_test P g.kind g.parameters g.result ≡ true)
      (λ f here. gives_then (λ x. Unit {0}) (λ g. shape_test P g.kind g.parameters g.result ≡ true) (of_its_type scope f)
      _ (gives_any (of_its_type scope f)) (λ x _. here))
      (λ gs. all_shaped P gs ≡ true) refl (λ g gs here others. both _ _ here others)
