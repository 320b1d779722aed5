-- The roles of a program whose functions pass the shape test have the shapes of their kinds.
use Rattle.std.proofs.Common.{◌≡◌, ℕ, zero, suc, ◌+◌, ◌<◌, Bool, true, false, List, [], ◌∷◌, length, map, Some, slice_get, slice_index_or, option_map, if◌then◌else◌, refl, sym, ap, ◌∙◌, subst, arith, add-zero, lit<}
use Rattle.std.specs.List.{All}
use Rattle.std.proofs.lemmas.List.{length-map}
use Rattle.std.proofs.lemmas.Option.{slice_get-map}
use Rattle.core_terms.specs.Types.{Ty, UnitTy}
use Rattle.core_terms.specs.Terms as tree
use Rattle.core_terms.specs.Terms.{Kind, Inner, Init, Query, Update, Program}
use Rattle.core_terms.specs.Roles.{argument_place, is_entered, role_with, roles_among, program_roles}
use Rattle.core_terms.specs.RoleTypes.{HasRoleShape, IsRole, role_parameters, role_result}
use Rattle.core_terms.specs.Typing.{is_shaped}
use Rattle.core_terms.specs.ProgramTrees.{function_of}
use Rattle.core_terms.specs.RoleViews.{HaveArguments}
use Rattle.core_terms.specs.declared.term.Function.{Function}
use Rattle.core_terms.proofs.Shapes.{roles_sound}

-- what its caller passes stands at its place among the parameters
at_its_place : (kind : Kind) (state argument : Ty) → is_entered kind ≡ true → slice_index_or (role_parameters kind state argument) (argument_place kind) UnitTy ≡ argument
at_its_place Inner state argument e = absurd (cc)
at_its_place Init state argument e = refl
at_its_place Query state argument e = refl
at_its_place Update state argument e = refl

is_there : (kind : Kind) (state argument : Ty) → is_entered kind ≡ true → argument_place kind < length (role_parameters kind state argument)
is_there Inner state argument e = absurd (cc)
is_there Init state argument e = lit< tt
is_there Query state argument e = lit< tt
is_there Update state argument e = lit< tt

-- a function that is entered, as a role, has its shape
one_shape : (P : Program) → is_shaped P ≡ true → (f : ℕ) (g : tree.Function) → slice_get P.functions f ≡ Some g → is_entered g.kind ≡ true → HasRoleShape P (role_with f g)
one_shape P e f g at n =
    let r = roles_sound P e f g at n in
    let same : r.2.function ≡ g = cc (r.2.there, at) in
    let parameters : g.parameters ≡ role_parameters g.kind P.state r.0 = sym (ap (λ (g : tree.Function). g.parameters) same) ∙ r.2.parameters in
    let result : g.result ≡ role_result g.kind P.state r.1 = sym (ap (λ (g : tree.Function). g.result) same) ∙ r.2.result in
    let argument : r.0 ≡ slice_index_or g.parameters (argument_place g.kind) UnitTy =
    sym (ap (λ ts. slice_index_or ts (argument_place g.kind) UnitTy) parameters ∙ at_its_place g.kind P.state r.0 n) in
    (r.1, subst (λ (t : Ty). IsRole P f g.kind t r.1) argument r.2, result)

-- so have those among functions of the program
shapes_among : (P : Program) → is_shaped P ≡ true → (n : ℕ) (gs : List tree.Function) → ((i : ℕ) (g : tree.Function) → slice_get gs i ≡ Some g → slice_get P.functions (n + i) ≡ Some g)
    → All (HasRoleShape P) (roles_among n gs)
shapes_among P e n [] there = λ k d h. absurd (omega (arith, h))
shapes_among P e n (g ∷ gs) there = by (is_entered g.kind) refl (shapes_among P e (suc n) gs others)
  where
    others : (i : ℕ) (x : tree.Function) → slice_get gs i ≡ Some x → slice_get P.functions (suc n + i) ≡ Some x
    others i x at = ap (slice_get P.functions) (omega arith) ∙ there (suc i) x at

    here : slice_get P.functions n ≡ Some g
    here = ap (slice_get P.functions) (sym (add-zero n)) ∙ there 0 g refl

    by : (b : Bool) → is_entered g.kind ≡ b → All (HasRoleShape P) (roles_among (suc n) gs)
        → All (HasRoleShape P) (if b then role_with n g ∷ roles_among (suc n) gs else roles_among (suc n) gs)
    by true is rest zero d h = one_shape P e n g here is
    by true is rest (suc k) d h = rest k d (omega (arith, h))
    by false is rest k d h = rest k d h

pub role_shapes : (P : Program) → is_shaped P ≡ true → All (HasRoleShape P) (program_roles P)
role_shapes P e = shapes_among P e 0 P.functions (λ i g at. ap (slice_get P.functions) (omega arith) ∙ at)

-- each function that is entered has the parameter that its caller passes
pub arguments_there : (P : Program) (types : List Ty) (functions : List Function) → P.functions ≡ map (function_of types) functions → is_shaped P ≡ true → HaveArguments functions
arguments_there P types functions same e i f at n =
    let g = function_of types f in
    let there : slice_get P.functions i ≡ Some g =
    ap (λ (gs : List tree.Function). slice_get gs i) same ∙ slice_get-map (function_of types) functions i ∙ ap (option_map (function_of types)) at in
    let r = roles_sound P e i g there n in
    let own : r.2.function ≡ g = cc (r.2.there, there) in
    let parameters : g.parameters ≡ role_parameters g.kind P.state r.0 = sym (ap (λ (g : tree.Function). g.parameters) own) ∙ r.2.parameters in
    let count : length (role_parameters g.kind P.state r.0) ≡ length f.parameters.items = ap length (sym parameters) ∙ length-map f.parameters.items _ in
    subst (λ (m : ℕ). argument_place g.kind < m) count (is_there g.kind P.state r.0 n)
