-- The role of a call: its function, and the type of what it gives. `role_called`, `proof_replied`, `state_behind`
use Rattle.std.proofs.Common.{◌≡◌, ℕ, ◌<◌, Bool, true, false, List, get_or, length, map, nat_lt, Some, None, option_map, slice_get, slice_index_or, unwrap_or, refl, sym, ap, ◌∙◌, subst}
use Rattle.std.specs.List.{All}
use Rattle.std.proofs.lemmas.Bool.{ltb-false, ltb-true}
use Rattle.std.proofs.lemmas.Option.{get_or_from_slice_get, slice_get-map, slice_get_past, slice_get_read, slice_get_within}
use Rattle.core_terms.specs.Programs.{meaning, types_of}
use Rattle.core_terms.specs.RoleViews.{role_kind_of, role_of}
use Rattle.core_terms.specs.Roles as definition
use Rattle.core_terms.specs.Roles.{argument_type, program_roles}
use Rattle.core_terms.specs.RoleTypes.{HasRoleShape, IsRole, ReadsState, role_parameters, role_result}
use Rattle.core_terms.specs.Terms.{Program, Kind, Inner, Init, Query, Update, Function, function_at, no_function}
use Rattle.core_terms.specs.Types.{PairTy, Ty, UnitTy}
use Rattle.core_terms.specs.declared.program.Program as code
use Rattle.core_terms.specs.declared.roles.Role.{Role}
use Rattle.mode_vm.specs.StateCalls.{TakesState}
use Rattle.session_meaning.specs.Calls.{no_role, reads_state, role_in}

-- what stands at a place, and what doesn't
pub at_place : (roles : List Role) (i n : ℕ) (role : Role) → i ≡ n → true ≡ nat_lt i (length roles) → role ≡ get_or roles i role → slice_get roles n ≡ Some role
at_place roles i n role e within is =
    subst (λ n. slice_get roles n ≡ Some role) e (slice_get_read roles (length roles) i role refl (ltb-true i (length roles) (sym within)) is)

pub past_place : (roles : List Role) (i n : ℕ) → i ≡ n → false ≡ nat_lt i (length roles) → slice_get roles n ≡ None
past_place roles i n e past = subst (λ n. slice_get roles n ≡ None) e (slice_get_past roles i (ltb-false i (length roles) (sym past)))

-- a role of the code has the shape that its kind asks for, as each role of the program has
pub shape_at : (p : code.Program) (roles : List Role) (n : ℕ) (role : Role) → map (role_of (types_of p)) roles ≡ program_roles (meaning p)
    → All (HasRoleShape (meaning p)) (program_roles (meaning p)) → slice_get roles n ≡ Some role → HasRoleShape (meaning p) (role_of (types_of p) role)
shape_at p roles n role all shapes is =
    let there : slice_get (program_roles (meaning p)) n ≡ Some (role_of (types_of p) role) =
    ap (λ rs. slice_get rs n) (sym all) ∙ slice_get-map (role_of (types_of p)) roles n ∙ ap (option_map (role_of (types_of p))) is in
    subst (HasRoleShape (meaning p)) (get_or_from_slice_get (program_roles (meaning p)) n (role_of (types_of p) role) (role_of (types_of p) role) there)
    (shapes n (role_of (types_of p) role) (slice_get_within (program_roles (meaning p)) n (role_of (types_of p) role) there))

-- the same role in the definitions, and that of a number past the last
pub same_role : (p : code.Program) (roles : List Role) (n : ℕ) (role : Role) → map (role_of (types_of p)) roles ≡ program_roles (meaning p) → slice_get roles n ≡ Some role
    → role_of (types_of p) role ≡ role_in (meaning p) n
same_role p roles n role all is =
    sym (ap (λ o. unwrap_or o no_role) (ap (λ rs. slice_get rs n) (sym all) ∙ slice_get-map (role_of (types_of p)) roles n ∙ ap (option_map (role_of (types_of p))) is))

pub no_role_reads : (p : code.Program) (roles : List Role) (n : ℕ) → map (role_of (types_of p)) roles ≡ program_roles (meaning p) → slice_get roles n ≡ None
    → reads_state (role_in (meaning p) n).kind ≡ false
no_role_reads p roles n all is =
    ap (λ o. reads_state (unwrap_or o no_role).kind) (ap (λ rs. slice_get rs n) (sym all) ∙ slice_get-map (role_of (types_of p)) roles n ∙ ap (option_map (role_of (types_of p))) is)

-- a role of a kind that reads the state, or that doesn't
pub reads_so : (p : code.Program) (roles : List Role) (n : ℕ) (role : Role) → map (role_of (types_of p)) roles ≡ program_roles (meaning p) → slice_get roles n ≡ Some role
    → (b : Bool) → reads_state (role_kind_of role.kind) ≡ b → reads_state (role_in (meaning p) n).kind ≡ b
reads_so p roles n role all is b e = ap (λ (r : definition.Role). reads_state r.kind) (sym (same_role p roles n role all is)) ∙ e

reads : (kind : Kind) → reads_state kind ≡ true → ReadsState kind
reads Query e = tt
reads Update e = tt
reads Init e = absurd (cc)
reads Inner e = absurd (cc)

second : (kind : Kind) (state argument : Ty) → reads_state kind ≡ true → slice_index_or (role_parameters kind state argument) 1 UnitTy ≡ argument
second Query state argument e = refl
second Update state argument e = refl
second Init state argument e = absurd (cc)
second Inner state argument e = absurd (cc)

module _ (P : Program) (role : definition.Role) (shape : HasRoleShape P role) where
  is_role : IsRole P role.function role.kind role.argument shape.0
  is_role = shape.1

  own : is_role.function ≡ function_at P role.function
  own = sym (ap (λ o. unwrap_or o no_function) is_role.there)

  pub function_there : role.function < length P.functions
  function_there = slice_get_within P.functions role.function is_role.function is_role.there

  pub result_is : (function_at P role.function).result ≡ role.result
  result_is = ap (λ (g : Function). g.result) (sym own) ∙ is_role.result ∙ sym shape.2

  pub update_gives : role.kind ≡ Update → (answer : Ty) × (role.result ≡ PairTy P.state answer)
  update_gives e = (shape.0, shape.2 ∙ ap (λ k. role_result k P.state shape.0) e)

  module _ (reading : reads_state role.kind ≡ true) where
    pub takes_state : TakesState P role.function
    takes_state = (role.kind, role.argument, shape.0, is_role, reads role.kind reading)

    pub argument_is : argument_type P role.function ≡ role.argument
    argument_is =
        ap (λ (g : Function). slice_index_or g.parameters 1 UnitTy) (sym own) ∙ ap (λ ts. slice_index_or ts 1 UnitTy) is_role.parameters
        ∙ second role.kind P.state role.argument reading

-- a call of the same program
abbrev pub IsCallOf : code.Program → ℕ → Role → Type 0
IsCallOf p n role =
    (role_of (types_of p) role ≡ role_in (meaning p) n) × (reads_state (role_in (meaning p) n).kind ≡ true) × HasRoleShape (meaning p) (role_of (types_of p) role)

pub call_of_same : (p q : code.Program) → p ≡ q → (n : ℕ) (role : Role) → (role_of (types_of p) role ≡ role_in (meaning p) n) × (reads_state (role_in (meaning p) n).kind ≡ true)
    → HasRoleShape (meaning p) (role_of (types_of p) role) → IsCallOf q n role
call_of_same p q e n role called shape = subst (λ (p : code.Program). IsCallOf p n role) e (called.0, called.1, shape)
