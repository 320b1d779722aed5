-- A role of the code that reads the state takes a state and an argument.
use Rattle.std.proofs.Common.{◌≡◌, ◌⊎◌, inl, inr, ℕ, ◌<◌, List, length, map, Some, option_map, slice_get, sym, ap, ◌∙◌, subst}
use Rattle.std.specs.List.{All}
use Rattle.std.proofs.lemmas.Option.{get_or_from_slice_get, slice_get-map, slice_get_within}
use Rattle.core_terms.specs.Programs.{meaning, types_of}
use Rattle.core_terms.specs.RoleViews.{role_kind_of, role_of}
use Rattle.core_terms.specs.Roles.{program_roles}
use Rattle.core_terms.specs.RoleTypes.{HasRoleShape, ReadsState}
use Rattle.core_terms.specs.declared.program.Program.{Program}
use Rattle.core_terms.specs.declared.roles.Role.{Role}
use Rattle.core_terms.specs.declared.roles.RoleKind.{RoleKind}
use Rattle.core_terms.specs.declared.roles.RoleKind.TheVariants.{Query, Update}
use Rattle.mode_vm.specs.StateCalls.{TakesState}

pub reads_state : (kind : RoleKind) → (kind ≡ Query) ⊎ (kind ≡ Update) → ReadsState (role_kind_of kind)
reads_state kind (inl e) = subst (λ k. ReadsState (role_kind_of k)) (sym e) tt
reads_state kind (inr e) = subst (λ k. ReadsState (role_kind_of k)) (sym e) tt

module _ (p : Program) (roles : List Role) (n : ℕ) (role : Role) (all : map (role_of (types_of p)) roles ≡ program_roles (meaning p))
    (shapes : All (HasRoleShape (meaning p)) (program_roles (meaning p))) (at : slice_get roles n ≡ Some role) where
  there : slice_get (program_roles (meaning p)) n ≡ Some (role_of (types_of p) role)
  there = sym (ap (λ rs. slice_get rs n) all) ∙ slice_get-map (role_of (types_of p)) roles n ∙ ap (λ o. option_map (role_of (types_of p)) o) at

  shape : HasRoleShape (meaning p) (role_of (types_of p) role)
  shape =
      let r = role_of (types_of p) role in
      subst (HasRoleShape (meaning p)) (get_or_from_slice_get (program_roles (meaning p)) n r r there)
      (shapes n r (slice_get_within (program_roles (meaning p)) n r there))

  pub takes_state : ReadsState (role_kind_of role.kind) → (role.function.0 < length (meaning p).functions) × TakesState (meaning p) role.function.0
  takes_state reads =
      let r = role_of (types_of p) role in (
        slice_get_within (meaning p).functions role.function.0 shape.1.function shape.1.there,
        (
          r.kind,
          r.argument,
          shape.0,
          shape.1,
          reads,
        ),
      )
