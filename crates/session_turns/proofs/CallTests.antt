-- The tests of a call in a session in which none runs, by what each says.
use Rattle.std.proofs.Common.{◌≡◌, ℕ, List, map, Option, Some, None, Result, Err, Bool, true, false}
use Rattle.std.proofs.Common.{not, is_some, nat_lt, if◌then◌else◌, slice_get, slice_index_or, option_map, unwrap_or, sym, ap, ◌∙◌, subst}
use Rattle.std.specs.List.{All}
use Rattle.std.proofs.lemmas.Option.{get_or_from_slice_get, slice_get-map, slice_get_within}
use Rattle.core_terms.specs.Formats.{Hash}
use Rattle.core_terms.specs.Limits.{most_fuel}
use Rattle.core_terms.specs.Programs.{meaning, types_of}
use Rattle.core_terms.specs.ProgramTypes.{types_meaning}
use Rattle.core_terms.specs.Projection.{digest_at, read_at}
use Rattle.core_terms.specs.Reading.{Read}
use Rattle.core_terms.specs.RoleViews.{role_kind_of, role_of}
use Rattle.core_terms.specs.Roles.{argument_type, program_roles}
use Rattle.core_terms.specs.RoleTypes.{HasRoleShape, ReadsState}
use Rattle.core_terms.specs.Terms as tree
use Rattle.core_terms.specs.TypeTables.{type_at}
use Rattle.core_terms.specs.Types.{Ty, UnitTy}
use Rattle.core_terms.specs.Values.{Value}
use Rattle.core_terms.specs.declared.program.Program.{Program}
use Rattle.core_terms.specs.declared.program_types.Types.{Types}
use Rattle.core_terms.specs.declared.roles.Role.{Role}
use Rattle.core_terms.specs.declared.types.TyId.{TyId}
use Rattle.ideal_meaning.proofs.RoleCalls.{parameters_are}
use Rattle.value_store.specs.Nodes.{Node}
use Rattle.value_store.specs.Standing.{ProverNodes, StandsFor, VerifierNodes}
use Rattle.value_store.specs.declared.node.Ref.{Ref}
use Rattle.shallow_codec.specs.ProgramTypes.{table, ty_of}
use Rattle.shallow_codec.specs.Unspelled.{IsUnspelled}
use Rattle.shallow_codec.specs.declared.fault.UnspellFault.{UnspellFault}
use Rattle.shallow_codec.proofs.LawProofs.{plain_stands}
use Rattle.session_meaning.specs.Calls.{no_role, reads_state, role_in}
use Rattle.session_meaning.specs.Causes as cause
use Rattle.session_meaning.specs.Server as meant

-- the role with a number, among those of the code
module _ (p : Program) (roles : List Role) (n : ℕ) (all : map (role_of (types_of p)) roles ≡ program_roles (meaning p)) where
  found : (o : Option Role) → slice_get roles n ≡ o → slice_get (program_roles (meaning p)) n ≡ option_map (role_of (types_of p)) o
  found o at =
      sym (ap (λ rs. slice_get rs n) all) ∙ slice_get-map (role_of (types_of p)) roles n ∙ ap (λ o. option_map (role_of (types_of p)) o) at

  pub role_is : (role : Role) → slice_get roles n ≡ Some role → role_in (meaning p) n ≡ role_of (types_of p) role
  role_is role at = ap (λ o. unwrap_or o no_role) (found (Some role) at)

  pub shape_at : All (HasRoleShape (meaning p)) (program_roles (meaning p)) → (role : Role) → slice_get roles n ≡ Some role → HasRoleShape (meaning p) (role_of (types_of p) role)
  shape_at shapes role at =
      let r = role_of (types_of p) role in
      let there = found (Some role) at in
      subst (HasRoleShape (meaning p)) (get_or_from_slice_get (program_roles (meaning p)) n r r there)
      (shapes n r (slice_get_within (program_roles (meaning p)) n r there))

-- what was read by the types of a program was read by the program
pub read_by : (p : Program) (types : Types) → types ≡ p.types → (nodes : List Node) (ty : TyId) (bytes : List ℕ) (result : Result Ref UnspellFault)
    → IsUnspelled (table types) nodes (ty_of types ty) (read_at (types_meaning types) (ty_of types ty) bytes) result
    → IsUnspelled (meaning p).types nodes (ty_of p.types ty) (read_at (meaning p) (ty_of p.types ty) bytes) result
read_by p types is nodes ty bytes result h =
    subst (λ (t : Types). IsUnspelled (table t) nodes (ty_of t ty) (read_at (types_meaning t) (ty_of t ty) bytes) result) is h

module _ (hash : Hash) (P : tree.Program) (own : List ℕ) (ending : ℕ → ℕ) (s : meant.Session) (idle : s.running ≡ None) (versions role fuel : ℕ) (argument : List ℕ) where
  abbrev by : (runs reads much : Bool) → Read Value → Result meant.Admitted cause.Refusal
  by runs reads much read =
      if runs then Err cause.CallRuns
      else (if not reads then Err cause.NoRole
      else (if much then Err cause.MuchFuel
      else meant.argument_test hash P own ending read versions s role fuel))

  abbrev tested : Result meant.Admitted cause.Refusal
  tested = meant.session_test hash P own ending (Some s) versions role fuel argument

  abbrev reads : Bool
  reads = reads_state (role_in P role).kind

  abbrev much : Bool
  much = nat_lt most_fuel fuel

  abbrev read : Read Value
  read = read_at P (role_in P role).argument argument

  idles : tested ≡ by false reads much read
  idles = ap (λ b. by b reads much read) (ap is_some idle)

  pub refused_fuel : reads ≡ true → much ≡ true → tested ≡ Err cause.MuchFuel
  refused_fuel e f = idles ∙ ap (λ b. by false b much read) e ∙ ap (λ b. by false true b read) f

  pub as_read : reads ≡ true → much ≡ false → (o : Read Value) → read ≡ o → tested ≡ meant.argument_test hash P own ending o versions s role fuel
  as_read e f o h = idles ∙ ap (λ b. by false b much read) e ∙ ap (λ b. by false true b read) f ∙ ap (λ o. by false true false o) h

-- the argument of a role that reads the state
module _ (hash : Hash) (p : Program) (role : Role) (shape : HasRoleShape (meaning p) (role_of (types_of p) role)) (reads : ReadsState (role_kind_of role.kind)) where
  abbrev t : Ty
  t = type_at (types_of p) role.argument

  argument_is : argument_type (meaning p) role.function.0 ≡ t
  argument_is = ap (λ ts. slice_index_or ts 1 UnitTy) (parameters_are (meaning p) role.function.0 (role_kind_of role.kind) t shape.0 shape.1 reads)

  -- as no `auth` stands in it, what stands for it over the verifier's nodes does so over the prover's
  pub argument_stands : (nodes : List Node) (r : Ref) (a : Value) → StandsFor VerifierNodes (meaning p).types nodes r.0 t a
      → StandsFor (ProverNodes (digest_at hash (meaning p))) (meaning p).types nodes r.0 (argument_type (meaning p) role.function.0) a
  argument_stands nodes r a h =
      let kind = ProverNodes (digest_at hash (meaning p)) in
      subst (λ t. StandsFor kind (meaning p).types nodes r.0 t a) (sym argument_is) (plain_stands VerifierNodes kind (meaning p).types nodes t a r.0 shape.1.plain h)
