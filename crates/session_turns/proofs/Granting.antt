-- What a call that passes its first tests comes to.
use Rattle.std.proofs.Common.{◌≡◌, ℕ, ◌<◌, ◌≤◌, List, [], map, length, Some, None, Result, Ok, Err, IsErrAnd, Bool}
use Rattle.std.proofs.Common.{true, false, ◌&&◌, nat_lt, nat_le, if◌then◌else◌, slice_get, refl, sym, ap, ◌∙◌, subst, arith, ltb-true, le-leb}
use Rattle.std.specs.List.{All}
use Rattle.core_terms.specs.Formats.{Hash}
use Rattle.core_terms.specs.Limits.{most_fuel}
use Rattle.core_terms.specs.Programs.{meaning, types_of}
use Rattle.core_terms.specs.ProgramTypes.{types_meaning}
use Rattle.core_terms.specs.Projection.{digest_at, read_at}
use Rattle.core_terms.specs.Reading.{Read, Good, BadAt}
use Rattle.core_terms.specs.RoleViews.{role_kind_of, role_of}
use Rattle.core_terms.specs.Roles.{argument_type, program_roles}
use Rattle.core_terms.specs.RoleTypes.{HasRoleShape, ReadsState}
use Rattle.core_terms.specs.Terms as tree
use Rattle.core_terms.specs.TypeTables.{type_at}
use Rattle.core_terms.specs.Values.{Value}
use Rattle.core_terms.specs.declared.program.Program.{Program}
use Rattle.core_terms.specs.declared.program_types.Types.{Types}
use Rattle.core_terms.specs.declared.roles.Role.{Role}
use Rattle.mode_vm.specs.StateCalls.{TakesState}
use Rattle.mode_vm.proofs.StateRoles.{takes_state}
use Rattle.session_meaning.specs.Calls.{changes_state, reads_state, role_in}
use Rattle.session_meaning.specs.Causes as cause
use Rattle.session_meaning.specs.Server as meant
use Rattle.value_store.specs.Nodes.{Node}
use Rattle.value_store.specs.Standing.{ProverNodes, StandsFor}
use Rattle.value_store.specs.declared.node.Ref.{Ref}
use Rattle.shallow_codec.specs.ProgramTypes.{table, ty_of}
use Rattle.shallow_codec.specs.Unspelled.{IsUnspelled}
use Rattle.shallow_codec.specs.declared.fault.UnspellFault.{UnspellFault}
use Rattle.shallow_codec.specs.declared.fault.UnspellFault.TheVariants.{Bad, NoMemory as NoNodeMemory}
use Rattle.session_turns.specs.Granting.{IsGranted}
use Rattle.session_turns.specs.Refusals.{Denies}
use Rattle.session_turns.specs.declared.grants.Granted.{Granted}
use Rattle.session_turns.specs.declared.refusal.Denial.{Denial}
use Rattle.session_turns.proofs.CallTests.{argument_stands, as_read, read_by, role_is, shape_at}
use Rattle.session_turns.proofs.Turns.{not_most}

not_below : (n m : ℕ) → m ≤ n → nat_lt n m ≡ false
not_below n m l = by (nat_lt n m) refl
  where
    by : (b : Bool) → nat_lt n m ≡ b → nat_lt n m ≡ false
    by true e = absurd (omega (arith, ltb-true n m e, l))
    by false e = e

reads_of : (kind : tree.Kind) → reads_state kind ≡ true → ReadsState kind
reads_of tree.Inner e = absurd (cc (e))
reads_of tree.Init e = absurd (cc (e))
reads_of tree.Query e = tt
reads_of tree.Update e = tt

few_tested : (changes : Bool) (n : ℕ) → (changes ≡ true → n < meant.versions_limit) → changes && nat_le meant.versions_limit n ≡ false
few_tested false n few = refl
few_tested true n few = not_most meant.versions_limit n (few refl)

many_tested : (changes : Bool) (n : ℕ) → changes ≡ true → meant.versions_limit ≤ n → changes && nat_le meant.versions_limit n ≡ true
many_tested changes n e many = subst (λ b. b && nat_le meant.versions_limit n ≡ true) (sym e) (le-leb meant.versions_limit n many)

module _ (hash : Hash) (p : Program) (types : Types) (of_code : types ≡ p.types) (roles : List Role) (all : map (role_of (types_of p)) roles ≡ program_roles (meaning p))
    (shapes : All (HasRoleShape (meaning p)) (program_roles (meaning p))) (role : Role) (n : ℕ) (at : slice_get roles n ≡ Some role) (reads : reads_state (role_kind_of role.kind) ≡ true)
    (fuel : ℕ) (few : fuel ≤ most_fuel) (own : List ℕ) (ending : ℕ → ℕ) (s : meant.Session) (idle : s.running ≡ None) (versions : ℕ) (argument : List ℕ) where
  abbrev P : tree.Program
  P = meaning p

  abbrev tested : Result meant.Admitted cause.Refusal
  tested = meant.session_test hash P own ending (Some s) versions n fuel argument

  abbrev many : Bool
  many = changes_state (role_in P n).kind && nat_le meant.versions_limit versions

  abbrev IsRead : List Node → Result Ref UnspellFault → Type 0
  IsRead nodes result = IsUnspelled (table types) nodes (ty_of types role.argument) (read_at (types_meaning types) (ty_of types role.argument) argument) result

  is : role_in P n ≡ role_of (types_of p) role
  is = role_is p roles n all role at

  to_read : (o : Read Value) → read_at P (type_at (types_of p) role.argument) argument ≡ o → tested ≡ meant.argument_test hash P own ending o versions s n fuel
  to_read o h =
      as_read hash P own ending s idle versions n fuel argument (ap (λ r. reads_state r.kind) is ∙ reads) (not_below most_fuel fuel few)
      o (ap (λ r. read_at P r.argument argument) is ∙ h)

  refused : (nodes base : List Node) (fault : UnspellFault) (denial : Denial) → IsRead nodes (Err fault) → Denies fault denial
      → IsGranted hash P s n fuel base (Err denial) tested
  refused nodes base (Bad offset) denial h is =
      subst (λ d. IsGranted hash P s n fuel base (Err d) tested) (sym is) (to_read (BadAt offset) (read_by p types of_code nodes role.argument argument (Err (Bad offset)) h))
  refused nodes base NoNodeMemory denial h is = subst (λ d. IsGranted hash P s n fuel base (Err d) tested) (sym is) tt

  pub refused_as : (nodes base : List Node) (fault : UnspellFault) → IsRead nodes (Err fault) → (result : Result Granted Denial) → IsErrAnd result (λ denial. Denies fault denial)
      → IsGranted hash P s n fuel base result tested
  refused_as nodes base fault h (Ok granted) denies = elim denies [ ]
  refused_as nodes base fault h (Err denial) denies = refused nodes base fault denial h denies

  pub of_role : role.function.0 ≡ (role_in P n).function
  of_role = sym (ap (λ r. r.function) is)

  pub takes : (role.function.0 < length P.functions) × TakesState P role.function.0
  takes = takes_state p roles n role all shapes at (reads_of (role_kind_of role.kind) reads)

  abbrev by_many : Value → Bool → Result meant.Admitted cause.Refusal
  by_many a many = if many then Err cause.ManyVersions else Ok (record { session = s; call = record { role = n; argument = a; fuel = fuel } })

  pub full : (nodes : List Node) (r : Ref) → IsRead nodes (Ok r) → changes_state (role_kind_of role.kind) ≡ true → meant.versions_limit ≤ versions → tested ≡ Err cause.ManyVersions
  full nodes r h changes most =
      let good = read_by p types of_code nodes role.argument argument (Ok r) h in
      to_read (Good good.0 [] good.1) good.2
      ∙ ap (by_many good.0) (ap (λ r. changes_state r.kind && nat_le meant.versions_limit versions) is ∙ many_tested (changes_state (role_kind_of role.kind)) versions changes most)

  pub granted : (nodes : List Node) (r : Ref) → IsRead nodes (Ok r) → (changes_state (role_kind_of role.kind) ≡ true → versions < meant.versions_limit)
      → (a : Value) × (tested ≡ Ok (record { session = s; call = record { role = n; argument = a; fuel = fuel } }))
      × StandsFor (ProverNodes (digest_at hash P)) P.types nodes r.0 (argument_type P role.function.0) a
  granted nodes r h room =
      let good = read_by p types of_code nodes role.argument argument (Ok r) h in (
        good.0,
        to_read (Good good.0 [] good.1) good.2
            ∙ ap (by_many good.0) (ap (λ r. changes_state r.kind && nat_le meant.versions_limit versions) is ∙ few_tested (changes_state (role_kind_of role.kind)) versions room),
        argument_stands hash p role (shape_at p roles n all shapes role at) (reads_of (role_kind_of role.kind) reads) nodes r good.0 good.3,
      )
