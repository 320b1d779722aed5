use Rattle.std.proofs.Common.{◌≡◌, true, List, [], Some, length, map, slice_get, ◌<◌, ◌≤◌, ◌++◌, sym, ap, ◌∙◌, subst, arith, refl}
use Rattle.std.specs.List.{All}
use Rattle.std.proofs.lemmas.Option.{slice_get_read}
use Rattle.core_terms.specs.Limits.{most_fuel}
use Rattle.core_terms.specs.Programs.{meaning, types_of}
use Rattle.core_terms.specs.Projection.{digest_at}
use Rattle.core_terms.specs.RoleViews.{role_kind_of, role_of}
use Rattle.core_terms.specs.Roles.{argument_type, program_roles}
use Rattle.core_terms.specs.RoleTypes.{HasRoleShape}
use Rattle.core_terms.specs.declared.program.Program.{Program}
use Rattle.code_gen.specs.Programs.{program_in}
use Rattle.mode_vm.specs.Meanings.{program_of}
use Rattle.session_meaning.specs.Calls.{changes_state}
use Rattle.session_meaning.specs.Server as meant
use Rattle.value_store.specs.Nodes.{AreSound, Lent, Node}
use Rattle.value_store.specs.Overs.{own_nodes}
use Rattle.value_store.specs.Standing.{ProverNodes, StandsFor}
use Rattle.value_store.specs.Stores.{nodes_in}
use Rattle.session_turns.specs.Versions.{IsVersion}
use Rattle.session_turns.proofs.Granting.{refused_as, full, granted, of_role, takes}
use Rattle.session_turns.proofs.Rows.{alike_length}
use Rattle.session_turns.proofs.Sharing.{all_first}
use Rattle.session_turns.proofs.Turns.{sound_as}
use Rattle.session_turns.proofs.shared.Shared.grant.Goals as goal
use Rattle.session_turns.proofs.shared.Shared.grant.Goals.{else-changes_state-via-then-changes_state+else-len-ge-MAX_VERSIONS, else-changes_state-via-else-changes_state}

pub on-over-requires-clause-sound : goal.on-over-requires-clause-sound
on-over-requires-clause-sound g c =
    subst (λ (nodes : List Node). AreSound c.args.self.now.store.limit nodes) (sym (all_first (nodes_in c.args.self.now.store) c.count-from.result c.count-from.ensures _ c.new.ensures)) c.args.self.now.store.sound

pub returns-in_err-argument : goal.returns-in_err-argument
returns-in_err-argument g c own ending s shared shares idle =
    let roles = c.roles.result.now in
    let role = c.in-Some.role.now in
    let lookup = c.in-Some.ensures.lookup in
    let at = subst (λ n. slice_get roles n ≡ Some role) c.from.ensures (slice_get_read roles (length roles) c.from.result role refl lookup.3.0 lookup.1) in
    let coded = subst (λ (q : Program). map (role_of (types_of q)) roles ≡ program_roles (meaning q)) c.program.ensures c.roles.ensures.roles in
    let shapes = subst (λ (q : Program). All (HasRoleShape (meaning q)) (program_roles (meaning q))) c.program.ensures c.roles.ensures.shapes in
    refused_as g.H.Hash32.hash (program_in c.args.code.now) c.types.result.now c.types.ensures roles coded shapes role c.args.role at
    (sym c.if-not-reads_state.ensures) c.args.fuel (omega arith) own ending s idle
    (length shared.versions) c.args.argument.now [] (nodes_in c.args.self.now.store) c.in_err-argument.field-0.0 c.in_err-argument.ensures.value c.from_residual.result c.from_residual.ensures.1

pub returns-then-len-ge-MAX_VERSIONS : goal.returns-then-len-ge-MAX_VERSIONS
returns-then-len-ge-MAX_VERSIONS g c own ending s shared shares idle =
    let roles = c.roles.result.now in
    let role = c.in-Some.role.now in
    let lookup = c.in-Some.ensures.lookup in
    let at = subst (λ n. slice_get roles n ≡ Some role) c.from.ensures (slice_get_read roles (length roles) c.from.result role refl lookup.3.0 lookup.1) in
    let coded = subst (λ (q : Program). map (role_of (types_of q)) roles ≡ program_roles (meaning q)) c.program.ensures c.roles.ensures.roles in
    let shapes = subst (λ (q : Program). All (HasRoleShape (meaning q)) (program_roles (meaning q))) c.program.ensures c.roles.ensures.shapes in
    let hash = g.H.Hash32.hash in
    let base = nodes_in c.args.self.now.store in
    let count : c.len.result ≡ length shared.versions =
    c.len.ensures ∙ c.args.self.now.versions.ok.0
    ∙ alike_length (IsVersion hash (program_of c.args.code.now) base) c.args.self.now.versions.items shared.versions shares.versions in
    full hash (program_in c.args.code.now) c.types.result.now c.types.ensures roles coded shapes role c.args.role at
    (sym c.if-not-reads_state.ensures) c.args.fuel (omega arith) own ending s idle
    (length shared.versions) c.args.argument.now _ c.in_ok-argument.argument c.in_ok-argument.ensures.value (sym c.if-changes_state.ensures) (omega (arith, count))

pub returns : goal.returns
returns g c own ending s shared shares idle =
    let roles = c.roles.result.now in
    let role = c.in-Some.role.now in
    let lookup = c.in-Some.ensures.lookup in
    let at = subst (λ n. slice_get roles n ≡ Some role) c.from.ensures (slice_get_read roles (length roles) c.from.result role refl lookup.3.0 lookup.1) in
    let coded = subst (λ (q : Program). map (role_of (types_of q)) roles ≡ program_roles (meaning q)) c.program.ensures c.roles.ensures.roles in
    let shapes = subst (λ (q : Program). All (HasRoleShape (meaning q)) (program_roles (meaning q))) c.program.ensures c.roles.ensures.shapes in
    let hash = g.H.Hash32.hash in
    let P = program_of c.args.code.now in
    let base = nodes_in c.args.self.now.store in
    let counted = alike_length (IsVersion hash P base) c.args.self.now.versions.items shared.versions shares.versions in
    let held = c.args.self.now.versions.ok.0 in
    let room : changes_state (role_kind_of role.kind) ≡ true → length shared.versions < meant.versions_limit =
    elim c.else-changes_state.branch [
      | else-changes_state-via-then-changes_state+else-len-ge-MAX_VERSIONS w ↦
          (λ (e : changes_state (role_kind_of role.kind) ≡ true). let count = w.len.ensures in omega (arith, counted, held, count))
      | else-changes_state-via-else-changes_state w ↦
          (λ (e : changes_state (role_kind_of role.kind) ≡ true). let other = w.if-changes_state.ensures in absurd (cc (other, e)))
    ] in
    let reads = sym c.if-not-reads_state.ensures in
    let few : c.args.fuel ≤ most_fuel = omega arith in
    let is =
    granted hash (program_in c.args.code.now) c.types.result.now c.types.ensures roles coded shapes role c.args.role at reads c.args.fuel few own ending s idle
    (length shared.versions) c.args.argument.now _ c.in_ok-argument.argument c.in_ok-argument.ensures.value room in
    let lent = ap (λ (l : Lent). l.nodes) c.in_ok-argument.ensures.lent ∙ c.on-over.ensures.lent in
    let limit = ap (λ (l : Lent). l.limit) c.in_ok-argument.ensures.lent ∙ c.on-over.ensures.limit ∙ c.requires.limit.is in
    let facts = c.off.ensures in
    let can =
    takes hash (program_in c.args.code.now) c.types.result.now c.types.ensures roles coded shapes role c.args.role at reads
    c.args.fuel few own ending s idle (length shared.versions) c.args.argument.now in (
      is.0,
      is.1,
      record {
        of_role =
            of_role hash (program_in c.args.code.now) c.types.result.now c.types.ensures roles coded shapes role c.args.role at reads
            c.args.fuel few own ending s idle (length shared.versions) c.args.argument.now;
        there = can.0;
        takes = can.1;
        all = c.count-from.ensures;
        sound = sound_as _ P.format.limit _ _ (own_nodes c.off.result) limit lent facts.sound;
        stands =
            subst (λ (ns : List Node). StandsFor (ProverNodes (digest_at hash P)) P.types ns c.in_ok-argument.argument.0 (argument_type P role.function.0) is.0)
            (facts.nodes ∙ ap (λ (ns : List Node). ns ++ own_nodes c.off.result) lent) is.2;
      },
    )
