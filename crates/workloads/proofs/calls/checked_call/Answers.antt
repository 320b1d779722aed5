use Rattle.std.proofs.Common.{◌≡◌, ◌∙◌, refl, sym, subst}
use Rattle.core_terms.specs.Programs.{meaning, types_of}
use Rattle.core_terms.specs.Roles.{argument_type}
use Rattle.core_terms.specs.TypeTables.{type_at}
use Rattle.code_gen.specs.Programs.{program_in}
use Rattle.mode_vm.specs.Meanings.{program_of}
use Rattle.mode_vm.specs.StateCalls.{TakesState}
use Rattle.prover_mode.specs.Calls.{IsAccepted}
use Rattle.workloads.specs.Workloads.{call_fuel}
use Rattle.workloads.proofs.SpelledParts.{same_spelling}
use Rattle.workloads.proofs.CountedCalls.{same_sums}
use Rattle.workloads.proofs.VerifiedFiles.{called_as, verified_done}
use Rattle.workloads.proofs.calls.checked_call.Goals as goal

pub argument_of-argument_type-requires-clause-role : goal.argument_of-argument_type-requires-clause-role
argument_of-argument_type-requires-clause-role g c = subst (λ q. TakesState (meaning q) c.args.role.0) (sym c.program-2.ensures) c.requires.role

pub verified-requires-clause-accepted : goal.verified-requires-clause-accepted
verified-requires-clause-accepted g c κs within =
    let hash = g.H.Hash32.hash in
    let p = program_in c.args.code.now in
    let nodes = g.N.Nodes.nodes c.args.store.now in
    let s = c.requires.called.0 in
    let a = c.requires.called.1 in
    let called = c.requires.called.2 in
    let state_at = subst (λ q. type_at (types_of q) c.state_type.result ≡ (meaning q).state) c.program.ensures c.state_type.ensures.state in
    let argument_at = subst (λ q. type_at (types_of q) c.argument_of-argument_type.result ≡ argument_type (meaning q) c.args.role.0) c.program-2.ensures c.argument_of-argument_type.ensures in
    let accepted : IsAccepted hash (program_of c.args.code.now) c.args.role.0 s a call_fuel c.in_ok-proof.proof.1.items = c.in_ok-proof.ensures.accepted s a called in (
      s,
      a,
      same_spelling hash p nodes c.args.state.0 _ _ state_at c.in_ok-spelled_state.spelled_state c.in_ok-spelled_state.ensures s called.state_stands,
      same_spelling hash p nodes c.args.argument.0 _ _ argument_at c.in_ok-spelled_argument.spelled_argument c.in_ok-spelled_argument.ensures a called.argument_stands,
      accepted,
    )

pub returns-clause-checked : goal.returns-clause-checked
returns-clause-checked g c s a called =
    let hash = g.H.Hash32.hash in
    let p = program_in c.args.code.now in
    let nodes = g.N.Nodes.nodes c.args.store.now in
    let state_at = subst (λ q. type_at (types_of q) c.state_type.result ≡ (meaning q).state) c.program.ensures c.state_type.ensures.state in
    let argument_at = subst (λ q. type_at (types_of q) c.argument_of-argument_type.result ≡ argument_type (meaning q) c.args.role.0) c.program-2.ensures c.argument_of-argument_type.ensures in
    record {
      verified = c.in_ok-verified.ensures.accepted;
      is_call = called_as c.args.role _ _ _ _ call_fuel _ _ c.in_ok-verified.verified
          (same_spelling hash p nodes c.args.state.0 _ _ state_at c.in_ok-spelled_state.spelled_state c.in_ok-spelled_state.ensures s called.state_stands)
          (same_spelling hash p nodes c.args.argument.0 _ _ argument_at c.in_ok-spelled_argument.spelled_argument c.in_ok-spelled_argument.ensures a called.argument_stands)
          (c.in_ok-proof.ensures.file s a called) c.in_ok-verified.ensures.call;
    }

pub returns-clause-counted : goal.returns-clause-counted
returns-clause-counted g c s a called t =
    let hash = g.H.Hash32.hash in
    let p = program_in c.args.code.now in
    let P = program_of c.args.code.now in
    let nodes = g.N.Nodes.nodes c.args.store.now in
    let state_at = subst (λ q. type_at (types_of q) c.state_type.result ≡ (meaning q).state) c.program.ensures c.state_type.ensures.state in
    let argument_at = subst (λ q. type_at (types_of q) c.argument_of-argument_type.result ≡ argument_type (meaning q) c.args.role.0) c.program-2.ensures c.argument_of-argument_type.ensures in
    let is = c.in_ok-verified.ensures.call in
    let is_call = called_as c.args.role _ _ _ _ call_fuel _ _ c.in_ok-verified.verified
    (same_spelling hash p nodes c.args.state.0 _ _ state_at c.in_ok-spelled_state.spelled_state c.in_ok-spelled_state.ensures s called.state_stands)
    (same_spelling hash p nodes c.args.argument.0 _ _ argument_at c.in_ok-spelled_argument.spelled_argument c.in_ok-spelled_argument.ensures a called.argument_stands)
    refl is in
    let done = verified_done hash P c.args.role s a c.in_ok-proof.proof.1.items c.in_ok-verified.verified c.in_ok-verified.ensures.accepted is_call (c.in_ok-proof.ensures.accepted s a called) in
    same_sums hash P c.args.kept t c.args.role.0 s a c.in_ok-proof.proof.0.value c.in_ok-verified.verified _ _ done (c.in_ok-proof.ensures.fresh s a called) (c.in_ok-proof.ensures.again s a called)
    (is.of_file ∙ c.in_ok-proof.ensures.file s a called)
