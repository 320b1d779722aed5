use Rattle.std.proofs.Common.{◌∙◌, pos, ap, subst, arith}
use Rattle.core_terms.specs.Projection.{digest_at}
use Rattle.ads_library.specs.Recurrence.{next_state, number_of}
use Rattle.value_store.specs.Standing.{ProverNodes, StandsFor}
use Rattle.mode_vm.specs.Meanings.{program_of}
use Rattle.workloads.proofs.RoundSums.{kept, same_state, same_sums}
use Rattle.workloads.proofs.rounds.run_round.Goals as goal

pub get-requires-clause-state : goal.get-requires-clause-state
get-requires-clause-state g c κs within =
    let P = program_of c.args.code.now in
    let prover = ProverNodes (digest_at g.H.Hash32.hash P) in
    let h = c.requires.state in
    let stood : StandsFor prover P.types (g.N.Nodes.nodes c.put.new.store) c.in_ok-state.state.0 P.state _ = c.in_ok-state.ensures.state h.0 h.1 in
    (_, stood)

pub returns-clause-tally : goal.returns-clause-tally
returns-clause-tally g c s stands =
    let P = program_of c.args.code.now in
    let w = c.args.workload.now in
    let key_is = kept c.next_key-key.result (omega arith) ∙ c.next_key-key.ensures.key in
    let value_is = kept c.next_value-value.result (omega arith) ∙ c.next_value-value.ensures.value ∙ ap (λ x. pos (number_of (next_state x))) c.next_key-key.ensures.numbers in
    let stood : StandsFor (ProverNodes (digest_at g.H.Hash32.hash P)) P.types (g.N.Nodes.nodes c.put.new.store) c.in_ok-state.state.0 P.state _ = c.in_ok-state.ensures.state s stands in
    same_sums g.H.Hash32.hash P w c.args.numbers.now _ _ key_is value_is s c.args.tally.now c.put.new.tally c.get.new.tally
    (c.in_ok-state.ensures.tally s stands) (c.in_ok-get.ensures.tally _ stood)

pub returns-clause-state : goal.returns-clause-state
returns-clause-state g c s stands =
    let P = program_of c.args.code.now in
    let w = c.args.workload.now in
    let key_is = kept c.next_key-key.result (omega arith) ∙ c.next_key-key.ensures.key in
    let value_is = kept c.next_value-value.result (omega arith) ∙ c.next_value-value.ensures.value ∙ ap (λ x. pos (number_of (next_state x))) c.next_key-key.ensures.numbers in
    let prover = ProverNodes (digest_at g.H.Hash32.hash P) in
    let stood : StandsFor prover P.types (g.N.Nodes.nodes c.put.new.store) c.in_ok-state.state.0 P.state _ = c.in_ok-state.ensures.state s stands in
    subst (λ v. StandsFor prover P.types (g.N.Nodes.nodes c.get.new.store) c.in_ok-state.state.0 P.state v)
    (same_state g.H.Hash32.hash P w c.args.numbers.now _ _ key_is value_is s)
    (c.get.ensures.keeps prover P.types c.in_ok-state.state.0 P.state _ stood)
