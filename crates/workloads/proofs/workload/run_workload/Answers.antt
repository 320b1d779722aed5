use Rattle.std.proofs.Common.{◌≡◌, ◌∙◌, ◌≤◌, ap, refl, subst, arith}
use Rattle.core_terms.specs.Projection.{digest_at}
use Rattle.value_store.specs.Standing.{ProverNodes, StandsFor}
use Rattle.mode_vm.specs.Meanings.{program_of}
use Rattle.workloads.specs.Workloads.{state_after}
use Rattle.workloads.specs.declared.tally.Tally.{Tally}
use Rattle.workloads.proofs.RoundSums.{last_state, last_sums, none_run, one_run}
use Rattle.workloads.proofs.workload.run_workload.Goals as goal

pub loop-round-init : goal.loop-round-init
loop-round-init g c = record {
  calls = let none : c.new-tally.result.calls ≡ 0 = ap (λ (t : Tally). t.calls) c.new-tally.ensures.sums in omega (arith, none);
  bounded = c.new-tally.ensures.bounded;
  run = λ s stands.
      let none = none_run g.H.Hash32.hash (program_of c.args.code.now) c.args.workload.now c.args.count c.args.seed s
      c.new-numbers.result c.new-tally.result c.new-numbers.ensures c.new-tally.ensures.sums in
      (s, stands, none);
  keeps = λ kind types r t v h. h;
  lent = refl;
}

pub run_round-requires-clause-state : goal.run_round-requires-clause-state
run_round-requires-clause-state g c κs within = let now = c.loop-round.invariant.run c.requires.state.0 c.requires.state.1 in (now.0, now.1)

pub loop-round-preserved : goal.loop-round-preserved
loop-round-preserved g c =
    let hash = g.H.Hash32.hash in
    let P = program_of c.args.code.now in
    let prover = ProverNodes (digest_at hash P) in
    let w = c.args.workload.now in record {
      calls = omega (arith, c.in_ok-state.ensures.count, c.loop-round.invariant.calls);
      bounded = c.in_ok-state.ensures.bounded;
      run = λ s stands.
          let now = c.loop-round.invariant.run s stands in
          let stood : StandsFor prover P.types (g.N.Nodes.nodes c.loop-round.store) c.loop-round.state.0 P.state now.0 = now.1 in
          let after = state_after hash P w c.loop-round.numbers now.0 in
          let behind : StandsFor prover P.types (g.N.Nodes.nodes c.run_round.new.store) c.in_ok-state.state.0 P.state after = c.in_ok-state.ensures.state now.0 stood in (
            after,
            behind,
            one_run hash P w c.args.count c.args.seed s c.loop-round._round c.loop-round.numbers now.0 c.loop-round.tally now.2 c.loop-round-test.true
                _ c.run_round.new.numbers c.run_round.new.tally (omega (arith)) c.run_round.ensures.numbers (c.in_ok-state.ensures.tally now.0 stood),
          );
      keeps = λ kind types r t v h. c.run_round.ensures.keeps kind types r t v (c.loop-round.invariant.keeps kind types r t v h);
      lent = c.run_round.ensures.lent ∙ c.loop-round.invariant.lent;
    }

pub returns-clause-tally : goal.returns-clause-tally
returns-clause-tally g c s stands =
    let whole : c.args.count ≤ c.loop-round._round = omega (arith, c.loop-round-test.false) in
    let now = c.loop-round.invariant.run s stands in
    last_sums g.H.Hash32.hash (program_of c.args.code.now) c.args.workload.now c.args.count c.args.seed s c.loop-round._round c.loop-round.numbers now.0 c.loop-round.tally now.2 whole

pub returns-clause-state : goal.returns-clause-state
returns-clause-state g c s stands =
    let P = program_of c.args.code.now in
    let whole : c.args.count ≤ c.loop-round._round = omega (arith, c.loop-round-test.false) in
    let now = c.loop-round.invariant.run s stands in
    subst (λ v. StandsFor (ProverNodes (digest_at g.H.Hash32.hash P)) P.types (g.N.Nodes.nodes c.loop-round.store) c.loop-round.state.0 P.state v)
    (last_state g.H.Hash32.hash P c.args.workload.now c.args.count c.args.seed s c.loop-round._round c.loop-round.numbers now.0 c.loop-round.tally now.2 whole) now.1
