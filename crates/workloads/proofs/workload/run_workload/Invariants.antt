use Rattle.std.proofs.Common.{◌≡◌, ◌*◌}
use Rattle.core_terms.specs.Projection.{digest_at}
use Rattle.core_terms.specs.Values.{Value}
use Rattle.value_store.specs.Standing.{Keeps, ProverNodes, StandsFor}
use Rattle.mode_vm.specs.Meanings.{program_of}
use Rattle.workloads.specs.Sums.{IsBounded}
use Rattle.workloads.proofs.RoundSums.{AreRun}
use Rattle.workloads.proofs.workload.run_workload.Given as goal

-- so many rounds are run
abbrev pub invariant-loop-round : goal.invariant-loop-round
invariant-loop-round g l =
    let hash = g.H.Hash32.hash in
    let P = program_of l.code in
    let first = g.N.Nodes.nodes l.initial.store in
    let nodes = g.N.Nodes.nodes l.store in record {
      calls : l.tally.calls ≡ 2 * l._round;
      bounded : IsBounded l.tally;
      run : (s : Value) → StandsFor (ProverNodes (digest_at hash P)) P.types first l.initial.state.0 P.state s
          → (v : Value) × StandsFor (ProverNodes (digest_at hash P)) P.types nodes l.state.0 P.state v
          × AreRun hash P l.workload l.fn.count l.fn.seed s l._round l.numbers v l.tally;
      keeps : Keeps first nodes;
      lent : g.N.Nodes.lent l.store ≡ g.N.Nodes.lent l.initial.store;
    }
