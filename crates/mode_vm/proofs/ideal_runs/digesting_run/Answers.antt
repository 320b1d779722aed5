use Rattle.std.proofs.Common.{[], None}
use Rattle.core_terms.specs.Terms.{function_at}
use Rattle.ideal_meaning.specs.Ideal.{ideal}
use Rattle.mode_vm.specs.Meanings.{program_of}
use Rattle.mode_vm.proofs.IdealOutcomes.{tells_digested}
use Rattle.mode_vm.proofs.ideal_runs.digesting_run.Goals as goal

pub run-requires-clause-ready : goal.run-requires-clause-ready
run-requires-clause-ready g c =
    let f = function_at (program_of c.args.code.now) c.args.function.0 in
    (f.result, c.in_ok-machine.ensures.ready (g.N.Nodes.nodes c.args.store.now) c.requires.stand.0 c.requires.stand.1)

pub returns-in-Ok-clause-outcome : goal.returns-in-Ok-clause-outcome
returns-in-Ok-clause-outcome g c vs stand =
    let P = program_of c.args.code.now in
    let z = (function_at P c.args.function.0).result in
    let run = ideal P c.args.function.0 vs c.args.fuel in
    tells_digested P z {F = Unit {0}} g.H.Hash32.hash (λ f. None) (λ w. Unit {0}) (g.N.Nodes.nodes c.run.new.store) _ c.in-Ok.outcome run
    (c.in-Ok.ensures.is z [] run tt (c.in_ok-machine.ensures.will (g.N.Nodes.nodes c.args.store.now) vs [] stand))
