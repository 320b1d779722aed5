use Rattle.std.proofs.Common.{[], None}
use Rattle.core_terms.specs.Terms.{function_at}
use Rattle.ideal_meaning.specs.Ideal.{ideal}
use Rattle.mode_vm.specs.Meanings.{program_of}
use Rattle.mode_vm.proofs.IdealOutcomes.{tells_outcome}
use Rattle.mode_vm.proofs.ideal_runs.ideal_run.Goals as goal

pub run-requires-clause-ready : goal.run-requires-clause-ready
run-requires-clause-ready g c =
    let f = function_at (program_of c.args.code.now) c.args.function.0 in
    (f.result, c.in_ok-machine.ensures.ready (g.N.Nodes.nodes c.args.store.now) c.requires.stand.0 c.requires.stand.1)

pub returns-in-Ok-clause-outcome : goal.returns-in-Ok-clause-outcome
returns-in-Ok-clause-outcome g c vs stand =
    let P = program_of c.args.code.now in
    let z = (function_at P c.args.function.0).result in
    tells_outcome P z {F = Unit {0}} (λ f. None) (λ w. Unit {0}) (g.N.Nodes.nodes c.run.new.store) _ c.in-Ok.outcome (ideal P c.args.function.0 vs c.args.fuel)
    (c.in-Ok.ensures.is z [] (ideal P c.args.function.0 vs c.args.fuel) tt (c.in_ok-machine.ensures.will (g.N.Nodes.nodes c.args.store.now) vs [] stand))
