use Rattle.std.proofs.Common.{◌≡◌, [], List, None, ap, sym, ◌∙◌, subst}
use Rattle.core_terms.specs.Terms.{function_at}
use Rattle.code_gen.specs.Programs.{program_in}
use Rattle.ideal_meaning.specs.Ideal.{ideal}
use Rattle.ideal_meaning.specs.Run.{state_of}
use Rattle.mode_vm.specs.Meanings.{program_of}
use Rattle.mode_vm.proofs.IdealOutcomes.{tells_digested}
use Rattle.prover_mode.specs.Seen.{AreSeen}
use Rattle.prover_mode.specs.declared.opened.Opened.{Opened}
use Rattle.prover_mode.proofs.Running.{seen_then}
use Rattle.prover_mode.proofs.prover_runs.prover_run.Goals as goal

pub run-requires-clause-ready : goal.run-requires-clause-ready
run-requires-clause-ready g c = (
  (function_at (program_of c.args.code.now) c.args.function.0).result,
  c.in_ok-machine.ensures.ready (g.N.Nodes.nodes c.args.store.now) c.requires.stand.0 c.requires.stand.1,
)

pub returns-in-Ok-clause-value : goal.returns-in-Ok-clause-value
returns-in-Ok-clause-value g c vs stand =
    let hash = g.H.Hash32.hash in
    let P = program_of c.args.code.now in
    let types = (program_in c.args.code.now).types in
    let z = (function_at P c.args.function.0).result in
    let run = ideal P c.args.function.0 vs c.args.fuel in
    let begun = c.in_ok-machine.machine.mode.opened.items in
    let none : begun ≡ [] = ap (λ m. m.opened.items) c.in_ok-machine.ensures.mode ∙ c.new-prover.ensures.opened in
    let follows = subst (λ (os : List Opened). AreSeen hash types (g.N.Nodes.nodes c.args.store.now) os []) (sym none) tt in
    tells_digested P z {F = Unit {0}} hash (λ f. None) (AreSeen hash types (g.N.Nodes.nodes c.run.new.store) c.run.new.self.mode.opened.items) (g.N.Nodes.nodes c.run.new.store) _ c.in-Ok.value run
    (c.in-Ok.ensures.is z [] run follows (c.in_ok-machine.ensures.will (g.N.Nodes.nodes c.args.store.now) vs [] stand))

pub returns-in-Ok-clause-opened : goal.returns-in-Ok-clause-opened
returns-in-Ok-clause-opened g c vs stand =
    let hash = g.H.Hash32.hash in
    let P = program_of c.args.code.now in
    let types = (program_in c.args.code.now).types in
    let nodes = g.N.Nodes.nodes c.run.new.store in
    let z = (function_at P c.args.function.0).result in
    let run = ideal P c.args.function.0 vs c.args.fuel in
    let begun = c.in_ok-machine.machine.mode.opened.items in
    let ended = c.run.new.self.mode.opened.items in
    let none : begun ≡ [] = ap (λ m. m.opened.items) c.in_ok-machine.ensures.mode ∙ c.new-prover.ensures.opened in
    let follows = subst (λ (os : List Opened). AreSeen hash types (g.N.Nodes.nodes c.args.store.now) os []) (sym none) tt in
    let last : c.into_opened-opened.result.items ≡ ended = ap (λ v. v.items) c.into_opened-opened.ensures ∙ ap (λ m. m.opened.items) c.into_mode.ensures in
    let will = c.in_ok-machine.ensures.will (g.N.Nodes.nodes c.args.store.now) vs [] stand in
    subst (λ (os : List Opened). AreSeen hash types nodes os (state_of run)) (sym last)
    (seen_then hash types nodes P z {F = Unit {0}} (λ f. None) ended _ c.in-Ok.value run (c.in-Ok.ensures.is z [] run follows will))
