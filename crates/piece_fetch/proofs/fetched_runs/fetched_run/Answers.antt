-- The run that was started is the one of the definitions, over the answers that were given.
use Rattle.std.proofs.Common.{[], sym, ap, ◌∙◌, append-nil}
use Rattle.core_terms.specs.Terms.{function_at}
use Rattle.ideal_meaning.specs.Fetched.{asking, answered, fetched}
use Rattle.mode_vm.specs.Meanings.{program_of}
use Rattle.piece_fetch.specs.Answerings.{MayGive, MayStop}
use Rattle.piece_fetch.specs.Faults.{fault_cause}
use Rattle.core_terms.specs.declared.outcome.Outcome.{Outcome}
use Rattle.value_store.specs.declared.node.Ref.{Ref}
use Rattle.mode_vm.proofs.Answering.{came_on}
use Rattle.piece_fetch.proofs.Fetching.{fetched_as, stands_on}
use Rattle.piece_fetch.proofs.fetched_runs.fetched_run.Goals as goal

pub run-requires-clause-ready : goal.run-requires-clause-ready
run-requires-clause-ready g c = (
  (function_at (program_of c.args.code.now) c.args.function.0).result,
  c.in_ok-machine.ensures.ready (g.N.Nodes.nodes c.args.store.now) c.requires.stand.0 c.requires.stand.1,
)

pub returns-clause-is : goal.returns-clause-is
returns-clause-is g c =
    let hash = g.H.Hash32.hash in
    let P = program_of c.args.code.now in
    let z = (function_at P c.args.function.0).result in
    let first = ap (λ m. m.place) c.in_ok-machine.ensures.mode ∙ c.new-fetcher.ensures.place in
    came_on (λ v a w. MayGive hash g.F.Fetch.gives v a w) (λ v a f w. MayStop hash g.F.Fetch.gives v a (fault_cause f) w) fault_cause (Outcome Ref) c.run.result c.args.from.now c.run.new.world _ _
    (c.run.ensures.answers tt)
    (λ got h vs stand.
    let w = asking got in
    let run = fetched hash P c.args.function.0 vs c.args.fuel w in
    fetched_as hash P z (g.N.Nodes.nodes c.run.new.store) c.run.new.self.mode.place c.run.new.self.state run c.run.result
    (h z w run [] (record { at = sym first; more = ap answered (sym (append-nil got)) }) (c.in_ok-machine.ensures.will (g.N.Nodes.nodes c.args.store.now) vs w stand)))

pub returns-clause-stands : goal.returns-clause-stands
returns-clause-stands g c =
    let P = program_of c.args.code.now in
    let z = (function_at P c.args.function.0).result in
    stands_on g.H.Hash32.hash P z (g.N.Nodes.nodes c.run.new.store) c.run.result (c.run.ensures.stands z (c.in_ok-machine.ensures.ready (g.N.Nodes.nodes c.args.store.now) c.requires.stand.0 c.requires.stand.1))
