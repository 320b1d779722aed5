use Rattle.std.proofs.Common.{None}
use Rattle.core_terms.specs.Terms.{function_at}
use Rattle.code_gen.specs.Programs.{program_in}
use Rattle.ideal_meaning.specs.Ideal.{ideal}
use Rattle.value_store.specs.Markings.{ProverMarking}
use Rattle.mode_vm.specs.Meanings.{program_of}
use Rattle.mode_vm.proofs.Stepping.{goes_fewer, is_ended, is_goes}
use Rattle.prover_mode.specs.Seen.{AreSeen}
use Rattle.prover_mode.proofs.Pausing.{calls_ended, ends, pauses, spent_paused}
use Rattle.prover_mode.proofs.turns.Proving.turn.Goals as goal

pub run_slice-requires-clause-ready : goal.run_slice-requires-clause-ready
run_slice-requires-clause-ready g c =
    let h = c.requires.proving.4 in
    ((function_at (program_of c.args.code.now) c.requires.proving.0).result, (h.runs.stack, h.runs.shows))

pub run_slice-requires-clause-knows : goal.run_slice-requires-clause-knows
run_slice-requires-clause-knows g c = c.requires.proving.4.knows

pub run_slice-requires-clause-few : goal.run_slice-requires-clause-few
run_slice-requires-clause-few g c = c.requires.proving.4.few

pub returns-in-Ok-Paused-clause-ends : goal.returns-in-Ok-Paused-clause-ends
returns-in-Ok-Paused-clause-ends g c f vs k made h =
    let hash = g.H.Hash32.hash in
    let P = program_of c.args.code.now in
    let z = (function_at P f).result in
    let nodes = g.N.Nodes.nodes c.run_slice.new.store in
    let machine = c.run_slice.new.self in
    let run = ideal P f vs k in
    let step = c.in-Ok-Paused.field-0 in
    let is = c.in-Ok-Paused.field-0-is in
    let goes = is_goes (ProverMarking hash) P z nodes machine.state step {F = Unit {0}} (λ x. None) (AreSeen hash (program_in c.args.code.now).types nodes machine.mode.opened.items) run is
    (c.in-Ok-Paused.ensures.is z h.seen run h.opened h.runs) in
    pauses hash c.args.code.now c.args.self.now _ (g.N.Nodes.nodes c.args.store.now) nodes c.args.units f vs k made h c.in-Ok-Paused.ensures.knows goes.0 goes.1 goes.2
    (spent_paused (Unit {0}) c.args.units c.args.self.now.machine.state machine.state step is c.in-Ok-Paused.ensures.calls)
    (goes_fewer step _ (Unit {0}) is c.in-Ok-Paused.ensures.few)

pub returns-in-Ok-Ended-clause-ends : goal.returns-in-Ok-Ended-clause-ends
returns-in-Ok-Ended-clause-ends g c f vs k made h =
    let hash = g.H.Hash32.hash in
    let P = program_of c.args.code.now in
    let z = (function_at P f).result in
    let nodes = g.N.Nodes.nodes c.run_slice.new.store in
    let machine = c.run_slice.new.self in
    let run = ideal P f vs k in
    let step = c.in-Ok-Ended.field-0 in
    let is = c.in-Ok-Ended.field-0-is in
    ends hash c.args.code.now c.args.self.now _ (g.N.Nodes.nodes c.args.store.now) nodes c.args.units f vs k made h {F = Unit {0}} (λ x. None) c.in-Ok-Ended.outcome
    (is_ended (ProverMarking hash) P z nodes machine.state step {F = Unit {0}} (λ x. None) (AreSeen hash (program_in c.args.code.now).types nodes machine.mode.opened.items) run c.in-Ok-Ended.outcome is
    (c.in-Ok-Ended.ensures.is z h.seen run h.opened h.runs))
    (calls_ended (Unit {0}) c.args.units c.args.self.now.machine.state machine.state step c.in-Ok-Ended.outcome is c.in-Ok-Ended.ensures.calls)
