use Rattle.std.proofs.Common.{subst, refl, sym, true, Ok}
use Rattle.mode_vm.specs.declared.state.State.{State}
use Rattle.core_terms.specs.Programs.{types_of}
use Rattle.code_gen.specs.Programs.{program_in}
use Rattle.core_terms.specs.InstructionViews.{instruction_of}
use Rattle.mode_vm.specs.Machines.{IsNext}
use Rattle.mode_vm.specs.Outcomes.{Leads}
use Rattle.mode_vm.specs.Meanings.{program_of}
use Rattle.mode_vm.proofs.OwnInstructions.{none_told, own}
use Rattle.mode_vm.proofs.Lifting.{lifted}
use Rattle.mode_vm.proofs.state.State.act.Goals as goal

pub call-requires-clause-before : goal.call-requires-clause-before
call-requires-clause-before g c =
    let b = c.requires.before in
    (b.0, b.1, g.N.Nodes.nodes c.args.store.now, b.2, b.3, subst (λ i. IsNext (instruction_of (types_of (program_in c.args.code.now)) i) b.2.top) c.in-Some.ensures b.4)

pub give_back-requires-clause-before : goal.give_back-requires-clause-before
give_back-requires-clause-before g c =
    let b = c.requires.before in
    (b.0, b.1, b.2, b.3, subst (λ i. IsNext (instruction_of (types_of (program_in c.args.code.now)) i) b.2.top) c.if-returns.ensures b.4)

pub returns-then-returns-clause-leads : goal.returns-then-returns-clause-leads
returns-then-returns-clause-leads g c m z cs shows next =
    c.in_ok-give_back.ensures.leads m z cs shows (subst (λ i. IsNext (instruction_of (types_of (program_in c.args.code.now)) i) cs.top) c.if-returns.ensures next)

pub returns-clause-leads : goal.returns-clause-leads
returns-clause-leads g c m z cs shows next =
    let P = program_of c.args.code.now in
    let after : State = record { fuel = c.args.self.now.fuel; entered = c.args.self.now.entered; top = c.act.new.self; waiting = c.args.self.now.waiting } in
    subst (λ s. Leads m P z (g.N.Nodes.nodes c.act.new.store) {E = Unit {0}} true c.args.self.now.fuel cs after (Ok s)) (sym c.step_of.ensures)
    (lifted m P (g.N.Nodes.nodes c.args.store.now) (g.N.Nodes.nodes c.act.new.store) c.act.ensures.keeps
    (Unit {0}) z c.args.self.now after cs shows c.requires.entered refl refl refl c.in_ok-trapped.trapped
    (c.in_ok-trapped.ensures.does m cs.top (record { top = shows.top; next = next })))

pub act-requires-clause-own : goal.act-requires-clause-own
act-requires-clause-own g c = own (types_of (program_in c.args.code.now)) c.args.instruction.now (none_told _ c.called.result c.in_default.not-Some c.called.ensures) c.if-returns.ensures c.requires.plain

pub returns-in-Some-clause-leads : goal.returns-in-Some-clause-leads
returns-in-Some-clause-leads g c m z cs shows next =
    c.in_ok-call.ensures.leads m z (g.N.Nodes.nodes c.args.store.now) cs shows (subst (λ i. IsNext (instruction_of (types_of (program_in c.args.code.now)) i) cs.top) c.in-Some.ensures next)
