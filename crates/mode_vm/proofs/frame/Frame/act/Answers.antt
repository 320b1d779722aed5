use Rattle.std.proofs.Common.{ap, ◌∙◌, sym, subst, arith}
use Rattle.core_terms.specs.Programs.{meaning, types_of}
use Rattle.core_terms.specs.InstructionViews.{instruction_of}
use Rattle.core_terms.specs.Instructions as instruction
use Rattle.code_gen.specs.Programs.{program_in}
use Rattle.mode_vm.specs.Machines.{Before}
use Rattle.mode_vm.specs.Meanings.{program_of}
use Rattle.mode_vm.specs.Outcomes.{Acts}
use Rattle.mode_vm.proofs.PassedInts.{kept}
use Rattle.mode_vm.proofs.OwnInstructions.{before}
use Rattle.mode_vm.proofs.frame.Frame.act.Goals as goal

pub push_int-requires-clause-before : goal.push_int-requires-clause-before
push_int-requires-clause-before g c =
    let p = program_in c.args.code.now in
    let b = c.requires.before in
    let is = ap (instruction_of (types_of p)) c.in-PushInt.is ∙ ap instruction.PushInt (sym (kept c.in-PushInt.value (omega arith))) in
    (b.0, b.1, subst (λ i. Before b.0 (meaning p) (g.N.Nodes.nodes c.args.store.now) c.args.self.now i b.1) is b.2)

pub returns-in-PushInt-clause-does : goal.returns-in-PushInt-clause-does
returns-in-PushInt-clause-does g c m values b =
    let p = program_in c.args.code.now in
    let is = ap (instruction_of (types_of p)) c.in-PushInt.is ∙ ap instruction.PushInt (sym (kept c.in-PushInt.value (omega arith))) in
    c.push_int.ensures.does m values (subst (λ i. Before m (meaning p) (g.N.Nodes.nodes c.args.store.now) c.args.self.now i values) is b)

-- each other instruction does what its function does
pub returns-in-PushUnit-clause-does : goal.returns-in-PushUnit-clause-does
returns-in-PushUnit-clause-does g c m values b =
    let P = program_of c.args.code.now in
    c.push_unit.ensures.does m values (before P (types_of (program_in c.args.code.now)) m (g.N.Nodes.nodes c.args.store.now) c.args.self.now values _ _ c.in-PushUnit.is b)

pub returns-in-PushBool-clause-does : goal.returns-in-PushBool-clause-does
returns-in-PushBool-clause-does g c m values b =
    let P = program_of c.args.code.now in
    c.push_bool.ensures.does m values (before P (types_of (program_in c.args.code.now)) m (g.N.Nodes.nodes c.args.store.now) c.args.self.now values _ _ c.in-PushBool.is b)

pub returns-in-Load-clause-does : goal.returns-in-Load-clause-does
returns-in-Load-clause-does g c m values b =
    let P = program_of c.args.code.now in
    c.load.ensures.does m values (before P (types_of (program_in c.args.code.now)) m (g.N.Nodes.nodes c.args.store.now) c.args.self.now values _ _ c.in-Load.is b)

pub returns-in-Bind-clause-does : goal.returns-in-Bind-clause-does
returns-in-Bind-clause-does g c m values b =
    let P = program_of c.args.code.now in
    c.bind.ensures.does m values (before P (types_of (program_in c.args.code.now)) m (g.N.Nodes.nodes c.args.store.now) c.args.self.now values _ _ c.in-Bind.is b)

pub returns-in-Unbind-clause-does : goal.returns-in-Unbind-clause-does
returns-in-Unbind-clause-does g c m values b =
    let P = program_of c.args.code.now in
    c.unbind.ensures.does m values (before P (types_of (program_in c.args.code.now)) m (g.N.Nodes.nodes c.args.store.now) c.args.self.now values _ _ c.in-Unbind.is b)

pub returns-in-Pair-clause-does : goal.returns-in-Pair-clause-does
returns-in-Pair-clause-does g c m values b =
    let P = program_of c.args.code.now in
    c.pair.ensures.does m values (before P (types_of (program_in c.args.code.now)) m (g.N.Nodes.nodes c.args.store.now) c.args.self.now values _ _ c.in-Pair.is b)

pub returns-in-Fst-clause-does : goal.returns-in-Fst-clause-does
returns-in-Fst-clause-does g c m values b =
    let P = program_of c.args.code.now in
    c.first.ensures.does m values (before P (types_of (program_in c.args.code.now)) m (g.N.Nodes.nodes c.args.store.now) c.args.self.now values _ _ c.in-Fst.is b)

pub returns-in-Snd-clause-does : goal.returns-in-Snd-clause-does
returns-in-Snd-clause-does g c m values b =
    let P = program_of c.args.code.now in
    c.second.ensures.does m values (before P (types_of (program_in c.args.code.now)) m (g.N.Nodes.nodes c.args.store.now) c.args.self.now values _ _ c.in-Snd.is b)

pub returns-in-Make-clause-does : goal.returns-in-Make-clause-does
returns-in-Make-clause-does g c m values b =
    let P = program_of c.args.code.now in
    c.make.ensures.does m values (before P (types_of (program_in c.args.code.now)) m (g.N.Nodes.nodes c.args.store.now) c.args.self.now values _ _ c.in-Make.is b)

pub returns-in-Switch-clause-does : goal.returns-in-Switch-clause-does
returns-in-Switch-clause-does g c m values b =
    let P = program_of c.args.code.now in
    let at = before P (types_of (program_in c.args.code.now)) m (g.N.Nodes.nodes c.args.store.now) c.args.self.now values _ _ c.in-Switch.is b in
    c.switch.ensures.does m values (subst (λ skips. Before m P (g.N.Nodes.nodes c.args.store.now) c.args.self.now (instruction.Switch c.in-Switch.named.0 skips) values) (sym c.deref.ensures.value) at)

pub returns-in-Branch-clause-does : goal.returns-in-Branch-clause-does
returns-in-Branch-clause-does g c m values b =
    let P = program_of c.args.code.now in
    c.branch-self.ensures.does m values (before P (types_of (program_in c.args.code.now)) m (g.N.Nodes.nodes c.args.store.now) c.args.self.now values _ _ c.in-Branch.is b)

pub returns-in-Jump-clause-does : goal.returns-in-Jump-clause-does
returns-in-Jump-clause-does g c m values b =
    let P = program_of c.args.code.now in
    c.jump.ensures.does m values (before P (types_of (program_in c.args.code.now)) m (g.N.Nodes.nodes c.args.store.now) c.args.self.now values _ _ c.in-Jump.is b)

pub returns-in-Arith-clause-does : goal.returns-in-Arith-clause-does
returns-in-Arith-clause-does g c m values b =
    let P = program_of c.args.code.now in
    c.arith.ensures.does m values (before P (types_of (program_in c.args.code.now)) m (g.N.Nodes.nodes c.args.store.now) c.args.self.now values _ _ c.in-Arith.is b)

pub returns-in-Compare-clause-does : goal.returns-in-Compare-clause-does
returns-in-Compare-clause-does g c m values b =
    let P = program_of c.args.code.now in
    c.compare.ensures.does m values (before P (types_of (program_in c.args.code.now)) m (g.N.Nodes.nodes c.args.store.now) c.args.self.now values _ _ c.in-Compare.is b)

pub returns-in-Not-clause-does : goal.returns-in-Not-clause-does
returns-in-Not-clause-does g c m values b =
    let P = program_of c.args.code.now in
    c.not.ensures.does m values (before P (types_of (program_in c.args.code.now)) m (g.N.Nodes.nodes c.args.store.now) c.args.self.now values _ _ c.in-Not.is b)

pub returns-in_default-clause-does : goal.returns-in_default-clause-does
returns-in_default-clause-does g c m values b =
    subst (λ r. Acts m (program_of c.args.code.now) (g.N.Nodes.nodes c.act_apart.new.store) c.args.self.now values c.act_apart.new.self r) (sym c.result_of.ensures)
    (c.act_apart.ensures.does m values b)
