use Rattle.std.proofs.Common.{not, refl}
use Rattle.value_store.specs.Markings.{kind_of}
use Rattle.mode_vm.specs.Meanings.{program_of}
use Rattle.mode_vm.specs.declared.operand.Operand.TheVariants.{Bool as BoolIn}
use Rattle.mode_vm.proofs.Branching.{not_acts, not_operand}
use Rattle.mode_vm.proofs.frame.Frame.not.Goals as goal

pub bool_in-value-requires : goal.bool_in-value-requires
bool_in-value-requires g c =
    let P = program_of c.args.code.now in
    let nodes = g.N.Nodes.nodes c.args.store.now in
    let b = c.requires.before in
    let x = not_operand b.0 P nodes c.args.self.now b.1 b.2 c.pop-r.new.self.operands.items _ c.pop-r.ensures.top in
    (kind_of b.0 P, P.types, x.0, x.1)

pub returns : goal.returns
returns g c = record {
  does = λ m values b.
      let P = program_of c.args.code.now in
      let nodes = g.N.Nodes.nodes c.args.store.now in
      not_acts m P nodes c.args.self.now values b c.pop-r.new.self.operands.items _ c.pop-r.ensures.top nodes (λ kind types r t v h. h)
      c.pop-r.new.self c.finish.new.self c.pop-r.ensures.at (BoolIn (not c.bool_in-value.result)) c.bool_in-value.result
      (λ v h. c.bool_in-value.ensures (kind_of m P) P.types v h) refl
      c.finish.result c.finish.ensures;
}
