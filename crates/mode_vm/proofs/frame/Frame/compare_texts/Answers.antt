use Rattle.value_store.specs.Markings.{kind_of}
use Rattle.mode_vm.specs.Meanings.{program_of}
use Rattle.mode_vm.specs.declared.operand.Operand.TheVariants.{Bool as BoolIn}
use Rattle.mode_vm.proofs.TextOperations.{compare_acts, compare_first, compare_second}
use Rattle.mode_vm.proofs.Enough.{text_compare_enough}
use Rattle.mode_vm.proofs.frame.Frame.compare_texts.Goals as goal

pub text_in-x-requires : goal.text_in-x-requires
text_in-x-requires g c =
    let P = program_of c.args.code.now in
    let nodes = g.N.Nodes.nodes c.args.store.now in
    let b = c.requires.before in
    let x = compare_first b.0 P nodes c.args.self.now c.args.op b.1 b.2 c.pop_two-first.new.self.operands.items _ _ c.pop_two-first.ensures.top in
    (kind_of b.0 P, P.types, x.0, x.1)

pub text_in-y-requires : goal.text_in-y-requires
text_in-y-requires g c =
    let P = program_of c.args.code.now in
    let nodes = g.N.Nodes.nodes c.args.store.now in
    let b = c.requires.before in
    let x = compare_second b.0 P nodes c.args.self.now c.args.op b.1 b.2 c.pop_two-first.new.self.operands.items _ _ c.pop_two-first.ensures.top in
    (kind_of b.0 P, P.types, x.0, x.1)

pub returns : goal.returns
returns g c = record {
  does = λ m values b.
      let P = program_of c.args.code.now in
      let nodes = g.N.Nodes.nodes c.args.store.now in
      compare_acts m P nodes c.args.self.now c.args.op values b c.pop_two-first.new.self.operands.items _ _ c.pop_two-first.ensures.top nodes (λ kind types r t v h. h)
      c.pop_two-first.new.self c.finish.new.self c.pop_two-first.ensures.at (BoolIn c.compared-holds.result) c.text_in-x.result.now c.text_in-y.result.now
      (λ v h. c.text_in-x.ensures (kind_of m P) P.types v h) (λ v h. c.text_in-y.ensures (kind_of m P) P.types v h)
      c.compared-holds.ensures
      c.finish.result c.finish.ensures;
}

pub pop_two-first-requires : goal.pop_two-first-requires
pop_two-first-requires g c =
    let b = c.requires.before in
    text_compare_enough b.0 (program_of c.args.code.now) (g.N.Nodes.nodes c.args.store.now) c.args.self.now b.1 c.args.op b.2
