use Rattle.value_store.specs.Markings.{kind_of}
use Rattle.mode_vm.specs.Meanings.{program_of}
use Rattle.mode_vm.proofs.ArrayOperations.{array_got, get_acts, index_got}
use Rattle.mode_vm.proofs.Enough.{get_enough}
use Rattle.mode_vm.proofs.frame.Frame.element.Goals as goal

pub pop_two-array-requires : goal.pop_two-array-requires
pop_two-array-requires g c =
    let b = c.requires.before in
    get_enough b.0 (program_of c.args.code.now) (g.N.Nodes.nodes c.args.store.now) c.args.self.now b.1 b.2

pub element_at-made-requires : goal.element_at-made-requires
element_at-made-requires g c =
    let P = program_of c.args.code.now in
    let nodes = g.N.Nodes.nodes c.args.store.now in
    let b = c.requires.before in
    let x = array_got b.0 P nodes c.args.self.now b.1 b.2 c.pop_two-array.new.self.operands.items _ _ c.pop_two-array.ensures.top in
    let y = index_got b.0 P nodes c.args.self.now b.1 b.2 c.pop_two-array.new.self.operands.items _ _ c.pop_two-array.ensures.top in
    record { array = (kind_of b.0 P, P.types, x.0, x.1, x.2, x.3); index = (kind_of b.0 P, P.types, y.0, y.1) }

pub returns : goal.returns
returns g c = record {
  does = λ m values b.
      let P = program_of c.args.code.now in
      let nodes = g.N.Nodes.nodes c.args.store.now in
      get_acts m P nodes c.args.self.now values b c.pop_two-array.new.self.operands.items _ _ c.pop_two-array.ensures.top
      c.pop_two-array.new.self c.finish.new.self c.pop_two-array.ensures.at c.element_at-made.result
      (λ n t u v h j. c.element_at-made.ensures m (kind_of m P) P.types n t u v h j)
      c.finish.result c.finish.ensures;
}
