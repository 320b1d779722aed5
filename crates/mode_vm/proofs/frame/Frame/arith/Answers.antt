use Rattle.value_store.specs.Markings.{kind_of}
use Rattle.mode_vm.specs.Meanings.{program_of}
use Rattle.mode_vm.proofs.IntOperations.{arith_acts, arith_first, arith_second}
use Rattle.mode_vm.proofs.Enough.{arith_enough}
use Rattle.mode_vm.proofs.frame.Frame.arith.Goals as goal

pub returns : goal.returns
returns g c = record {
  does = λ m values b.
      let P = program_of c.args.code.now in
      arith_acts m P (g.N.Nodes.nodes c.args.store.now) c.args.self.now c.args.op values b c.pop_two-first.new.self.operands.items _ _ c.pop_two-first.ensures.top
      (g.N.Nodes.nodes c.args.store.now) (λ kind types r t v h. h) c.pop_two-first.new.self c.finish.new.self c.pop_two-first.ensures.at c.new_result-made.result
      (λ x y h j. c.new_result-made.ensures.makes m (kind_of m P) P.types x y h j) c.finish.result c.finish.ensures;
}

pub new_result-made-requires-clause-first : goal.new_result-made-requires-clause-first
new_result-made-requires-clause-first g c =
    let P = program_of c.args.code.now in
    let nodes = g.N.Nodes.nodes c.args.store.now in
    let b = c.requires.before in
    let x = arith_first b.0 P nodes c.args.self.now c.args.op b.1 b.2 c.pop_two-first.new.self.operands.items _ _ c.pop_two-first.ensures.top in
    (kind_of b.0 P, P.types, x.0, x.1)

pub new_result-made-requires-clause-second : goal.new_result-made-requires-clause-second
new_result-made-requires-clause-second g c =
    let P = program_of c.args.code.now in
    let nodes = g.N.Nodes.nodes c.args.store.now in
    let b = c.requires.before in
    let x = arith_second b.0 P nodes c.args.self.now c.args.op b.1 b.2 c.pop_two-first.new.self.operands.items _ _ c.pop_two-first.ensures.top in
    (kind_of b.0 P, P.types, x.0, x.1)

pub pop_two-first-requires : goal.pop_two-first-requires
pop_two-first-requires g c =
    let b = c.requires.before in
    arith_enough b.0 (program_of c.args.code.now) (g.N.Nodes.nodes c.args.store.now) c.args.self.now b.1 c.args.op b.2
