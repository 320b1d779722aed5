use Rattle.std.proofs.Common.{◌∙◌, ap₂, arith}
use Rattle.ideal_meaning.specs.Run.{compare_of}
use Rattle.value_store.specs.Markings.{kind_of}
use Rattle.mode_vm.specs.Meanings.{program_of}
use Rattle.mode_vm.specs.declared.operand.Operand.TheVariants.{Bool as BoolIn}
use Rattle.mode_vm.proofs.PassedInts.{kept}
use Rattle.mode_vm.proofs.IntOperations.{compare_acts, compare_first, compare_second}
use Rattle.mode_vm.proofs.Enough.{compare_enough}
use Rattle.mode_vm.proofs.frame.Frame.compare.Goals as goal

pub int_in-x-requires : goal.int_in-x-requires
int_in-x-requires g c =
    let P = program_of c.args.code.now in
    let nodes = g.N.Nodes.nodes c.args.store.now in
    let b = c.requires.before in
    let x = compare_first b.0 P nodes c.args.self.now c.args.op b.1 b.2 c.pop_two-first.new.self.operands.items _ _ c.pop_two-first.ensures.top in
    (kind_of b.0 P, P.types, x.0, x.1)

pub int_in-y-requires : goal.int_in-y-requires
int_in-y-requires g c =
    let P = program_of c.args.code.now in
    let nodes = g.N.Nodes.nodes c.args.store.now in
    let b = c.requires.before in
    let x = compare_second b.0 P nodes c.args.self.now c.args.op b.1 b.2 c.pop_two-first.new.self.operands.items _ _ c.pop_two-first.ensures.top in
    (kind_of b.0 P, P.types, x.0, x.1)

pub returns : goal.returns
returns g c = record {
  does = λ m values b.
      let P = program_of c.args.code.now in
      let nodes = g.N.Nodes.nodes c.args.store.now in
      let is = c.compared-holds.ensures ∙ ap₂ (λ x y. compare_of c.args.op x y) (kept c.int_in-x.result (omega arith)) (kept c.int_in-y.result (omega arith)) in
      compare_acts m P nodes c.args.self.now c.args.op values b c.pop_two-first.new.self.operands.items _ _ c.pop_two-first.ensures.top nodes (λ kind types r t v h. h)
      c.pop_two-first.new.self c.finish.new.self c.pop_two-first.ensures.at (BoolIn c.compared-holds.result) c.int_in-x.result c.int_in-y.result
      (λ v h. c.int_in-x.ensures (kind_of m P) P.types v h) (λ v h. c.int_in-y.ensures (kind_of m P) P.types v h)
      is
      c.finish.result c.finish.ensures;
}

pub pop_two-first-requires : goal.pop_two-first-requires
pop_two-first-requires g c =
    let b = c.requires.before in
    compare_enough b.0 (program_of c.args.code.now) (g.N.Nodes.nodes c.args.store.now) c.args.self.now b.1 c.args.op b.2
