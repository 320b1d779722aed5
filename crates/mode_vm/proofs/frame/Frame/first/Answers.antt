use Rattle.value_store.specs.Markings.{kind_of}
use Rattle.mode_vm.specs.Meanings.{program_of}
use Rattle.mode_vm.specs.declared.operand.Operand.TheVariants.{At}
use Rattle.mode_vm.proofs.PairOperations.{first_acts, first_pair}
use Rattle.mode_vm.proofs.frame.Frame.first.Goals as goal

pub parts_in-requires : goal.parts_in-requires
parts_in-requires g c =
    let P = program_of c.args.code.now in
    let nodes = g.N.Nodes.nodes c.args.store.now in
    let b = c.requires.before in
    let x = first_pair b.0 P nodes c.args.self.now b.1 b.2 c.pop-r.new.self.operands.items c.pop-r.result c.pop-r.ensures.top in
    (kind_of b.0 P, P.types, x.0, x.1, x.2, x.3)

pub returns : goal.returns
returns g c = record {
  does = λ m values b.
      let P = program_of c.args.code.now in
      let nodes = g.N.Nodes.nodes c.args.store.now in
      first_acts m P nodes c.args.self.now values b c.pop-r.new.self.operands.items c.pop-r.result c.pop-r.ensures.top
      c.pop-r.new.self c.finish.new.self c.pop-r.ensures.at (At c.parts_in.result.0)
      (λ s t v h. let p = c.parts_in.ensures (kind_of m P) P.types s t v h in (p.0, p.1, p.2, p.3))
      c.finish.result c.finish.ensures;
}
