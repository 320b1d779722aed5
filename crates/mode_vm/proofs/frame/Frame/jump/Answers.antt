use Rattle.std.proofs.Common.{refl, arith}
use Rattle.mode_vm.specs.Meanings.{program_of}
use Rattle.mode_vm.proofs.Jumps.{within, jumped}
use Rattle.mode_vm.proofs.frame.Frame.jump.Goals as goal

pub overflow_add-self-2 : goal.overflow_add-self-2
overflow_add-self-2 g c =
    let b = c.requires.before in
    let h = within b.0 (program_of c.args.code.now) (g.N.Nodes.nodes c.args.store.now) c.args.self.now c.args.count b.1 b.2 in
    let l = c.requires.length in
    omega (arith, h, l)

pub returns : goal.returns
returns g c = record {
  does = λ m values b. jumped m (program_of c.args.code.now) (g.N.Nodes.nodes c.args.store.now) c.args.self.now c.args.count values b _
      (record { function = refl; place = refl; locals = refl; operands = refl; over = record { locals = refl; operands = refl } });
}
