use Rattle.std.proofs.Common.{refl}
use Rattle.mode_vm.specs.Meanings.{program_of}
use Rattle.mode_vm.proofs.Binding.{unbind_enough, unbound}
use Rattle.mode_vm.proofs.frame.Frame.unbind.Goals as goal

pub drop_last-requires : goal.drop_last-requires
drop_last-requires g c =
    let b = c.requires.before in
    unbind_enough b.0 (program_of c.args.code.now) (g.N.Nodes.nodes c.args.store.now) c.args.self.now c.args.count b.1 b.2

pub returns : goal.returns
returns g c =
    record {
      does = λ m values b.
          unbound m (program_of c.args.code.now) (g.N.Nodes.nodes c.args.store.now) c.args.self.now c.args.count values b _
          (record {
            function = refl;
            place = refl;
            locals = c.drop_last.ensures.items;
            operands = refl;
            over = record { locals = c.drop_last.ensures.below; operands = refl };
          });
    }
