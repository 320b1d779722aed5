use Rattle.std.proofs.Common.{ap, ◌∙◌, ◌+◌, ◌++◌, ◌∷◌, [], refl}
use Rattle.mode_vm.specs.Meanings.{program_of}
use Rattle.mode_vm.proofs.Binding.{bound}
use Rattle.mode_vm.proofs.frame.Frame.bind.Goals as goal

pub returns : goal.returns
returns g c =
    record {
      does = λ m values b.
          let at = c.pop-r.ensures.at in
          bound m (program_of c.args.code.now) (g.N.Nodes.nodes c.args.store.now) c.args.self.now values b c.pop-r.new.self.operands.items c.pop-r.result c.pop-r.ensures.top _
          (record {
            function = at.function;
            place = ap (λ p. p + 1) at.place;
            locals = c.in_ok-push.ensures.items ∙ ap (λ l. l ++ c.pop-r.result ∷ []) at.locals;
            operands = refl;
            over = record { locals = c.in_ok-push.ensures.below ∙ at.over.locals; operands = at.over.operands };
          });
    }
