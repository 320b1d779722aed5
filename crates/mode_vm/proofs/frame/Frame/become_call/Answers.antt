use Rattle.std.proofs.Common.{◌++◌, refl, ap, ◌∙◌}
use Rattle.mode_vm.proofs.frame.Frame.become_call.Goals as goal

pub returns : goal.returns
returns c =
    let moves = c.in_ok-move_to.ensures.moved in
    record {
      args = moves.moved;
      kept = c.move_to.new.self.items;
      many = moves.many;
      from = moves.from;
      function = refl;
      place = refl;
      locals = moves.to ∙ ap (λ l. l ++ moves.moved) c.clear.ensures.items;
      no_operands = c.clear-2.ensures.items;
      over = record { locals = c.in_ok-move_to.ensures.below_there ∙ c.clear.ensures.below; operands = c.clear-2.ensures.below ∙ c.in_ok-move_to.ensures.below };
    }
