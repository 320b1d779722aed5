use Rattle.std.proofs.Common.{◌++◌, length, refl, ap, ◌∙◌}
use Rattle.mode_vm.proofs.Stacking.{above_is, all_within, below_is}
use Rattle.mode_vm.proofs.frame.Frame.begin_call.Goals as goal

pub returns : goal.returns
returns c =
    let locals = c.args.self.now.locals in
    let operands = c.args.self.now.operands in
    let moves = c.in_ok-move_to.ensures.moved in
    let kept = c.move_to.new.self.items in
    let local_base = c.enter-local_base.result in
    let operand_base = c.enter-operand_base.result in
    let locals_lie = c.in_ok-move_to.ensures.below_there ∙ c.enter-local_base.ensures.below in
    let operands_lie = c.enter-operand_base.ensures.below ∙ ap (λ l. l ++ kept) c.in_ok-move_to.ensures.below in
    let operands_begin = c.enter-operand_base.ensures.base ∙ ap length c.in_ok-move_to.ensures.below in
    record {
      args = moves.moved;
      kept = kept;
      many = moves.many;
      from = moves.from;
      function = refl;
      place = refl;
      locals = moves.to ∙ ap (λ l. l ++ moves.moved) c.enter-local_base.ensures.items;
      no_operands = c.enter-operand_base.ensures.items;
      waits = record {
        is = record {
          function = refl;
          place = refl;
          locals = above_is locals.below locals.items c.move_to.new.to.below local_base c.enter-local_base.ensures.base locals_lie;
          operands = above_is operands.below kept c.enter-operand_base.new.self.below operand_base operands_begin operands_lie;
          over = record {
            locals = below_is locals.below locals.items c.move_to.new.to.below local_base c.enter-local_base.ensures.base locals_lie;
            operands = below_is operands.below kept c.enter-operand_base.new.self.below operand_base operands_begin operands_lie;
          };
        };
        local_base = all_within locals.below locals.items c.move_to.new.to.below local_base c.enter-local_base.ensures.base locals_lie;
        operand_base = all_within operands.below kept c.enter-operand_base.new.self.below operand_base operands_begin operands_lie;
      };
    }
