use Rattle.std.proofs.Common.{refl}
use Rattle.mode_vm.proofs.state.State.begin_last.Goals as goal

pub returns : goal.returns
returns c =
    let to = c.in_ok-become_call.ensures in (
      to.args,
      to.kept,
      to.many,
      record {
        operands = to.from;
        entered = refl;
        fuel = refl;
        function = to.function;
        place = to.place;
        locals = to.locals;
        no_operands = to.no_operands;
        over = to.over;
        waiting = refl;
      },
    )
