use Rattle.std.proofs.Common.{refl}
use Rattle.mode_vm.proofs.state.State.begin.Goals as goal

pub returns : goal.returns
returns c =
    let to = c.in_ok-caller.ensures in (
      to.args,
      to.kept,
      to.many,
      record {
        operands = to.from;
        entered = refl;
        fuel = refl;
        function = to.function;
        place = to.place;
        locals = to.locals;
        no_operands = to.no_operands;
        caller = c.in_ok-caller.caller;
        waiting = c.in_ok-push.ensures.items;
        waits = to.waits;
      },
    )
