use Rattle.std.proofs.Common.{ap₂}
use Rattle.mode_vm.specs.Stacks.{Stacked}
use Rattle.mode_vm.specs.declared.frame.Frame.{Frame}
use Rattle.mode_vm.proofs.frame.Frame.resume.Goals as goal

pub returns : goal.returns
returns c =
    let resumed : Stacked → Stacked → Frame = λ ls os. record { function = c.args.caller.function; place = c.args.caller.place; locals = ls; operands = os } in
    ap₂ resumed c.leave.ensures c.leave-2.ensures
