use Rattle.std.proofs.Common.{◌-◌, drop, take, ap, ◌∙◌}
use Rattle.mode_vm.proofs.Stacking.{top_above}
use Rattle.mode_vm.proofs.stack.Stack.topmost.Goals as goal

pub returns : goal.returns
returns c =
    let stack = c.self.inside in
    let kept = stack.count - c.args.count in
    ap (λ l. take (stack.count - kept) (drop kept l)) c.deref.ensures.value
    ∙ top_above stack.all.items c.args.self.now.items stack.base stack.count c.args.count c.self.invariant.0 c.self.invariant.1 (ap (λ s. s.items) c.self.view_is) c.requires
