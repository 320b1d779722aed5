use Rattle.std.proofs.Common.{ap}
use Rattle.mode_vm.proofs.Stacking.{fewer_above}
use Rattle.mode_vm.proofs.stack.Stack.drop_last.Goals as goal

pub returns-clause-items : goal.returns-clause-items
returns-clause-items c =
    let stack = c.self.inside in
    fewer_above stack.all.items c.args.self.now.items stack.base stack.count c.args.count c.self.invariant.0 c.self.invariant.1 (ap (λ s. s.items) c.self.view_is) c.requires
