use Rattle.std.proofs.Common.{sym}
use Rattle.auth_types.proofs.CallSteps.{arms_other_count}
use Rattle.auth_types.proofs.bodies.calls.are_of.Goals as goal

pub returns-then-arms-constructors : goal.returns-then-arms-constructors
returns-then-arms-constructors c = sym (arms_other_count c.args.arms.now c.args.constructors.now c.if-arms-constructors.true)
