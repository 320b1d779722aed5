use Rattle.std.proofs.Common.{arith}
use Rattle.auth_syntax.specs.Trees.{array_of}
use Rattle.auth_types.specs.Elaborators.{locals_of, scope_of}
use Rattle.auth_types.proofs.ArraySteps.{miscounted}
use Rattle.auth_types.proofs.bodies.elaborator.Elaborator.begun.Goals as goal

pub returns-then-others-others_of : goal.returns-then-others-others_of
returns-then-others-others_of c =
    miscounted (scope_of c.args.self.now) (locals_of c.args.self.now) c.args.at (array_of c.args.operator) c.args.operands.now (λ same. c.if-others-others_of.true (omega (arith, same, c.others_of.ensures)))
