use Rattle.std.proofs.Common.{ap}
use Rattle.declared_types.specs.Checking.{Sound, then_checked}
use Rattle.auth_types.specs.Bodies.{binary_expression, operand_type, result_type, typed, wanted}
use Rattle.auth_types.specs.Elaborators.{typed_of, types_of}
use Rattle.auth_types.proofs.FindingSteps.{finds_is}
use Rattle.auth_types.proofs.JoinSteps.{expression_first, let_joined}
use Rattle.auth_types.proofs.bodies.elaborator.Elaborator.joined.Goals as goal

pub returns-in-Pair-clause-found : goal.returns-in-Pair-clause-found
returns-in-Pair-clause-found c = rw c.in-Pair.is c.paired.ensures.found

pub returns-in-Operation-clause-found : goal.returns-in-Operation-clause-found
returns-in-Operation-clause-found c =
    let op = c.in-Operation.operator in
    rw c.in-Operation.is
    (λ x y h h'. finds_is (types_of c.operated.new.self) typed_of _ _ c.operated.result
    (expression_first x (λ e. then_checked (wanted c.args.at (operand_type op) y) (λ b. typed (binary_expression op e b) (result_type op))))
    (c.operated.ensures.found (then_checked x (λ a. Sound a.expression)) y (λ more. ap (λ x. then_checked x (λ a. Sound a.expression)) (h more)) h'))

pub returns-in-Let-clause-found : goal.returns-in-Let-clause-found
returns-in-Let-clause-found c =
    rw c.in-Let.is (λ x y h h'. c.typed.ensures.found _ (let_joined (types_of c.args.self.now) c.args.first c.args.second x y h h'))
