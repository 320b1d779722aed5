use Rattle.std.proofs.Common.{arith}
use Rattle.code_check.proofs.CalledFunctions.{called_is, no_code}
use Rattle.code_check.proofs.operations.function_of.Goals as goal

pub returns-then-function-len-clause-function : goal.returns-then-function-len-clause-function
returns-then-function-len-clause-function c =
    called_is c.args.parts.now c.args.function c.deref.result.now c.get.result c.deref.ensures.value (omega (arith, c.len.ensures)) c.get.ensures.lookup.0 c.get.ensures.lookup.1

pub returns-else-function-len-clause-function : goal.returns-else-function-len-clause-function
returns-else-function-len-clause-function c = no_code c.args.parts.now c.args.function (omega (arith, c.len.ensures))
