use Rattle.core_terms.specs.Programs.{types_in}
use Rattle.std.proofs.Common.{refl, arith, None}
use Rattle.code_check.proofs.TakenOperands.{goes_on, ends}
use Rattle.code_check.proofs.lists.+taken_off.Goals as goal

-- src/lib.rt:105:9
pub taken_off-requires : goal.taken_off-requires
taken_off-requires t c = (omega (arith, c.decreases, c.in-Some.ensures.others), (omega (arith, c.requires.takes, c.in-Some.ensures.others), omega (arith, c.requires.operands, c.in_ok-operand.ensures.others)))

-- src/lib.rt:95:1
pub returns-then-is_same-clause-left : goal.returns-then-is_same-clause-left
returns-then-is_same-clause-left t c =
    goes_on (types_in c.args.lists.now.types) c.args.takes c.args.operands c.in-Some.take c.in_ok-operand.operand c.taken_off.result c.in-Some.ensures.top c.in_ok-operand.ensures.top
    (c.if-is_same.ensures.0 refl) c.taken_off.ensures.left

-- src/lib.rt:95:1
pub returns-else-is_same-clause-left : goal.returns-else-is_same-clause-left
returns-else-is_same-clause-left t c =
    ends (types_in c.args.lists.now.types) c.args.takes c.args.operands c.in-Some.take c.in_ok-operand.operand None c.in-Some.ensures.top c.in_ok-operand.ensures.top c.is_same.result c.is_same.ensures c.if-is_same.false
