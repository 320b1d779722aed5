use Rattle.auth_types.proofs.OperationSteps.{leaf_in}
use Rattle.auth_types.proofs.bodies.elaborator.Elaborator.operand_type.Goals as goal

pub intern-requires-clause-format : goal.intern-requires-clause-format
intern-requires-clause-format c = leaf_in _ c.operand_form.result (c.operand_form.ensures.plain 0)
