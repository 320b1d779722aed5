use Rattle.core_terms.proofs.DecidedTypes.{same_decides}
use Rattle.code_check.proofs.shapes.is_state.Goals as goal

pub returns : goal.returns
returns c = same_decides _ _ _ c.is_same.ensures.0 c.is_same.ensures.1
