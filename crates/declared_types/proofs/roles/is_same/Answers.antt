use Rattle.core_terms.proofs.DecidedTypes.{same_decides}
use Rattle.declared_types.proofs.roles.is_same.Goals as goal

pub returns : goal.returns
returns c = same_decides _ _ _ c.is_same.ensures.0 c.is_same.ensures.1
