use Rattle.code_gen.proofs.CodeSizes
use Rattle.code_gen.proofs.laws.code_has_a_limit.Goals as goal

pub returns : goal.returns
returns c = CodeSizes.code_has_a_limit
