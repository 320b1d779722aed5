use Rattle.code_gen.proofs.CodeSizes
use Rattle.code_gen.proofs.laws.code_is_short.Goals as goal

pub returns : goal.returns
returns c = CodeSizes.code_is_short
