use Rattle.auth_syntax.specs.Trees.{program_of}
use Rattle.auth_types.specs.CheckedPrograms.{all_passes, checked}
use Rattle.auth_types.proofs.PassesOfTrees.{checks_found}
use Rattle.auth_types.proofs.check.check.Goals as goal

pub returns-clause-answer : goal.returns-clause-answer
unfolding checked
returns-clause-answer c = checks_found (all_passes (program_of c.args.ast.now)) c.all_passes.result c.all_passes.ensures.answer
