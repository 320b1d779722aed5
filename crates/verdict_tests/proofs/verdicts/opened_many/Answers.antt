use Rattle.verdict_tests.proofs.LentCode.{reads_state}
use Rattle.verdict_tests.proofs.verdicts.opened_many.Goals as goal

pub verify-requires-clause-role : goal.verify-requires-clause-role
verify-requires-clause-role c κs = reads_state c.program.result.now c.deref.result.now c.deref-3.result.now _ c.in-Some.role.0 c.program.ensures c.deref.ensures c.deref-3.ensures c.in-Some.ensures.1
