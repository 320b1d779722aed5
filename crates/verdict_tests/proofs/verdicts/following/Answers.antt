use Rattle.verdict_tests.proofs.LentCode.{reads_state}
use Rattle.verdict_tests.proofs.verdicts.following.Goals as goal

pub verify_on-requires-clause-role : goal.verify_on-requires-clause-role
verify_on-requires-clause-role c κs = reads_state c.program.result.now c.deref.result.now c.deref-2.result.now _ c.in-Some.role.0 c.program.ensures c.deref.ensures c.deref-2.ensures c.in-Some.ensures.1

pub verify_on-requires-2-clause-role : goal.verify_on-requires-2-clause-role
verify_on-requires-2-clause-role c κs = reads_state c.program.result.now c.deref.result.now c.deref-3.result.now _ c.in-Some.role.0 c.program.ensures c.deref.ensures c.deref-3.ensures c.in-Some.ensures.1
