use Rattle.verdict_tests.proofs.LentCode.{reads_state}
use Rattle.verdict_tests.proofs.verdicts.endless.Goals as goal

pub verify-requires-clause-role : goal.verify-requires-clause-role
verify-requires-clause-role c κs = reads_state c.program.result.now c.deref.result.now c.deref-then-headed.result.now _ c.in-Some.role.0 c.program.ensures c.deref.ensures c.deref-then-headed.ensures c.in-Some.ensures.1

pub verify_on-requires-clause-role : goal.verify_on-requires-clause-role
verify_on-requires-clause-role c κs = reads_state c.program.result.now c.deref.result.now c.deref-2.result.now _ c.in-Some.role.0 c.program.ensures c.deref.ensures c.deref-2.ensures c.in-Some.ensures.1
