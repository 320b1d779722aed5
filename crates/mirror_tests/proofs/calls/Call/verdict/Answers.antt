use Rattle.std.proofs.Common.{subst}
use Rattle.core_terms.specs.Programs.{meaning}
use Rattle.core_terms.specs.declared.program.Program.{Program}
use Rattle.mode_vm.specs.StateCalls.{TakesState}
use Rattle.mirror_tests.proofs.calls.Call.verdict.Goals as goal

pub verify_from-requires-clause-role : goal.verify_from-requires-clause-role
verify_from-requires-clause-role g c κs within = subst (λ (p : Program). TakesState (meaning p) c.in-Some.role.0) c.program.ensures c.in-Some.ensures.1
