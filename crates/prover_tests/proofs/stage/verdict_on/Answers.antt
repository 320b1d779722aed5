use Rattle.std.proofs.Common.{subst}
use Rattle.core_terms.specs.Programs.{meaning}
use Rattle.core_terms.specs.declared.program.Program.{Program}
use Rattle.mode_vm.specs.StateCalls.{TakesState}
use Rattle.prover_tests.proofs.stage.verdict_on.Goals as goal

pub verify_on-requires-clause-role : goal.verify_on-requires-clause-role
verify_on-requires-clause-role c κs = subst (λ (p : Program). TakesState (meaning p) c.in-Some.role.0) c.program.ensures c.in-Some.ensures.1
