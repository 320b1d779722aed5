use Rattle.std.proofs.Common.{subst}
use Rattle.core_terms.specs.Programs.{meaning}
use Rattle.core_terms.specs.declared.program.Program.{Program}
use Rattle.mode_vm.specs.StateCalls.{TakesState}
use Rattle.prover_tests.proofs.stage.verdict_of_bytes.Goals as goal

pub verify-requires-clause-role : goal.verify-requires-clause-role
verify-requires-clause-role g c κs within = subst (λ (p : Program). TakesState (meaning p) c.in-Some.role.0) c.program.ensures c.in-Some.ensures.1
