use Rattle.prover_tests.proofs.stage.proved_on.Goals as goal

pub prove-requires-clause-called : goal.prove-requires-clause-called
prove-requires-clause-called g c κs within = c.in_ok-role.ensures.called _
