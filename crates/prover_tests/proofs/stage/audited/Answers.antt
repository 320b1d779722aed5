use Rattle.prover_tests.proofs.stage.audited.Goals as goal

pub audit-requires-clause-stand : goal.audit-requires-clause-stand
audit-requires-clause-stand g c κs within = c.in_ok-role.ensures.called _
