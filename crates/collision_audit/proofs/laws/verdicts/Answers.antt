use Rattle.collision_audit.proofs.OnProof.{verdict_is_on_proof}
use Rattle.collision_audit.proofs.laws.verdicts.Goals as goal

pub returns : goal.returns
returns c = verdict_is_on_proof
