use Rattle.collision_audit.proofs.FrontAudits.{ends_with_its_frame}
use Rattle.collision_audit.proofs.Refusals.{ends_with_the_difference}
use Rattle.collision_audit.proofs.laws.front.Goals as goal

pub returns-clause-collision : goal.returns-clause-collision
returns-clause-collision c = ends_with_its_frame

pub returns-clause-difference : goal.returns-clause-difference
returns-clause-difference c = ends_with_the_difference
