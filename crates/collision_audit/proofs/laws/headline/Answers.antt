use Rattle.collision_audit.proofs.AuditHeadline.{audit_shows_collision, agreement_is_true}
use Rattle.collision_audit.proofs.laws.headline.Goals as goal

pub returns-clause-shown : goal.returns-clause-shown
returns-clause-shown c = audit_shows_collision

pub returns-clause-agreed : goal.returns-clause-agreed
returns-clause-agreed c = agreement_is_true
