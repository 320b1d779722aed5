use Rattle.collision_audit.proofs.ByPieces.{audit_is_by_pieces}
use Rattle.collision_audit.proofs.laws.by_pieces.Goals as goal

pub returns : goal.returns
returns c = audit_is_by_pieces
