use Rattle.core_terms.proofs.LawProofs.{projection_keeps_limits, projection_is_shallow, plain_is_own_projection, projection_is_read_back}
use Rattle.core_terms.proofs.laws.projection.Goals as goal

pub returns : goal.returns
returns c = record { limits = projection_keeps_limits; shape = projection_is_shallow; plain = plain_is_own_projection; read_back = projection_is_read_back }
