use Rattle.ideal_meaning.proofs.Ring.{ring_of_verifier, ring_of_prover}
use Rattle.ideal_meaning.proofs.laws.ring.Goals as goal

pub returns : goal.returns
returns c = record { verifier = ring_of_verifier; prover = ring_of_prover }
