use Rattle.std.proofs.Common.{arith, refl}
use Rattle.core_terms.specs.Types.{AuthTy}
use Rattle.core_terms.specs.Values.{DigestV}
use Rattle.value_store.specs.Nodes.{AuthNode, OnlyHeld}
use Rattle.value_store.specs.Standing.{VerifierNodes}
use Rattle.shallow_codec.proofs.ReadPlaces.{leaf_read}
use Rattle.shallow_codec.proofs.leaves.put_digest.Goals as goal

pub returns-clause-read : goal.returns-clause-read
returns-clause-read g c = λ types levels t.
    leaf_read types levels c.args.at c.in-Some.behind _ (g.N.Nodes.nodes c.args.store.now) (g.N.Nodes.nodes c.put_auth.new.self) (AuthNode (OnlyHeld c.in-Some.digest.0))
    c.in_ok-value.value.0 (AuthTy t) (DigestV c.in-Some.digest.0) 32
    c.in-Some.ensures.value.0 c.in-Some.ensures.value.1 refl (omega arith) refl c.in_ok-value.ensures.put
    (c.in_ok-value.ensures.stands VerifierNodes types t (DigestV c.in-Some.digest.0) (refl, c.in-Some.ensures.length))
