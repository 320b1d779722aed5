use Rattle.std.proofs.Common.{◌+◌, arith, length, refl}
use Rattle.core_terms.specs.Types.{TextTy}
use Rattle.core_terms.specs.Values.{TextV}
use Rattle.value_store.specs.Nodes.{TextNode}
use Rattle.value_store.specs.Standing.{VerifierNodes}
use Rattle.shallow_codec.proofs.ReadPlaces.{leaf_read}
use Rattle.shallow_codec.proofs.leaves.put_text.Goals as goal

pub returns-clause-read : goal.returns-clause-read
returns-clause-read g c = λ types levels.
    leaf_read types levels c.args.at c.in-Some.behind _ (g.N.Nodes.nodes c.args.store.now) (g.N.Nodes.nodes c.put_text.new.self) (TextNode c.in-Some.text.now)
    c.in_ok-value.value.0 TextTy (TextV c.in-Some.text.now) (4 + length c.in-Some.text.now)
    c.in-Some.ensures.0 c.in-Some.ensures.1 refl (omega arith) refl c.in_ok-value.ensures.put (c.in_ok-value.ensures.stands VerifierNodes types)
