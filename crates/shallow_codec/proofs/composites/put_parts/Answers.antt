use Rattle.std.proofs.Common.{◌<◌, length, subst, sym}
use Rattle.value_store.specs.Standing.{VerifierNodes}
use Rattle.shallow_codec.proofs.GrownNodes.{below_behind}
use Rattle.shallow_codec.proofs.ReadNodes.{pair_is_read}
use Rattle.shallow_codec.proofs.composites.put_parts.Goals as goal

pub returns-clause-read : goal.returns-clause-read
returns-clause-read g c = λ types levels a b at before grown first second.
    pair_is_read types levels at c.args.first.behind c.args.second.behind before (g.N.Nodes.nodes c.args.store.now) (g.N.Nodes.nodes c.put_pair.new.self)
    c.args.first.value.0 c.args.second.value.0 c.in_ok-value.value.0 a b grown first second c.in_ok-value.ensures.put
    (λ x y. c.in_ok-value.ensures.stands VerifierNodes types a b x y)

pub returns-clause-inside : goal.returns-clause-inside
returns-clause-inside g c =
    let new = g.N.Nodes.nodes c.put_pair.new.self in
    let put = c.in_ok-value.ensures.put in
    subst (λ i. i < length new) (sym put.0) (below_behind (g.N.Nodes.nodes c.args.store.now) new _ put.1)
