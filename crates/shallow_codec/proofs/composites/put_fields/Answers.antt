use Rattle.std.proofs.Common.{List, subst, sym}
use Rattle.value_store.specs.CodeNodes.{numbers_of}
use Rattle.value_store.specs.Standing.{VerifierNodes}
use Rattle.shallow_codec.specs.PutNodes.{AreThere}
use Rattle.value_store.specs.declared.node.Ref.{Ref}
use Rattle.shallow_codec.proofs.ReadNodes.{con_is_read}
use Rattle.shallow_codec.proofs.composites.put_fields.Goals as goal

pub returns-clause-read : goal.returns-clause-read
returns-clause-read g c = λ types levels ts at mid fields bytes first read.
    let old = g.N.Nodes.nodes c.args.store.now in
    let there = subst (λ (rs : List Ref). AreThere types old levels read.1 (numbers_of rs) ts read.0) (sym c.as_slice.ensures) read.3 in
    con_is_read types levels c.args.named.0 c.args.tag.0 ts at mid c.args.fields.behind old (g.N.Nodes.nodes c.put_constructor.new.self)
    (numbers_of c.as_slice.result.now) c.in_ok-value.value.0 read.1 read.0 fields bytes first read.2 there read.4 c.in_ok-value.ensures.put
    (c.in_ok-value.ensures.stands VerifierNodes types ts read.0 fields there.stand)
