use Rattle.std.proofs.Common.{length}
use Rattle.value_store.specs.CodeNodes.{numbers_of}
use Rattle.value_store.proofs.PutNodes.{vec_put}
use Rattle.value_store.proofs.nodes.Nodes.put_vec.Goals as goal

pub returns-clause-stands : goal.returns-clause-stands
returns-clause-stands g c =
    vec_put (g.Self.Nodes.nodes c.args.self.now) (g.Self.Nodes.nodes c.put.new.self) c.put.result (length c.args.items.now) (numbers_of c.args.items.now) c.requires.count c.put.ensures.put
