use Rattle.std.proofs.Common.{ap₂, subst}
use Rattle.value_store.specs.Nodes.{PairNode}
use Rattle.value_store.specs.Packing.{packed_nodes}
use Rattle.value_store.specs.Placing.{Adds, with_parts}
use Rattle.value_store.proofs.packed.Packed.add_pair.Goals as goal

pub returns : goal.returns
returns c =
    subst (λ n. Adds (packed_nodes c.args.self.now) n c.add.result (packed_nodes c.add.new.self))
    (ap₂ (λ i j. with_parts (PairNode i j) c.args.size c.args.depth) c.in_ok-first.ensures c.in_ok-second.ensures) c.add.ensures
