use Rattle.std.proofs.Common.{ap, subst}
use Rattle.value_store.specs.Nodes.{TextNode}
use Rattle.value_store.specs.Packing.{packed_nodes}
use Rattle.value_store.specs.Placing.{Adds, with_parts}
use Rattle.value_store.proofs.packed.Packed.add_text.Goals as goal

pub returns : goal.returns
returns c =
    subst (λ n. Adds (packed_nodes c.args.self.now) n c.add.result (packed_nodes c.add.new.self)) (ap (λ bytes. with_parts (TextNode bytes) c.args.size 1) c.in_ok-text.ensures) c.add.ensures
