use Rattle.std.proofs.Common.{List, ap₂, subst}
use Rattle.value_store.specs.CodeNodes.{numbers_of}
use Rattle.value_store.specs.Nodes.{ConNode}
use Rattle.value_store.specs.Packing.{packed_nodes}
use Rattle.value_store.specs.Placing.{Adds, with_parts}
use Rattle.value_store.specs.declared.node.Ref.{Ref}
use Rattle.value_store.proofs.packed.Packed.add_constructor.Goals as goal

pub returns : goal.returns
returns c =
    subst (λ xs. Adds xs (with_parts (ConNode c.args.named.0 c.args.tag.0 (numbers_of c.args.fields.now)) c.args.size c.args.depth) c.add.result (packed_nodes c.add.new.self)) c.keep_parts.ensures.nodes
    (subst (λ n. Adds (packed_nodes c.keep_parts.new.self) n c.add.result (packed_nodes c.add.new.self))
    (ap₂ (λ n (rs : List Ref). with_parts (ConNode n c.args.tag.0 (numbers_of rs)) c.args.size c.args.depth) c.in_ok-named.ensures c.in_ok-start.ensures.kept) c.add.ensures)
