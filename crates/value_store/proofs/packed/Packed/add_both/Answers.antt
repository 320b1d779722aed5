use Rattle.std.proofs.Common.{[], ap, subst}
use Rattle.std.specs.Option.{option_map_or}
use Rattle.core_terms.specs.declared.digest.Digest.{Digest}
use Rattle.value_store.specs.Nodes.{AuthNode, BothHeld}
use Rattle.value_store.specs.Packing.{packed_nodes}
use Rattle.value_store.specs.Placing.{Adds, with_parts}
use Rattle.value_store.proofs.packed.Packed.add_both.Goals as goal

pub returns : goal.returns
returns c =
    subst (λ xs. Adds xs (with_parts (AuthNode (BothHeld c.args.digest.0 c.args.inner.0)) 32 1) c.add.result (packed_nodes c.add.new.self)) c.keep_digest.ensures.nodes
    (subst (λ n. Adds (packed_nodes c.keep_digest.new.self) n c.add.result (packed_nodes c.add.new.self))
    (ap (λ o. with_parts (AuthNode (BothHeld (option_map_or (λ (d : Digest). d.0) o []) c.args.inner.0)) 32 1) c.in_ok-number.ensures.kept) c.add.ensures)
