use Rattle.std.proofs.Math.Seq.{take-length}
use Rattle.value_store.proofs.Pools.{extended, nodes_longer, placed_longer}
use Rattle.value_store.proofs.packed.Packed.keep_parts.Goals as goal

pub invariant_of-self : goal.invariant_of-self
invariant_of-self c =
    let s = c.args.self.now in
    record {
      placed = placed_longer s.parts.items _ s.digests.items s.digests.items s.nodes.items s.placed
          (extended _ s.parts.items c.args.parts.now c.extend_from_slice.new.self.items c.extend_from_slice.ensures.items) (take-length s.digests.items);
      rise = s.rise;
    }

pub returns-clause-nodes : goal.returns-clause-nodes
returns-clause-nodes c =
    let s = c.args.self.now in
    nodes_longer s.parts.items _ s.digests.items s.digests.items s.nodes.items s.placed
    (extended _ s.parts.items c.args.parts.now c.extend_from_slice.new.self.items c.extend_from_slice.ensures.items) (take-length s.digests.items)
