use Rattle.value_store.proofs.Pools.{nodes_after, placed_after, rise_after}
use Rattle.value_store.proofs.packed.Packed.cut_to.Goals as goal

pub invariant_of-self : goal.invariant_of-self
invariant_of-self c =
    let s = c.args.self.now in
    record {
      placed = placed_after s.parts.items s.digests.items s.nodes.items c.args.count c.ends_of-ends.result.parts c.ends_of-ends.result.digests s.placed c.ends_of-ends.ensures
          _ _ _ c.truncate-2.ensures.items c.truncate-3.ensures.items c.truncate.ensures.items;
      rise = rise_after s.nodes.items _ c.args.count s.rise c.truncate.ensures.items;
    }

pub returns : goal.returns
returns c =
    let s = c.args.self.now in
    nodes_after s.parts.items s.digests.items s.nodes.items c.args.count c.ends_of-ends.result.parts c.ends_of-ends.result.digests s.placed c.ends_of-ends.ensures
    _ _ _ c.truncate-2.ensures.items c.truncate-3.ensures.items c.truncate.ensures.items
