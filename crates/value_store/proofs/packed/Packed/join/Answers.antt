use Rattle.std.proofs.Math.Seq.{take-length}
use Rattle.value_store.proofs.AbsorbedPools.{on_err, placed_put, rise_put, same_put}
use Rattle.value_store.proofs.Pools.{extended, nodes_longer, placed_longer}
use Rattle.value_store.proofs.packed.Packed.join.Goals as goal

pub invariant_of-self : goal.invariant_of-self
invariant_of-self c =
    let s = c.args.self.now in
    record {
      placed = placed_longer s.parts.items _ s.digests.items s.digests.items s.nodes.items s.placed
          (extended _ s.parts.items c.args.parts.items c.append.new.self.items c.append.ensures.items) (take-length s.digests.items);
      rise = s.rise;
    }

pub invariant_of-self-in-Break-branch-2 : goal.invariant_of-self-in-Break-branch-2
invariant_of-self-in-Break-branch-2 c =
    let s = c.args.self.now in
    record {
      placed = placed_longer s.parts.items _ s.digests.items _ s.nodes.items s.placed
          (extended _ s.parts.items c.args.parts.items c.append.new.self.items c.append.ensures.items)
          (extended _ s.digests.items c.args.digests.items c.append-2.new.self.items c.append-2.ensures.items);
      rise = s.rise;
    }

pub invariant_of-self-2 : goal.invariant_of-self-2
invariant_of-self-2 c =
    let s = c.args.self.now in
    record {
      placed = placed_put s.parts.items c.args.parts.items _ s.digests.items c.args.digests.items _ s.nodes.items c.args.nodes.items _
          c.in_ok-append.ensures.items c.in_ok-append-2.ensures.items s.placed _ c.append-3.ensures.items c.requires.placed;
      rise = rise_put _ s.nodes.items c.args.nodes.items _ c.append-3.ensures.items s.rise c.requires.rise;
    }

pub returns-in_err-append-2-clause-refused : goal.returns-in_err-append-2-clause-refused
returns-in_err-append-2-clause-refused c =
    let s = c.args.self.now in
    on_err _
    (nodes_longer s.parts.items _ s.digests.items _ s.nodes.items s.placed
    (extended _ s.parts.items c.args.parts.items c.append.new.self.items c.append.ensures.items)
    (extended _ s.digests.items c.args.digests.items c.append-2.new.self.items c.append-2.ensures.items))

pub returns-in_err-append-3-clause-refused : goal.returns-in_err-append-3-clause-refused
returns-in_err-append-3-clause-refused c =
    let s = c.args.self.now in
    on_err _
    (same_put s.parts.items c.args.parts.items _ s.digests.items c.args.digests.items _ s.nodes.items c.args.nodes.items _
    c.in_ok-append.ensures.items c.in_ok-append-2.ensures.items s.placed c.in_err-append-3.ensures.items)
