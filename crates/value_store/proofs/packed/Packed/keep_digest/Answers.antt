use Rattle.std.proofs.Common.{◌≡◌, ◌∷◌, [], length, slice_get, ap, ◌∙◌}
use Rattle.std.proofs.Math.Seq.{take-length}
use Rattle.value_store.proofs.NodeLists.{slice_get_behind}
use Rattle.value_store.proofs.Pools.{extended, nodes_longer, placed_longer}
use Rattle.value_store.proofs.packed.Packed.keep_digest.Goals as goal

pub invariant_of-self : goal.invariant_of-self
invariant_of-self c =
    let s = c.args.self.now in
    record {
      placed = placed_longer s.parts.items s.parts.items s.digests.items _ s.nodes.items s.placed (take-length s.parts.items)
          (extended _ s.digests.items (c.args.digest ∷ []) c.push.new.self.items c.push.ensures.items);
      rise = s.rise;
    }

pub returns-clause-nodes : goal.returns-clause-nodes
returns-clause-nodes c =
    let s = c.args.self.now in
    nodes_longer s.parts.items s.parts.items s.digests.items _ s.nodes.items s.placed (take-length s.parts.items)
    (extended _ s.digests.items (c.args.digest ∷ []) c.push.new.self.items c.push.ensures.items)

pub returns-clause-kept : goal.returns-clause-kept
returns-clause-kept c =
    let s = c.args.self.now in
    let at : c.in_ok-number.number ≡ length s.digests.items = c.in_ok-number.ensures ∙ c.len.ensures ∙ s.digests.ok.0 in
    ap (slice_get c.push.new.self.items) at ∙ ap (λ xs. slice_get xs (length s.digests.items)) c.in_ok-push.ensures.items ∙ slice_get_behind s.digests.items c.args.digest
