use Rattle.std.proofs.Common.{IsTrue, rules, ◌≡◌, ◌<◌, ◌+◌, min, set, take, ap, subst, sym, ◌∙◌, arith}
use Rattle.reuse_buffer.specs.declared.held_piece.HeldPiece.{HeldPiece}
use Rattle.reuse_buffer.specs.Kept.{Kept}
use Rattle.reuse_buffer.specs.Index.{IsIndex, bucket_of, next_turn}
use Rattle.reuse_buffer.proofs.Linking.{held_behind, pushed, room_of, seen, seen_last, still_held}
use Rattle.reuse_buffer.proofs.ring.Ring.push_in.Goals as goal

pub first_of-between-requires-clause-bucket : goal.first_of-between-requires-clause-bucket
first_of-between-requires-clause-bucket c =
    let size = ap (λ (kept : Kept). kept.size) c.self.view_is in
    let some : 0 < c.args.self.now.size = omega (arith, size, c.capacity-count.ensures.capacity) in
    omega (arith, (c.requires some).1, size)

pub index_mut-requires : goal.index_mut-requires
index_mut-requires c =
    let size = ap (λ (kept : Kept). kept.size) c.self.view_is in
    let some : 0 < c.args.self.now.size = omega (arith, size, c.capacity-count.ensures.capacity) in
    omega (arith, (c.requires some).1, size, c.self.invariant.0.each, c.from.ensures)

pub invariant_of-self : goal.invariant_of-self
invariant_of-self c =
    let capacity = c.self.inside.pieces.capacity in
    let size = ap (λ (kept : Kept). kept.size) c.self.view_is in
    let count = c.capacity-count.ensures.capacity in
    let some : 0 < c.args.self.now.size = omega (arith, size, count) in
    let held : HeldPiece = record { bytes = c.args.piece; bucket = c.args.bucket.0; between = c.first_of-between.result } in
    let short : held.bucket < capacity = omega (arith, (c.requires some).1, size) in
    let own : held.bucket ≡ bucket_of capacity held.bytes.items = (c.requires some).0 ∙ ap (λ n. bucket_of n c.args.piece.items) (sym size) in
    let from : c.from.result ≡ c.args.bucket.0 = search rules in
    let behind : c.held_behind-self-inside.result ≡ min c.self.inside.pieces.capacity (c.self.inside.held + 1) =
    omega (arith, c.held_behind-self-inside.ensures, c.from-2.ensures, c.capacity-count.ensures.capacity) in
    let indexed : IsTrue c.self.inside.indexed = search rules in
    let index = c.self.invariant.2 indexed in
    let ps = take c.self.inside.held c.self.inside.pieces.items in
    let after = pushed capacity c.self.inside.turn c.self.inside.newest.items held ps index short own c.first_of-between.ensures.first in
    let turn = next_turn capacity c.self.inside.turn in
    let newest = set c.self.inside.newest.items held.bucket turn in
    let still = still_held capacity c.self.inside.held c.held_behind-self-inside.result held c.self.inside.pieces.items behind in
    rw (c.push_front-oldest.ensures.items, from, c.next_turn-self-inside.ensures, count) (
      room_of capacity turn newest _ after,
      held_behind capacity c.self.inside.held c.held_behind-self-inside.result held c.self.inside.pieces.items behind c.self.invariant.1,
      λ _. subst (IsIndex capacity turn newest) (sym still) after,
    )

pub returns-clause-pieces : goal.returns-clause-pieces
returns-clause-pieces c =
    let held : HeldPiece = record { bytes = c.args.piece; bucket = c.args.bucket.0; between = c.first_of-between.result } in
    let behind : c.held_behind-self-inside.result ≡ min c.self.inside.pieces.capacity (c.self.inside.held + 1) =
    omega (arith, c.held_behind-self-inside.ensures, c.from-2.ensures, c.capacity-count.ensures.capacity) in
    rw c.push_front-oldest.ensures.items
    (seen c.self.inside.pieces.capacity c.self.inside.held c.held_behind-self-inside.result held c.self.inside.pieces.items c.args.self.now behind c.self.view_is)

pub returns-clause-last : goal.returns-clause-last
returns-clause-last c =
    let held : HeldPiece = record { bytes = c.args.piece; bucket = c.args.bucket.0; between = c.first_of-between.result } in
    let behind : c.held_behind-self-inside.result ≡ min c.self.inside.pieces.capacity (c.self.inside.held + 1) =
    omega (arith, c.held_behind-self-inside.ensures, c.from-2.ensures, c.capacity-count.ensures.capacity) in
    λ recent before.
    rw c.push_front-oldest.ensures.items
    (seen c.self.inside.pieces.capacity c.self.inside.held c.held_behind-self-inside.result held c.self.inside.pieces.items c.args.self.now behind c.self.view_is
    ∙ seen_last c.args.self.now c.args.piece.items recent before)
