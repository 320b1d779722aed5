use Rattle.std.proofs.Common.{IsTrue, rules, ◌≡◌, ◌≢◌, ◌+◌, ◌<◌, take, Some, None, slice_get, length-take, sym, ap, subst, ◌∙◌, arith}
use Rattle.std.proofs.lemmas.Option.{slice_get_within}
use Rattle.ideal_meaning.specs.Frames.{place_of}
use Rattle.reuse_buffer.specs.Kept.{Kept}
use Rattle.reuse_buffer.specs.Index.{IsFirstOf, bucket_of, buckets_in, bytes_in}
use Rattle.reuse_buffer.proofs.Places.{gone, placed, unplaced}
use Rattle.reuse_buffer.proofs.Linking.{HasCome, all_passed, begun, bytes_at, gone_on}
use Rattle.reuse_buffer.proofs.ring.Ring.place_in.Goals as goal

pub first_of-first-requires-clause-bucket : goal.first_of-first-requires-clause-bucket
first_of-first-requires-clause-bucket c =
    let size = ap (λ (kept : Kept). kept.size) c.self.view_is in
    let some : 0 < c.args.self.now.size = omega (arith, size, c.capacity-count.ensures.capacity) in
    omega (arith, (c.requires some).1, size)

pub loop-held-init : goal.loop-held-init
loop-held-init c =
    let capacity = c.self.inside.pieces.capacity in
    let pieces = take c.self.inside.held c.self.inside.pieces.items in
    let size = ap (λ (kept : Kept). kept.size) c.self.view_is in
    let some : 0 < c.args.self.now.size = omega (arith, size, c.capacity-count.ensures.capacity) in
    let bucket : c.args.bucket.0 ≡ bucket_of capacity c.args.bytes.now = (c.requires some).0 ∙ ap (λ n. bucket_of n c.args.bytes.now) (sym size) in
    let place : c.first_of-first.result ≡ c.from-place.result = search rules in
    let first : IsFirstOf c.args.bucket.0 c.from-place.result (buckets_in pieces) =
    subst (λ place. IsFirstOf c.args.bucket.0 place (buckets_in pieces)) place c.first_of-first.ensures.first in
    let indexed : IsTrue c.self.inside.indexed = search rules in
    begun capacity c.from-place.result c.args.bytes.now pieces (c.self.invariant.2 indexed).linked
    (subst (λ bucket. IsFirstOf bucket c.from-place.result (buckets_in pieces)) bucket first)

pub overflow_cast-result : goal.overflow_cast-result
overflow_cast-result c =
    let within = slice_get_within (take c.self.inside.held c.self.inside.pieces.items) c.loop-held.place c.in-Some.held.now (sym c.in-Some.ensures) in
    omega (arith, within, length-take c.self.inside.held c.self.inside.pieces.items, c.capacity-count.ensures.capacity, c.capacity-count.ensures.within, c.self.invariant.0.small)

pub returns-then-eq : goal.returns-then-eq
returns-then-eq c =
    let held = take c.self.inside.held c.self.inside.pieces.items in
    let pieces : bytes_in held ≡ c.args.self.now.pieces = ap (λ (kept : Kept). kept.pieces) c.self.view_is in
    let same : c.in-Some.held.now.bytes.items ≡ c.args.bytes.now = search rules in
    let there = bytes_at c.loop-held.place c.in-Some.held.now held (sym c.in-Some.ensures) in
    sym (ap (place_of c.args.bytes.now) (sym pieces)
    ∙ placed c.loop-held.place c.args.bytes.now (bytes_in held) (there ∙ ap Some same) c.loop-held.invariant.before)

pub overflow_add-place-in-Some : goal.overflow_add-place-in-Some
overflow_add-place-in-Some c =
    let within = slice_get_within (take c.self.inside.held c.self.inside.pieces.items) c.loop-held.place c.in-Some.held.now (sym c.in-Some.ensures) in
    omega (arith, within, length-take c.self.inside.held c.self.inside.pieces.items, c.from.ensures, c.capacity-count.ensures.capacity, c.capacity-count.ensures.within, c.self.invariant.0.small)

pub loop-held-smaller : goal.loop-held-smaller
loop-held-smaller c =
    let within = slice_get_within (take c.self.inside.held c.self.inside.pieces.items) c.loop-held.place c.in-Some.held.now (sym c.in-Some.ensures) in
    omega (arith, within)

pub loop-held-preserved : goal.loop-held-preserved
loop-held-preserved c =
    let capacity = c.self.inside.pieces.capacity in
    let held = take c.self.inside.held c.self.inside.pieces.items in
    let other : c.in-Some.held.now.bytes.items ≢ c.args.bytes.now = search rules in
    let between : c.in-Some.held.now.between ≡ c.from.result = search rules in
    let indexed : IsTrue c.self.inside.indexed = search rules in
    subst (λ n. HasCome (bucket_of capacity c.args.bytes.now) c.args.bytes.now (c.loop-held.place + (n + 1)) held) between
    (gone_on capacity c.loop-held.place c.args.bytes.now c.in-Some.held.now held (c.self.invariant.2 indexed).linked (sym c.in-Some.ensures) other c.loop-held.invariant)

pub returns : goal.returns
returns c =
    let held = take c.self.inside.held c.self.inside.pieces.items in
    let pieces : bytes_in held ≡ c.args.self.now.pieces = ap (λ (kept : Kept). kept.pieces) c.self.view_is in
    let none : slice_get held c.loop-held.place ≡ None = search rules in
    sym (ap (place_of c.args.bytes.now) (sym pieces)
    ∙ unplaced c.args.bytes.now (bytes_in held)
    (all_passed _ c.loop-held.place c.args.bytes.now held c.loop-held.invariant (gone c.loop-held.place held none)))
