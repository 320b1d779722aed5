use Rattle.std.proofs.Common.{rules, ◌≡◌, ◌≢◌, ◌≤◌, take, Some, None, length, length-take, slice_get, sym, ap, ◌∙◌, arith}
use Rattle.std.proofs.lemmas.Option.{slice_get_within}
use Rattle.reuse_buffer.specs.Index.{bytes_in}
use Rattle.reuse_buffer.proofs.Places.{gone, placed, unplaced, walked_all, walks_on}
use Rattle.reuse_buffer.proofs.Linking.{bytes_at, count_bytes}
use Rattle.reuse_buffer.proofs.ring.walked.Goals as goal

pub returns-then-eq : goal.returns-then-eq
returns-then-eq c =
    let held = take c.args.held c.args.pieces.now.items in
    let same : c.in-Some.piece.now.bytes.items ≡ c.args.bytes.now = search rules in
    let there = bytes_at c.loop-piece.place c.in-Some.piece.now held (sym c.in-Some.ensures) in
    sym (placed c.loop-piece.place c.args.bytes.now (bytes_in held) (there ∙ ap Some same) c.loop-piece.invariant)

pub overflow_add-place : goal.overflow_add-place
overflow_add-place c =
    let within = slice_get_within (take c.args.held c.args.pieces.now.items) c.loop-piece.place c.in-Some.piece.now (sym c.in-Some.ensures) in
    omega (arith, within, length-take c.args.held c.args.pieces.now.items, c.requires)

pub loop-piece-smaller : goal.loop-piece-smaller
loop-piece-smaller c =
    let within = slice_get_within (take c.args.held c.args.pieces.now.items) c.loop-piece.place c.in-Some.piece.now (sym c.in-Some.ensures) in
    omega (arith, within)

pub loop-piece-preserved : goal.loop-piece-preserved
loop-piece-preserved c =
    let held = take c.args.held c.args.pieces.now.items in
    let other : c.in-Some.piece.now.bytes.items ≢ c.args.bytes.now = search rules in
    let there = bytes_at c.loop-piece.place c.in-Some.piece.now held (sym c.in-Some.ensures) in
    let here : slice_get (bytes_in held) c.loop-piece.place ≢ Some c.args.bytes.now = λ q.
    let same : Some c.in-Some.piece.now.bytes.items ≡ Some c.args.bytes.now = sym there ∙ q in
    other (cc) in
    walks_on c.loop-piece.place c.args.bytes.now (bytes_in held) c.loop-piece.invariant here

pub returns : goal.returns
returns c =
    let held = take c.args.held c.args.pieces.now.items in
    let none : slice_get held c.loop-piece.place ≡ None = search rules in
    let past : length (bytes_in held) ≤ c.loop-piece.place = omega (arith, gone c.loop-piece.place held none, count_bytes held) in
    sym (unplaced c.args.bytes.now (bytes_in held) (walked_all c.loop-piece.place c.args.bytes.now (bytes_in held) c.loop-piece.invariant past))
