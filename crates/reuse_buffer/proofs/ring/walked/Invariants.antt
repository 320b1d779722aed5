use Rattle.std.proofs.Common.{◌≢◌, ◌-◌, ◌<◌, ℕ, Some, length, slice_get, take}
use Rattle.reuse_buffer.specs.Index.{bytes_in}
use Rattle.reuse_buffer.proofs.ring.walked.Given as goal

abbrev pub invariant-loop-piece : goal.invariant-loop-piece
invariant-loop-piece l = (k : ℕ) → k < l.place → slice_get (bytes_in (take l.held l.pieces.items)) k ≢ Some l.bytes

abbrev pub decreases-loop-piece : goal.decreases-loop-piece
decreases-loop-piece l = length (take l.held l.pieces.items) - l.place
