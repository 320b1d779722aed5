use Rattle.std.proofs.Common.{◌≡◌, ◌≤◌, ◌+◌, ℕ, List, length, take}
use Rattle.ideal_meaning.specs.Ideal as ideal
use Rattle.reuse_buffer.specs.Kept.{kept}
use Rattle.prover_mode.specs.Seen.{AreSeen, pieces_of}
use Rattle.prover_mode.specs.Written.{HasWritten}
use Rattle.prover_mode.proofs.frames.write_frames.Given as goal

-- the frames of what was opened first
abbrev pub invariant-loop-ty : goal.invariant-loop-ty
invariant-loop-ty g l = record {
  short : length l.writer.bytes.items ≤ l.most;
  count : l.writer.fresh + l.writer.again ≡ l.ty-index;
  written : (seen : List ideal.Opened) (recent : List (List ℕ))
      → AreSeen g.H.Hash32.hash l.types (g.N.Nodes.nodes l.store) (take l.ty-index l.opened) seen → l.fn.ring ≡ kept l.fn.ring.size recent
      → HasWritten l.fn.ring.size recent (pieces_of g.H.Hash32.hash l.types seen) l.writer;
}
