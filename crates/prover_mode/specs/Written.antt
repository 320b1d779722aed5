-- What a writer of frames has written.
use Rattle.std.specs.Prelude.{◌≡◌, ◌<◌, ◌≤◌, ℕ, List, length, Option, Some, None}
use Rattle.ideal_meaning.specs.Frames.{frame_bytes, honest_frames}
use Rattle.ideal_meaning.specs.Following.{after_frames}
use Rattle.reuse_buffer.specs.Kept.{kept}
use Rattle.ideal_meaning.specs.RunFrames.{again_in, fresh_in}
use Rattle.prover_mode.specs.declared.frames.FrameWriter.{FrameWriter}

-- The honest frames of these pieces were written, with a ring of n; `recent` came before, the last one first.
pub record HasWritten (n : ℕ) (recent pieces : List (List ℕ)) (writer : FrameWriter) : Type 0 where
  pub bytes : writer.bytes.items ≡ frame_bytes (honest_frames n recent pieces)
  pub fresh : writer.fresh ≡ fresh_in (honest_frames n recent pieces)
  pub again : writer.again ≡ again_in (honest_frames n recent pieces)
  pub ring : writer.ring ≡ kept n (after_frames (honest_frames n recent pieces) recent)

-- They were written where they have at most so many bytes; where they have more, nothing is told.
abbrev pub HasWrittenWithin : (most n : ℕ) → (recent pieces : List (List ℕ)) → Option FrameWriter → Type 0
HasWrittenWithin most n recent pieces (Some writer) = HasWritten n recent pieces writer × (length writer.bytes.items ≤ most)
HasWrittenWithin most n recent pieces None = most < length (frame_bytes (honest_frames n recent pieces))
