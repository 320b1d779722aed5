-- What a prover tells of the frames that it wrote.
use Rattle.std.specs.Prelude.{◌≡◌, ℕ, List}
use Rattle.ideal_meaning.specs.Frames.{Frame, frame_bytes}
use Rattle.ideal_meaning.specs.Following.{after_frames}
use Rattle.reuse_buffer.specs.Kept.{Kept, kept}
use Rattle.ideal_meaning.specs.RunFrames.{again_in, fresh_in}

-- These are the frames, by their bytes and numbers; behind them the ring holds the last n of the new pieces, where `recent` came before.
pub record TellsFrames (fs : List Frame) (n : ℕ) (recent : List (List ℕ)) (bytes : List ℕ) (fresh again : ℕ) (after : Kept) : Type 0 where
  pub frames : bytes ≡ frame_bytes fs
  pub fresh_count : fresh ≡ fresh_in fs
  pub again_count : again ≡ again_in fs
  pub ring : after ≡ kept n (after_frames fs recent)
