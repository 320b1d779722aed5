-- The words in which the ring of kept pieces is told (`Ring`): which piece is the k-th last, which frames can be written, what they offer,
-- and which frame is that of a piece.
use Rattle.std.specs.Prelude.{◌≡◌, [], ◌∷◌}
use Rattle.ideal_meaning.specs.Frames.{NoByte, UseIs, NoMore, Offers, New, Use}
use Rattle.ideal_meaning.specs.Ring.{AreFramesOf, CanBeWritten, IsFrameOf, IsKthLast, OffersFrames, new_in}
use Rattle.ideal_meaning.specs.RingRows.{a, b}

pub record RingRows : Type 0 where
  -- the last of two pieces has number 0, and the first one number 1
  pub last_is_0 : IsKthLast 0 (a ∷ b ∷ []) b
  pub first_of_two_is_1 : IsKthLast 1 (a ∷ b ∷ []) a
  pub first_of_two_is_not_0 : IsKthLast 0 (a ∷ b ∷ []) a → ⊥
  -- a piece of two bytes is beyond a limit of one, and a number has two bytes
  pub can_be_written : CanBeWritten 2 (New a ∷ Use 65535 ∷ [])
  pub no_piece_beyond_the_limit : CanBeWritten 1 (New a ∷ []) → ⊥
  pub no_later_piece_beyond_the_limit : CanBeWritten 1 (New b ∷ Use 0 ∷ New a ∷ []) → ⊥
  pub no_number_of_three_bytes : CanBeWritten 9 (Use 65536 ∷ []) → ⊥
  pub no_frame_can_be_written : CanBeWritten 0 []
  -- what is offered is the piece of NEW, which a USE names then
  pub new_piece_and_used_again : OffersFrames 1 [] (New a ∷ Use 0 ∷ []) (Offers a 3 (Offers a 0 (NoMore NoByte)))
  pub another_piece_is_not_used : OffersFrames 1 [] (New a ∷ Use 0 ∷ []) (Offers a 3 (NoMore (UseIs 0 0))) → ⊥
  -- where the end is offered: no piece of NEW, none of USE, and not the refusal of a USE that names none
  pub new_piece_is_offered : OffersFrames 1 [] (New a ∷ []) (NoMore NoByte) → ⊥
  pub used_piece_is_offered : OffersFrames 1 (a ∷ []) (Use 0 ∷ []) (NoMore NoByte) → ⊥
  pub use_of_none_is_refused : OffersFrames 1 [] (Use 0 ∷ []) (NoMore NoByte) → ⊥
  pub use_beyond_the_ring_is_refused : OffersFrames 1 (a ∷ b ∷ []) (Use 1 ∷ []) (NoMore NoByte) → ⊥
  -- a kept piece is used, with the least number below the size of the ring; another is new
  pub least_number_is_its_frame : IsFrameOf 2 (a ∷ []) a (Use 0)
  pub no_new_frame_of_a_kept_piece : IsFrameOf 1 (a ∷ []) a (New a) → ⊥
  pub no_greater_number : IsFrameOf 2 (a ∷ a ∷ []) a (Use 1) → ⊥
  pub no_number_beyond_the_ring : IsFrameOf 1 (a ∷ b ∷ []) a (Use 1) → ⊥
  pub no_number_of_another : IsFrameOf 2 (a ∷ b ∷ []) a (Use 0) → ⊥
  pub no_new_frame_of_another : IsFrameOf 2 [] a (New b) → ⊥
  pub new_piece_of_a_frame : (new_in (New a) ≡ a ∷ []) × (new_in (Use 0) ≡ [])
  -- each piece has its frame, and each frame its piece
  pub one_frame_of_one_piece : AreFramesOf 1 [] (a ∷ a ∷ []) (New a ∷ Use 0 ∷ [])
  pub no_piece_without_a_frame : AreFramesOf 1 [] (a ∷ []) [] → ⊥
  pub no_frame_without_a_piece : AreFramesOf 1 [] [] (New a ∷ []) → ⊥
