-- The pieces that bytes offer (`Frames`), and the new pieces that they leave (`Following`): those of the frames before the first that isn't
-- whole or isn't allowed, and those that came before. Such is a USE that names none that is kept, a piece longer than the limit or cut, and
-- another kind of frame. Each equation holds by computing both sides.
use Rattle.std.specs.Prelude.{◌≡◌, [], ◌∷◌}
use Rattle.ideal_meaning.specs.Frames.{NoByte, LongBy, NoMore, Offers, New, Use, offered, frame_bytes}
use Rattle.ideal_meaning.specs.Following.{after_bytes, after_frames, after_use}
use Rattle.ideal_meaning.specs.RingRows.{a, b}

pub record PieceRows : Type 0 where
  -- each piece with the number of bytes behind it, and the end where no byte is left
  pub pieces_and_what_is_left : offered 65536 (frame_bytes (New a ∷ Use 0 ∷ New b ∷ [])) 1 [] ≡ Offers a 9 (Offers a 6 (Offers b 0 (NoMore NoByte)))
  pub nothing_is_offered : offered 65536 [] 0 [] ≡ NoMore NoByte
  -- a piece has as many bytes as the limit at most; that it is longer is found before it is found to be cut
  pub as_many_bytes_as_the_limit : offered 2 (frame_bytes (New a ∷ [])) 0 [] ≡ Offers a 0 (NoMore NoByte)
  pub more_bytes_than_the_limit : offered 1 (frame_bytes (New a ∷ [])) 0 [] ≡ NoMore (LongBy 2)
  pub too_long_and_cut : offered 1 (0 ∷ 0 ∷ 0 ∷ 0 ∷ 2 ∷ []) 0 [] ≡ NoMore (LongBy 2)
  -- the new pieces of frames, the last one first
  pub new_pieces_of_frames : after_frames (New a ∷ Use 0 ∷ New b ∷ []) (a ∷ []) ≡ b ∷ a ∷ a ∷ []
  pub pieces_to_the_end : after_bytes 9 (frame_bytes (New a ∷ Use 0 ∷ New b ∷ [])) 2 [] ≡ b ∷ a ∷ []
  pub pieces_before_a_use_of_none : after_bytes 2 (frame_bytes (New a ∷ Use 1 ∷ New b ∷ Use 2 ∷ New a ∷ [])) 2 (b ∷ []) ≡ b ∷ a ∷ b ∷ []
  pub pieces_before_a_long_one : after_bytes 1 (frame_bytes (New b ∷ New a ∷ New b ∷ [])) 2 [] ≡ b ∷ []
  pub pieces_before_a_cut_one : after_bytes 9 (0 ∷ 0 ∷ 0 ∷ 0 ∷ 2 ∷ 5 ∷ []) 2 (b ∷ []) ≡ b ∷ []
  pub pieces_before_a_cut_length : after_bytes 9 (0 ∷ 0 ∷ 0 ∷ 0 ∷ []) 2 (b ∷ []) ≡ b ∷ []
  pub pieces_before_another_kind : after_bytes 9 (2 ∷ frame_bytes (New a ∷ [])) 2 (b ∷ []) ≡ b ∷ []
  -- a number of one byte is none, whatever would come behind it
  pub cut_number_is_none : after_use 2 (b ∷ []) (0 ∷ []) (λ recent left. []) ≡ b ∷ []
