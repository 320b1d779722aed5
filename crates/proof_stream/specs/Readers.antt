-- What a contract sees of a reader of frames.
use Rattle.std.specs.Prelude.{ℕ, List}
use Rattle.proof_stream.specs.declared.frame_reader.FrameReader.{FrameReader}

-- the greatest number of bytes of a piece
abbrev pub limit_of : FrameReader → ℕ
limit_of reader = reader.limit

-- the piece in hand, or no byte
abbrev pub piece_of : FrameReader → List ℕ
piece_of reader = reader.piece.items
