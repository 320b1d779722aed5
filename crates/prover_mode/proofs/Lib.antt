-- unauth, prover_run: what was opened, and what a run comes to
pub mod Running
-- FrameWriter's put: the frames of one piece more
pub mod Writing
-- write_frames: the honest piece of one opened value more
pub mod Pieces
-- write_frames: where the frames of the first pieces are too long, those of all are
pub mod FrameLengths
-- spelled_outcome: the outcome with the spelling of its value
pub mod SpelledOutcomes
-- prove_file_reusing: that the file is accepted
pub mod Accepted
-- prove, prove_file_reusing, finish_within: the parts of a call by the types of the code's program, and a ring before its first piece
pub mod CallParts
-- Proving's turn, and prove
pub mod Pausing
