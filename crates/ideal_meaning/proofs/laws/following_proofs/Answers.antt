use Rattle.ideal_meaning.proofs.Companion.{companion_of_frames, verdict_is_on_frames}
use Rattle.ideal_meaning.proofs.NewPieces.{new_piece_bound_is_enough, new_pieces_are_read_back}
use Rattle.ideal_meaning.proofs.laws.following_proofs.Goals as goal

pub returns : goal.returns
returns c = record { verdict = verdict_is_on_frames; accepted = companion_of_frames; pieces = new_pieces_are_read_back; bound = new_piece_bound_is_enough }
