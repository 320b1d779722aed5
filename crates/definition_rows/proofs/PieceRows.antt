-- The rows of `specs/PieceRows` hold.
use Rattle.std.specs.Prelude.{refl}
use Rattle.definition_rows.specs.PieceRows.{PieceRows}

pub piece_rows : PieceRows
piece_rows = record {
  pieces_and_what_is_left = refl;
  nothing_is_offered = refl;
  as_many_bytes_as_the_limit = refl;
  more_bytes_than_the_limit = refl;
  too_long_and_cut = refl;
  new_pieces_of_frames = refl;
  pieces_to_the_end = refl;
  pieces_before_a_use_of_none = refl;
  pieces_before_a_long_one = refl;
  pieces_before_a_cut_one = refl;
  pieces_before_a_cut_length = refl;
  pieces_before_another_kind = refl;
  cut_number_is_none = refl;
}
