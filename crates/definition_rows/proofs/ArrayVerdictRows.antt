-- The rows of `specs/ArrayVerdictRows` hold.
use Rattle.std.specs.Prelude.{refl}
use Rattle.definition_rows.specs.ArrayVerdictRows.{ArrayVerdictRows}

pub array_verdict_rows : ArrayVerdictRows
array_verdict_rows = record {
  second_is_accepted = λ hash. refl;
  no_third = λ hash. refl;
  none_before_the_first = λ hash. refl;
  byte_behind_a_trap_is_left = λ hash. refl;
  state_is_cut = λ hash. refl;
  state_is_too_long = λ hash. refl;
  element_is_opened = refl;
  other_element_is_wrong = refl;
  digest_at_an_array = λ text most hash bytes. refl;
  piece_is_no_spelling = refl;
  longest_piece_is_cut = refl;
  longer_piece_is_long = refl;
  wide_array_fits = refl;
  wider_array_is_too_big = refl;
  many_units_are_read = refl;
  deepest_replacement_fits = refl;
  deeper_replacement_is_too_deep = refl;
  index_before_too_deep = refl;
  too_big_before_too_deep = refl;
}
