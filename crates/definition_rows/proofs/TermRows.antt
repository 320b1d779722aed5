-- The rows of `specs/TermRows` hold.
use Rattle.std.specs.Prelude.{refl}
use Rattle.definition_rows.specs.TermRows.{TermRows}

pub term_rows : TermRows
term_rows = record {
  locals_of_a_later_arm = refl;
  locals_of_what_is_matched = refl;
  locals_of_a_constructor_without_fields = refl;
  locals_without_an_arm = refl;
  levels_without_an_arm = refl;
  second_part_of_a_local = refl;
  unit_is_no_bool = refl;
  bool_is_no_unit = refl;
  pair_of_other_first = refl;
  pair_of_other_second = refl;
  second_part_is_not_the_first = refl;
  no_negation_of_an_int = refl;
  no_length_of_an_int = refl;
  no_auth_of_a_bool = refl;
  no_other_auth = refl;
  no_other_field = refl;
  no_remainder_by_a_bool = refl;
  no_int_before_a_bool = refl;
  no_text_before_a_bool = refl;
  no_text_joined_with_an_int = refl;
  no_match_of_an_int = refl;
  local_of_another_named_type = refl;
  no_such_function = refl;
}
