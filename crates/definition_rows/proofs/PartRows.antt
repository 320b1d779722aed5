-- The rows of `specs/PartRows` hold.
use Rattle.std.specs.Prelude.{refl}
use Rattle.definition_rows.specs.PartRows.{PartRows}

pub part_rows : PartRows
part_rows = record {
  parts_of_no_pair = (refl, refl);
  bool_of_no_bool = refl;
  int_of_no_int = refl;
  text_of_no_text = refl;
  tag_and_fields_of_no_constructor = (refl, refl);
  digest_of_no_digest = refl;
  local_that_is_not_there = refl;
  arm_that_is_not_there = refl;
}
