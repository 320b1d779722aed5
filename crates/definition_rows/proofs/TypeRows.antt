-- The rows of `specs/TypeRows` hold.
use Rattle.std.specs.Prelude.{refl}
use Rattle.definition_rows.specs.TypeRows.{TypeRows}

pub type_rows : TypeRows
type_rows = record {
  types_of_each_form = refl;
  types_by_number = refl;
  parts_stand_before = refl;
  auth_of_itself = refl;
  later_second_part = refl;
  later_first_part = refl;
  both_are_below = refl;
  second_is_not_below = refl;
}
