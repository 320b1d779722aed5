-- The rows of `specs/EndRows` hold.
use Rattle.std.specs.Prelude.{refl}
use Rattle.definition_rows.specs.EndRows.{EndRows}

pub end_rows : EndRows
end_rows = record {
  trap_keeps_its_fuel = refl;
  fuel_of_a_trap = refl;
  fuel_of_a_value = refl;
  both_calls_are_made = refl;
  second_call_is_out = refl;
  outcome_of_a_trap = refl;
  trap_is_its_projection = λ hash t trap. refl;
  out_is_its_projection = λ hash t. refl;
  trap_is_checked = λ trap. refl;
  out_is_checked = refl;
  as_many_bytes_as_the_limit = refl;
  more_bytes_than_the_limit = refl;
  as_deep_as_the_limit = refl;
  deeper_than_the_limit = refl;
  too_big_and_too_deep = refl;
  made_as_deep_as_the_limit = refl;
  made_deeper_than_the_limit = refl;
  pair_is_too_big = refl;
  constructor_is_too_big = refl;
  joined_text_is_too_big = refl;
  joined_text_of_nine_bytes = refl;
  no_quotient_of_the_least = refl;
}
