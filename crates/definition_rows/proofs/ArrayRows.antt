-- The rows of `specs/ArrayRows` hold.
use Rattle.std.proofs.Common.{◌≡◌, ◌≤◌, Some, true, false, refl, arith}
use Rattle.core_terms.specs.Types.{BoolTy, IntTy, TextTy, VecTy}
use Rattle.definition_rows.specs.ArrayRows.{ArrayRows}

pub array_rows : ArrayRows
array_rows = record {
  two_are_shallow = (refl, (refl, tt));
  three_are_not_two = λ h. h.1.1;
  deepest_element = refl;
  second_is_beyond = λ h. let k : 5 ≤ 4 = h.1.0.0.size_fits in absurd (omega (arith, k));
  lengths_of_operations = λ t. (refl, refl, refl, refl, refl, refl, refl);
  fill_has_its_type = (refl, refl, (refl, tt));
  element_has_its_type = (refl, refl, (refl, (refl, tt)));
  replacement_has_its_type = (refl, refl, (refl, (refl, (refl, tt))));
  element_is_no_array = λ h. let k : TextTy ≡ VecTy 2 TextTy = h.0 in absurd (cc);
  no_element_of_65 = λ h. let e : false ≡ true = h.1 in absurd (cc);
  no_element_at_a_bool = λ h. let k : Some BoolTy ≡ Some IntTy = h.2.1.0 in absurd (cc);
  no_replacement_is_missing = λ h. h.2.1.1;
  locals_of_an_operand = refl;
  auth_in_an_array = (refl, refl);
  mark_of_an_array = (refl, refl);
  type_of_an_array = refl;
  array_stands_behind = (refl, refl);
  lengths_of_forms = (refl, refl);
  format_of_arrays = (refl, refl, refl);
  each_operation = (refl, refl, refl);
}
