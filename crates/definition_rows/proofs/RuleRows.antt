-- The rows of `specs/RuleRows` hold.
use Rattle.std.proofs.Common.{◌≡◌, ◌≤◌, [], Some, None, true, false, refl, arith}
use Rattle.core_terms.specs.Types.{UnitTy, BoolTy, IntTy, TextTy, AuthTy}
use Rattle.core_terms.specs.Terms.{LocalE, Inner}
use Rattle.definition_rows.specs.RuleRows.{RuleRows}

pub rule_rows : RuleRows
rule_rows = record {
  literals = (refl, refl, (refl, refl), (refl, ([], (refl, refl)), omega arith));
  pair_and_parts = ((refl, refl, refl), (refl, refl), (refl, refl));
  negation_and_length = ((refl, refl), (refl, refl));
  auth_and_unauth = ((refl, refl), (refl, refl));
  constructor_with_its_fields = (refl, (refl, (refl, tt)));
  operations = ((refl, refl, refl), (refl, refl, refl), (refl, refl, refl), (refl, refl, refl));
  bound_part = (refl, refl);
  both_branches = (refl, refl, refl);
  each_arm = (refl, (refl, (refl, tt)));
  each_argument = (refl, (refl, (refl, tt)));
  no_int_beyond_the_greatest = λ h. let e : false ≡ true = h.1 in absurd (cc);
  no_text_of_65533_bytes = λ h. let k : 65533 ≤ 65532 = h.2 in absurd (omega (arith, k));
  no_pair_of_another_first = λ h. let k : Some TextTy ≡ Some IntTy = h.1 in absurd (cc);
  no_pair_of_another_second = λ h. let k : Some IntTy ≡ Some TextTy = h.2 in absurd (cc);
  no_remainder_by_a_bool = λ h. let k : Some BoolTy ≡ Some IntTy = h.2 in absurd (cc);
  no_int_before_a_bool = λ h. let k : Some BoolTy ≡ Some IntTy = h.2 in absurd (cc);
  no_text_before_a_bool = λ h. let k : Some BoolTy ≡ Some TextTy = h.2 in absurd (cc);
  no_text_joined_with_an_int = λ h. let k : Some IntTy ≡ Some TextTy = h.2 in absurd (cc);
  no_such_constructor = λ h. h.1;
  no_unauth_of_an_int = λ h. let k : Some IntTy ≡ Some (AuthTy IntTy) = h.1 in absurd (cc);
  no_other_branch_of_another_type = λ h. let k : Some TextTy ≡ Some IntTy = h.2 in absurd (cc);
  field_too_few = λ h. h.1.1;
  field_too_many = λ h. h.1;
  arm_too_few = λ h. h.1.1;
  arm_too_many = λ h. h.1.1.1;
  argument_too_few = λ h. h.1.1;
  no_such_function = λ h. h;
  result_is_no_local = λ h.
      let none : None ≡ Some UnitTy = h 0 (record { name = []; kind = Inner; parameters = []; result = UnitTy; body = LocalE 0 }) refl in
      absurd (cc);
}
