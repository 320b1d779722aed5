-- The rows of `specs/RoleRows` hold.
use Rattle.std.proofs.Common.{◌≡◌, false, true, [], ◌∷◌, length, ⊎_elim, refl, ap, ◌∙◌, arith, lit<}
use Rattle.core_terms.specs.Types.{UnitTy, BoolTy, IntTy, PairTy}
use Rattle.core_terms.specs.Terms.{Query, Update, Function}
use Rattle.definition_rows.specs.RoleRows.{RoleRows, giving_both}

pub role_rows : RoleRows
role_rows = record {
  parameters_by_kind = (refl, refl, refl, refl);
  results_by_kind = (refl, refl, refl, refl);
  no_auth_in_an_init_argument = refl;
  query_takes_no_other_state = refl;
  each_function_counts = (refl, refl);
  found_at_the_end_of_a_chain = refl;
  no_chain_is_plain = λ h. let e : true ≡ false = h 2 in absurd (cc);
  auth_is_no_argument = λ P f kind answer h. let e : true ≡ false = h.plain 0 in absurd (cc);
  other_argument_is_none = λ h.
      let same : giving_both ≡ h.function = cc h.there in
      let taken : BoolTy ∷ UnitTy ∷ [] ≡ BoolTy ∷ IntTy ∷ [] = ap (λ (g : Function). g.parameters) same ∙ h.parameters in
      absurd (cc);
  inner_is_no_role = λ f t answer h. let e : false ≡ true = h.entered in absurd (cc);
  query_is_no_update = λ h.
      let same : giving_both ≡ h.function = cc h.there in
      let kinds : Query ≡ Update = ap (λ (g : Function). g.kind) same ∙ h.of_kind in
      absurd (cc);
  other_result_is_no_shape = λ h.
      let same : giving_both ≡ h.1.function = cc h.1.there in
      let given : PairTy BoolTy UnitTy ≡ h.0 = ap (λ (g : Function). g.result) same ∙ h.1.result in
      let told : UnitTy ≡ h.0 = h.2 in
      absurd (cc);
  int_has_two_numbers = λ h. let k : 0 ≡ 2 = h 0 2 (lit< tt) (lit< tt) refl in absurd (omega (arith, k));
  second_time_is_none = ⊎_elim (λ same. let k : 2 ≡ 1 = ap length same in absurd (omega (arith, k))) (λ h. h.1 0 refl);
  auth_has_a_number = λ h. h refl 1 refl;
}
