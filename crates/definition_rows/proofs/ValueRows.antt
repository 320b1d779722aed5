-- The rows of `specs/ValueRows` hold.
use Rattle.std.proofs.Common.{◌≡◌, ◌≤◌, ◌<◌, [], ◌∷◌, true, false, refl, arith}
use Rattle.std.specs.Str.{is_utf8, chars}
use Rattle.std.proofs.lemmas.Str.{is_utf8-from_IsUtf8}
use lib.Utf8.{encode}
use Rattle.definition_rows.specs.ValueRows.{ValueRows}

pub value_rows : ValueRows
unfolding is_utf8 chars encode
value_rows = record {
  hash_of_32_bytes = λ bytes. refl;
  no_hash_of_31_bytes = λ h. let k : 31 ≡ 32 = h [] in absurd (omega (arith, k));
  shallow_leaves = (tt, tt, refl, ([], (refl, refl)), refl);
  shallow_pair = (tt, refl);
  shallow_constructor = (tt, (refl, (refl, tt)));
  ideal_nothing = (tt, tt);
  no_int_beyond_the_greatest = λ h. let e : false ≡ true = h in absurd (cc);
  no_text_but_utf8 = λ h. let e : false ≡ true = is_utf8-from_IsUtf8 (0xFF ∷ []) h in absurd (cc);
  no_digest_of_31_bytes = λ h. let k : 31 ≡ 32 = h in absurd (omega (arith, k));
  no_pair_of_other_parts = ((λ h. h.0), (λ h. h.1));
  nothing_below_a_digest = λ h. h;
  no_other_field = λ h. h.1.0;
  no_field_left_out = λ h. h.1;
  no_such_constructor = λ h. h;
  no_ideal_int_beyond_the_greatest = λ h. let e : false ≡ true = h in absurd (cc);
  no_ideal_text_but_utf8 = λ h. let e : false ≡ true = is_utf8-from_IsUtf8 (0xFF ∷ []) h in absurd (cc);
  no_ideal_pair_of_other_parts = ((λ h. h.0), (λ h. h.1));
  no_ideal_value_of_another_form = λ h. h;
  no_ideal_constructor_of_other_fields = λ h. h.1.0;
  size_of_no_text = refl;
  projection_of_a_field_too_many = refl;
  deepest_is_within = record { size_fits = omega arith; depth_fits = omega arith };
  deeper_is_not = λ h. let k : 513 ≤ 512 = h.depth_fits in absurd (omega (arith, k));
  spelling_of_unit = refl;
  bool_is_spelled = record { shape = tt; within = record { size_fits = omega arith; depth_fits = omega arith }; is = refl };
  other_byte_spells_another = λ h. let k : 0 ∷ [] ≡ 1 ∷ [] = h.is in absurd (cc);
  bool_is_no_unit = λ h. h.shape;
  two_bools_are_beyond = λ h. let k : 2 ≤ 1 = h.within.size_fits in absurd (omega (arith, k));
  no_byte_of_256 = λ h. let k : 256 < 256 = h.0 in absurd (omega (arith, k));
  no_later_byte_of_256 = λ h. let k : 256 < 256 = h.1.0 in absurd (omega (arith, k));
}
