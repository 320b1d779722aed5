-- The rows of `specs/VerdictRows` hold.
use Rattle.std.specs.Prelude.{[], ◌∷◌, bytes_eq, T, refl}
use Rattle.std.proofs.Common.{subst}
use Rattle.ideal_meaning.specs.Examples.{toy}
use Rattle.definition_rows.specs.VerdictRows.{VerdictRows}

pub verdict_rows : VerdictRows
verdict_rows = record {
  cut_length_is_no_length = λ hash. refl;
  second_part_of_the_state_is_bad = λ hash. refl;
  second_part_of_the_argument_is_bad = λ hash. refl;
  rejection_keeps_its_fuel = λ hash. refl;
  second_piece_is_short = refl;
  second_piece_is_no_spelling = refl;
  offset_in_a_state = λ hash. refl;
  offset_in_an_argument = λ hash. refl;
  earlier_piece_is_used_twice = refl;
  piece_at_its_type = refl;
  value_at_its_type = λ hash. refl;
  split_behind_an_equal_piece = (refl, ((λ e. subst (λ bytes. T (bytes_eq bytes (0 ∷ 1 ∷ []))) e tt), refl));
  no_split_behind_another = λ h. subst (λ bytes. T (bytes_eq bytes (0 ∷ 1 ∷ []))) h.0 tt;
  no_split_without_a_piece = λ h. h;
  no_split_of_equal_pieces = λ h. h.0 refl;
  other_digest_splits_nothing = λ h. subst (λ bytes. T (bytes_eq bytes (toy (0 ∷ 0 ∷ [])))) h.1 tt;
}
