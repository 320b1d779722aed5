-- The rows of `specs/FetchedRows` hold.
use Rattle.std.specs.Prelude.{refl}
use Rattle.std.proofs.Common.{inl, inr}
use Rattle.definition_rows.specs.FetchedRows.{FetchedRows}

pub fetched_rows : FetchedRows
fetched_rows = record {
  spelled_form = λ hash P t bytes. (refl, refl, refl);
  whole_form = λ hash P t bytes. (refl, refl, refl);
  fronts = λ hash P text most t. (refl, refl);
  both_formats_are_of_whole = λ hash P text most. ((λ t bytes. refl), (λ t bytes. refl));
  behind_a_front = λ r. refl;
  behind_no_front = λ r. refl;
  bad_front = λ r. (refl, refl, refl, refl);
  read_further = λ v rest n place. (refl, refl);
  whole_unit_is_accepted = refl;
  spelling_alone_is_no_piece = refl;
  front_is_cut = refl;
  front_is_another = refl;
  spelling_is_too_long = refl;
  offered_by_answers = λ bytes wire more. (refl, refl, refl, refl);
  first_is_asked = λ answers. refl;
  each_end = λ v trap cause k w. (refl, refl, refl, refl);
  unit_is_accepted = refl;
  unit_is_not_there = (refl, refl);
  answer_is_not_read = λ wire. refl;
  piece_is_wrong = refl;
  piece_is_no_unit = refl;
  state_is_bad = refl;
  argument_is_bad = refl;
  two_were_given = (4, (refl, refl), (5, (refl, refl), refl));
  none_was_given = λ old new. ((λ g. g), (λ e. e));
  one_was_given = λ old new b bs. ((λ g. g), (λ mid may gave. (mid, may, gave)));
  last_was_none = λ old new want. ((λ g. g), (λ m. m));
  last_was_not_read = λ old new want wire found. ((λ g. g), (λ e m. (e, m)));
  last_was_wrong = λ old new want found b. ((λ g. g), (λ e m. (e, m)));
  last_was_no_spelling = λ old new b. ((λ g. g), (λ m. m));
  no_other_cause = λ old new b want. ((λ g. g), (λ g. g), (λ g. g));
  answers_to_accepted = λ old new answers o. ((λ h. h), (λ bs e gave. (bs, e, gave)));
  answers_to_rejected = λ old new answers cause. ((λ h. h), (λ bs a mid e gave last. (bs, a, mid, e, gave, last)));
  no_answer_to_a_bad_state = λ old new answers. ((λ h. h), (refl, refl));
  no_answer_to_a_bad_argument = λ old new answers. ((λ h. h), (refl, refl));
  true_or_split = λ hash P f t args k pieces more o. ((λ h. h), (λ e told. inl (e, told)), (λ i split. inr (i, split)));
  digest_of_a_piece = λ hash b d wire. ((λ h. h), (λ e. e), tt, tt);
  each_has_its_digest = λ hash get. ((λ h. h), (λ h. h));
  holds_none = λ hash P get. tt;
  holds_each = λ hash P get x seen. ((λ h. h), (λ b e held. ((b, e), held)));
}
