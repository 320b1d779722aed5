-- The rows of `specs/IntRows` hold.
use Rattle.std.proofs.Common.{◌≡◌, inl, inr, ℕ, suc, ◌+◌, ◌<◌, List, [], ◌∷◌, length, pos, refl, sym, ap, ◌∙◌, arith, lit<}
use Rattle.std.specs.Int.Signed.{le_z_yes}
use Rattle.std.proofs.lemmas.List.{append_cancel_left, length-append}
use Rattle.ideal_meaning.specs.Operations.{ComesBefore}
use Rattle.definition_rows.specs.IntRows.{IntRows}

none_before_itself : (bytes : List ℕ) → ComesBefore bytes bytes → ⊥
none_before_itself bytes (common, y, later, is, inl e) =
    let k : length common ≡ length common + suc (length later) = ap length (sym e ∙ is) ∙ length-append common (y ∷ later) in
    absurd (omega (arith, k))
none_before_itself bytes (common, y, later, is, inr (x, rest, e, below)) =
    let same : x ∷ rest ≡ y ∷ later = append_cancel_left common (x ∷ rest) (y ∷ later) (sym e ∙ is) in
    let k : x ≡ y = cc same in
    absurd (omega (arith, k, below))

pub int_rows : IntRows
int_rows = record {
  greatest_int = (le_z_yes tt, le_z_yes tt);
  no_greater_int = λ h. h.1.le;
  least_int = (le_z_yes tt, le_z_yes tt);
  no_lesser_int = λ h. h.0.le;
  seven_by_two = record { sum = refl; below = lit< tt; not_negative = λ h. le_z_yes tt; not_positive = λ h. absurd h.le };
  seven_by_two_from_above = λ h. (h.not_negative (le_z_yes tt)).le;
  more_remains = λ h. let k : 3 < 2 = h.below in absurd (omega (arith, k));
  other_quotient = λ h. let k : pos 5 ≡ pos 7 = h.sum in absurd (cc);
  minus_seven_by_two = record { sum = refl; below = lit< tt; not_negative = λ h. absurd h.le; not_positive = λ h. le_z_yes tt };
  minus_seven_by_two_from_below = λ h. (h.not_positive (le_z_yes tt)).le;
  exact_int = ((λ h. refl), (λ beyond. absurd (beyond (le_z_yes tt, le_z_yes tt))));
  exact_int_does_not_trap = λ h. let e = h.0 (le_z_yes tt, le_z_yes tt) in absurd (cc);
  no_int_traps = λ h. let e = h.1 (λ is. is.1.le) in absurd (cc);
  fact_is_not_false = λ h. let e = h.0 refl in absurd (cc);
  other_is_not_true = λ h. let e = h.1 (λ same. absurd (cc)) in absurd (cc);
  operands_in_order = refl;
  front_comes_before = (1 ∷ [], 2, [], refl, inl refl);
  smaller_byte_comes_before = (1 ∷ [], 2, [], refl, inr (1, 9 ∷ [], refl, lit< tt));
  no_text_before_itself = none_before_itself;
}
