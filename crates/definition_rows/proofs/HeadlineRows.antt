-- The rows of `specs/HeadlineRows` hold.
use Rattle.std.proofs.Common.{◌≡◌, inl, inr, zero, suc, [], ◌∷◌, length, bytes_eq, T, refl, ap, subst, arith}
use Rattle.core_terms.specs.Types.{UnitTy}
use Rattle.core_terms.specs.Values.{UnitV}
use Rattle.ideal_meaning.specs.Run.{Overflow}
use Rattle.ideal_meaning.specs.Ideal.{Done, Trapped}
use Rattle.ideal_meaning.specs.Headline.{TrueOrSplit, call_values}
use Rattle.ideal_meaning.specs.Examples.{toy, unit_program}
use Rattle.definition_rows.specs.HeadlineRows.{HeadlineRows}

no_other_outcome : TrueOrSplit toy unit_program 1 UnitTy (call_values UnitV UnitV) 1 ([] ∷ []) (Trapped Overflow) → ⊥
no_other_outcome (inl (pieces, told)) = let k : Trapped Overflow ≡ Done UnitV = told in absurd (cc)
no_other_outcome (inr (zero, h)) = h.0 refl
no_other_outcome (inr (suc i, h)) = h.1

no_further_piece : TrueOrSplit toy unit_program 1 UnitTy (call_values UnitV UnitV) 1 ([] ∷ [] ∷ []) (Done UnitV) → ⊥
no_further_piece (inl (pieces, told)) = let k : 2 ≡ 1 = ap length pieces in absurd (omega (arith, k))
no_further_piece (inr (zero, h)) = h.0 refl
no_further_piece (inr (suc i, h)) = h.1

pub headline_rows : HeadlineRows
headline_rows = record {
  honest_piece_is_true = inl (refl, refl);
  other_outcome_is_not = no_other_outcome;
  further_piece_is_not = no_further_piece;
  forged_piece_is_split = inr (0, ((λ e. subst (λ bytes. T (bytes_eq bytes (0 ∷ 1 ∷ []))) e tt), refl));
  types_of_pieces = λ hash. refl;
  bytes_of_pieces = refl;
}
