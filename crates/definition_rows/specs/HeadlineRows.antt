-- What is true of offered pieces and an outcome, or a split (`Headline`, `Ideal`).
use Rattle.std.specs.Prelude.{◌≡◌, [], ◌∷◌, true, false}
use Rattle.core_terms.specs.Types.{UnitTy, BoolTy, PairTy}
use Rattle.core_terms.specs.Formats.{Hash}
use Rattle.core_terms.specs.Values.{UnitV, BoolV, PairV}
use Rattle.ideal_meaning.specs.Run.{Overflow}
use Rattle.ideal_meaning.specs.Ideal.{Done, Trapped, bytes_of, honest_pieces}
use Rattle.ideal_meaning.specs.Headline.{TrueOrSplit, call_values}
use Rattle.ideal_meaning.specs.Examples.{toy, unit_program, bool_program, pair_program}

pub record HeadlineRows : Type 0 where
  -- opening a unit offers the empty piece, and gives unit
  pub honest_piece_is_true : TrueOrSplit toy unit_program 1 UnitTy (call_values UnitV UnitV) 1 ([] ∷ []) (Done UnitV)
  pub other_outcome_is_not : TrueOrSplit toy unit_program 1 UnitTy (call_values UnitV UnitV) 1 ([] ∷ []) (Trapped Overflow) → ⊥
  pub further_piece_is_not : TrueOrSplit toy unit_program 1 UnitTy (call_values UnitV UnitV) 1 ([] ∷ [] ∷ []) (Done UnitV) → ⊥
  -- a forged piece splits, whatever comes out
  pub forged_piece_is_split : TrueOrSplit toy pair_program 1 (PairTy BoolTy BoolTy) (call_values (PairV (BoolV true) (BoolV false)) UnitV) 1 ((0 ∷ 1 ∷ []) ∷ [])
      (Done (PairV (BoolV false) (BoolV true)))
  -- each honest piece has the type at which it is opened
  pub types_of_pieces : (hash : Hash) → honest_pieces hash bool_program 1 (call_values (BoolV true) UnitV) 1 ≡ record { ty = BoolTy; bytes = 1 ∷ [] } ∷ record { ty = BoolTy; bytes = 1 ∷ [] } ∷ []
  pub bytes_of_pieces : bytes_of (record { ty = BoolTy; bytes = 1 ∷ [] } ∷ record { ty = UnitTy; bytes = [] } ∷ []) ≡ (1 ∷ []) ∷ [] ∷ []
