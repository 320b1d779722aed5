-- Values that are read, and where bytes end too early (`Reading`). Each equation holds by computing both sides.
use Rattle.std.specs.Prelude.{◌≡◌, [], ◌∷◌, ◌++◌, pos, true, replicate}
use Rattle.core_terms.specs.Types.{UnitTy, BoolTy, IntTy, TextTy, PairTy}
use Rattle.core_terms.specs.Values.{BoolV, IntV, TextV, PairV}
use Rattle.core_terms.specs.Reading.{Good, BadAt}
use Rattle.core_terms.specs.ReadingRows.{nested, read_small}

pub record SpellingRows : Type 0 where
  pub long_int_is_read : read_small IntTy (1 ∷ replicate 7 0) ≡ Good (IntV (pos 72057594037927936)) [] 8
  pub text_is_read_before_another : read_small (PairTy TextTy BoolTy) (0 ∷ 0 ∷ 0 ∷ 1 ∷ 0x61 ∷ 1 ∷ []) ≡ Good (PairV (TextV (0x61 ∷ [])) (BoolV true)) [] 6
  pub level_513_is_refused_at_the_end : read_small (PairTy IntTy (nested 511 UnitTy)) (replicate 8 0 ++ replicate 510 0) ≡ BadAt 518
