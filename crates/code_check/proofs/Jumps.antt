-- The targets of a jump.
use Rattle.std.proofs.Common.{◌<◌, ℕ, zero, suc, List, [], ◌∷◌, length, slice_index_or, arith}
use Rattle.code_check.specs.ListedParts.{AllBehind}

-- each target is ahead
pub ahead_at : (i : ℕ) (ts : List ℕ) (k : ℕ) → AllBehind i ts → k < length ts → i < slice_index_or ts k 0
ahead_at i [] k all h = absurd (omega (arith, h))
ahead_at i (t ∷ ts) zero all h = all.0
ahead_at i (t ∷ ts) (suc k) all h = ahead_at i ts k all.1 (omega (arith, h))
