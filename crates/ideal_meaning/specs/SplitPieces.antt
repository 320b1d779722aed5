-- The first offered piece that isn't the honest one, and has its digest.
use Rattle.std.specs.Prelude.{◌≡◌, ◌≢◌, ℕ, zero, suc, List, ◌∷◌}
use Rattle.core_terms.specs.Types.{Ty}
use Rattle.ideal_meaning.specs.Ideal.{Piece}
use Rattle.ideal_meaning.specs.Frames.{offered}

-- The offered pieces and the honest ones both have a piece at place i, are equal before i and differ at i, and there the two
-- pieces have one digest at the type at which the honest one is opened.
abbrev pub IsSplitAt : (Ty → List ℕ → List ℕ) → List (List ℕ) → List Piece → ℕ → Type 0
IsSplitAt digest (a ∷ offered) (b ∷ honest) zero = (a ≢ b.bytes) × (digest b.ty a ≡ digest b.ty b.bytes)
IsSplitAt digest (a ∷ offered) (b ∷ honest) (suc i) = (a ≡ b.bytes) × IsSplitAt digest offered honest i
IsSplitAt digest offered honest i = ⊥
