-- How the code measures a value.
use Rattle.std.specs.Prelude.{◌≡◌, ◌-◌, ◌^◌, ℕ, min}
use Rattle.reference_run.specs.declared.measures.Measures.{Measures}

-- the number, or the greatest one that the code counts to
abbrev pub counted : ℕ → ℕ
counted n = min n (2 ^ 64 - 1)

-- the measures of something of this size and this depth
abbrev pub IsMeasured : Measures → (size depth : ℕ) → Type 0
IsMeasured m s d = (m.size ≡ counted s) × (m.depth ≡ counted d)
