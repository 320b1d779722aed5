-- The place of an element of an array at an int.
use Rattle.std.specs.Prelude.{◌≡◌, ℕ, ◌<◌, ◌≤◌, ℤ, pos, Option, Some, None}

-- the int is a number below n; or it is none
abbrev pub IsPlace : ℤ → ℕ → Option ℕ → Type 0
IsPlace z n (Some i) = (z ≡ pos i) × (i < n)
IsPlace z n None = (i : ℕ) → z ≡ pos i → n ≤ i
