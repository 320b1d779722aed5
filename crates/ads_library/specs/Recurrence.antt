-- The numbers of a generator.
use Rattle.std.specs.Prelude.{ℕ, ◌+◌, ◌*◌, ◌/◌, ◌%◌, ◌^◌}

-- the state behind a state: a linear recurrence modulo 2^64
abbrev pub next_state : ℕ → ℕ
next_state x = (6364136223846793005 * x + 1442695040888963407) % 2 ^ 64

-- the number that a state gives: its upper 31 bits
abbrev pub number_of : ℕ → ℕ
number_of x = x / 2 ^ 33
