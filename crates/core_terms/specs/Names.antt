-- What a name of a program is.
use Rattle.std.specs.Prelude.{ℕ, ◌≤◌, List, length}

-- how many bytes a name has at most
abbrev pub longest_name : ℕ
longest_name = 64

-- a name has 1 to 64 bytes
abbrev pub IsName : List ℕ → Type 0
IsName name = (1 ≤ length name) × (length name ≤ longest_name)
