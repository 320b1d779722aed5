-- What is put behind a buffer.
use Rattle.std.specs.Prelude.{◌≡◌, ℕ, ◌≤◌, List, ◌++◌, length, take, Result, Ok, Err}
use Rattle.std.specs.declared.alloc.AllocError.{AllocError}

-- these bytes were put behind those that were there; or, where memory was wanting, a front of them
abbrev pub Puts : (bytes before now : List ℕ) → Result (Unit {0}) AllocError → Type 0
Puts bytes before now (Ok done) = now ≡ before ++ bytes
Puts bytes before now (Err e) = (n : ℕ) × (n ≤ length bytes) × (now ≡ before ++ take n bytes)
