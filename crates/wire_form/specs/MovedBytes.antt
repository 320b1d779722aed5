-- Bytes that a link gave.
use Rattle.std.specs.Prelude.{◌≡◌, ℕ, List, Option}
use Rattle.std.specs.Io.KnownBytes.{append_known, prepend_known}

-- Some bytes moved from the front of what is left to the end of what was given, also where a link doesn't tell them.
abbrev pub Moves : (given left given' left' : Option (List ℕ)) → Type 0
Moves given left given' left' = (taken : List ℕ) × (left ≡ prepend_known taken left') × (given' ≡ append_known given taken)
