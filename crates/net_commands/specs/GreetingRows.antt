-- Rows for the line that is written whole before a link is made.
use Rattle.std.specs.Prelude.{◌≡◌, ℕ, zero, suc, Bool, List, [], ◌∷◌, take, Some, refl}
use Rattle.std.proofs.Common.{arith}
use Rattle.printed_lines.specs.Lines.{listening_line}
use Rattle.command_parts.specs.Answer.{Serving}
use Rattle.net_commands.specs.Courses.{NotListening, NotWritten, Served, WithoutMemory, WritesFront, greeting_of}

-- it stands before links that were made; where none was made there is none
pub greetings : (s : Serving) (faulted : Bool) → (greeting_of s.port (Served faulted) ≡ listening_line s.port) × (greeting_of s.port WithoutMemory ≡ listening_line s.port)
    × (greeting_of s.port NotListening ≡ []) × (greeting_of s.port NotWritten ≡ [])
greetings s faulted = (refl, refl, refl, refl)

-- a front of a byte at least is not nothing
some_written : (x : ℕ) (xs : List ℕ) → Some [] ≡ Some (x ∷ xs) → ⊥
some_written x xs e = cc

pub none_written : (x : ℕ) (xs : List ℕ) → WritesFront 1 (Some []) (Some []) (x ∷ xs) → ⊥
none_written x xs (zero, least, is) = omega (arith, least)
none_written x xs (suc n, least, is) = some_written x (take n xs) is
