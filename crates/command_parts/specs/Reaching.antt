-- Where a file could not be read, it is one that the order of refusals had reached: nothing that stands before it ends the run.
use Rattle.std.specs.Prelude.{◌≡◌, ℕ, List, [], ◌∷◌, ◌++◌, bytes_eq, Option, None, if◌then◌else◌}
use Rattle.std.specs.Option.{ForSome}
use Rattle.lam_outside.specs.Told.{Contents, Names}
use Rattle.command_parts.specs.AnswerForms.{Answer}

-- the name was asked for last
abbrev pub IsLast : List ℕ → Names → Type 0
IsLast name names = (before : Names) × (names ≡ before ++ name ∷ [])

-- the files without the one of this name
abbrev pub without : List ℕ → Contents → Contents
without name files other = if bytes_eq other name then None else files other

-- the file that was asked for last is one without which there is no answer
abbrev pub IsReached : (Contents → Option Answer) → Option Contents → Option Names → Type 0
IsReached answer contents asked = ForSome contents (λ files. ForSome asked (λ names. (name : List ℕ) × IsLast name names × (answer (without name files) ≡ None)))
