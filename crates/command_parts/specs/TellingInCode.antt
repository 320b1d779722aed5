-- What is written for what a function of a command found.
use Rattle.std.specs.Prelude.{◌⊎◌, ℕ, List, codes, Option}
use Rattle.command_parts.specs.Halting.{Found, line_of, status_of}
use Rattle.command_parts.specs.declared.status.Status.{Status}
use Rattle.command_parts.specs.declared.status.Status.TheVariants.{NoMemory}
use Rattle.command_parts.specs.Telling.{TellsText}

-- The line of what was found is told, with its status; or the want of memory for this line.
abbrev pub Tells : Found → Status → Option (List ℕ) → Option (List ℕ) → ℕ → ℕ → Type 0
Tells found ended old new before now =
    TellsText (status_of found) (line_of found) ended old new before now
    ⊎ TellsText NoMemory (codes "no memory\n") ended old new before now
