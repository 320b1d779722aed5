-- What the making of a journal leaves on the disk, as the functions tell it that make one.
use Rattle.std.specs.Prelude.{◌≡◌, ◌⊎◌, ℕ, List, Result, Ok, Err}
use Rattle.command_parts.specs.Answer.{Founding}
use Rattle.command_parts.specs.FueledRoles.{DigestedProgram}
use Rattle.command_parts.specs.declared.status.Status.TheVariants.{Done, WriteFault}
use Rattle.journal_commands.specs.DisksSeen.{DiskSeen, FromChosen}
use Rattle.journal_commands.specs.declared.stop.DiskStop.{DiskStop}
use Rattle.journal_commands.specs.declared.stop.DiskStop.TheVariants.{Halts, WriteFault as StopsWriting}
use Rattle.journal_commands.specs.Founding.{LeavesFile}

-- a journal of this program and image
abbrev pub founding_of : DigestedProgram → List ℕ → Founding
founding_of p image = record { program = p; image = image }

-- what the work left on the disk, by what it came to
abbrev pub LeavesOn : Founding → (name : List ℕ) → (disk disk' : DiskSeen) → Result (Unit {0}) DiskStop → Type 0
LeavesOn f name disk disk' (Ok done) = FromChosen name disk disk' (LeavesFile f Done)
LeavesOn f name disk disk' (Err (Halts halt)) = (disk'.moments ≡ disk.moments) ⊎ FromChosen name disk disk' (λ old new. new ≡ old)
LeavesOn f name disk disk' (Err StopsWriting) = (disk'.moments ≡ disk.moments) ⊎ FromChosen name disk disk' (LeavesFile f WriteFault)
