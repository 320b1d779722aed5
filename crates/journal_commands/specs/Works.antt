-- What the work of a command on a disk found, before it is told.
use Rattle.std.specs.Prelude.{◌≡◌, List, [], ℕ, Option, Some, Result, Ok, Err, ⊤}
use Rattle.command_parts.specs.AnswerForms.{Answer}
use Rattle.command_parts.specs.Halting.{HaltsAs}
use Rattle.command_parts.specs.Storing.{FindsOutput}
use Rattle.command_parts.specs.declared.report.Output.{Output}
use Rattle.journal_commands.specs.JournalAnswers.{making_answer}
use Rattle.journal_commands.specs.declared.stop.DiskStop.{DiskStop}
use Rattle.journal_commands.specs.declared.stop.DiskStop.TheVariants.{Halts, WriteFault}

-- what ended the work early is what the answer says, unless a read failed or memory was wanting; nothing is said where the disk could not be written
abbrev pub StopsAs : Option Answer → DiskStop → Type 0
StopsAs answer (Halts halt) = HaltsAs answer halt
StopsAs answer WriteFault = ⊤

-- a journal was made, of which nothing is told; or the work ended early
abbrev pub FindsMade : Option Answer → Result (Unit {0}) DiskStop → Type 0
FindsMade answer (Ok done) = answer ≡ Some (making_answer [])
FindsMade answer (Err stop) = StopsAs answer stop

-- an output is what the answer says, its file stored under a name; or the work ended early
abbrev pub FindsKept : (name : List ℕ) → Option Answer → Result Output DiskStop → Type 0
FindsKept name answer (Ok output) = FindsOutput name answer (Ok output)
FindsKept name answer (Err stop) = StopsAs answer stop
