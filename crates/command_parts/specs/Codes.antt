-- The numbers of the statuses.
use Rattle.std.specs.Prelude.{ℕ}
use Rattle.command_parts.specs.declared.status.Status.{Status}
use Rattle.command_parts.specs.declared.status.Status.TheVariants.{Done, Usage, Trap, OutOfFuel, Rejected, ProgramRefused, InputRefused, ReadFault, WriteFault, NoMemory, Collision}

abbrev pub code : Status → ℕ
code Done = 0
code Usage = 2
code Trap = 3
code OutOfFuel = 4
code Rejected = 5
code ProgramRefused = 6
code InputRefused = 7
code ReadFault = 8
code WriteFault = 9
code NoMemory = 10
code Collision = 11
