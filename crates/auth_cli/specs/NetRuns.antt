-- What each command uses beside files and the sink, and runs of words by what they call.
use Rattle.std.specs.Prelude.{Bool, true, false, ◌||◌, Option, Some, None}
use Rattle.command_words.specs.Invocations.{Invocation}
use Rattle.command_words.specs.declared.command.Command.{Command}
use Rattle.command_words.specs.declared.command.Command.TheVariants.{Ask, Draw, Found, Host, Mirror, Replay, Serve}

-- whether a command dials, listens, and uses the disk
pub record Uses : Type 0 where
  pub dials : Bool
  pub listens : Bool
  pub disk : Bool

abbrev pub uses : Command → Uses
uses Ask = record { dials = true; listens = false; disk = false }
uses Draw = record { dials = true; listens = false; disk = false }
uses Serve = record { dials = false; listens = true; disk = false }
uses Mirror = record { dials = false; listens = true; disk = false }
uses Host = record { dials = false; listens = true; disk = true }
uses Found = record { dials = false; listens = false; disk = true }
uses Replay = record { dials = false; listens = false; disk = true }
uses command = record { dials = false; listens = false; disk = false }

abbrev pub Not : Bool → Type 0
Not true = ⊥
Not false = Unit {0}

-- It dials no link; it listens to no port; it uses no net, which is neither of both; it uses no disk; it uses files and the sink alone.
abbrev pub DialsNone : Command → Type 0
DialsNone command = Not (uses command).dials

abbrev pub ListensToNone : Command → Type 0
ListensToNone command = Not (uses command).listens

abbrev pub UsesNoNet : Command → Type 0
UsesNoNet command = Not ((uses command).dials || (uses command).listens)

abbrev pub UsesNoDisk : Command → Type 0
UsesNoDisk command = Not (uses command).disk

abbrev pub IsOfFiles : Command → Type 0
IsOfFiles command = UsesNoNet command × UsesNoDisk command

-- it is so of the command that words call, where they call one
abbrev pub IfCalled : (Command → Type 0) → Option Invocation → Type 0
IfCalled Is None = Unit {0}
IfCalled Is (Some called) = Is called.command

abbrev pub IsOffline : Option Invocation → Type 0
IsOffline found = IfCalled IsOfFiles found
