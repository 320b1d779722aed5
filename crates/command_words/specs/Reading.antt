-- What reading the words of a command line gives.
use Rattle.std.specs.Prelude.{◌≡◌, ◌≢◌, List, [], Some, None, Result, Ok, Err, ⊤}
use Rattle.clap.specs.Words.{fault_of}
use Rattle.command_words.specs.CommandLine.{command_line}
use Rattle.command_words.specs.Commands.{Text}
use Rattle.command_words.specs.Invocations.{invocation_of, invoked}
use Rattle.command_words.specs.declared.command.Invocation.{Invocation}
use Rattle.command_words.specs.declared.fault.WordsFault.{WordsFault}
use Rattle.command_words.specs.declared.fault.WordsFault.TheVariants.{Refused, NoMemory}

-- clap takes the words, or refuses them; want of memory aside
abbrev pub IsJudged : {A : Type 0} → List Text → Result A WordsFault → Type 0
IsJudged words (Ok taken) = fault_of command_line words ≡ []
IsJudged words (Err Refused) = fault_of command_line words ≢ []
IsJudged words (Err NoMemory) = ⊤

-- what the words call, or that they call nothing; want of memory aside
abbrev pub Reads : List Text → Result Invocation WordsFault → Type 0
Reads words (Ok invocation) = invocation_of words ≡ Some (invoked invocation)
Reads words (Err Refused) = invocation_of words ≡ None
Reads words (Err NoMemory) = ⊤
