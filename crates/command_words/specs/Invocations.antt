-- What the words of a command line call, without a word of clap.
use Rattle.std.specs.Prelude.{List, [], ◌∷◌, length, Bool, true, false, ◌||◌, ◌&&◌, nat_le, bytes_eq, codes, Option, Some, None, if◌then◌else◌, option_and_then}
use Rattle.std.specs.List.{list_any}
use Rattle.command_words.specs.Commands.{Row, Text, row_named, texts}
use Rattle.command_words.specs.declared.command.Command.{Command}
use Rattle.command_words.specs.declared.command.Invocation.{Invocation as CodeInvocation}

-- a command with the texts of its arguments
pub record Invocation : Type 0 where
  pub command : Command
  pub texts : List Text

abbrev pub calls : Command → List Text → Invocation
calls command texts = record { command = command; texts = texts }

-- the same of what was read
abbrev pub invoked : CodeInvocation → Invocation
invoked invocation = calls invocation.command (texts invocation.texts.now)

-- a word that is empty or begins with `-`
abbrev pub is_refused_word : Text → Bool
is_refused_word [] = true
is_refused_word (c ∷ cs) = bytes_eq (c ∷ []) (codes "-")

-- The program's own test: behind its name a word is empty or begins with `-`, or the command is `help`.
abbrev pub is_refused : List Text → Bool
is_refused [] = false
is_refused (program ∷ []) = false
is_refused (program ∷ name ∷ arguments) = bytes_eq name (codes "help") || (is_refused_word name || list_any is_refused_word arguments)

-- the command of a row with these texts, where they are as many as it takes
abbrev pub are_counted : List Text → Row → Bool
are_counted texts row = nat_le row.least (length texts) && nat_le (length texts) (length row.arguments)

abbrev pub called : List Text → Row → Option Invocation
called texts row = if are_counted texts row then Some (calls row.command texts) else None

-- what words call that are behind the program's name: a command's name, and the texts of its arguments
abbrev pub invocation_behind : List Text → Option Invocation
invocation_behind (program ∷ name ∷ texts) = option_and_then (called texts) (row_named name)
invocation_behind words = None

-- what the words of a command line call, the program's name first
abbrev pub invocation_of : List Text → Option Invocation
invocation_of words = if is_refused words then None else invocation_behind words
