-- The command line by clap's own definition: a command whose subcommands take texts by their places.
use Rattle.std.specs.Prelude.{◌≡◌, ◌≢◌, ◌⊎◌, List, [], Some, length, max, codes, true, fold, ℕ}
use Rattle.clap.specs.Words.{App, Rule, fault_of, new_app, new_rule, with_rule, with_subcommand}
use Rattle.command_words.specs.Commands.{Row, Text, commands}
use Rattle.command_words.specs.Invocations.{is_refused}

-- an argument that has to be there, and takes one text for each of these names, of which all behind the least number may be left out
abbrev pub required_texts : List Text → ℕ → Rule
required_texts names least = record (new_rule (codes "ARGUMENTS")) {
  required = true;
  range = Some (record { start_inclusive = least; end_inclusive = max (length names) least });
  value_names = length names;
}

-- the command of a row
abbrev pub command : Row → App
command row = with_rule (new_app row.name) (required_texts row.arguments row.least)

-- a command one of whose subcommands has to be named
abbrev pub naming_one : App
naming_one = let app = new_app (codes "lamauth") in record app { top = record app.top { subcommand_required = true } }

-- the program's command line
abbrev pub with_command : App → Row → App
with_command app row = with_subcommand app (command row).top

abbrev pub command_line : App
command_line = fold with_command naming_one commands

-- The words are refused: by the program's own test, or by clap.
abbrev pub AreRefused : List Text → Type 0
AreRefused words = (is_refused words ≡ true) ⊎ (fault_of command_line words ≢ [])
