-- A row of the code's table.
use Rattle.command_words.specs.Commands.{Row, texts}
use Rattle.command_words.specs.declared.command.Row.{Row as CodeRow}

abbrev pub row_of : CodeRow → Row
row_of row = record { command = row.command; name = row.name.now; arguments = texts row.arguments.now; least = row.least }
