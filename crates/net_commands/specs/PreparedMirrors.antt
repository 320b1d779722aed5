-- What the code holds of a mirror before its first connection.
use Rattle.std.specs.Prelude.{◌≡◌, ℕ, List}
use Rattle.piece_mirror.specs.Tables.{bytes_of}
use Rattle.printed_lines.specs.Lines.{listening_line}
use Rattle.command_parts.specs.Answer.{Mirroring}
use Rattle.net_commands.specs.declared.mirroring.PreparedMirror.{PreparedMirror}

-- what is answered from by these numbers, and what is held
abbrev pub mirroring_by : (pieces : List (List ℕ)) → (port links : ℕ) → Mirroring
mirroring_by pieces port links = record { pieces = pieces; port = port; links = links }

abbrev pub mirroring_of : PreparedMirror → Mirroring
mirroring_of held = mirroring_by (bytes_of held.mirror.pieces) held.port held.connections

-- it has the line that says that it listens
abbrev pub HasGreeting : PreparedMirror → Type 0
HasGreeting held = held.greeting.items ≡ listening_line held.port
