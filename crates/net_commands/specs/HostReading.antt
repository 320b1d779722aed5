-- What reading the words, the files and the journal of a hosting gives.
use Rattle.std.specs.Prelude.{◌≡◌, ◌⊎◌, ℕ, List, Option, Result, Ok, Err, ⊤}
use Rattle.std.specs.Option.{ForSome}
use Rattle.lam_outside.specs.Told.{Contents}
use Rattle.command_parts.specs.Answer.{Serving}
use Rattle.command_parts.specs.AnswerForms.{Answer}
use Rattle.command_parts.specs.Halting.{HaltsAs}
use Rattle.journal_commands.specs.DisksSeen.{DiskSeen, file_in}
use Rattle.journal_commands.specs.declared.stop.DiskStop.{DiskStop}
use Rattle.journal_commands.specs.declared.stop.DiskStop.TheVariants.{Halts, WriteFault}
use Rattle.net_commands.specs.Hosting.{with_hosting}
use Rattle.net_commands.specs.PreparedHosts.{IsPreparedHost}
use Rattle.net_commands.specs.declared.hosting.HostWords.{HostWords}
use Rattle.net_commands.specs.declared.hosting.PreparedHost.{PreparedHost}

-- the step that goes on with what is hosted, by these files and by those of the disk
abbrev pub hosting_of : HostWords → Contents → (on_disk : Option Contents) → (Serving → Option Answer) → Option Answer
hosting_of words files on_disk go =
    with_hosting words.program.now words.port.now words.connections.now words.slice.now (file_in on_disk words.journal.now) files go

-- what is said where both the files and the disk tell theirs
abbrev pub ForBoth : Option Contents → Option Contents → (Contents → Type 0) → Type 0
ForBoth on_disk told P = ForSome on_disk (λ disk_files. ForSome told P)

-- A server was prepared, with its journal: where the files are told it is the one that they mean. Or the work was halted, as the answer says; nothing is
-- said where the disk could not be written.
abbrev pub ReadsHost : HostWords → (told : Option Contents) → (disk disk' : DiskSeen) → Result PreparedHost DiskStop → Type 0
ReadsHost words told disk disk' (Ok host) =
    (s : Serving) × IsPreparedHost host s words.journal.now disk disk'
    × ForBoth disk.contents told (λ files. (go : Serving → Option Answer) → hosting_of words files disk.contents go ≡ go s)
ReadsHost words told disk disk' (Err (Halts halt)) =
    ForBoth disk.contents told (λ files. (go : Serving → Option Answer) → HaltsAs (hosting_of words files disk.contents go) halt)
ReadsHost words told disk disk' (Err WriteFault) = ⊤
