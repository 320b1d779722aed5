use Rattle.std.proofs.Common.{Result, Ok, Err, refl, ◌∙◌}
use Rattle.command_words.specs.Commands.{texts}
use Rattle.command_words.specs.declared.command.Command.TheVariants.{Replay}
use Rattle.command_parts.specs.Answer.{answer_with}
use Rattle.command_parts.specs.Outsides.{outside}
use Rattle.command_parts.specs.declared.report.Halt.{Halt}
use Rattle.command_parts.specs.declared.report.Output.{Output}
use Rattle.command_parts.proofs.Possible.{output_possible, stored_possible}
use Rattle.command_parts.proofs.Words.{text_at}
use Rattle.journal_commands.specs.DisksSeen.{disk_seen, file_on}
use Rattle.journal_commands.specs.JournalAnswers.{replayed_answer}
use Rattle.journal_commands.specs.declared.stop.DiskStop.{DiskStop}
use Rattle.journal_commands.specs.declared.stop.DiskStop.TheVariants.{Halts}
use Rattle.journal_commands.proofs.CountsOnDisk.{either_apart, halt_counts, output_counts, reached_later}
use Rattle.journal_commands.proofs.EndsOnDisk.{fault_ends, halt_ends, output_ends, replaying_apart}
use Rattle.journal_commands.proofs.StopCauses.{later_cause, may_halt, none_rose, writes_kept}
use Rattle.journal_commands.proofs.replay.replay_command.Goals as goal

abbrev stopped : Halt → Result Output DiskStop
stopped halt = Err (Halts halt)

pub returns-in-Ok-clause-ends : goal.returns-in-Ok-clause-ends
returns-in-Ok-clause-ends g c =
    let words = c.args.words.now in
    let text = text_at words in
    let seen = outside g.F.Files.contents g.F.Files.stores g.F.Source.faults g.F.Files.store_faults g.O.Sink.written g.O.Sink.faults in
    let on = disk_seen g.D.Disk.contents g.D.Disk.moments g.D.Disk.read_faults g.D.Disk.write_faults in
    let disk = on c.args.disk.now in
    let disk' = on c.find_last.new.disk in
    let old = seen c.args.files.now c.args.out.now in
    let new = seen c.store_and_tell.new.files c.store_and_tell.new.out in
    let found = c.in-Ok.ensures in
    let told = c.store_and_tell in
    replaying_apart words old new disk disk' _ c.requires (
      output_ends (replayed_answer (text 0) (text 2) (file_on disk (text 1))) old new disk disk' (text 2) c.in-Ok.output told.result _ _ (found.finds (text 2)) (told.ensures.faults ∙ found.cause.0, found.cause.1, found.cause.2) found.stores found.store_faults
          told.ensures.ends,
      found.writes,
    )

pub returns-in-Ok-clause-counts : goal.returns-in-Ok-clause-counts
returns-in-Ok-clause-counts g c =
    let words = c.args.words.now in
    let text = text_at words in
    let seen = outside g.F.Files.contents g.F.Files.stores g.F.Source.faults g.F.Files.store_faults g.O.Sink.written g.O.Sink.faults in
    let on = disk_seen g.D.Disk.contents g.D.Disk.moments g.D.Disk.read_faults g.D.Disk.write_faults in
    let disk = on c.args.disk.now in
    let disk' = on c.find_last.new.disk in
    let old = seen c.args.files.now c.args.out.now in
    let new = seen c.store_and_tell.new.files c.store_and_tell.new.out in
    let found = c.in-Ok.ensures in
    let told = c.store_and_tell in
    output_counts old new disk disk' (text 2) c.in-Ok.output told.result _ _ (told.ensures.faults ∙ found.cause.0, found.cause.1, found.cause.2) found.store_faults told.ensures.ends

pub returns-in-Ok-clause-reached : goal.returns-in-Ok-clause-reached
returns-in-Ok-clause-reached g c =
    reached_later _ _ _ (answer_with Replay (texts c.args.words.now)) _ _ _ c.store_and_tell.ensures.faults c.store_and_tell.ensures.asked (either_apart Replay c.args.words.now 3 _ _ _ _ c.requires c.in-Ok.ensures.reached)

pub returns-in-Ok-clause-possible : goal.returns-in-Ok-clause-possible
returns-in-Ok-clause-possible g c =
    let found = c.in-Ok.ensures in
    let told = c.store_and_tell in
    stored_possible Replay (text_at c.args.words.now 2) (Ok c.in-Ok.output) told.result _ _ _ _ _ _ _ _ told.ensures.ends
    (output_possible Replay tt tt _ _ (Ok c.in-Ok.output) (none_rose _ _ _ _ found.cause.0 found.cause.1) found.ending)

pub returns-in-Err-Halts-clause-ends : goal.returns-in-Err-Halts-clause-ends
returns-in-Err-Halts-clause-ends g c =
    let words = c.args.words.now in
    let text = text_at words in
    let seen = outside g.F.Files.contents g.F.Files.stores g.F.Source.faults g.F.Files.store_faults g.O.Sink.written g.O.Sink.faults in
    let on = disk_seen g.D.Disk.contents g.D.Disk.moments g.D.Disk.read_faults g.D.Disk.write_faults in
    let disk = on c.args.disk.now in
    let disk' = on c.find_last.new.disk in
    let old = seen c.args.files.now c.args.out.now in
    let new = seen c.store_and_tell-in-Err-Halts.new.files c.store_and_tell-in-Err-Halts.new.out in
    let found = c.in-Err-Halts.ensures in
    let is = c.in-Err-Halts.field-0-is in
    let cause = rw is at found.cause in
    let told = c.store_and_tell-in-Err-Halts in
    replaying_apart words old new disk disk' _ c.requires (
      halt_ends (replayed_answer (text 0) (text 2) (file_on disk (text 1))) old new disk disk' Output c.in-Err-Halts.halt told.result (rw is at found.finds (text 2)) (later_cause _ _ _ _ _ _ _ (stopped c.in-Err-Halts.halt) told.ensures.faults cause) (told.ensures.ends.0 ∙ found.stores)
          (told.ensures.ends.1 ∙ found.store_faults) told.ensures.ends.2,
      found.writes,
    )

pub returns-in-Err-Halts-clause-counts : goal.returns-in-Err-Halts-clause-counts
returns-in-Err-Halts-clause-counts g c =
    let words = c.args.words.now in
    let text = text_at words in
    let seen = outside g.F.Files.contents g.F.Files.stores g.F.Source.faults g.F.Files.store_faults g.O.Sink.written g.O.Sink.faults in
    let on = disk_seen g.D.Disk.contents g.D.Disk.moments g.D.Disk.read_faults g.D.Disk.write_faults in
    let disk = on c.args.disk.now in
    let disk' = on c.find_last.new.disk in
    let old = seen c.args.files.now c.args.out.now in
    let new = seen c.store_and_tell-in-Err-Halts.new.files c.store_and_tell-in-Err-Halts.new.out in
    let found = c.in-Err-Halts.ensures in
    let is = c.in-Err-Halts.field-0-is in
    let cause = rw is at found.cause in
    let told = c.store_and_tell-in-Err-Halts in
    let halt = c.in-Err-Halts.halt in
    halt_counts old new disk disk' Output halt told.result (later_cause _ _ _ _ _ _ _ (stopped halt) told.ensures.faults cause) (writes_kept Output _ _ _ _ _ _ halt cause) (told.ensures.ends.1 ∙ found.store_faults) told.ensures.ends.2

pub returns-in-Err-Halts-clause-reached : goal.returns-in-Err-Halts-clause-reached
returns-in-Err-Halts-clause-reached g c =
    reached_later _ _ _ (answer_with Replay (texts c.args.words.now)) _ _ _ c.store_and_tell-in-Err-Halts.ensures.faults c.store_and_tell-in-Err-Halts.ensures.asked (either_apart Replay c.args.words.now 3 _ _ _ _ c.requires c.in-Err-Halts.ensures.reached)

pub returns-in-Err-Halts-clause-possible : goal.returns-in-Err-Halts-clause-possible
returns-in-Err-Halts-clause-possible g c =
    let halt = c.in-Err-Halts.halt in
    let told = c.store_and_tell-in-Err-Halts in
    let cause = rw c.in-Err-Halts.field-0-is at c.in-Err-Halts.ensures.cause in
    stored_possible Replay (text_at c.args.words.now 2) (Err halt) told.result _ _ _ _ _ _ _ _ told.ensures.ends
    (output_possible Replay tt tt _ _ (Err halt) (may_halt Output _ _ _ _ _ _ halt cause) tt)

pub returns-in-Err-WriteFault-clause-ends : goal.returns-in-Err-WriteFault-clause-ends
returns-in-Err-WriteFault-clause-ends g c =
    let words = c.args.words.now in
    let text = text_at words in
    let seen = outside g.F.Files.contents g.F.Files.stores g.F.Source.faults g.F.Files.store_faults g.O.Sink.written g.O.Sink.faults in
    let on = disk_seen g.D.Disk.contents g.D.Disk.moments g.D.Disk.read_faults g.D.Disk.write_faults in
    let disk = on c.args.disk.now in
    let disk' = on c.find_last.new.disk in
    let old = seen c.args.files.now c.args.out.now in
    let new = seen c.find_last.new.files c.args.out.now in
    let found = c.in-Err-WriteFault.ensures in
    let cause = rw c.in-Err-WriteFault.field-0-is at found.cause in
    replaying_apart words old new disk disk' _ c.requires
    (fault_ends (replayed_answer (text 0) (text 2) (file_on disk (text 1))) old new disk disk' Output cause found.stores found.store_faults refl refl, found.writes)

pub returns-in-Err-WriteFault-clause-reached : goal.returns-in-Err-WriteFault-clause-reached
returns-in-Err-WriteFault-clause-reached g c = either_apart Replay c.args.words.now 3 _ _ _ _ c.requires c.in-Err-WriteFault.ensures.reached
