use Rattle.std.proofs.Common.{Err, refl}
use Rattle.command_words.specs.declared.command.Command.TheVariants.{Found}
use Rattle.command_parts.specs.Outsides.{outside}
use Rattle.command_parts.proofs.Possible.{found_possible, told_possible}
use Rattle.command_parts.proofs.Words.{text_at}
use Rattle.journal_commands.specs.DisksSeen.{disk_seen, file_on}
use Rattle.journal_commands.specs.JournalAnswers.{founded_answer}
use Rattle.journal_commands.proofs.CountsOnDisk.{either_apart, halt_counts, halt_leaves, not_done}
use Rattle.journal_commands.proofs.EndsOnDisk.{fault_ends, founding_apart, halt_ends, made_ends}
use Rattle.journal_commands.proofs.StopCauses.{may_halt, writes_kept}
use Rattle.journal_commands.proofs.found.found_command.Goals as goal

pub returns-in-Ok-clause-ends : goal.returns-in-Ok-clause-ends
returns-in-Ok-clause-ends g c =
    let words = c.args.words.now in
    let text = text_at words in
    let seen = outside g.F.Files.contents g.F.Files.stores g.F.Source.faults g.F.Files.store_faults g.O.Sink.written g.O.Sink.faults in
    let on = disk_seen g.D.Disk.contents g.D.Disk.moments g.D.Disk.read_faults g.D.Disk.write_faults in
    let disk = on c.args.disk.now in
    let disk' = on c.found.new.disk in
    let old = seen c.args.files.now c.args.out.now in
    let new = seen c.found.new.files c.args.out.now in
    let found = c.in-Ok.ensures in
    founding_apart words old new disk disk' _ c.requires (
      made_ends (founded_answer (text 0) (text 1) (file_on disk (text 2))) old new disk disk' found.finds found.cause found.stores found.store_faults refl refl,
      (found.left.0, (λ is. found.left.1), found.left.2),
    )

pub returns-in-Ok-clause-reached : goal.returns-in-Ok-clause-reached
returns-in-Ok-clause-reached g c = either_apart Found c.args.words.now 3 _ _ _ _ c.requires c.in-Ok.ensures.reached

pub returns-in-Err-Halts-clause-ends : goal.returns-in-Err-Halts-clause-ends
returns-in-Err-Halts-clause-ends g c =
    let words = c.args.words.now in
    let text = text_at words in
    let seen = outside g.F.Files.contents g.F.Files.stores g.F.Source.faults g.F.Files.store_faults g.O.Sink.written g.O.Sink.faults in
    let on = disk_seen g.D.Disk.contents g.D.Disk.moments g.D.Disk.read_faults g.D.Disk.write_faults in
    let disk = on c.args.disk.now in
    let disk' = on c.found.new.disk in
    let old = seen c.args.files.now c.args.out.now in
    let new = seen c.found.new.files c.tell.new.out in
    let found = c.in-Err-Halts.ensures in
    let halt = c.in-Err-Halts.halt in
    let is = c.in-Err-Halts.field-0-is in
    let finds = rw is at found.finds in
    let cause = rw is at found.cause in
    let left = rw is at found.left.2 in
    founding_apart words old new disk disk' _ c.requires (
      halt_ends (founded_answer (text 0) (text 1) (file_on disk (text 2))) old new disk disk' (Unit {0}) halt c.tell.result finds cause found.stores found.store_faults c.tell.ensures,
      (found.left.0, (λ is. not_done _ halt c.tell.result _ _ _ _ c.tell.ensures is), halt_leaves found.left.0 (text 2) disk disk' halt c.tell.result _ _ _ _ left c.tell.ensures),
    )

pub returns-in-Err-Halts-clause-counts : goal.returns-in-Err-Halts-clause-counts
returns-in-Err-Halts-clause-counts g c =
    let words = c.args.words.now in
    let text = text_at words in
    let seen = outside g.F.Files.contents g.F.Files.stores g.F.Source.faults g.F.Files.store_faults g.O.Sink.written g.O.Sink.faults in
    let on = disk_seen g.D.Disk.contents g.D.Disk.moments g.D.Disk.read_faults g.D.Disk.write_faults in
    let disk = on c.args.disk.now in
    let disk' = on c.found.new.disk in
    let old = seen c.args.files.now c.args.out.now in
    let new = seen c.found.new.files c.tell.new.out in
    let found = c.in-Err-Halts.ensures in
    let halt = c.in-Err-Halts.halt in
    let cause = rw c.in-Err-Halts.field-0-is at found.cause in
    halt_counts old new disk disk' (Unit {0}) halt c.tell.result cause (writes_kept (Unit {0}) _ _ _ _ _ _ halt cause) found.store_faults c.tell.ensures

pub returns-in-Err-Halts-clause-reached : goal.returns-in-Err-Halts-clause-reached
returns-in-Err-Halts-clause-reached g c = either_apart Found c.args.words.now 3 _ _ _ _ c.requires c.in-Err-Halts.ensures.reached

pub returns-in-Err-Halts-clause-possible : goal.returns-in-Err-Halts-clause-possible
returns-in-Err-Halts-clause-possible g c =
    let halt = c.in-Err-Halts.halt in
    let cause = rw c.in-Err-Halts.field-0-is at c.in-Err-Halts.ensures.cause in
    told_possible Found (Err halt) c.tell.result _ _ _ _ c.tell.ensures (found_possible Found tt tt _ _ (Err halt) (may_halt (Unit {0}) _ _ _ _ _ _ halt cause) tt)

pub returns-in-Err-WriteFault-clause-ends : goal.returns-in-Err-WriteFault-clause-ends
returns-in-Err-WriteFault-clause-ends g c =
    let words = c.args.words.now in
    let text = text_at words in
    let seen = outside g.F.Files.contents g.F.Files.stores g.F.Source.faults g.F.Files.store_faults g.O.Sink.written g.O.Sink.faults in
    let on = disk_seen g.D.Disk.contents g.D.Disk.moments g.D.Disk.read_faults g.D.Disk.write_faults in
    let disk = on c.args.disk.now in
    let disk' = on c.found.new.disk in
    let old = seen c.args.files.now c.args.out.now in
    let new = seen c.found.new.files c.args.out.now in
    let found = c.in-Err-WriteFault.ensures in
    let is = c.in-Err-WriteFault.field-0-is in
    let cause = rw is at found.cause in
    let left = rw is at found.left.2 in
    founding_apart words old new disk disk' _ c.requires (
      fault_ends (founded_answer (text 0) (text 1) (file_on disk (text 2))) old new disk disk' (Unit {0}) cause found.stores found.store_faults refl refl,
      (found.left.0, (λ is. absurd (cc (is))), left),
    )

pub returns-in-Err-WriteFault-clause-reached : goal.returns-in-Err-WriteFault-clause-reached
returns-in-Err-WriteFault-clause-reached g c = either_apart Found c.args.words.now 3 _ _ _ _ c.requires c.in-Err-WriteFault.ensures.reached
