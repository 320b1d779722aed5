-- How `found` ends.
use Rattle.std.specs.Prelude.{◌≡◌, ◌⊎◌, ℕ, List, [], ◌∷◌, Option}
use Rattle.std.specs.Option.{ForSome}
use Rattle.lam_outside.specs.Disks.{Moments}
use Rattle.lam_outside.specs.Told.{Contents}
use Rattle.version_journal.specs.KeptBytes.{HasBytes, HasNone}
use Rattle.version_journal.specs.Gates.{AtLast, IsKept}
use Rattle.version_journal.specs.Journals.{journal_front}
use Rattle.command_parts.specs.Answer.{Founding, with_founding}
use Rattle.command_parts.specs.AnswerForms.{Answer}
use Rattle.command_parts.specs.Ending.{EndsAs}
use Rattle.command_parts.specs.Outsides.{Outside}
use Rattle.command_parts.specs.declared.status.Status.{Status}
use Rattle.command_parts.specs.declared.status.Status.TheVariants.{Done, WriteFault}
use Rattle.journal_commands.specs.DisksSeen.{DiskSeen, FromChosen, file_on, with_disk}
use Rattle.journal_commands.specs.JournalAnswers.{founded_answer}

-- The file that was chosen, by the status. Where the journal was made it had no bytes, and now it is a journal of the image without commits, which every
-- crash leaves. Else it is as it was, but that where a write failed nothing is said of a file that had no bytes.
abbrev pub LeavesFile : Founding → Status → (old new : Moments) → Type 0
LeavesFile f Done old new = AtLast HasNone old × AtLast (IsKept (journal_front f.program.digest f.image [])) new
LeavesFile f WriteFault old new = AtLast HasBytes old → new ≡ old
LeavesFile f status old new = new ≡ old

-- what it left on the disk: no file was chosen, unless it was done, or the file of this name was
abbrev pub LeavesDisk : Founding → (name : List ℕ) → (disk disk' : DiskSeen) → Status → Type 0
LeavesDisk f name disk disk' Done = FromChosen name disk disk' (LeavesFile f Done)
LeavesDisk f name disk disk' status = (disk'.moments ≡ disk.moments) ⊎ FromChosen name disk disk' (LeavesFile f status)

-- these files and words mean this journal
abbrev pub MeansFounding : (program image : List ℕ) → Contents → Founding → Type 0
MeansFounding program image files f = (go : Founding → Option Answer) → with_founding program image files go ≡ go f

-- A run of `found` with these texts behind the command: it ended as its answer says, by the bytes that the file of the journal had, and left this on the
-- disk. Where it was done, the journal is the one that the files mean.
abbrev pub EndsFounding : (texts : List (List ℕ)) → (old new : Outside) → (disk disk' : DiskSeen) → Status → Type 0
EndsFounding (program ∷ image ∷ name ∷ []) old new disk disk' status =
    EndsAs (founded_answer program image (file_on disk name)) (with_disk disk old) (with_disk disk' new) status
    × ((f : Founding) × (status ≡ Done → ForSome old.contents (λ files. MeansFounding program image files f)) × LeavesDisk f name disk disk' status)
EndsFounding texts old new disk disk' status = ⊥
