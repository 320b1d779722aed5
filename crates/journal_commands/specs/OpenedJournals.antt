-- A journal that was opened by its name.
use Rattle.std.specs.Prelude.{◌≡◌, ℕ, List, Option, Some, Result, Ok, Err, ⊤}
use Rattle.std.specs.Option.{ForSome}
use Rattle.sha2.specs.Sha256.{sha256}
use Rattle.lam_outside.specs.Disks.{DiskFile}
use Rattle.session_meaning.specs.Server.{Shared}
use Rattle.version_journal.specs.Gates.{AtLast, IsKept}
use Rattle.version_journal.specs.Journals.{Holds, journal_front, journal_of}
use Rattle.version_journal.specs.Openings.{Stands}
use Rattle.version_journal.specs.Synced.{IsSynced}
use Rattle.version_journal.specs.declared.opening.Opened.{Opened}
use Rattle.command_parts.specs.AnswerForms.{Answer}
use Rattle.command_parts.specs.FueledRoles.{DigestedProgram}
use Rattle.command_parts.specs.Halting.{HaltsAs}
use Rattle.journal_commands.specs.DisksSeen.{DiskSeen, FromChosen, file_in}
use Rattle.journal_commands.specs.JournalAnswers.{with_journal}
use Rattle.journal_commands.specs.declared.stop.DiskStop.{DiskStop}
use Rattle.journal_commands.specs.declared.stop.DiskStop.TheVariants.{Halts, WriteFault}

module _ (p : DigestedProgram) where
  -- The journal keeps these versions and commits: so its file reads, and every crash leaves that.
  pub record KeepsNow (image : List ℕ) (kept : Shared) (file : DiskFile) : Type 0 where
    pub holds : journal_of p.program p.digest file.reads ≡ Holds kept.versions kept.commits
    pub leaves : IsKept (journal_front p.digest image kept.commits) file

  -- The journal of this name was opened. Where the disk tells it, the file was synced, and the journal keeps what was opened.
  pub record IsOpenedBy (name : List ℕ) (disk disk' : DiskSeen) (opened : Opened) : Type 0 where
    pub stands : Stands sha256 p.program p.digest opened
    pub told : FromChosen name disk disk' (λ old new. IsSynced old new × AtLast (KeepsNow stands.image stands.same) new)

  -- Where the disk tells its files, whatever the answer goes on with behind the journal of this name: it was opened, and the answer goes on with what
  -- it keeps; or it was not, and what halted the work is what the answer says. Nothing is said where the disk could not be written.
  abbrev pub OpensNamed : (name : List ℕ) → (disk disk' : DiskSeen) → Result Opened DiskStop → Type 0
  OpensNamed name disk disk' (Ok opened) =
      (is : IsOpenedBy name disk disk' opened)
      × ForSome disk.contents (λ files. (go : Shared → Option Answer) → with_journal p (file_in (Some files) name) go ≡ go is.stands.same)
  OpensNamed name disk disk' (Err (Halts halt)) =
      ForSome disk.contents (λ files. (go : Shared → Option Answer) → HaltsAs (with_journal p (file_in (Some files) name) go) halt)
  OpensNamed name disk disk' (Err WriteFault) = ⊤
