-- Where a journal stands in its file.
use Rattle.std.specs.Prelude.{◌≡◌, ℕ, List, [], length, Result, Ok, Err, ⊤, Bool, true, false}
use Rattle.lam_outside.specs.Disks.{Moments}
use Rattle.session_meaning.specs.Calls.{RoleCall}
use Rattle.version_journal.specs.Gates.{AtLast, IsKept}
use Rattle.version_journal.specs.Journals.{journal_front}
use Rattle.version_journal.specs.declared.fault.DiskCount.TheVariants.{Reads, Writes}
use Rattle.version_journal.specs.declared.fault.JournalFault.{JournalFault}
use Rattle.version_journal.specs.declared.fault.JournalFault.TheVariants.{NotEmpty, DiskFault, Failed, NoMemory}
use Rattle.version_journal.specs.declared.journal.Journal.{Journal}
use Rattle.version_journal.specs.KeptBytes.{HasBytes, HasNone}

-- The journal stands behind this image and these commits: at the place of the gate behind them.
pub record IsAt (own image : List ℕ) (calls : List RoleCall) (journal : Journal) : Type 0 where
  pub gate : journal.gate ≡ length (journal_front own image calls)
  pub records : journal.records ≡ length calls

-- A journal was made: the file reads as the image with no commits, and every crash leaves that. It was not, exactly where the file had bytes;
-- or the disk failed, or memory was wanting. A file that had bytes stays as it was, whatever is answered.
abbrev pub Makes : (own image : List ℕ) (old new : Moments) → Result Journal JournalFault → Type 0
Makes own image old new (Ok journal) = AtLast HasNone old × AtLast (IsKept (journal_front own image [])) new
Makes own image old new (Err NotEmpty) = AtLast HasBytes old × (new ≡ old)
Makes own image old new (Err (DiskFault Reads)) = new ≡ old
Makes own image old new (Err (DiskFault Writes)) = AtLast HasNone old
Makes own image old new (Err NoMemory) = AtLast HasNone old × (new ≡ old)
Makes own image old new (Err fault) = ⊥

-- a fault of a write of the disk, or the want of memory
abbrev pub Breaks : JournalFault → Type 0
Breaks (DiskFault Writes) = ⊤
Breaks NoMemory = ⊤
Breaks fault = ⊥

-- A call of a journal that answers a fault of the disk or the want of memory breaks it, and `Failed` comes exactly where it is broken.
abbrev pub FailsSo : {T : Type 0} → (old new : Bool) → Result T JournalFault → Type 0
FailsSo old new (Ok done) = (old ≡ false) × (new ≡ false)
FailsSo old new (Err (DiskFault Writes)) = (old ≡ false) × (new ≡ true)
FailsSo old new (Err NoMemory) = (old ≡ false) × (new ≡ true)
FailsSo old new (Err Failed) = (old ≡ true) × (new ≡ true)
FailsSo old new (Err fault) = ⊥

-- a fault that making a journal may answer, whatever the disk tells
abbrev pub MayNotMake : JournalFault → Type 0
MayNotMake NotEmpty = ⊤
MayNotMake (DiskFault count) = ⊤
MayNotMake NoMemory = ⊤
MayNotMake fault = ⊥

-- a fault that an append may answer
abbrev pub MayStop : JournalFault → Type 0
MayStop (DiskFault Writes) = ⊤
MayStop NoMemory = ⊤
MayStop Failed = ⊤
MayStop fault = ⊥
