-- What a disk tells beside files and a sink.
use Rattle.std.specs.Prelude.{◌≡◌, ◌⊎◌, ℕ, ◌+◌, List, [], Option, Some, None, unwrap_or}
use Rattle.lam_outside.specs.Disks.{Chooses, Moments}
use Rattle.lam_outside.specs.Told.{Contents}
use Rattle.command_parts.specs.Outsides.{Outside}
use Rattle.version_journal.specs.Gates.{ForTold}
use Rattle.version_journal.specs.Synced.{IsSynced}

-- What a disk tells: what each name holds as it reads, and the chosen file at each moment since it was chosen; and its counts of faults.
pub record DiskSeen : Type 0 where
  pub contents : Option Contents
  pub moments : Option Moments
  pub read_faults : ℕ
  pub write_faults : ℕ

abbrev pub disk_seen : {D : Type 0} → (D → Option Contents) → (D → Option Moments) → (D → ℕ) → (D → ℕ) → D → DiskSeen
disk_seen contents moments read_faults write_faults disk = record {
  contents = contents disk;
  moments = moments disk;
  read_faults = read_faults disk;
  write_faults = write_faults disk;
}

-- the bytes of the file of this name; a file that is missing is made, without bytes
abbrev pub file_in : Option Contents → List ℕ → List ℕ
file_in None name = []
file_in (Some files) name = unwrap_or (files name) []

abbrev pub file_on : DiskSeen → List ℕ → List ℕ
file_on disk name = file_in disk.contents name

-- what is told of files, where the disk tells of its own too
abbrev pub if_told : {A B : Type 0} → Option A → Option B → Option B
if_told None told = None
if_told (Some a) told = told

-- The outside of a command on a disk, where its files are told as those of the disk are too: a read of either may fail, and so may a write of the disk
-- where `store` may.
abbrev pub with_disk : DiskSeen → Outside → Outside
with_disk disk seen = record seen {
  contents = if_told disk.contents seen.contents;
  read_faults = seen.read_faults + disk.read_faults;
  store_faults = seen.store_faults + disk.write_faults;
}

-- The file of this name was chosen, and where the disk tells it, this holds of the moments since: as it was chosen, and now.
abbrev pub FromChosen : (name : List ℕ) → (disk disk' : DiskSeen) → (Moments → Moments → Type 0) → Type 0
FromChosen name disk disk' P = (chosen : Option Moments) × Chooses disk.contents name chosen × ForTold chosen disk'.moments P

-- No file was written: none was chosen, or the one of this name, which was synced or not.
abbrev pub WritesNothing : (name : List ℕ) → (disk disk' : DiskSeen) → Type 0
WritesNothing name disk disk' =
    (disk'.moments ≡ disk.moments) ⊎ FromChosen name disk disk' (λ old new. (new ≡ old) ⊎ IsSynced old new)
