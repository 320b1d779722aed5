-- Which counts may have risen in a run on a disk, by the status.
use Rattle.std.specs.Prelude.{◌≡◌, ◌⊎◌}
use Rattle.lam_outside.specs.Causes.{Rose}
use Rattle.command_parts.specs.Outsides.{Outside}
use Rattle.command_parts.specs.declared.status.Status.{Status}
use Rattle.command_parts.specs.declared.status.Status.TheVariants.{ReadFault, WriteFault, NoMemory}
use Rattle.journal_commands.specs.DisksSeen.{DiskSeen}

-- That of reading files or of the disk rose at `ReadFault`; that of the sink, of `store` or of writing the disk at `WriteFault`. None of writing rose at
-- another, and none of reading but at these two and at `NoMemory`.
abbrev pub DiskCountsBy : (old new : Outside) → (disk disk' : DiskSeen) → Status → Type 0
DiskCountsBy old new disk disk' ReadFault =
    (Rose old.read_faults new.read_faults ⊎ Rose disk.read_faults disk'.read_faults) × (new.store_faults ≡ old.store_faults)
    × (new.write_faults ≡ old.write_faults) × (disk'.write_faults ≡ disk.write_faults)
DiskCountsBy old new disk disk' WriteFault =
    Rose old.write_faults new.write_faults ⊎ Rose old.store_faults new.store_faults ⊎ Rose disk.write_faults disk'.write_faults
DiskCountsBy old new disk disk' NoMemory =
    (new.store_faults ≡ old.store_faults) × (new.write_faults ≡ old.write_faults) × (disk'.write_faults ≡ disk.write_faults)
DiskCountsBy old new disk disk' status =
    (new.read_faults ≡ old.read_faults) × (disk'.read_faults ≡ disk.read_faults) × (new.store_faults ≡ old.store_faults)
    × (new.write_faults ≡ old.write_faults) × (disk'.write_faults ≡ disk.write_faults)
