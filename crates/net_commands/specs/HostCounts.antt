-- Which counts may have risen in a run of `host`, by the status.
use Rattle.std.specs.Prelude.{◌≡◌, ◌⊎◌}
use Rattle.lam_outside.specs.Causes.{Rose}
use Rattle.command_parts.specs.Outsides.{Outside}
use Rattle.command_parts.specs.declared.status.Status.{Status}
use Rattle.command_parts.specs.declared.status.Status.TheVariants.{ReadFault, WriteFault, NoMemory}
use Rattle.journal_commands.specs.DisksSeen.{DiskSeen}
use Rattle.net_commands.specs.NetFaults.{NetFaults, NetRose}

-- That of reading files, one of the net or that of reading the disk rose at `ReadFault`; that of the sink or of writing the disk at `WriteFault`. Neither
-- of these two rose at another status, and none of the others but at these two and at `NoMemory`.
abbrev pub HostCountsBy : (old new : Outside) → (net net' : NetFaults) → (disk disk' : DiskSeen) → Status → Type 0
HostCountsBy old new net net' disk disk' ReadFault =
    (Rose old.read_faults new.read_faults ⊎ NetRose net net' ⊎ Rose disk.read_faults disk'.read_faults)
    × (new.write_faults ≡ old.write_faults) × (disk'.write_faults ≡ disk.write_faults)
HostCountsBy old new net net' disk disk' WriteFault = Rose old.write_faults new.write_faults ⊎ Rose disk.write_faults disk'.write_faults
HostCountsBy old new net net' disk disk' NoMemory = (new.write_faults ≡ old.write_faults) × (disk'.write_faults ≡ disk.write_faults)
HostCountsBy old new net net' disk disk' status =
    (new.read_faults ≡ old.read_faults) × (net' ≡ net) × (disk'.read_faults ≡ disk.read_faults) × (new.write_faults ≡ old.write_faults)
    × (disk'.write_faults ≡ disk.write_faults)

-- by the status; nothing is stored in files, and no link is dialled, ever
pub record HostCounts (old new : Outside) (net net' : NetFaults) (disk disk' : DiskSeen) (status : Status) : Type 0 where
  pub by_status : HostCountsBy old new net net' disk disk' status
  pub stores : new.store_faults ≡ old.store_faults
  pub dials : net'.dials ≡ net.dials
