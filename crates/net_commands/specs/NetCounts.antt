-- Which counts may have risen in a run of a command on the net, by the status.
use Rattle.std.specs.Prelude.{◌≡◌, ◌⊎◌}
use Rattle.lam_outside.specs.Causes.{Rose}
use Rattle.command_parts.specs.Outsides.{Outside}
use Rattle.net_commands.specs.NetFaults.{NetFaults, NetRose}
use Rattle.command_parts.specs.declared.status.Status.{Status}
use Rattle.command_parts.specs.declared.status.Status.TheVariants.{ReadFault, WriteFault, NoMemory}

-- Whatever is told, by the status: that of reading files or one of the net rose at `ReadFault`, that of the sink or of `store` at `WriteFault`;
-- those of the sink and of `store` rose at no other, and those of reading and of the net at `ReadFault`, `WriteFault` and `NoMemory` alone.
abbrev pub CountsBy : (old new : Outside) → (net net' : NetFaults) → Status → Type 0
CountsBy old new net net' ReadFault =
    (Rose old.read_faults new.read_faults ⊎ NetRose net net') × (new.store_faults ≡ old.store_faults) × (new.write_faults ≡ old.write_faults)
CountsBy old new net net' WriteFault = Rose old.write_faults new.write_faults ⊎ Rose old.store_faults new.store_faults
CountsBy old new net net' NoMemory = (new.store_faults ≡ old.store_faults) × (new.write_faults ≡ old.write_faults)
CountsBy old new net net' status =
    (new.read_faults ≡ old.read_faults) × (net' ≡ net) × (new.store_faults ≡ old.store_faults) × (new.write_faults ≡ old.write_faults)

-- of a command that listens: by the status, and no link is dialled, ever
pub record ListenCounts (old new : Outside) (net net' : NetFaults) (status : Status) : Type 0 where
  pub by_status : CountsBy old new net net' status
  pub dials : net'.dials ≡ net.dials

-- of one that dials: by the status, and nothing is listened to, ever
pub record DialCounts (old new : Outside) (net net' : NetFaults) (status : Status) : Type 0 where
  pub by_status : CountsBy old new net net' status
  pub listens : net'.listens ≡ net.listens
  pub accepts : net'.accepts ≡ net.accepts
