-- The counts behind a run of `host`, and the statuses that it may answer.
use Rattle.std.proofs.Common.{◌≡◌, inl, inr, ℕ, List, true, false, Option, Result, Err, refl, sym, subst}
use Rattle.command_words.specs.declared.command.Command.TheVariants.{Host}
use Rattle.printed_lines.specs.declared.refusal.Refusal.TheVariants as refusal
use Rattle.session_meaning.specs.Server.{Server}
use Rattle.command_parts.specs.Answer.{Serving}
use Rattle.command_parts.specs.Outsides.{Outside}
use Rattle.command_parts.specs.Halting.{halt_status}
use Rattle.command_parts.specs.Statuses.{MayAnswer}
use Rattle.command_parts.specs.TellingInCode.{Tells}
use Rattle.command_parts.specs.declared.report.Halt.{Halt}
use Rattle.command_parts.specs.declared.report.Halt.TheVariants.{Usage, Refused, ReadFault, NoMemory}
use Rattle.command_parts.specs.declared.status.Status.{Status}
use Rattle.command_parts.specs.declared.status.Status.TheVariants as status
use Rattle.command_parts.proofs.Possible.{found_possible, told_possible}
use Rattle.journal_commands.specs.DisksSeen.{DiskSeen}
use Rattle.journal_commands.specs.Stops.{WorkCause}
use Rattle.journal_commands.specs.declared.stop.DiskStop.{DiskStop}
use Rattle.journal_commands.specs.declared.stop.DiskStop.TheVariants.{Halts, WriteFault}
use Rattle.journal_commands.proofs.StopCauses.{may_halt, writes_kept}
use Rattle.net_commands.specs.Courses.{Course, HasFaults, IsListening, NotListening, NotWritten, Served, WithoutMemory, course_status}
use Rattle.net_commands.specs.HostCounts.{HostCounts, HostCountsBy}
use Rattle.net_commands.specs.HostSteps.{Hosts}
use Rattle.net_commands.specs.Hosting.{DiskFails, EndsHosting, Goes, HostCourse, IsHostTold, NotKept, links_course}
use Rattle.net_commands.specs.NetFaults.{NetFaults}
use Rattle.net_commands.specs.OnlineRuns.{NetSeen}
use Rattle.net_commands.proofs.Courses.{net_rises, no_dials}

-- ---- a run that doesn't come to listen

module _ (T : Type 0) (old new : Outside) (net : NetFaults) (disk disk' : DiskSeen) where
  abbrev CausedBy : Result T DiskStop → Type 0
  CausedBy result = WorkCause old.read_faults new.read_faults disk.read_faults disk'.read_faults disk.write_faults disk'.write_faults result

  halt_counted : (halt : Halt) → CausedBy (Err (Halts halt)) → new.write_faults ≡ old.write_faults → HostCountsBy old new net net disk disk' (halt_status halt)
  halt_counted Usage cause writes = absurd cause
  halt_counted (Refused (refusal.Program kind line column)) cause writes = (cause.0, refl, cause.1, writes, cause.2)
  halt_counted (Refused (refusal.Object kind)) cause writes = (cause.0, refl, cause.1, writes, cause.2)
  halt_counted (Refused (refusal.Input fault)) cause writes = (cause.0, refl, cause.1, writes, cause.2)
  halt_counted (Refused (refusal.Proof why)) cause writes = absurd cause
  halt_counted ReadFault (inl (rose, same), kept) writes = (inl rose, writes, kept)
  halt_counted ReadFault (inr (same, rose), kept) writes = (inr (inr rose), writes, kept)
  halt_counted NoMemory cause writes = (writes, cause.2)

  halt_by : (halt : Halt) (ended : Status) → CausedBy (Err (Halts halt)) → Tells (Err halt) ended old.written new.written old.write_faults new.write_faults
      → HostCountsBy old new net net disk disk' ended
  halt_by halt ended cause (inl (inl told)) = subst (HostCountsBy old new net net disk disk') (sym told.0) (halt_counted halt cause told.2)
  halt_by halt ended cause (inl (inr told)) = subst (HostCountsBy old new net net disk disk') (sym told.0) (inl told.2)
  halt_by halt ended cause (inr (inl told)) =
      subst (HostCountsBy old new net net disk disk') (sym told.0)
      (told.2, writes_kept T old.read_faults new.read_faults disk.read_faults disk'.read_faults disk.write_faults disk'.write_faults halt cause)
  halt_by halt ended cause (inr (inr told)) = subst (HostCountsBy old new net net disk disk') (sym told.0) (inl told.2)

  -- what halted the work was told
  pub halt_counts : (halt : Halt) (ended : Status) → CausedBy (Err (Halts halt)) → new.store_faults ≡ old.store_faults
      → Tells (Err halt) ended old.written new.written old.write_faults new.write_faults → HostCounts old new net net disk disk' ended
  halt_counts halt ended cause stores told = record { by_status = halt_by halt ended cause told; stores = stores; dials = refl }

  pub halt_possible : (halt : Halt) (ended : Status) → CausedBy (Err (Halts halt)) → Tells (Err halt) ended old.written new.written old.write_faults new.write_faults → MayAnswer Host ended
  halt_possible halt ended cause told =
      told_possible Host (Err halt) ended old.written new.written old.write_faults new.write_faults told
      (found_possible Host tt tt _ _ (Err halt)
      (may_halt T old.read_faults new.read_faults disk.read_faults disk'.read_faults disk.write_faults disk'.write_faults halt cause) tt)

  -- the disk could not be written
  pub fault_counts : CausedBy (Err WriteFault) → new.store_faults ≡ old.store_faults → HostCounts old new net net disk disk' status.WriteFault
  fault_counts cause stores = record { by_status = inr cause.2; stores = stores; dials = refl }

-- ---- a hosting

module _ (s : Serving) (server : Server) (old new : Outside) (faults faults' : NetFaults) (disk disk' : DiskSeen) where
  abbrev Counts : Status → Type 0
  Counts ended = HostCountsBy old new faults faults' disk disk' ended

  -- all lines were written
  whole_by : (course : Course) → HasFaults course faults faults' → DiskFails (Goes course) disk disk' → new.read_faults ≡ old.read_faults → new.write_faults ≡ old.write_faults
      → IsListening course → Counts (course_status course)
  whole_by NotListening has disks reads writes listening = (inr (inl (inr (inl has.0))), writes, disks.1)
  whole_by NotWritten has disks reads writes listening = absurd listening
  whole_by (Served true) has disks reads writes listening = (inr (inl (net_rises faults faults' has.0)), writes, disks.1)
  whole_by (Served false) has disks reads writes listening = (reads, has, disks.0, writes, disks.1)
  whole_by WithoutMemory has disks reads writes listening = (writes, disks.1)

  told_by : (course : HostCourse) (ended : Status) → HasFaults (links_course course) faults faults' → DiskFails course disk disk' → new.read_faults ≡ old.read_faults
      → IsHostTold s course server ended old.written new.written old.write_faults new.write_faults → Counts ended
  told_by (Goes course) ended has disks reads (inl (listening, is, written, writes)) = subst Counts (sym is) (whole_by course has disks reads writes listening)
  told_by (Goes course) ended has disks reads (inr (is, part, rose)) = subst Counts (sym is) (inl rose)
  told_by NotKept ended has disks reads told = subst Counts (sym told.0) (inr disks.1)

pub hosting_counted : (s : Serving) (name : List ℕ) (old new : Outside) (net net' : NetSeen) (disk disk' : DiskSeen) (ended : Status) → EndsHosting s name old new net net' disk disk' ended
    → HostCounts old new net.faults net'.faults disk disk' ended
hosting_counted s name old new net net' disk disk' ended ends = record {
  by_status = told_by s ends.server old new net.faults net'.faults disk disk' ends.course ended ends.gone.faults ends.fails ends.reads ends.told;
  stores = ends.store_faults;
  dials = no_dials (links_course ends.course) net.faults net'.faults ends.gone.faults;
}

-- ---- the statuses

course_possible : (course : Course) → MayAnswer Host (course_status course)
course_possible NotListening = tt
course_possible NotWritten = tt
course_possible (Served true) = tt
course_possible (Served false) = tt
course_possible WithoutMemory = tt

told_so : (s : Serving) (server : Server) (course : HostCourse) (ended : Status) (old new : Option (List ℕ)) (before now : ℕ) → IsHostTold s course server ended old new before now → MayAnswer Host ended
told_so s server (Goes course) ended old new before now (inl told) = subst (MayAnswer Host) (sym told.1) (course_possible course)
told_so s server (Goes course) ended old new before now (inr told) = subst (MayAnswer Host) (sym told.0) tt
told_so s server NotKept ended old new before now told = subst (MayAnswer Host) (sym told.0) tt

pub hosts_possible : (s : Serving) (name : List ℕ) (net net' : NetSeen) (first middle behind : DiskSeen) (ended : Status) (old new : Option (List ℕ)) (before now : ℕ)
    → Hosts s name net net' first middle behind ended old new before now → MayAnswer Host ended
hosts_possible s name net net' first middle behind ended old new before now hosts = told_so s hosts.server hosts.course ended old new before now hosts.is_told
