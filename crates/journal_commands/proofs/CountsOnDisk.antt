-- The counts behind the run of a command on a disk, what it left, and the file of a read fault.
use Rattle.std.proofs.Common.{◌≡◌, ◌⊎◌, List, length, ℕ, Option, Some, None, Result, Ok, Err, inl, inr, sym, ◌∙◌, subst}
use Rattle.std.specs.Borrow.{Bor}
use Rattle.command_words.specs.Commands.{texts}
use Rattle.command_words.specs.declared.command.Command.{Command}
use Rattle.lam_outside.specs.Told.{Contents, Names, Stores}
use Rattle.printed_lines.specs.declared.refusal.Refusal.TheVariants as refusal
use Rattle.command_parts.specs.Answer.{Founding, answer_with}
use Rattle.command_parts.specs.AnswerForms.{Answer}
use Rattle.command_parts.specs.Outsides.{Outside}
use Rattle.command_parts.specs.Halting.{MayHalt, ending_status, halt_status}
use Rattle.command_parts.specs.Reaching.{IsReached, without}
use Rattle.command_parts.specs.ReachingInCode.{HaltsAt}
use Rattle.command_parts.specs.Storing.{StoresAndTells}
use Rattle.command_parts.specs.TellingInCode.{Tells}
use Rattle.command_parts.specs.declared.report.Ending.{Ending}
use Rattle.command_parts.specs.declared.report.Ending.TheVariants as ending
use Rattle.command_parts.specs.declared.report.Halt.{Halt}
use Rattle.command_parts.specs.declared.report.Halt.TheVariants.{Usage, Refused, ReadFault, NoMemory}
use Rattle.command_parts.specs.declared.report.Output.{Output}
use Rattle.command_parts.specs.declared.status.Status.{Status}
use Rattle.command_parts.specs.declared.status.Status.TheVariants as status
use Rattle.command_parts.proofs.Words.{apart, texts_from}
use Rattle.journal_commands.specs.DiskCounts.{DiskCountsBy}
use Rattle.journal_commands.specs.DisksSeen.{DiskSeen, FromChosen}
use Rattle.journal_commands.specs.Founding.{LeavesDisk, LeavesFile}
use Rattle.journal_commands.specs.FoundingInCode.{LeavesOn}
use Rattle.journal_commands.specs.Stops.{WorkCause}
use Rattle.journal_commands.specs.declared.stop.DiskStop.{DiskStop}
use Rattle.journal_commands.specs.declared.stop.DiskStop.TheVariants.{Halts, WriteFault}
use Rattle.journal_commands.proofs.ToldMoments.{weaker}

-- ---- the counts

module _ (old new : Outside) (disk disk' : DiskSeen) where
  abbrev CausedBy : {T : Type 0} → Result T DiskStop → Type 0
  CausedBy result = WorkCause old.read_faults new.read_faults disk.read_faults disk'.read_faults disk.write_faults disk'.write_faults result

  -- where all was told
  halt_counted : (T : Type 0) (halt : Halt) → CausedBy {T = T} (Err (Halts halt)) → new.store_faults ≡ old.store_faults → new.write_faults ≡ old.write_faults → DiskCountsBy old new disk disk' (halt_status halt)
  halt_counted T Usage cause stores writes = absurd cause
  halt_counted T (Refused (refusal.Program kind line column)) cause stores writes = (cause.0, cause.1, stores, writes, cause.2)
  halt_counted T (Refused (refusal.Object kind)) cause stores writes = (cause.0, cause.1, stores, writes, cause.2)
  halt_counted T (Refused (refusal.Input fault)) cause stores writes = (cause.0, cause.1, stores, writes, cause.2)
  halt_counted T (Refused (refusal.Proof why)) cause stores writes = absurd cause
  halt_counted T ReadFault (inl (rose, same), kept) stores writes = (inl rose, stores, writes, kept)
  halt_counted T ReadFault (inr (same, rose), kept) stores writes = (inr rose, stores, writes, kept)
  halt_counted T NoMemory cause stores writes = (stores, writes, cause.2)

  ending_counted : (e : Ending) → new.read_faults ≡ old.read_faults → disk'.read_faults ≡ disk.read_faults → new.store_faults ≡ old.store_faults → new.write_faults ≡ old.write_faults
      → disk'.write_faults ≡ disk.write_faults → DiskCountsBy old new disk disk' (ending_status e)
  ending_counted ending.Done reads disk_reads stores writes kept = (reads, disk_reads, stores, writes, kept)
  ending_counted ending.Trap reads disk_reads stores writes kept = (reads, disk_reads, stores, writes, kept)
  ending_counted ending.OutOfFuel reads disk_reads stores writes kept = (reads, disk_reads, stores, writes, kept)
  ending_counted ending.Collision reads disk_reads stores writes kept = (reads, disk_reads, stores, writes, kept)

  -- what halted the work was told
  pub halt_counts : (T : Type 0) (halt : Halt) (ended : Status) → CausedBy {T = T} (Err (Halts halt)) → disk'.write_faults ≡ disk.write_faults → new.store_faults ≡ old.store_faults
      → Tells (Err halt) ended old.written new.written old.write_faults new.write_faults → DiskCountsBy old new disk disk' ended
  halt_counts T halt ended cause kept stores (inl (inl told)) = subst (DiskCountsBy old new disk disk') (sym told.0) (halt_counted T halt cause stores told.2)
  halt_counts T halt ended cause kept stores (inl (inr told)) = subst (DiskCountsBy old new disk disk') (sym told.0) (inl told.2)
  halt_counts T halt ended cause kept stores (inr (inl told)) = subst (DiskCountsBy old new disk disk') (sym told.0) (stores, told.2, kept)
  halt_counts T halt ended cause kept stores (inr (inr told)) = subst (DiskCountsBy old new disk disk') (sym told.0) (inl told.2)

  -- an output was stored and told
  pub output_counts : (name : List ℕ) (output : Output) (ended : Status) (before : Option Stores) (store_faults : ℕ) → CausedBy {T = Output} (Ok output) → store_faults ≡ old.store_faults
      → StoresAndTells name (Ok output) ended before new.stores store_faults new.store_faults old.written new.written old.write_faults new.write_faults → DiskCountsBy old new disk disk' ended
  output_counts name output ended before store_faults cause same (stores, inl failed) = subst (DiskCountsBy old new disk disk') (sym failed.0) (inr (inl (rw (sym same) failed.3)))
  output_counts name output ended before store_faults cause same (stores, inr (kept, inl (inl told))) =
      subst (DiskCountsBy old new disk disk') (sym told.0) (ending_counted output.report.ending cause.0 cause.1 (kept ∙ same) told.2 cause.2)
  output_counts name output ended before store_faults cause same (stores, inr (kept, inl (inr told))) = subst (DiskCountsBy old new disk disk') (sym told.0) (inl told.2)
  output_counts name output ended before store_faults cause same (stores, inr (kept, inr (inl told))) = subst (DiskCountsBy old new disk disk') (sym told.0) (kept ∙ same, told.2, cause.2)
  output_counts name output ended before store_faults cause same (stores, inr (kept, inr (inr told))) = subst (DiskCountsBy old new disk disk') (sym told.0) (inl told.2)

-- ---- what `found` left

module _ (f : Founding) (name : List ℕ) (disk disk' : DiskSeen) where
  -- nothing was written
  abbrev Unwritten : Type 0
  Unwritten = (disk'.moments ≡ disk.moments) ⊎ FromChosen name disk disk' (λ old new. new ≡ old)

  at_halt : (halt : Halt) → Unwritten → LeavesDisk f name disk disk' (halt_status halt)
  at_halt Usage left = left
  at_halt (Refused (refusal.Program kind line column)) left = left
  at_halt (Refused (refusal.Object kind)) left = left
  at_halt (Refused (refusal.Input fault)) left = left
  at_halt (Refused (refusal.Proof why)) left = left
  at_halt ReadFault left = left
  at_halt NoMemory left = left

  at_fault : Unwritten → LeavesDisk f name disk disk' status.WriteFault
  at_fault (inl same) = inl same
  at_fault (inr (chosen, chooses, told)) =
      inr (chosen, chooses, weaker (λ old new. new ≡ old) (LeavesFile f status.WriteFault) (λ old new same some. same) chosen disk'.moments told)

  pub halt_leaves : (halt : Halt) (ended : Status) (old new : Option (List ℕ)) (before now : ℕ) → LeavesOn f name disk disk' (Err (Halts halt)) → Tells (Err halt) ended old new before now
      → LeavesDisk f name disk disk' ended
  halt_leaves halt ended old new before now left (inl (inl told)) = subst (LeavesDisk f name disk disk') (sym told.0) (at_halt halt left)
  halt_leaves halt ended old new before now left (inl (inr told)) = subst (LeavesDisk f name disk disk') (sym told.0) (at_fault left)
  halt_leaves halt ended old new before now left (inr (inl told)) = subst (LeavesDisk f name disk disk') (sym told.0) left
  halt_leaves halt ended old new before now left (inr (inr told)) = subst (LeavesDisk f name disk disk') (sym told.0) (at_fault left)

-- what halted the work is not done
no_halt : (halt : Halt) → halt_status halt ≡ status.Done → ⊥
no_halt Usage is = cc (is)
no_halt (Refused (refusal.Program kind line column)) is = cc (is)
no_halt (Refused (refusal.Object kind)) is = cc (is)
no_halt (Refused (refusal.Input fault)) is = cc (is)
no_halt (Refused (refusal.Proof why)) is = cc (is)
no_halt ReadFault is = cc (is)
no_halt NoMemory is = cc (is)

apart_of : (A : Type 0) (ended : Status) → ended ≡ status.WriteFault → ended ≡ status.Done → A
apart_of A ended writes done = absurd (cc)

memory_of : (A : Type 0) (ended : Status) → ended ≡ status.NoMemory → ended ≡ status.Done → A
memory_of A ended memory done = absurd (cc)

pub not_done : (A : Type 0) (halt : Halt) (ended : Status) (old new : Option (List ℕ)) (before now : ℕ) → Tells (Err halt) ended old new before now → ended ≡ status.Done → A
not_done A halt ended old new before now (inl (inl told)) done = absurd (no_halt halt (sym told.0 ∙ done))
not_done A halt ended old new before now (inl (inr told)) done = apart_of A ended told.0 done
not_done A halt ended old new before now (inr (inl told)) done = memory_of A ended told.0 done
not_done A halt ended old new before now (inr (inr told)) done = apart_of A ended told.0 done

-- ---- the file of a read fault

abbrev pub ReachedOr : (before now : ℕ) → (Contents → Option Answer) → Option Contents → Option Names → Type 0
ReachedOr before now answer contents asked = (now ≡ before) ⊎ IsReached answer contents asked

-- what halts a step that reads the file of this name, which the answer needs
pub halted_at : (answer : Contents → Option Answer) (name : List ℕ) (contents : Option Contents) (asked : Option Names) (before now : ℕ) (halt : Halt)
    → ((files : Contents) → contents ≡ Some files → answer (without name files) ≡ None) → MayHalt before now halt → HaltsAt name asked halt → ReachedOr before now answer contents asked
halted_at answer name contents asked before now Usage needs cause faults = absurd cause
halted_at answer name contents asked before now (Refused (refusal.Program kind line column)) needs cause faults = inl cause
halted_at answer name contents asked before now (Refused (refusal.Object kind)) needs cause faults = inl cause
halted_at answer name contents asked before now (Refused (refusal.Input fault)) needs cause faults = inl cause
halted_at answer name contents asked before now (Refused (refusal.Proof why)) needs cause faults = absurd cause
halted_at answer name contents asked before now ReadFault needs cause faults = inr (λ files known names told. (name, faults names told, needs files known))
halted_at answer name contents asked before now NoMemory needs cause faults = inl cause

-- behind a step that left the count
pub reached_from : (before mid now : ℕ) (answer : Contents → Option Answer) (contents other : Option Contents) (asked : Option Names) → mid ≡ before → other ≡ contents
    → ReachedOr mid now answer other asked → ReachedOr before now answer contents asked
reached_from before mid now answer contents other asked same held either =
    subst (λ n. ReachedOr n now answer contents asked) same (subst (λ contents. ReachedOr mid now answer contents asked) held either)

-- before a step that left the count and the names that were asked for
pub reached_later : (before mid now : ℕ) (answer : Contents → Option Answer) (contents : Option Contents) (asked later : Option Names) → now ≡ mid → later ≡ asked
    → ReachedOr before mid answer contents asked → ReachedOr before now answer contents later
reached_later before mid now answer contents asked later same names either =
    subst (λ n. ReachedOr before n answer contents later) (sym same) (subst (λ names. ReachedOr before mid answer contents names) (sym names) either)

-- on the texts of the words
pub either_apart : (command : Command) (words : List (Bor (List ℕ))) (n : ℕ) (contents : Option Contents) (asked : Option Names) (before now : ℕ) → length words ≡ n
    → ReachedOr before now (answer_with command (texts_from words n 0)) contents asked → ReachedOr before now (answer_with command (texts words)) contents asked
either_apart command words n contents asked before now is either = subst (λ ts. ReachedOr before now (answer_with command ts) contents asked) (sym (apart words n is)) either
