-- The counts behind a run of `serve`, and the statuses that it may answer.
use Rattle.std.proofs.Common.{◌≡◌, ◌⊎◌, inl, inr, ℕ, List, true, false, Option, refl, sym, subst}
use Rattle.command_words.specs.declared.command.Command.TheVariants.{Serve}
use Rattle.lam_outside.specs.Told.{Contents}
use Rattle.command_parts.specs.Answer.{Serving}
use Rattle.command_parts.specs.AnswerForms.{Answer}
use Rattle.command_parts.specs.Ending.{EndsAs}
use Rattle.command_parts.specs.Outsides.{Outside}
use Rattle.net_commands.specs.NetFaults.{NetFaults}
use Rattle.net_commands.specs.OnlineRuns.{NetSeen}
use Rattle.net_commands.specs.NetCounts.{CountsBy, ListenCounts}
use Rattle.net_commands.specs.Courses.{Course, HasFaults, IsListening, NotListening, NotWritten, Served, WithoutMemory, course_status}
use Rattle.net_commands.specs.Serving.{EndsServing, IsStored, IsStoredBy, IsTooLong, LacksMemory, Storage, StoreFails, TellsPart, TellsWhole, storage_status}
use Rattle.command_parts.specs.Statuses.{MayAnswer}
use Rattle.command_parts.specs.declared.status.Status.{Status}
use Rattle.net_commands.proofs.Courses.{course_by, net_rises, no_dials}

-- ---- a serving

-- all lines were written
whole_by : (course : Course) (storage : Storage) (image name : List ℕ) (old new : Outside) (faults faults' : NetFaults) → HasFaults course faults faults'
    → IsStoredBy storage image name old.stores new.stores old.store_faults new.store_faults → new.read_faults ≡ old.read_faults → new.write_faults ≡ old.write_faults
    → (course ≡ NotWritten → ⊥) → CountsBy old new faults faults' (storage_status storage (course_status course))
whole_by course StoreFails image name old new faults faults' has stored reads writes listening = inr stored.2
whole_by course IsStored image name old new faults faults' has stored reads writes listening = course_by course old new faults faults' has reads stored.2 writes listening
whole_by NotWritten IsTooLong image name old new faults faults' has stored reads writes listening = absurd (listening refl)
whole_by NotWritten LacksMemory image name old new faults faults' has stored reads writes listening = absurd (listening refl)
whole_by NotListening IsTooLong image name old new faults faults' has stored reads writes listening = (inr (inr (inl has.0)), stored.2, writes)
whole_by NotListening LacksMemory image name old new faults faults' has stored reads writes listening = (stored.1, writes)
whole_by (Served true) IsTooLong image name old new faults faults' has stored reads writes listening = (inr (net_rises faults faults' has.0), stored.2, writes)
whole_by (Served true) LacksMemory image name old new faults faults' has stored reads writes listening = (stored.1, writes)
whole_by (Served false) IsTooLong image name old new faults faults' has stored reads writes listening = (reads, has, stored.2, writes)
whole_by (Served false) LacksMemory image name old new faults faults' has stored reads writes listening = (stored.1, writes)
whole_by WithoutMemory IsTooLong image name old new faults faults' has stored reads writes listening = (stored.2, writes)
whole_by WithoutMemory LacksMemory image name old new faults faults' has stored reads writes listening = (stored.1, writes)

pub serving_counted : (s : Serving) (name : List ℕ) (old new : Outside) (net net' : NetSeen) (ended : Status) → EndsServing s name old new net net' ended
    → ListenCounts old new net.faults net'.faults ended
serving_counted s name old new net net' ended ends = record { by_status = by ends.told; dials = no_dials ends.course net.faults net'.faults ends.gone.faults }
  where
    by : TellsWhole s ends.course ends.server ends.storage old new ended ⊎ TellsPart s ends.course ends.server ends.storage old new ended → CountsBy old new net.faults net'.faults ended
    by (inl whole) = subst (CountsBy old new net.faults net'.faults) (sym whole.status)
        (whole_by ends.course ends.storage _ name old new net.faults net'.faults ends.gone.faults ends.stored ends.reads whole.writes
        (λ is. subst IsListening is whole.listening))
    by (inr part) = subst (CountsBy old new net.faults net'.faults) (sym part.status) (inl part.rose)

-- ---- the statuses

pub storage_possible : (storage : Storage) (course : Course) → MayAnswer Serve (storage_status storage (course_status course))
storage_possible StoreFails course = tt
storage_possible IsStored NotListening = tt
storage_possible IsStored NotWritten = tt
storage_possible IsStored (Served true) = tt
storage_possible IsStored (Served false) = tt
storage_possible IsStored WithoutMemory = tt
storage_possible IsTooLong NotListening = tt
storage_possible IsTooLong NotWritten = tt
storage_possible IsTooLong (Served true) = tt
storage_possible IsTooLong (Served false) = tt
storage_possible IsTooLong WithoutMemory = tt
storage_possible LacksMemory NotListening = tt
storage_possible LacksMemory NotWritten = tt
storage_possible LacksMemory (Served true) = tt
storage_possible LacksMemory (Served false) = tt
storage_possible LacksMemory WithoutMemory = tt

pub serving_possible : (s : Serving) (name : List ℕ) (old new : Outside) (net net' : NetSeen) (ended : Status) → EndsServing s name old new net net' ended → MayAnswer Serve ended
serving_possible s name old new net net' ended ends = by ends.told
  where
    by : TellsWhole s ends.course ends.server ends.storage old new ended ⊎ TellsPart s ends.course ends.server ends.storage old new ended → MayAnswer Serve ended
    by (inl whole) = subst (MayAnswer Serve) (sym whole.status) (storage_possible ends.storage ends.course)
    by (inr part) = subst (MayAnswer Serve) (sym part.status) tt
