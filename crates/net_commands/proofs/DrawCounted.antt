-- The counts behind a run of `draw`, and the statuses that it may answer.
use Rattle.std.proofs.Common.{◌≡◌, ◌⊎◌, inl, inr, ℕ, List, Option, refl, sym, ap, subst}
use Rattle.command_words.specs.declared.command.Command.TheVariants.{Draw}
use Rattle.ideal_meaning.specs.Checked.{Verdict, Accepted, Rejected, BadState, BadArgument}
use Rattle.ideal_meaning.specs.Ideal.{Done, Trapped, Out}
use Rattle.lam_outside.specs.Told.{Contents}
use Rattle.command_parts.specs.Answer.{Drawing}
use Rattle.command_parts.specs.AnswerForms.{Answer}
use Rattle.command_parts.specs.Ending.{EndsAs}
use Rattle.command_parts.specs.Outsides.{Outside}
use Rattle.command_parts.specs.Statuses.{MayAnswer}
use Rattle.command_parts.specs.Telling.{TellsText}
use Rattle.command_parts.specs.declared.status.Status.{Status}
use Rattle.net_commands.specs.Drawing.{BreaksOff, EndsDialled, EndsDrawing, IsJudged, LacksMemory, drawn_answer}
use Rattle.net_commands.specs.NetCounts.{DialCounts, CountsBy}
use Rattle.net_commands.specs.NetFaults.{NetFaults}
use Rattle.net_commands.specs.OnlineRuns.{NetSeen}
use Rattle.net_commands.proofs.AskCounted.{undialled_by}

module _ (old new : Outside) (net net' : NetSeen) (stores : new.store_faults ≡ old.store_faults) where
  abbrev Counted : Status → Type 0
  Counted ended = CountsBy old new net.faults net'.faults ended

  -- a line was told, or the sink failed
  by_text : (meant : Status) (text : List ℕ) (ended : Status) → TellsText meant text ended old.written new.written old.write_faults new.write_faults
      → (new.write_faults ≡ old.write_faults → Counted meant) → Counted ended
  by_text meant text ended (inl told) counted = subst Counted (sym told.0) (counted told.2)
  by_text meant text ended (inr part) counted = subst Counted (sym part.0) (inl part.2)

  -- no count rose at a verdict
  by_verdict : (d : Drawing) (verdict : Verdict) → new.read_faults ≡ old.read_faults → net'.faults ≡ net.faults → new.write_faults ≡ old.write_faults → Counted (drawn_answer d verdict).status
  by_verdict d (Accepted (Done v)) reads faults writes = (reads, faults, stores, writes)
  by_verdict d (Accepted (Trapped trap)) reads faults writes = (reads, faults, stores, writes)
  by_verdict d (Accepted Out) reads faults writes = (reads, faults, stores, writes)
  by_verdict d (Rejected cause) reads faults writes = (reads, faults, stores, writes)
  by_verdict d (BadState offset) reads faults writes = (reads, faults, stores, writes)
  by_verdict d (BadArgument offset) reads faults writes = (reads, faults, stores, writes)

  judged_by : (d : Drawing) (ended : Status) → new.read_faults ≡ old.read_faults → IsJudged d old new net net' ended → Counted ended
  judged_by d ended reads is = by_text _ _ ended is.told (by_verdict d is.verdict reads is.faults)

  broken_by : (d : Drawing) (ended : Status) → BreaksOff d old new net net' ended → Counted ended
  broken_by d ended is = by_text _ _ ended is.told (λ writes. (inr (inl is.rose), stores, writes))

  lacking_by : (d : Drawing) (ended : Status) → LacksMemory d old new net net' ended → Counted ended
  lacking_by d ended is = by_text _ _ ended is.told (λ writes. (stores, writes))

module _ (d : Drawing) (old new : Outside) (net net' : NetSeen) (ended : Status) where
  drawing_by : EndsDrawing d old new net net' ended → CountsBy old new net.faults net'.faults ended
  drawing_by ends = elim ends.went [
    | inl is ↦ judged_by old new net net' ends.store_faults d ended ends.reads is
    | inr other ↦ elim other [
      | inl is ↦ broken_by old new net net' ends.store_faults d ended is
      | inr is ↦ lacking_by old new net net' ends.store_faults d ended is
    ]
  ]

  -- nothing is listened to
  none_listens : IsJudged d old new net net' ended ⊎ (BreaksOff d old new net net' ended ⊎ LacksMemory d old new net net' ended)
      → (net'.faults.listens ≡ net.faults.listens) × (net'.faults.accepts ≡ net.faults.accepts)
  none_listens (inl is) = (ap (λ (f : NetFaults). f.listens) is.faults, ap (λ (f : NetFaults). f.accepts) is.faults)
  none_listens (inr (inl is)) = (is.listens, is.accepts)
  none_listens (inr (inr is)) = (ap (λ (f : NetFaults). f.listens) is.faults, ap (λ (f : NetFaults). f.accepts) is.faults)

  pub drawing_counted : EndsDialled d old new net net' ended → DialCounts old new net.faults net'.faults ended
  drawing_counted (inl fails) = record { by_status = undialled_by old new net net' ended fails; listens = fails.listens; accepts = fails.accepts }
  drawing_counted (inr ends) = let none = none_listens ends.went in record { by_status = drawing_by ends; listens = none.0; accepts = none.1 }

  -- ---- the statuses

  text_possible : (meant : Status) (text : List ℕ) → TellsText meant text ended old.written new.written old.write_faults new.write_faults → MayAnswer Draw meant → MayAnswer Draw ended
  text_possible meant text (inl told) may = subst (MayAnswer Draw) (sym told.0) may
  text_possible meant text (inr part) may = subst (MayAnswer Draw) (sym part.0) tt

  verdict_possible : (verdict : Verdict) → MayAnswer Draw (drawn_answer d verdict).status
  verdict_possible (Accepted (Done v)) = tt
  verdict_possible (Accepted (Trapped trap)) = tt
  verdict_possible (Accepted Out) = tt
  verdict_possible (Rejected cause) = tt
  verdict_possible (BadState offset) = tt
  verdict_possible (BadArgument offset) = tt

  pub drawing_possible : EndsDialled d old new net net' ended → MayAnswer Draw ended
  drawing_possible (inl fails) = text_possible _ _ fails.told tt
  drawing_possible (inr ends) = elim ends.went [
    | inl is ↦ text_possible _ _ is.told (verdict_possible is.verdict)
    | inr other ↦ elim other [
      | inl is ↦ text_possible _ _ is.told tt
      | inr is ↦ text_possible _ _ is.told tt
    ]
  ]
