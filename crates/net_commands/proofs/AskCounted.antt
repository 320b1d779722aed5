-- The counts behind a run of `ask`, and the statuses that it may answer.
use Rattle.std.proofs.Common.{◌≡◌, ◌⊎◌, inl, inr, ℕ, List, Option, Ok, Err, refl, sym, ap, subst, ◌∙◌}
use Rattle.command_words.specs.declared.command.Command.TheVariants.{Ask}
use Rattle.lam_outside.specs.Causes.{Rose}
use Rattle.lam_outside.specs.Told.{Contents}
use Rattle.script_play.specs.declared.play_stop.PlayStop.TheVariants as play_stop
use Rattle.command_parts.specs.Answer.{Asking}
use Rattle.command_parts.specs.AnswerForms.{Answer}
use Rattle.net_commands.specs.Asking.{EndsAsking, EndsPlay, FailsToDial, IsEndTold, PlayEnd, PlayFaults, PlayWrites}
use Rattle.net_commands.specs.NetCounts.{DialCounts, CountsBy}
use Rattle.command_parts.specs.Ending.{EndsAs}
use Rattle.command_parts.specs.Outsides.{Outside}
use Rattle.net_commands.specs.NetFaults.{NetFaults, NetRose}
use Rattle.net_commands.specs.OnlineRuns.{NetSeen}
use Rattle.command_parts.specs.Statuses.{MayAnswer}
use Rattle.command_parts.specs.declared.status.Status.{Status}
use Rattle.command_parts.specs.declared.status.Status.TheVariants as status

module _ (old new : Outside) (net net' : NetSeen) where
  pub undialled_by : (ended : Status) → FailsToDial old new net net' ended → CountsBy old new net.faults net'.faults ended
  undialled_by ended fails = elim fails.told [
    | inl told ↦ subst (λ s. CountsBy old new net.faults net'.faults s) (sym told.0) (inr (inr (inr (inr fails.rose))), fails.store_faults, told.2)
    | inr told ↦ subst (λ s. CountsBy old new net.faults net'.faults s) (sym told.0) (inl told.2)
  ]

  -- the counts where the state was stored
  play_by : (end : PlayEnd) (told : Status) (between : ℕ) (written : Option (List ℕ)) → PlayFaults end net.faults net'.faults → PlayWrites end old.write_faults between
      → IsEndTold end told written new.written between new.write_faults → new.read_faults ≡ old.read_faults → new.store_faults ≡ old.store_faults
      → CountsBy old new net.faults net'.faults told
  play_by (Ok played) told between written faults writes is_told reads stores =
      subst (λ s. CountsBy old new net.faults net'.faults s) (sym is_told.0) (reads, faults, stores, is_told.2 ∙ writes)
  play_by (Err play_stop.Ended) told between written faults writes is_told reads stores =
      subst (λ s. CountsBy old new net.faults net'.faults s) (sym is_told.0) (reads, faults, stores, is_told.2 ∙ writes)
  play_by (Err play_stop.WriteFault) told between written faults writes is_told reads stores =
      subst (λ s. CountsBy old new net.faults net'.faults s) (sym is_told.0) (inl (subst (λ n. Rose old.write_faults n) (sym is_told.2) writes))
  play_by (Err play_stop.LinkFault) told between written faults writes (inl whole) reads stores =
      subst (λ s. CountsBy old new net.faults net'.faults s) (sym whole.0) (inr (inl faults.0), stores, whole.2 ∙ writes)
  play_by (Err play_stop.LinkFault) told between written faults writes (inr part) reads stores =
      subst (λ s. CountsBy old new net.faults net'.faults s) (sym part.0) (inl (subst (λ n. Rose n new.write_faults) writes part.2))
  play_by (Err play_stop.NoMemory) told between written faults writes (inl whole) reads stores =
      subst (λ s. CountsBy old new net.faults net'.faults s) (sym whole.0) (stores, whole.2 ∙ writes)
  play_by (Err play_stop.NoMemory) told between written faults writes (inr part) reads stores =
      subst (λ s. CountsBy old new net.faults net'.faults s) (sym part.0) (inl (subst (λ n. Rose n new.write_faults) writes part.2))

  played_by : (a : Asking) (name : List ℕ) (ended : Status) → EndsPlay a name old new net net' ended → CountsBy old new net.faults net'.faults ended
  played_by a name ended ends = elim ends.stored.ended_so [
    | inl same ↦ subst (λ s. CountsBy old new net.faults net'.faults s) (sym same.0)
        (play_by ends.end ends.told ends.write_faults ends.written ends.faults ends.writes ends.is_told ends.reads same.1)
    | inr fails ↦ subst (λ s. CountsBy old new net.faults net'.faults s) (sym fails.0) (inr fails.1)
  ]

-- nothing is listened to
no_listens : (end : PlayEnd) (faults faults' : NetFaults) → PlayFaults end faults faults' → (faults'.listens ≡ faults.listens) × (faults'.accepts ≡ faults.accepts)
no_listens (Err play_stop.LinkFault) faults faults' has = (has.1, has.2)
no_listens (Err play_stop.Ended) faults faults' has = (ap (λ (f : NetFaults). f.listens) has, ap (λ (f : NetFaults). f.accepts) has)
no_listens (Err play_stop.NoMemory) faults faults' has = (ap (λ (f : NetFaults). f.listens) has, ap (λ (f : NetFaults). f.accepts) has)
no_listens (Err play_stop.WriteFault) faults faults' has = (ap (λ (f : NetFaults). f.listens) has, ap (λ (f : NetFaults). f.accepts) has)
no_listens (Ok played) faults faults' has = (ap (λ (f : NetFaults). f.listens) has, ap (λ (f : NetFaults). f.accepts) has)

pub asking_counted : (a : Asking) (name : List ℕ) (old new : Outside) (net net' : NetSeen) (ended : Status) → EndsAsking a name old new net net' ended
    → DialCounts old new net.faults net'.faults ended
asking_counted a name old new net net' ended (inl fails) =
    record { by_status = undialled_by old new net net' ended fails; listens = fails.listens; accepts = fails.accepts }
asking_counted a name old new net net' ended (inr ends) =
    let none = no_listens ends.end net.faults net'.faults ends.faults in
    record { by_status = played_by old new net net' a name ended ends; listens = none.0; accepts = none.1 }

-- ---- the statuses

end_possible : (end : PlayEnd) (told : Status) (old new : Option (List ℕ)) (before now : ℕ) → IsEndTold end told old new before now → MayAnswer Ask told
end_possible (Ok played) told old new before now is = subst (MayAnswer Ask) (sym is.0) tt
end_possible (Err play_stop.Ended) told old new before now is = subst (MayAnswer Ask) (sym is.0) tt
end_possible (Err play_stop.WriteFault) told old new before now is = subst (MayAnswer Ask) (sym is.0) tt
end_possible (Err play_stop.LinkFault) told old new before now (inl is) = subst (MayAnswer Ask) (sym is.0) tt
end_possible (Err play_stop.LinkFault) told old new before now (inr is) = subst (MayAnswer Ask) (sym is.0) tt
end_possible (Err play_stop.NoMemory) told old new before now (inl is) = subst (MayAnswer Ask) (sym is.0) tt
end_possible (Err play_stop.NoMemory) told old new before now (inr is) = subst (MayAnswer Ask) (sym is.0) tt

pub asking_possible : (a : Asking) (name : List ℕ) (old new : Outside) (net net' : NetSeen) (ended : Status) → EndsAsking a name old new net net' ended → MayAnswer Ask ended
asking_possible a name old new net net' ended (inl fails) = elim fails.told [
  | inl told ↦ subst (MayAnswer Ask) (sym told.0) tt
  | inr told ↦ subst (MayAnswer Ask) (sym told.0) tt
]
asking_possible a name old new net net' ended (inr ends) = elim ends.stored.ended_so [
  | inl same ↦ subst (MayAnswer Ask) (sym same.0) (end_possible ends.end ends.told ends.written new.written ends.write_faults new.write_faults ends.is_told)
  | inr fails ↦ subst (MayAnswer Ask) (sym fails.0) tt
]

-- no file is read from then on
pub asking_reads : (a : Asking) (name : List ℕ) (old new : Outside) (net net' : NetSeen) (ended : Status) → EndsAsking a name old new net net' ended → new.read_faults ≡ old.read_faults
asking_reads a name old new net net' ended (inl fails) = fails.reads
asking_reads a name old new net net' ended (inr ends) = ends.reads
