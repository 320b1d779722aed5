-- A file that is synced, read whole, and opened as a journal.
use Rattle.std.specs.Prelude.{IsErrAnd, IsOkAnd}
use Rattle.std.proofs.Common.{◌≡◌, ◌≤◌, ℕ, List, [], ◌∷◌, Option, Some, None, Result, Ok, Err, refl, sym, ◌∙◌, subst, arith}
use Rattle.core_terms.specs.Formats.{Hash}
use Rattle.core_terms.specs.Terms.{Program}
use Rattle.lam_outside.specs.Disks.{DiskFile, Moments, settled}
use Rattle.lam_outside.specs.DiskSteps.{ForChosen, Synced}
use Rattle.session_turns.specs.Sharing.{Shares}
use Rattle.session_turns.specs.declared.shared.Shared.{Shared}
use Rattle.version_journal.specs.Gates.{ForTold, IsClosedBehind}
use Rattle.version_journal.specs.Journals.{Holds, Journal, journal_front, journal_of}
use Rattle.version_journal.specs.Openings.{OnlySynced, Opens, OpensTo, Stands, TellsJournal}
use Rattle.version_journal.specs.declared.fault.DiskCount.TheVariants.{Reads, Writes}
use Rattle.version_journal.specs.declared.fault.JournalFault.{JournalFault}
use Rattle.version_journal.specs.declared.fault.JournalFault.TheVariants as told
use Rattle.version_journal.specs.declared.opening.Opened.{Opened}
use Rattle.version_journal.specs.declared.opening.Opening.{Opening}
use Rattle.version_journal.proofs.BegunVersions.{begun_so}
use Rattle.version_journal.proofs.ClosedGates.{kept_settled}

module _ (hash : Hash) (P : Program) (own : List ℕ) where
  pub stands_so : (read : List ℕ) (opening : Opening) → Opens hash P own read opening → (o : Opened) → o.shared ≡ opening.shared → o.journal.gate ≡ opening.gate
      → o.journal.records ≡ opening.records → opening.records ≤ 4095 → Stands hash P own o
  stands_so read opening h o shared gate records few = record {
    image = h.image;
    first = h.first;
    same = h.same;
    made = h.made;
    is_image = h.is_image;
    image_fits = h.image_fits;
    versions = h.versions;
    written = h.written;
    begun = begun_so hash P h.first h.same h.made h.versions h.written h.asked (omega (arith, few, h.records)) opening.shared h.shares;
    shares = subst (λ (s : Shared). Shares hash P s h.same) (sym shared) h.shares;
    at = record { gate = gate ∙ h.gate; records = records ∙ h.records };
  }

  opened_at : (file : DiskFile) (past : Moments) (read : List ℕ) → read ≡ file.reads → (opening : Opening) → Opens hash P own read opening → opening.records ≤ 4095
      → (result : Result Opened JournalFault) → IsOkAnd result (λ o. o.shared ≡ opening.shared) → IsOkAnd result (λ o. o.journal.gate ≡ opening.gate)
      → IsOkAnd result (λ o. o.journal.records ≡ opening.records)
      → OpensTo hash P own (settled file.reads ∷ past) result
  unfolding stands_so
  opened_at file past read is opening h few (Err fault) shared gate records = elim shared [ ]
  opened_at file past read is opening h few (Ok o) shared gate records = record {
    stands = stands_so read opening h o shared gate records few;
    holds = subst (λ bytes. journal_of P own bytes ≡ Holds h.same.versions h.same.commits) is h.holds;
    kept = kept_settled (IsClosedBehind (journal_front own h.image h.same.commits)) file.reads (subst (IsClosedBehind (journal_front own h.image h.same.commits)) is h.spells);
  }

  refused_at : (file : DiskFile) (past : Moments) (read : List ℕ) → read ≡ file.reads → (fault : JournalFault) → TellsJournal (journal_of P own read) fault
      → OpensTo hash P own (settled file.reads ∷ past) (Err fault)
  refused_at file past read is told.NotEmpty h = elim h [ ]
  refused_at file past read is told.Magic h = subst (λ bytes. TellsJournal (journal_of P own bytes) told.Magic) is h
  refused_at file past read is (told.Cut n) h = subst (λ bytes. TellsJournal (journal_of P own bytes) (told.Cut n)) is h
  refused_at file past read is told.OtherProgram h = subst (λ bytes. TellsJournal (journal_of P own bytes) told.OtherProgram) is h
  refused_at file past read is (told.Image f) h = subst (λ bytes. TellsJournal (journal_of P own bytes) (told.Image f)) is h
  refused_at file past read is (told.BadRecord n) h = subst (λ bytes. TellsJournal (journal_of P own bytes) (told.BadRecord n)) is h
  refused_at file past read is (told.DiskFault count) h = tt
  refused_at file past read is told.Failed h = elim h [ ]
  refused_at file past read is told.NoMemory h = tt

  refused_as : (file : DiskFile) (past : Moments) (read : List ℕ) → read ≡ file.reads → (fault : JournalFault) → TellsJournal (journal_of P own read) fault
      → (result : Result Opened JournalFault) → IsErrAnd result (λ e. e ≡ fault) → OpensTo hash P own (settled file.reads ∷ past) result
  refused_as file past read is fault h (Ok o) err = elim err [ ]
  refused_as file past read is fault h (Err e) err = subst (λ f. OpensTo hash P own (settled file.reads ∷ past) (Err f)) (sym err) (refused_at file past read is fault h)

  module _ {T : Type 0} (E : Type 0) (old synced new : Option Moments) (done : T) (sync : Synced {T = T} {E = E} old synced (Ok done)) (same : new ≡ synced) (read : List ℕ)
      (whole : ForChosen synced (λ bytes. read ≡ bytes)) (result : Result Opened JournalFault) where
    -- what holds of the file that is settled holds at the last moment
    at_last : ((file : DiskFile) (past : Moments) → read ≡ file.reads → OpensTo hash P own (settled file.reads ∷ past) result)
        → ForTold old new (λ old new. OpensTo hash P own new result)
    at_last h = by old synced sync same whole
      where
        by : (old synced : Option Moments) → Synced {T = T} {E = E} old synced (Ok done) → new ≡ synced → ForChosen synced (λ bytes. read ≡ bytes)
            → ForTold old new (λ old new. OpensTo hash P own new result)
        by None synced sync same whole = tt
        by (Some []) synced sync same whole = tt
        by (Some (file ∷ past)) synced sync same whole = (
          settled file.reads ∷ file ∷ past,
          same ∙ sync,
          h file (file ∷ past) (subst (λ (m : Option Moments). ForChosen m (λ bytes. read ≡ bytes)) sync whole),
        )

    pub opened_so : (opening : Opening) → Opens hash P own read opening → opening.records ≤ 4095
        → IsOkAnd result (λ o. o.shared ≡ opening.shared) → IsOkAnd result (λ o. o.journal.gate ≡ opening.gate) → IsOkAnd result (λ o. o.journal.records ≡ opening.records)
        → ForTold old new (λ old new. OpensTo hash P own new result)
    opened_so opening h few shared gate records = at_last (λ file past is. opened_at file past read is opening h few result shared gate records)

    pub refused_so : (fault : JournalFault) → TellsJournal (journal_of P own read) fault → IsErrAnd result (λ e. e ≡ fault)
        → ForTold old new (λ old new. OpensTo hash P own new result)
    refused_so fault h err = at_last (λ file past is. refused_as file past read is fault h result err)

-- whatever is answered behind the sync, nothing was done but that, and it is no fault of a write
only_synced : (file : DiskFile) (past : Moments) (result : Result Opened JournalFault) → (result ≡ Err (told.DiskFault Writes) → ⊥)
    → OnlySynced (file ∷ past) (settled file.reads ∷ file ∷ past) result
only_synced file past (Ok o) other = refl
only_synced file past (Err told.NotEmpty) other = refl
only_synced file past (Err told.Magic) other = refl
only_synced file past (Err (told.Cut n)) other = refl
only_synced file past (Err told.OtherProgram) other = refl
only_synced file past (Err (told.Image f)) other = refl
only_synced file past (Err (told.BadRecord n)) other = refl
only_synced file past (Err (told.DiskFault Reads)) other = refl
only_synced file past (Err (told.DiskFault Writes)) other = absurd (other refl)
only_synced file past (Err told.Failed) other = refl
only_synced file past (Err told.NoMemory) other = refl

pub synced_so : {T : Type 0} (E : Type 0) (old synced new : Option Moments) (done : T) → Synced {T = T} {E = E} old synced (Ok done) → new ≡ synced
    → (result : Result Opened JournalFault) → (result ≡ Err (told.DiskFault Writes) → ⊥) → ForTold old new (λ o n. OnlySynced o n result)
synced_so E None synced new done sync same result other = tt
synced_so E (Some []) synced new done sync same result other = tt
synced_so E (Some (file ∷ past)) synced new done sync same result other = (settled file.reads ∷ file ∷ past, same ∙ sync, only_synced file past result other)

-- what the bytes are refused for is no fault of the disk
pub no_fault_of_bytes : (journal : Journal) (fault : JournalFault) → TellsJournal journal fault → (result : Result Opened JournalFault) → IsErrAnd result (λ e. e ≡ fault)
    → result ≡ Err (told.DiskFault Writes) → ⊥
no_fault_of_bytes journal fault tells (Ok o) err is = elim err [ ]
no_fault_of_bytes journal fault tells (Err e) err is =
    let same : e ≡ told.DiskFault Writes = cc in
    elim (subst (TellsJournal journal) (sym err ∙ same) tells) [ ]

not_synced : (file : DiskFile) (past : Moments) (result : Result Opened JournalFault) → IsErrAnd result (λ e. e ≡ told.DiskFault Writes) → OnlySynced (file ∷ past) (file ∷ past) result
not_synced file past (Ok o) err = elim err [ ]
not_synced file past (Err e) err = subst (λ f. OnlySynced (file ∷ past) (file ∷ past) (Err f)) (sym err) refl

pub unsynced_so : (T : Type 0) {E : Type 0} (old new : Option Moments) (failed : E) → Synced {T = T} {E = E} old new (Err failed)
    → (result : Result Opened JournalFault) → IsErrAnd result (λ e. e ≡ told.DiskFault Writes) → ForTold old new (λ o n. OnlySynced o n result)
unsynced_so T None new failed sync result err = tt
unsynced_so T (Some []) new failed sync result err = tt
unsynced_so T (Some (file ∷ past)) new failed sync result err = (file ∷ past, sync, not_synced file past result err)
