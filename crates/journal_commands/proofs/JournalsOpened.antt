-- What opening the journal of a name finds.
use Rattle.std.proofs.Common.{◌≡◌, List, [], ◌∷◌, ℕ, Option, Some, None, Result, Ok, Err, sym, ap, ◌∙◌, subst}
use Rattle.std.specs.Option.{ForSome}
use Rattle.sha2.specs.Sha256.{sha256}
use Rattle.core_terms.specs.Terms.{Program}
use Rattle.images.specs.declared.fault.ImageFault.{ImageFault}
use Rattle.images.specs.declared.fault.ImageFault.TheVariants as image_fault
use Rattle.lam_outside.specs.Disks.{Chooses, DiskFile, Moments, settled}
use Rattle.lam_outside.specs.Told.{Contents}
use Rattle.session_meaning.specs.Server.{Shared}
use Rattle.version_journal.specs.Gates.{AtLast, ForTold}
use Rattle.version_journal.specs.Journals.{Faulty, NoImage, journal_of}
use Rattle.version_journal.specs.Openings.{IsOpened, OnlySynced, OpensTo, Stands, TellsImage, TellsJournal}
use Rattle.version_journal.specs.Synced.{IsSynced}
use Rattle.version_journal.specs.declared.fault.DiskCount.TheVariants.{Reads, Writes}
use Rattle.version_journal.specs.declared.fault.JournalFault.{JournalFault}
use Rattle.version_journal.specs.declared.fault.JournalFault.TheVariants as fault
use Rattle.version_journal.specs.declared.opening.Opened.{Opened}
use Rattle.command_parts.specs.AnswerForms.{Answer}
use Rattle.command_parts.specs.FueledRoles.{DigestedProgram}
use Rattle.command_parts.specs.Storing.{FindsOutput}
use Rattle.command_parts.specs.declared.report.Output.{Output}
use Rattle.journal_commands.specs.DisksSeen.{DiskSeen, file_in}
use Rattle.journal_commands.specs.JournalAnswers.{journal_read, with_journal, with_kept}
use Rattle.journal_commands.specs.OpenedJournals.{KeepsNow, OpensNamed}
use Rattle.journal_commands.specs.Stops.{of_image_fault, of_journal_fault}
use Rattle.journal_commands.specs.Works.{FindsKept, StopsAs}
use Rattle.journal_commands.specs.declared.stop.DiskStop.{DiskStop}
use Rattle.journal_commands.specs.declared.stop.DiskStop.TheVariants.{Halts, WriteFault}
use Rattle.journal_commands.proofs.ToldMoments.{both_told, was_chosen}

-- ---- a journal that is refused

module _ (p : DigestedProgram) (bytes : List ℕ) (go : Shared → Option Answer) where
  image_stops : (refused : ImageFault) → TellsImage (λ f. journal_read p bytes ≡ Faulty (NoImage f)) refused → StopsAs (with_journal p bytes go) (of_image_fault refused)
  image_stops image_fault.Magic is = ap (λ j. with_kept j go) is
  image_stops (image_fault.Cut n) is = ap (λ j. with_kept j go) is
  image_stops image_fault.OtherProgram is = ap (λ j. with_kept j go) is
  image_stops (image_fault.BadRecord n) is = ap (λ j. with_kept j go) is
  image_stops (image_fault.TooBig n) is = ap (λ j. with_kept j go) is
  image_stops (image_fault.TooDeep n) is = ap (λ j. with_kept j go) is
  image_stops image_fault.RootType is = ap (λ j. with_kept j go) is
  image_stops (image_fault.Leftover n) is = ap (λ j. with_kept j go) is
  image_stops image_fault.NoMemory is = tt

  journal_stops : (f : JournalFault) → TellsJournal (journal_read p bytes) f → StopsAs (with_journal p bytes go) (of_journal_fault f)
  journal_stops fault.NotEmpty is = absurd is
  journal_stops fault.Magic is = ap (λ j. with_kept j go) is
  journal_stops (fault.Cut n) is = ap (λ j. with_kept j go) is
  journal_stops fault.OtherProgram is = ap (λ j. with_kept j go) is
  journal_stops (fault.Image refused) is = image_stops refused is
  journal_stops (fault.BadRecord n) is = ap (λ j. with_kept j go) is
  journal_stops (fault.DiskFault Reads) is = tt
  journal_stops (fault.DiskFault Writes) is = tt
  journal_stops fault.Failed is = tt
  journal_stops fault.NoMemory is = tt

-- what stopped the opening is what the answer says, by what `OpensNamed` says of each stop
module _ (p : DigestedProgram) (name : List ℕ) (disk disk' : DiskSeen) where
  stopped : (stop : DiskStop) → ForSome disk.contents (λ files. (go : Shared → Option Answer) → StopsAs (with_journal p (file_in (Some files) name) go) stop) → OpensNamed p name disk disk' (Err stop)
  stopped (Halts halt) stops = stops
  stopped WriteFault stops = tt

  pub named_stops : (stop : DiskStop) → OpensNamed p name disk disk' (Err stop) → ForSome disk.contents (λ files. (go : Shared → Option Answer) → StopsAs (with_journal p (file_in (Some files) name) go) stop)
  named_stops (Halts halt) opens = opens
  named_stops WriteFault opens = λ files known go. tt

-- ---- the moments since the file was chosen

module _ (p : DigestedProgram) where
  abbrev P : Program
  P = p.program

  abbrev own : List ℕ
  own = p.digest

  -- the file, which was synced, has this fault
  synced_fault : (f : JournalFault) (file : DiskFile) (now : Moments) → IsSynced (file ∷ []) now → AtLast (λ file. TellsJournal (journal_of P own file.reads) f) now
      → (go : Shared → Option Answer) → StopsAs (with_journal p file.reads go) (of_journal_fault f)
  unfolding journal_read
  synced_fault f file now synced tells go = journal_stops p file.reads go f (subst (AtLast (λ file. TellsJournal (journal_of P own file.reads) f)) synced tells)

  told_fault : (f : JournalFault) (file : DiskFile) (now : Moments) → OnlySynced (file ∷ []) now (Err f) → OpensTo sha256 P own now (Err f) → (go : Shared → Option Answer)
      → StopsAs (with_journal p file.reads go) (of_journal_fault f)
  told_fault fault.NotEmpty file now synced opens go = synced_fault fault.NotEmpty file now synced opens go
  told_fault fault.Magic file now synced opens go = synced_fault fault.Magic file now synced opens go
  told_fault (fault.Cut n) file now synced opens go = synced_fault (fault.Cut n) file now synced opens go
  told_fault fault.OtherProgram file now synced opens go = synced_fault fault.OtherProgram file now synced opens go
  told_fault (fault.Image refused) file now synced opens go = synced_fault (fault.Image refused) file now synced opens go
  told_fault (fault.BadRecord n) file now synced opens go = synced_fault (fault.BadRecord n) file now synced opens go
  told_fault (fault.DiskFault Reads) file now synced opens go = tt
  told_fault (fault.DiskFault Writes) file now synced opens go = tt
  told_fault fault.Failed file now synced opens go = synced_fault fault.Failed file now synced opens go
  told_fault fault.NoMemory file now synced opens go = tt

  abbrev KeepsSynced : (image : List ℕ) → Shared → Moments → Moments → Type 0
  KeepsSynced image kept old now = IsSynced old now × AtLast (KeepsNow p image kept) now

  -- the journal that was opened stands, and where the moments are told the file keeps it
  stands_told : (opened : Opened) (chosen new : Option Moments) → Stands sha256 P own opened → ForTold chosen new (λ old now. OpensTo sha256 P own now (Ok opened))
      → ForTold chosen new (λ old now. OnlySynced old now (Ok opened)) → (stands : Stands sha256 P own opened) × ForTold chosen new (KeepsSynced stands.image stands.same)
  stands_told opened None new stands opens synced = (stands, tt)
  stands_told opened (Some []) new stands opens synced = (stands, tt)
  stands_told opened (Some (file ∷ past)) new stands (other, same, opens) (now, is, synced) =
      let alike : other ≡ now = cc (is, same) in
      let held : IsOpened sha256 P own opened (settled file.reads) = subst (AtLast (IsOpened sha256 P own opened)) (alike ∙ synced) opens in
      let keeps : KeepsNow p held.stands.image held.stands.same (settled file.reads) = record { holds = held.holds; leaves = held.kept } in
      (held.stands, (now, is, (synced, subst (AtLast (KeepsNow p held.stands.image held.stands.same)) (sym synced) keeps)))

  -- the answer goes on with what the file keeps
  goes_on : (contents : Option Contents) (name image : List ℕ) (kept : Shared) (chosen new : Option Moments) → Chooses contents name chosen → ForTold chosen new (KeepsSynced image kept)
      → ForSome contents (λ files. (go : Shared → Option Answer) → with_journal p (file_in (Some files) name) go ≡ go kept)
  unfolding journal_read
  goes_on contents name image kept chosen new chooses told files known go =
      let was = was_chosen contents files name chosen new (KeepsSynced image kept) known chooses told in
      let keeps : KeepsNow p image kept (settled was.file.reads) = subst (AtLast (KeepsNow p image kept)) was.holds.0 was.holds.1 in
      subst (λ bytes. with_journal p bytes go ≡ go kept) was.reads (ap (λ j. with_kept j go) keeps.holds)

  module _ (name : List ℕ) (disk disk' : DiskSeen) (chosen : Option Moments) (chooses : Chooses disk.contents name chosen) where
    pub opened_named : (opened : Opened) → Stands sha256 P own opened → ForTold chosen disk'.moments (λ old now. OpensTo sha256 P own now (Ok opened))
        → ForTold chosen disk'.moments (λ old now. OnlySynced old now (Ok opened)) → OpensNamed p name disk disk' (Ok opened)
    opened_named opened stands opens synced =
        let found = stands_told opened chosen disk'.moments stands opens synced in
        (record { stands = found.0; told = (chosen, chooses, found.1) }, goes_on disk.contents name found.0.image found.0.same chosen disk'.moments chooses found.1)

    pub fault_opens : (f : JournalFault) (result : Result Opened DiskStop) → result ≡ Err (of_journal_fault f) → ForTold chosen disk'.moments (λ old now. OpensTo sha256 P own now (Err f))
        → ForTold chosen disk'.moments (λ old now. OnlySynced old now (Err f)) → OpensNamed p name disk disk' result
    fault_opens f result is opens synced =
        subst (OpensNamed p name disk disk') (sym is)
        (stopped p name disk disk' (of_journal_fault f) (λ files known go.
        let was = was_chosen disk.contents files name chosen disk'.moments (λ old now. OnlySynced old now (Err f) × OpensTo sha256 P own now (Err f)) known chooses
        (both_told (λ old now. OnlySynced old now (Err f)) (λ old now. OpensTo sha256 P own now (Err f)) chosen disk'.moments synced opens) in
        subst (λ bytes. StopsAs (with_journal p bytes go) (of_journal_fault f)) was.reads (told_fault f was.file was.now was.holds.0 was.holds.1 go)))

-- ---- what ended the work early

module _ (name : List ℕ) (answer behind : Option Answer) (result : Result Output DiskStop) (same : answer ≡ behind) where
  pub stopped_kept : (stop : DiskStop) → result ≡ Err stop → StopsAs behind stop → FindsKept name answer result
  stopped_kept stop is stops = subst (FindsKept name answer) (sym is) (subst (λ a. StopsAs a stop) (sym same) stops)

pub output_kept : (name : List ℕ) (answer behind : Option Answer) (output : Output) → answer ≡ behind → FindsOutput name behind (Ok output) → FindsKept name answer (Ok output)
output_kept name answer behind output same finds = subst (λ a. FindsOutput name a (Ok output)) (sym same) finds
