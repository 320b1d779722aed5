-- How the run of a command on a disk ends, from what its work found and how that was told.
use Rattle.std.proofs.Common.{◌≡◌, ◌+◌, length, List, [], ℕ, Option, Some, None, Result, Ok, Err, inl, inr, refl, sym, ap, ◌∙◌, subst}
use Rattle.std.specs.Borrow.{Bor}
use Rattle.std.specs.Option.{ForSome}
use Rattle.std.specs.Io.KnownBytes.{append_known}
use Rattle.std.proofs.lemmas.List.{append-nil}
use Rattle.command_words.specs.Commands.{texts}
use Rattle.lam_outside.specs.Told.{Contents, Stores}
use Rattle.command_parts.specs.AnswerForms.{Answer}
use Rattle.command_parts.specs.Ending.{EndsAs, IsToldAs, StoresSome}
use Rattle.command_parts.specs.Outsides.{Outside}
use Rattle.command_parts.specs.Halting.{HaltsAs}
use Rattle.command_parts.specs.Storing.{FindsOutput, StoresAndTells}
use Rattle.command_parts.specs.TellingInCode.{Tells}
use Rattle.command_parts.specs.declared.report.Halt.{Halt}
use Rattle.command_parts.specs.declared.report.Output.{Output}
use Rattle.command_parts.specs.declared.report.Report.{Report}
use Rattle.command_parts.specs.declared.status.Status.{Status}
use Rattle.command_parts.specs.declared.status.Status.TheVariants as status
use Rattle.command_parts.proofs.Ends.{adds_none, ends_as, judging}
use Rattle.command_parts.proofs.EndsStored.{ends_stored}
use Rattle.command_parts.proofs.Words.{apart, texts_from}
use Rattle.journal_commands.specs.DisksSeen.{DiskSeen, if_told, with_disk}
use Rattle.journal_commands.specs.Founding.{EndsFounding}
use Rattle.journal_commands.specs.JournalAnswers.{making_answer}
use Rattle.journal_commands.specs.Replaying.{EndsReplaying}
use Rattle.journal_commands.specs.Stops.{WorkCause}
use Rattle.journal_commands.specs.declared.stop.DiskStop.{DiskStop}
use Rattle.journal_commands.specs.declared.stop.DiskStop.TheVariants.{Halts, WriteFault}
use Rattle.journal_commands.proofs.StopCauses.{may_halt, none_rose, rose_first, rose_second, writes_kept}

nothing_more : (known : Option (List ℕ)) → known ≡ append_known known []
nothing_more None = refl
nothing_more (Some bytes) = ap Some (sym (append-nil bytes))

stores_none : (answer : Option Answer) (old new : Option Stores) → new ≡ old → StoresSome answer old new
stores_none None old new same = adds_none old new same
stores_none (Some a) old new same = inl (adds_none old new same)

module _ (answer : Contents → Option Answer) (old new : Outside) (disk disk' : DiskSeen) where
  abbrev CausedBy : {T : Type 0} → Result T DiskStop → Type 0
  CausedBy result = WorkCause old.read_faults new.read_faults disk.read_faults disk'.read_faults disk.write_faults disk'.write_faults result

  abbrev ForFiles : (Option Answer → Type 0) → Type 0
  ForFiles Says = ForSome (if_told disk.contents old.contents) (λ files. Says (answer files))

  -- a journal was made, and nothing is told
  is_made : (found : Option Answer) → found ≡ Some (making_answer []) → new.written ≡ old.written → new.stores ≡ old.stores → IsToldAs found (with_disk disk old) (with_disk disk' new) status.Done
  is_made found is written stores = rw is (refl, written ∙ nothing_more old.written, adds_none old.stores new.stores stores)

  pub made_ends : ForFiles (λ found. found ≡ Some (making_answer [])) → CausedBy {T = Unit {0}} (Ok tt) → new.stores ≡ old.stores → new.store_faults ≡ old.store_faults
      → new.written ≡ old.written → new.write_faults ≡ old.write_faults → EndsAs answer (with_disk disk old) (with_disk disk' new) status.Done
  made_ends finds cause stores store_faults written writes = record {
    told = λ files known. is_made (answer files) (finds files known) written stores;
    reads = none_rose old.read_faults new.read_faults disk.read_faults disk'.read_faults cause.0 cause.1;
    stores = none_rose old.store_faults new.store_faults disk.write_faults disk'.write_faults store_faults cause.2;
    writes = writes;
  }

  -- what halted the work was told
  pub halt_ends : (T : Type 0) (halt : Halt) (ended : Status) → ForFiles (λ found. HaltsAs found halt) → CausedBy {T = T} (Err (Halts halt)) → new.stores ≡ old.stores
      → new.store_faults ≡ old.store_faults → Tells (Err halt) ended old.written new.written old.write_faults new.write_faults → EndsAs answer (with_disk disk old) (with_disk disk' new) ended
  halt_ends T halt ended finds cause stores store_faults told =
      ends_as answer (with_disk disk old) (with_disk disk' new) (Err halt) ended finds
      (judging {T = Report} _ _ (Err halt) (may_halt T old.read_faults new.read_faults disk.read_faults disk'.read_faults disk.write_faults disk'.write_faults halt cause)) stores
      (none_rose old.store_faults new.store_faults disk.write_faults disk'.write_faults store_faults
      (writes_kept T old.read_faults new.read_faults disk.read_faults disk'.read_faults disk.write_faults disk'.write_faults halt cause))
      told

  -- the disk could not be written, and nothing is told
  pub fault_ends : (T : Type 0) → CausedBy {T = T} (Err WriteFault) → new.stores ≡ old.stores → new.store_faults ≡ old.store_faults → new.written ≡ old.written → new.write_faults ≡ old.write_faults
      → EndsAs answer (with_disk disk old) (with_disk disk' new) status.WriteFault
  fault_ends T cause stores store_faults written writes = inr (record {
    rose = rose_second old.store_faults new.store_faults disk.write_faults disk'.write_faults store_faults cause.2;
    nothing = written;
    stored = λ files known. stores_none (answer files) old.stores new.stores stores;
    writes = writes;
  })

  -- an output was stored and told
  stores_beside : (name : List ℕ) (output : Output) (ended : Status) (before : Option Stores) (store_faults : ℕ) → store_faults ≡ old.store_faults → disk'.write_faults ≡ disk.write_faults
      → StoresAndTells name (Ok output) ended before new.stores store_faults new.store_faults old.written new.written old.write_faults new.write_faults
      → StoresAndTells name (Ok output) ended before new.stores (store_faults + disk.write_faults) (new.store_faults + disk'.write_faults) old.written new.written old.write_faults new.write_faults
  stores_beside name output ended before store_faults same kept (stores, inl failed) =
      (stores, inl (failed.0, failed.1, failed.2, rose_first store_faults new.store_faults disk.write_faults disk'.write_faults failed.3 kept))
  stores_beside name output ended before store_faults same kept (stores, inr told) =
      (stores, inr (none_rose store_faults new.store_faults disk.write_faults disk'.write_faults told.0 kept, told.1))

  pub output_ends : (name : List ℕ) (output : Output) (ended : Status) (before : Option Stores) (store_faults : ℕ) → ForFiles (λ found. FindsOutput name found (Ok output))
      → CausedBy {T = Output} (Ok output) → before ≡ old.stores → store_faults ≡ old.store_faults
      → StoresAndTells name (Ok output) ended before new.stores store_faults new.store_faults old.written new.written old.write_faults new.write_faults
      → EndsAs answer (with_disk disk old) (with_disk disk' new) ended
  output_ends name output ended before store_faults finds cause same same_faults told =
      ends_stored answer (with_disk disk old) (with_disk disk' new) name (Ok output) ended (new.read_faults + disk'.read_faults) before (store_faults + disk.write_faults) finds
      (none_rose old.read_faults new.read_faults disk.read_faults disk'.read_faults cause.0 cause.1) same (ap (λ n. n + disk.write_faults) same_faults) refl
      (stores_beside name output ended before store_faults same_faults cause.2 told)

-- ---- on the texts of the words

pub founding_apart : (words : List (Bor (List ℕ))) (old new : Outside) (disk disk' : DiskSeen) (ended : Status) → length words ≡ 3
    → EndsFounding (texts_from words 3 0) old new disk disk' ended → EndsFounding (texts words) old new disk disk' ended
founding_apart words old new disk disk' ended is ends = subst (λ ts. EndsFounding ts old new disk disk' ended) (sym (apart words 3 is)) ends

pub replaying_apart : (words : List (Bor (List ℕ))) (old new : Outside) (disk disk' : DiskSeen) (ended : Status) → length words ≡ 3
    → EndsReplaying (texts_from words 3 0) old new disk disk' ended → EndsReplaying (texts words) old new disk disk' ended
replaying_apart words old new disk disk' ended is ends = subst (λ ts. EndsReplaying ts old new disk disk' ended) (sym (apart words 3 is)) ends
