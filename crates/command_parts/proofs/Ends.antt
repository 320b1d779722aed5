-- From what was found, and how it was told, to how the run ends.
use Rattle.std.proofs.Common.{◌≡◌, ℕ, List, [], ◌∷◌, codes, Option, Some, None, Result, Ok, Err, refl, ap, sym, ◌∙◌, inl, inr}
use Rattle.std.specs.List.{concat}
use Rattle.std.specs.Option.{ForSome}
use Rattle.std.specs.Io.KnownBytes.{append_known}
use Rattle.std.proofs.lemmas.List.{append-nil}
use Rattle.lam_outside.specs.Causes.{Rose}
use Rattle.lam_outside.specs.Told.{Contents, Stores, AddsStores}
use Rattle.printed_lines.specs.Lines.{refusal_line}
use Rattle.printed_lines.specs.declared.refusal.Refusal.{Refusal}
use Rattle.printed_lines.specs.declared.refusal.Refusal.TheVariants as refusal
use Rattle.command_parts.specs.AnswerForms.{Answer, says}
use Rattle.command_parts.specs.RefusedAnswers.{refused, refusal_status}
use Rattle.command_parts.specs.Ending.{EndsAnswered, EndsAs, EndsInWriteFault, IsToldAs, MayWrite, StoresSome, WritesPart, lines_of}
use Rattle.command_parts.specs.EndingInCode.{EndsOnSink, with_sink}
use Rattle.command_parts.specs.Outsides.{Outside}
use Rattle.command_parts.specs.Halting.{Found, Finds, HaltCause, InHand, JudgementCause, MayHalt, MayHaltJudging, ending_status, line_of, status_of}
use Rattle.command_parts.specs.TellingInCode.{Tells}
use Rattle.command_parts.specs.declared.report.Ending.{Ending}
use Rattle.command_parts.specs.declared.report.Ending.TheVariants as ending
use Rattle.command_parts.specs.declared.report.Halt.{Halt}
use Rattle.command_parts.specs.declared.report.Halt.TheVariants.{Usage, Refused, ReadFault, NoMemory}
use Rattle.command_parts.specs.declared.status.Status.{Status}
use Rattle.command_parts.specs.declared.status.Status.TheVariants as status

-- nothing was handed to `store`
pub adds_none : (old new : Option Stores) → new ≡ old → AddsStores old new []
adds_none None None same = tt
adds_none None (Some calls) same = absurd (cc)
adds_none (Some calls) None same = tt
adds_none (Some calls) (Some now) same = same ∙ ap Some (sym (append-nil calls))

stores_none : (answer : Option Answer) (old new : Option Stores) → new ≡ old → StoresSome answer old new
stores_none None old new same = adds_none old new same
stores_none (Some a) old new same = inl (adds_none old new same)

pub one_line : (line : List ℕ) → concat (line ∷ []) ≡ line
one_line line = append-nil line

-- an answer of one line was told
line_told : (answer : Option Answer) (old new : Outside) (status : Status) (line : List ℕ) → answer ≡ Some (says status line) → new.written ≡ append_known old.written line → new.stores ≡ old.stores → IsToldAs answer old new status
line_told answer old new status line is written same =
    rw is (refl, rw (one_line line) written, adds_none old.stores new.stores same)

-- the line of an answer of one line
line_is : (answer : Option Answer) (status : Status) (line : List ℕ) → answer ≡ Some (says status line) → line ≡ concat (lines_of answer)
line_is answer status line is = rw (is, one_line line) refl

-- what may halt the reading of files may halt work that judges a proof
halt_judging : (before now : ℕ) (halt : Halt) → MayHalt before now halt → MayHaltJudging before now halt
halt_judging before now Usage cause = cause
halt_judging before now (Refused (refusal.Program kind line column)) cause = cause
halt_judging before now (Refused (refusal.Object kind)) cause = cause
halt_judging before now (Refused (refusal.Input fault)) cause = cause
halt_judging before now (Refused (refusal.Proof why)) cause = absurd cause
halt_judging before now ReadFault cause = cause
halt_judging before now NoMemory cause = cause

pub judging : {T : Type 0} (before now : ℕ) (found : Result T Halt) → HaltCause before now found → JudgementCause before now found
judging before now (Ok t) cause = cause
judging before now (Err halt) cause = halt_judging before now halt cause

module _ (answer : Contents → Option Answer) (old new : Outside) where
  abbrev FindsTold : Found → Type 0
  FindsTold found = ForSome old.contents (λ files. Finds (answer files) found)

  -- an answer of one line, told to the end
  answered : (status : Status) (line : List ℕ) → ForSome old.contents (λ files. answer files ≡ Some (says status line))
      → new.written ≡ append_known old.written line → new.stores ≡ old.stores
      → new.read_faults ≡ old.read_faults → new.store_faults ≡ old.store_faults → new.write_faults ≡ old.write_faults → EndsAnswered answer old new status
  answered status line finds written same reads stores writes = record {
    told = λ files known. line_told (answer files) old new status line (finds files known) written same;
    reads = reads;
    stores = stores;
    writes = writes;
  }

  -- a report was told
  report_ends : (e : Ending) (line : List ℕ) → ForSome old.contents (λ files. answer files ≡ Some (says (ending_status e) line))
      → new.written ≡ append_known old.written line → new.stores ≡ old.stores
      → new.read_faults ≡ old.read_faults → new.store_faults ≡ old.store_faults → new.write_faults ≡ old.write_faults → EndsAs answer old new (ending_status e)
  report_ends ending.Done line finds written same reads stores writes = answered _ line finds written same reads stores writes
  report_ends ending.Trap line finds written same reads stores writes = answered _ line finds written same reads stores writes
  report_ends ending.OutOfFuel line finds written same reads stores writes = answered _ line finds written same reads stores writes
  report_ends ending.Collision line finds written same reads stores writes = answered _ line finds written same reads stores writes

  -- a refusal was told
  refusal_ends : (what : Refusal) → ForSome old.contents (λ files. answer files ≡ Some (refused what))
      → new.written ≡ append_known old.written (refusal_line what) → new.stores ≡ old.stores
      → new.read_faults ≡ old.read_faults → new.store_faults ≡ old.store_faults → new.write_faults ≡ old.write_faults → EndsAs answer old new (refusal_status what)
  refusal_ends (refusal.Program kind line column) finds written same reads stores writes = answered _ _ finds written same reads stores writes
  refusal_ends (refusal.Object kind) finds written same reads stores writes = answered _ _ finds written same reads stores writes
  refusal_ends (refusal.Input fault) finds written same reads stores writes = answered _ _ finds written same reads stores writes
  refusal_ends (refusal.Proof cause) finds written same reads stores writes = answered _ _ finds written same reads stores writes

  -- the want of memory was told
  memory_ends : new.stores ≡ old.stores → new.store_faults ≡ old.store_faults → new.written ≡ append_known old.written (codes "no memory\n") → new.write_faults ≡ old.write_faults → EndsAs answer old new status.NoMemory
  memory_ends same stores written writes = record {
    written = λ files known. (0, written);
    stored = λ files known. stores_none (answer files) old.stores new.stores same;
    stores = stores;
    writes = writes;
  }

  -- all of the line was written
  whole : (found : Found) → FindsTold found → JudgementCause old.read_faults new.read_faults found → new.stores ≡ old.stores → new.store_faults ≡ old.store_faults
      → new.written ≡ append_known old.written (line_of found) → new.write_faults ≡ old.write_faults → EndsAs answer old new (status_of found)
  whole (Ok report) finds cause same stores written writes = report_ends report.ending report.text.items finds written same cause stores writes
  whole (Err Usage) finds cause same stores written writes = absurd cause
  whole (Err (Refused what)) finds cause same stores written writes = refusal_ends what finds written same cause stores writes
  whole (Err ReadFault) finds cause same stores written writes = record {
    rose = cause;
    written = written;
    stored = adds_none old.stores new.stores same;
    stores = stores;
    writes = writes;
  }
  whole (Err NoMemory) finds cause same stores written writes = memory_ends same stores written writes

  -- the text that was begun
  may_write : (found : Found) (files : Contents) → Finds (answer files) found → MayWrite (answer files) (line_of found)
  may_write (Ok report) files finds = inl (line_is (answer files) _ _ finds)
  may_write (Err Usage) files finds = inl (line_is (answer files) _ _ finds)
  may_write (Err (Refused what)) files finds = inl (line_is (answer files) _ _ finds)
  may_write (Err ReadFault) files finds = inr (inl refl)
  may_write (Err NoMemory) files finds = inr (inr (0, refl))

  -- a front of the line was written
  part : (found : Found) → FindsTold found → new.stores ≡ old.stores → new.store_faults ≡ old.store_faults → WritesPart old.written new.written (line_of found)
      → Rose old.write_faults new.write_faults → EndsInWriteFault answer old new
  part found finds same stores written rose = inl (record {
    rose = rose;
    part = λ files known. (line_of found, may_write found files (finds files known), written);
    stored = λ files known. stores_none (answer files) old.stores new.stores same;
    stores = stores;
  })

  -- a front of the line of the want of memory was written
  memory_part : new.stores ≡ old.stores → new.store_faults ≡ old.store_faults → WritesPart old.written new.written (codes "no memory\n") → Rose old.write_faults new.write_faults → EndsInWriteFault answer old new
  memory_part same stores written rose = inl (record {
    rose = rose;
    part = λ files known. (codes "no memory\n", inr (inr (0, refl)), written);
    stored = λ files known. stores_none (answer files) old.stores new.stores same;
    stores = stores;
  })

  -- a command that stores nothing, by what its work found and how that was told
  pub ends_as : (found : Found) (ended : Status) → FindsTold found → JudgementCause old.read_faults new.read_faults found → new.stores ≡ old.stores → new.store_faults ≡ old.store_faults
      → Tells found ended old.written new.written old.write_faults new.write_faults → EndsAs answer old new ended
  ends_as found ended finds cause same stores (inl (inl told)) = rw told.0 (whole found finds cause same stores told.1 told.2)
  ends_as found ended finds cause same stores (inl (inr told)) = rw told.0 (part found finds same stores told.1 told.2)
  ends_as found ended finds cause same stores (inr (inl told)) = rw told.0 (memory_ends same stores told.1 told.2)
  ends_as found ended finds cause same stores (inr (inr told)) = rw told.0 (memory_part same stores told.1 told.2)

  -- words that call no command, by how that was told
  pub usage_ends : (ended : Status) → ForSome old.contents (λ files. answer files ≡ Some (says status.Usage (line_of (Err Usage)))) → new.read_faults ≡ old.read_faults → new.stores ≡ old.stores
      → new.store_faults ≡ old.store_faults → Tells (Err Usage) ended old.written new.written old.write_faults new.write_faults → EndsAs answer old new ended
  usage_ends ended finds reads same stores (inl (inl told)) = rw told.0 (answered status.Usage (line_of (Err Usage)) finds told.1 same reads stores told.2)
  usage_ends ended finds reads same stores (inl (inr told)) = rw told.0 (part (Err Usage) finds same stores told.1 told.2)
  usage_ends ended finds reads same stores (inr (inl told)) = rw told.0 (memory_ends same stores told.1 told.2)
  usage_ends ended finds reads same stores (inr (inr told)) = rw told.0 (memory_part same stores told.1 told.2)

-- ---- a command that leaves the files alone

hand_finds : (answer : Option Answer) (found : Found) → InHand (Finds answer) found → Finds answer found
hand_finds answer (Ok report) finds = finds
hand_finds answer (Err Usage) finds = absurd finds
hand_finds answer (Err (Refused (refusal.Program kind line column))) finds = finds
hand_finds answer (Err (Refused (refusal.Object kind))) finds = finds
hand_finds answer (Err (Refused (refusal.Input fault))) finds = finds
hand_finds answer (Err (Refused (refusal.Proof why))) finds = absurd finds
hand_finds answer (Err ReadFault) finds = absurd finds
hand_finds answer (Err NoMemory) finds = finds

hand_cause : (answer : Option Answer) (found : Found) (faults : ℕ) → InHand (Finds answer) found → JudgementCause faults faults found
hand_cause answer (Ok report) faults finds = refl
hand_cause answer (Err Usage) faults finds = absurd finds
hand_cause answer (Err (Refused (refusal.Program kind line column))) faults finds = refl
hand_cause answer (Err (Refused (refusal.Object kind))) faults finds = refl
hand_cause answer (Err (Refused (refusal.Input fault))) faults finds = refl
hand_cause answer (Err (Refused (refusal.Proof why))) faults finds = absurd finds
hand_cause answer (Err ReadFault) faults finds = absurd finds
hand_cause answer (Err NoMemory) faults finds = refl

-- by what its work on what is in hand found, and how that was told
pub ends_on_sink : (answer : Option Answer) (found : Found) (ended : Status) (old new : Option (List ℕ)) (before now : ℕ) → InHand (Finds answer) found
    → Tells found ended old new before now → EndsOnSink (λ files. answer) old new before now ended
ends_on_sink answer found ended old new before now finds told = λ seen.
    ends_as (λ files. answer) (with_sink seen old before) (with_sink seen new now) found ended (λ files known. hand_finds answer found finds)
    (hand_cause answer found seen.read_faults finds) refl refl told
