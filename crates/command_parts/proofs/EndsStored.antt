-- From what was found, and how it was stored and told, to how the run ends.
use Rattle.std.proofs.Common.{◌≡◌, ℕ, List, Option, Ok, Err, Result, codes, refl, ap, sym, ◌∙◌, subst, inl, inr}
use Rattle.std.specs.List.{concat}
use Rattle.std.specs.Option.{ForSome}
use Rattle.std.specs.Io.KnownBytes.{append_known}
use Rattle.lam_outside.specs.Causes.{Rose}
use Rattle.lam_outside.specs.Told.{Contents, Stores, AddsStores}
use Rattle.command_parts.specs.AnswerForms.{Answer}
use Rattle.command_parts.specs.Ending.{EndsAnswered, EndsAs, EndsInWriteFault, IsToldAs, StoresSome, WritesPart, lines_of}
use Rattle.command_parts.specs.Outsides.{Outside}
use Rattle.command_parts.specs.Halting.{HaltCause, JudgementCause, ending_status}
use Rattle.command_parts.specs.Storing.{FindsOutput, StoresAndTells, stored_as}
use Rattle.command_parts.specs.TellingInCode.{Tells}
use Rattle.command_parts.specs.declared.report.Ending.{Ending}
use Rattle.command_parts.specs.declared.report.Ending.TheVariants as ending
use Rattle.command_parts.specs.declared.report.Halt.{Halt}
use Rattle.command_parts.specs.declared.report.Output.{Output}
use Rattle.command_parts.specs.declared.status.Status.{Status}
use Rattle.command_parts.specs.declared.status.Status.TheVariants as status
use Rattle.command_parts.proofs.Ends.{ends_as, judging}

module _ (answer : Contents → Option Answer) (old new : Outside) (name : List ℕ) where
  module _ (output : Output) (finds : ForSome old.contents (λ files. FindsOutput name (answer files) (Ok output)))
      (stores : AddsStores old.stores new.stores (stored_as name output.file)) where
    abbrev text : List ℕ
    text = output.report.text.items

    some_stored : (found : Option Answer) → FindsOutput name found (Ok output) → StoresSome found old.stores new.stores
    some_stored found (a, is, out) = subst (λ found. StoresSome found old.stores new.stores) (sym is) (inr (subst (AddsStores old.stores new.stores) (sym out.stored) stores))

    text_is : (found : Option Answer) → FindsOutput name found (Ok output) → text ≡ concat (lines_of found)
    text_is found (a, is, out) = sym (ap (λ found. concat (lines_of found)) is ∙ out.lines)

    is_told : (found : Option Answer) → FindsOutput name found (Ok output) → new.written ≡ append_known old.written text → IsToldAs found old new (ending_status output.report.ending)
    is_told found (a, is, out) written =
        subst (λ found. IsToldAs found old new (ending_status output.report.ending)) (sym is)
        (out.status, written ∙ ap (append_known old.written) (sym out.lines), subst (AddsStores old.stores new.stores) (sym out.stored) stores)

    stored : ForSome old.contents (λ files. StoresSome (answer files) old.stores new.stores)
    stored files known = some_stored (answer files) (finds files known)

    -- all of its lines were written
    answered : (e : Ending) → output.report.ending ≡ e → new.written ≡ append_known old.written text
        → new.read_faults ≡ old.read_faults → new.store_faults ≡ old.store_faults → new.write_faults ≡ old.write_faults → EndsAnswered answer old new (ending_status e)
    answered e is written reads store_faults writes = record {
      told = λ files known. subst (λ e. IsToldAs (answer files) old new (ending_status e)) is (is_told (answer files) (finds files known) written);
      reads = reads;
      stores = store_faults;
      writes = writes;
    }

    output_ends : (e : Ending) → output.report.ending ≡ e → new.written ≡ append_known old.written text
        → new.read_faults ≡ old.read_faults → new.store_faults ≡ old.store_faults → new.write_faults ≡ old.write_faults → EndsAs answer old new (ending_status e)
    output_ends ending.Done is written reads store_faults writes = answered ending.Done is written reads store_faults writes
    output_ends ending.Trap is written reads store_faults writes = answered ending.Trap is written reads store_faults writes
    output_ends ending.OutOfFuel is written reads store_faults writes = answered ending.OutOfFuel is written reads store_faults writes
    output_ends ending.Collision is written reads store_faults writes = answered ending.Collision is written reads store_faults writes

    -- the file could not be stored
    unstored : new.written ≡ old.written → new.write_faults ≡ old.write_faults → Rose old.store_faults new.store_faults → EndsInWriteFault answer old new
    unstored nothing writes rose = inr (record { rose = rose; nothing = nothing; stored = stored; writes = writes })

    -- a front of its lines was written
    part : new.store_faults ≡ old.store_faults → WritesPart old.written new.written text → Rose old.write_faults new.write_faults → EndsInWriteFault answer old new
    part store_faults written rose = inl (record {
      rose = rose;
      part = λ files known. (text, inl (text_is (answer files) (finds files known)), written);
      stored = stored;
      stores = store_faults;
    })

    -- memory was wanting for them
    memory_part : new.store_faults ≡ old.store_faults → WritesPart old.written new.written (codes "no memory\n") → Rose old.write_faults new.write_faults → EndsInWriteFault answer old new
    memory_part store_faults written rose = inl (record {
      rose = rose;
      part = λ files known. (codes "no memory\n", inr (inr (0, refl)), written);
      stored = stored;
      stores = store_faults;
    })

    memory_ends : new.store_faults ≡ old.store_faults → new.written ≡ append_known old.written (codes "no memory\n") → new.write_faults ≡ old.write_faults → EndsAs answer old new status.NoMemory
    memory_ends store_faults written writes = record {
      written = λ files known. (0, written);
      stored = stored;
      stores = store_faults;
      writes = writes;
    }

    told_ends : (ended : Status) → new.read_faults ≡ old.read_faults → new.store_faults ≡ old.store_faults
        → Tells (Ok output.report) ended old.written new.written old.write_faults new.write_faults → EndsAs answer old new ended
    told_ends ended reads store_faults (inl (inl told)) = subst (EndsAs answer old new) (sym told.0) (output_ends output.report.ending refl told.1 reads store_faults told.2)
    told_ends ended reads store_faults (inl (inr told)) = subst (EndsAs answer old new) (sym told.0) (part store_faults told.1 told.2)
    told_ends ended reads store_faults (inr (inl told)) = subst (EndsAs answer old new) (sym told.0) (memory_ends store_faults told.1 told.2)
    told_ends ended reads store_faults (inr (inr told)) = subst (EndsAs answer old new) (sym told.0) (memory_part store_faults told.1 told.2)

  both : (found : Result Output Halt) (ended : Status) → ForSome old.contents (λ files. FindsOutput name (answer files) found) → JudgementCause old.read_faults new.read_faults found
      → StoresAndTells name found ended old.stores new.stores old.store_faults new.store_faults old.written new.written old.write_faults new.write_faults → EndsAs answer old new ended
  both (Err halt) ended finds cause told = ends_as answer old new (Err halt) ended finds cause told.0 told.1 told.2
  both (Ok output) ended finds cause (stores, inl failed) =
      subst (EndsAs answer old new) (sym failed.0) (unstored output finds stores failed.1 failed.2 failed.3)
  both (Ok output) ended finds cause (stores, inr told) = told_ends output finds stores ended cause told.0 told.1

  -- a command that may store a file, by what its work found and how that was stored and told
  pub ends_judged : (found : Result Output Halt) (ended : Status) (reads : ℕ) (before : Option Stores) (store_faults : ℕ)
      → ForSome old.contents (λ files. FindsOutput name (answer files) found) → JudgementCause old.read_faults reads found → before ≡ old.stores → store_faults ≡ old.store_faults → new.read_faults ≡ reads
      → StoresAndTells name found ended before new.stores store_faults new.store_faults old.written new.written old.write_faults new.write_faults → EndsAs answer old new ended
  ends_judged found ended reads before store_faults finds cause same same_faults reads_same told =
      both found ended finds (subst (λ n. JudgementCause old.read_faults n found) (sym reads_same) cause)
      (subst (λ n. StoresAndTells name found ended old.stores new.stores n new.store_faults old.written new.written old.write_faults new.write_faults) same_faults
      (subst (λ s. StoresAndTells name found ended s new.stores store_faults new.store_faults old.written new.written old.write_faults new.write_faults) same told))

  -- the same where no proof is judged
  pub ends_stored : (found : Result Output Halt) (ended : Status) (reads : ℕ) (before : Option Stores) (store_faults : ℕ)
      → ForSome old.contents (λ files. FindsOutput name (answer files) found) → HaltCause old.read_faults reads found → before ≡ old.stores → store_faults ≡ old.store_faults → new.read_faults ≡ reads
      → StoresAndTells name found ended before new.stores store_faults new.store_faults old.written new.written old.write_faults new.write_faults → EndsAs answer old new ended
  ends_stored found ended reads before store_faults finds cause same same_faults reads_same told =
      ends_judged found ended reads before store_faults finds (judging old.read_faults reads found cause) same same_faults reads_same told
