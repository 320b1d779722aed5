-- How a run may end, as its status tells.
use Rattle.std.specs.Prelude.{◌≡◌, ◌⊎◌, ℕ, List, [], ◌++◌, take, codes, Option, Some, None}
use Rattle.std.specs.List.{concat}
use Rattle.std.specs.Option.{ForSome}
use Rattle.std.specs.Io.KnownBytes.{append_known}
use Rattle.lam_outside.specs.Causes.{Rose}
use Rattle.lam_outside.specs.Told.{Contents, Stores, AddsStores}
use Rattle.command_parts.specs.AnswerForms.{Answer}
use Rattle.command_parts.specs.Codes.{code}
use Rattle.command_parts.specs.declared.status.Status.{Status}
use Rattle.command_parts.specs.declared.status.Status.TheVariants.{ReadFault, WriteFault, NoMemory}
use Rattle.command_parts.specs.Outsides.{Outside}

-- the lines of the answer, where there is one
abbrev pub lines_of : Option Answer → List (List ℕ)
lines_of None = []
lines_of (Some a) = a.lines

-- some whole lines of the answer, and then `no memory`
abbrev pub no_memory_text : Option Answer → ℕ → List ℕ
no_memory_text answer k = concat (take k (lines_of answer)) ++ codes "no memory\n"

-- a text that a run may begin to write
abbrev pub MayWrite : Option Answer → List ℕ → Type 0
MayWrite answer text =
    (text ≡ concat (lines_of answer)) ⊎ ((text ≡ codes "read fault\n") ⊎ ((k : ℕ) × (text ≡ no_memory_text answer k)))

-- a front of the text was written
abbrev pub WritesPart : Option (List ℕ) → Option (List ℕ) → List ℕ → Type 0
WritesPart old new text = (n : ℕ) × (new ≡ append_known old (take n text))

-- what `store` was given is nothing, or the files of the answer
abbrev pub StoresSome : Option Answer → Option Stores → Option Stores → Type 0
StoresSome None old new = AddsStores old new []
StoresSome (Some a) old new = AddsStores old new [] ⊎ AddsStores old new a.stored

-- the answer has this status; its lines were written, its files stored
abbrev pub IsToldAs : Option Answer → Outside → Outside → Status → Type 0
IsToldAs None old new status = ⊥
IsToldAs (Some a) old new status = (a.status ≡ status) × (new.written ≡ append_known old.written (concat a.lines)) × AddsStores old.stores new.stores a.stored

-- with an answer: no count rose
pub record EndsAnswered (answer : Contents → Option Answer) (old new : Outside) (status : Status) : Type 0 where
  pub told : ForSome old.contents (λ files. IsToldAs (answer files) old new status)
  pub reads : new.read_faults ≡ old.read_faults
  pub stores : new.store_faults ≡ old.store_faults
  pub writes : new.write_faults ≡ old.write_faults

-- with a file that could not be read
pub record EndsInReadFault (old new : Outside) : Type 0 where
  pub rose : Rose old.read_faults new.read_faults
  pub written : new.written ≡ append_known old.written (codes "read fault\n")
  pub stored : AddsStores old.stores new.stores []
  pub stores : new.store_faults ≡ old.store_faults
  pub writes : new.write_faults ≡ old.write_faults

-- with a line that could not be written, behind the files that were stored before it
pub record FailsToWrite (answer : Contents → Option Answer) (old new : Outside) : Type 0 where
  pub rose : Rose old.write_faults new.write_faults
  pub part : ForSome old.contents (λ files. (text : List ℕ) × MayWrite (answer files) text × WritesPart old.written new.written text)
  pub stored : ForSome old.contents (λ files. StoresSome (answer files) old.stores new.stores)
  pub stores : new.store_faults ≡ old.store_faults

-- with a file that could not be stored: nothing was written
pub record FailsToStore (answer : Contents → Option Answer) (old new : Outside) : Type 0 where
  pub rose : Rose old.store_faults new.store_faults
  pub nothing : new.written ≡ old.written
  pub stored : ForSome old.contents (λ files. StoresSome (answer files) old.stores new.stores)
  pub writes : new.write_faults ≡ old.write_faults

-- with either
abbrev pub EndsInWriteFault : (Contents → Option Answer) → Outside → Outside → Type 0
EndsInWriteFault answer old new = FailsToWrite answer old new ⊎ FailsToStore answer old new

-- without the memory that was wanted
pub record EndsInNoMemory (answer : Contents → Option Answer) (old new : Outside) : Type 0 where
  pub written : ForSome old.contents (λ files. (k : ℕ) × (new.written ≡ append_known old.written (no_memory_text (answer files) k)))
  pub stored : ForSome old.contents (λ files. StoresSome (answer files) old.stores new.stores)
  pub stores : new.store_faults ≡ old.store_faults
  pub writes : new.write_faults ≡ old.write_faults

-- The end of a run whose answer depends on the contents of the files, by its status.
abbrev pub EndsAs : (Contents → Option Answer) → Outside → Outside → Status → Type 0
EndsAs answer old new ReadFault = EndsInReadFault old new
EndsAs answer old new WriteFault = EndsInWriteFault answer old new
EndsAs answer old new NoMemory = EndsInNoMemory answer old new
EndsAs answer old new status = EndsAnswered answer old new status

-- no count of faults rose
pub record NoneRose (old new : Outside) : Type 0 where
  pub reads : Rose old.read_faults new.read_faults → ⊥
  pub stores : Rose old.store_faults new.store_faults → ⊥
  pub writes : Rose old.write_faults new.write_faults → ⊥

-- `IsToldAs`, by the number of the status
abbrev pub IsToldByCode : Option Answer → Outside → Outside → ℕ → Type 0
IsToldByCode None old new number = ⊥
IsToldByCode (Some a) old new number = (number ≡ code a.status) × (new.written ≡ append_known old.written (concat a.lines)) × AddsStores old.stores new.stores a.stored

-- the number of a status that any run may end with, whatever it would answer: a file could not be read, the sink or `store` failed, or
-- memory was wanting
abbrev pub IsOfFault : ℕ → Type 0
IsOfFault number = (number ≡ 8) ⊎ ((number ≡ 9) ⊎ (number ≡ 10))
