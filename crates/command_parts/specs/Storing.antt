-- What a command that may store a file found, and how that is stored and told.
use Rattle.std.specs.Prelude.{◌≡◌, ◌⊎◌, ℕ, List, [], ◌∷◌, Option, Some, None, Result, Ok, Err, Vec}
use Rattle.std.specs.List.{concat}
use Rattle.std.specs.declared.alloc.Global.{Global}
use Rattle.lam_outside.specs.Causes.{Rose}
use Rattle.lam_outside.specs.Told.{Stores, AddsStores}
use Rattle.command_parts.specs.AnswerForms.{Answer}
use Rattle.command_parts.specs.Halting.{HaltsAs, ending_status, halt_status}
use Rattle.command_parts.specs.TellingInCode.{Tells}
use Rattle.command_parts.specs.declared.report.Halt.{Halt}
use Rattle.command_parts.specs.declared.report.Output.{Output}
use Rattle.command_parts.specs.declared.status.Status.{Status}
use Rattle.command_parts.specs.declared.status.Status.TheVariants.{WriteFault}

-- the file that is stored under a name, where there is one
abbrev pub stored_as : List ℕ → Option (Vec ℕ Global) → Stores
stored_as name None = []
stored_as name (Some bytes) = (name, bytes.items) ∷ []

-- the output is what the answer says, its file stored under a name
pub record IsOutput (answer : Answer) (name : List ℕ) (output : Output) : Type 0 where
  pub status : answer.status ≡ ending_status output.report.ending
  pub lines : concat answer.lines ≡ output.report.text.items
  pub stored : answer.stored ≡ stored_as name output.file

-- the status that is meant
abbrev pub output_status : Result Output Halt → Status
output_status (Ok output) = ending_status output.report.ending
output_status (Err halt) = halt_status halt

-- what the work found is what the answer says, unless a file could not be read or memory was wanting
abbrev pub FindsOutput : List ℕ → Option Answer → Result Output Halt → Type 0
FindsOutput name answer (Ok output) = (a : Answer) × (answer ≡ Some a) × IsOutput a name output
FindsOutput name answer (Err halt) = HaltsAs answer halt

-- What halted the work is told, and nothing stored. An output's file is stored first, and then its lines are told; where
-- storing fails, nothing is written.
abbrev pub StoresAndTells : List ℕ → Result Output Halt → Status → (stores stores' : Option Stores) → (store_faults store_faults' : ℕ) → (written written' : Option (List ℕ)) → (faults faults' : ℕ) → Type 0
StoresAndTells name (Err halt) ended stores stores' store_faults store_faults' written written' faults faults' =
    (stores' ≡ stores) × (store_faults' ≡ store_faults) × Tells (Err halt) ended written written' faults faults'
StoresAndTells name (Ok output) ended stores stores' store_faults store_faults' written written' faults faults' =
    AddsStores stores stores' (stored_as name output.file)
    × (((ended ≡ WriteFault) × (written' ≡ written) × (faults' ≡ faults) × Rose store_faults store_faults')
    ⊎ ((store_faults' ≡ store_faults) × Tells (Ok output.report) ended written written' faults faults'))
