-- Read faults come from files that the order of refusals had reached.
use Rattle.std.proofs.Common.{◌≡◌, ◌⊎◌, inl, inr, ℕ, Bool, true, false, List, ◌++◌, [], ◌∷◌, cond, Option, Some, None, Result, Ok, Err, refl, ap, sym, ◌∙◌, subst, bytes_eq, arith}
use Rattle.std.specs.Option.{ForSome}
use Rattle.std.proofs.lemmas.Slice.Eq.{bytes_eq-Decides}
use Rattle.lam_outside.specs.Told.{Contents, Names, Stores}
use Rattle.lam_outside.specs.FileSteps.{AsksFor}
use Rattle.printed_lines.specs.declared.refusal.Refusal.TheVariants as refusal
use Rattle.core_terms.specs.Spelling.{spelling}
use Rattle.command_parts.specs.RoleInputs.{RoleCall, with_passed}
use Rattle.command_parts.specs.FileInputs.{with_image_file, with_state_file}
use Rattle.command_parts.specs.AnswerForms.{Answer}
use Rattle.command_parts.specs.Codes.{code}
use Rattle.command_parts.specs.FueledRoles.{FueledRole}
use Rattle.command_parts.specs.RoleCalls.{program_called}
use Rattle.command_parts.specs.IdealCalls.{IdealCall}
use Rattle.command_parts.specs.Halting.{Finds, Found, StepGives, InHand, WithoutFiles, ending_status, halt_status, status_of}
use Rattle.command_parts.specs.Reaching.{IsLast, IsReached, without}
use Rattle.command_parts.specs.ReachingInCode.{FaultsAt, FaultsAtReached, HaltsAt, HaltsAtReached}
use Rattle.command_parts.specs.Storing.{FindsOutput, StoresAndTells}
use Rattle.command_parts.specs.TellingInCode.{Tells}
use Rattle.command_parts.specs.declared.report.Ending.{Ending}
use Rattle.command_parts.specs.declared.report.Ending.TheVariants as ending
use Rattle.command_parts.specs.declared.report.Halt.{Halt}
use Rattle.command_parts.specs.declared.report.Halt.TheVariants.{Usage, Refused, ReadFault, NoMemory}
use Rattle.command_parts.specs.declared.report.Output.{Output}
use Rattle.command_parts.specs.declared.status.Status.{Status}
use Rattle.command_parts.specs.declared.status.Status.TheVariants as status

-- a name that was added is the last
pub last_asked : (old new : Option Names) (name : List ℕ) → AsksFor old new name → ForSome new (λ names. IsLast name names)
last_asked old None name asked names known = absurd (cc)
last_asked None (Some now) name asked names known = absurd (cc)
last_asked (Some before) (Some now) name asked names known = let same : names ≡ before ++ name ∷ [] = cc in (before, same)

-- the file of the name is missing, and each other is there or not as before
pub is_missing : (name : List ℕ) (files : Contents) → without name files name ≡ None
is_missing name files = ap (λ b. cond b None (files name)) ((bytes_eq-Decides name name).1 refl)

missing_or_same : (name other : List ℕ) (files : Contents) → (without name files other ≡ None) ⊎ (without name files other ≡ files other)
missing_or_same name other files = by (bytes_eq other name)
  where
    by : (b : Bool) → (cond b None (files other) ≡ None) ⊎ (cond b None (files other) ≡ files other)
    by true = inl refl
    by false = inr refl

-- behind a step that reads one file, and went on: no answer behind it is none of both
pub behind : {A : Type 0} (step : Option (List ℕ) → (A → Option Answer) → Option Answer) (other name : List ℕ) (files : Contents) (a : A) (go : A → Option Answer)
    → step None go ≡ None → ((go : A → Option Answer) → step (files other) go ≡ go a) → go a ≡ None → step (without name files other) go ≡ None
behind step other name files a go none goes last = by (missing_or_same name other files)
  where
    by : (without name files other ≡ None) ⊎ (without name files other ≡ files other) → step (without name files other) go ≡ None
    by (inl missing) = ap (λ file. step file go) missing ∙ none
    by (inr same) = ap (λ file. step file go) same ∙ goes go ∙ last

-- the steps that read one file: of a call of a role on the state in an image, and on the spelling of a state
abbrev pub inputs_step : FueledRole → (argument : List ℕ) → Option (List ℕ) → (IdealCall → Option Answer) → Option Answer
inputs_step r argument file go =
    with_image_file r.program.digested file (λ s. with_passed r argument (λ a. go (record { role = r; state = s; argument = a })))

abbrev pub call_step : FueledRole → (argument : List ℕ) → Option (List ℕ) → (RoleCall → Option Answer) → Option Answer
call_step r argument file go = with_state_file (program_called r) file (λ s. with_passed r argument (λ a. go (record { role = r; state = s; argument = spelling a })))

-- what halts a step that reads one file, which the answer needs
halt_at : (answer : Contents → Option Answer) (name : List ℕ) (contents : Option Contents) (asked : Option Names) (halt : Halt) → ForSome contents (λ files. answer (without name files) ≡ None)
    → HaltsAt name asked halt → HaltsAtReached answer contents asked halt
halt_at answer name contents asked Usage needs faults = tt
halt_at answer name contents asked (Refused what) needs faults = tt
halt_at answer name contents asked ReadFault needs faults = λ files known names told. (name, faults names told, needs files known)
halt_at answer name contents asked NoMemory needs faults = tt

pub faults_reached : {U : Type 0} (answer : Contents → Option Answer) (name : List ℕ) (contents : Option Contents) (asked : Option Names) (halt : Halt) (result : Result U Halt) → result ≡ Err halt
    → ForSome contents (λ files. answer (without name files) ≡ None) → HaltsAt name asked halt → FaultsAtReached answer contents asked result
faults_reached answer name contents asked halt result is needs faults = subst (FaultsAtReached answer contents asked) (sym is) (halt_at answer name contents asked halt needs faults)

pub at_reached : {U : Type 0} (answer : Contents → Option Answer) (name : List ℕ) (contents : Option Contents) (asked : Option Names) (result : Result U Halt)
    → ForSome contents (λ files. answer (without name files) ≡ None) → FaultsAt name asked result → FaultsAtReached answer contents asked result
at_reached answer name contents asked (Ok t) needs faults = tt
at_reached answer name contents asked (Err halt) needs faults = halt_at answer name contents asked halt needs faults

-- the same of an answer that is another one for all files
pub reached_as : {U : Type 0} (answer other : Contents → Option Answer) (contents : Option Contents) (asked : Option Names) (result : Result U Halt)
    → ((files : Contents) → answer files ≡ other files) → FaultsAtReached other contents asked result → FaultsAtReached answer contents asked result
reached_as answer other contents asked (Ok t) same faults = tt
reached_as answer other contents asked (Err Usage) same faults = tt
reached_as answer other contents asked (Err (Refused what)) same faults = tt
reached_as answer other contents asked (Err ReadFault) same reached =
    λ files known names told. let last = reached files known names told in (last.0, last.1, same (without last.0 files) ∙ last.2)
reached_as answer other contents asked (Err NoMemory) same faults = tt

-- and of what it halts
pub same_fault : {U : Type 0} (answer other : Contents → Option Answer) (contents : Option Contents) (asked : Option Names) (halt : Halt) (result : Result U Halt) → result ≡ Err halt
    → ((files : Contents) → answer files ≡ other files) → HaltsAtReached other contents asked halt → FaultsAtReached answer contents asked result
same_fault answer other contents asked halt result is same faults = subst (FaultsAtReached answer contents asked) (sym is) (reached_as {U = ℕ} answer other contents asked (Err halt) same faults)

-- whatever is found behind the last file, where it may fail at each of its reads
pub any_reached : {U : Type 0} (answer : Contents → Option Answer) (name : List ℕ) (contents : Option Contents) (asked : Option Names) (result : Result U Halt)
    → ForSome contents (λ files. answer (without name files) ≡ None) → ForSome asked (λ names. IsLast name names) → FaultsAtReached answer contents asked result
any_reached answer name contents asked (Ok t) needs last = tt
any_reached answer name contents asked (Err Usage) needs last = tt
any_reached answer name contents asked (Err (Refused what)) needs last = tt
any_reached answer name contents asked (Err ReadFault) needs last = λ files known names told. (name, last names told, needs files known)
any_reached answer name contents asked (Err NoMemory) needs last = tt

-- what halts a step on what is in hand is no read fault
hand_halt : {A T : Type 0} (step : (A → Option Answer) → Option Answer) (value : T → A) (answer : Contents → Option Answer) (contents : Option Contents) (asked : Option Names) (halt : Halt)
    → InHand (StepGives step value) (Err halt) → HaltsAtReached answer contents asked halt
hand_halt step value answer contents asked Usage goes = tt
hand_halt step value answer contents asked (Refused what) goes = tt
hand_halt step value answer contents asked ReadFault goes = absurd goes
hand_halt step value answer contents asked NoMemory goes = tt

pub hand_reached : {A T U : Type 0} (step : (A → Option Answer) → Option Answer) (value : T → A) (answer : Contents → Option Answer) (contents : Option Contents) (asked : Option Names) (halt : Halt) (result : Result U Halt)
    → result ≡ Err halt → InHand (StepGives step value) (Err halt) → FaultsAtReached answer contents asked result
hand_reached step value answer contents asked halt result is goes = subst (FaultsAtReached answer contents asked) (sym is) (hand_halt step value answer contents asked halt goes)

-- nor is what is found in hand
pub found_reached : (in_hand : Answer) (answer : Contents → Option Answer) (contents : Option Contents) (asked : Option Names) (result : Found) → WithoutFiles (Finds (Some in_hand)) result → FaultsAtReached answer contents asked result
found_reached in_hand answer contents asked (Ok report) finds = tt
found_reached in_hand answer contents asked (Err Usage) finds = tt
found_reached in_hand answer contents asked (Err (Refused what)) finds = tt
found_reached in_hand answer contents asked (Err ReadFault) finds = absurd finds
found_reached in_hand answer contents asked (Err NoMemory) finds = tt

pub output_reached : (name : List ℕ) (in_hand : Option Answer) (answer : Contents → Option Answer) (contents : Option Contents) (asked : Option Names) (result : Result Output Halt)
    → InHand (FindsOutput name in_hand) result → FaultsAtReached answer contents asked result
output_reached name in_hand answer contents asked (Ok output) finds = tt
output_reached name in_hand answer contents asked (Err Usage) finds = tt
output_reached name in_hand answer contents asked (Err (Refused what)) finds = tt
output_reached name in_hand answer contents asked (Err ReadFault) finds = absurd finds
output_reached name in_hand answer contents asked (Err NoMemory) finds = tt

-- ---- how it is told

module _ (answer : Contents → Option Answer) (contents : Option Contents) (asked : Option Names) where
  halt_reached : (halt : Halt) → halt_status halt ≡ status.ReadFault → HaltsAtReached answer contents asked halt → IsReached answer contents asked
  halt_reached Usage is faults = absurd (cc)
  halt_reached (Refused (refusal.Program kind line column)) is faults = absurd (cc)
  halt_reached (Refused (refusal.Object kind)) is faults = absurd (cc)
  halt_reached (Refused (refusal.Input fault)) is faults = absurd (cc)
  halt_reached (Refused (refusal.Proof why)) is faults = absurd (cc)
  halt_reached ReadFault is faults = faults
  halt_reached NoMemory is faults = absurd (cc)

  no_ending : (e : Ending) → ending_status e ≡ status.ReadFault → ⊥
  no_ending ending.Done is = absurd (cc)
  no_ending ending.Trap is = absurd (cc)
  no_ending ending.OutOfFuel is = absurd (cc)
  no_ending ending.Collision is = absurd (cc)

  of_found : (found : Found) → status_of found ≡ status.ReadFault → FaultsAtReached answer contents asked found → IsReached answer contents asked
  of_found (Ok report) is faults = absurd (no_ending report.ending is)
  of_found (Err halt) is faults = halt_reached halt is faults

  apart : (A : Type 0) (ended : Status) → ended ≡ status.WriteFault → ended ≡ status.ReadFault → A
  apart A ended writes reads = absurd (cc)

  no_memory : (A : Type 0) (ended : Status) → ended ≡ status.NoMemory → ended ≡ status.ReadFault → A
  no_memory A ended memory reads = absurd (cc)

  pub told_reached : (found : Found) (ended : Status) (old new : Option (List ℕ)) (before now : ℕ) → Tells found ended old new before now → FaultsAtReached answer contents asked found
      → ended ≡ status.ReadFault → IsReached answer contents asked
  told_reached found ended old new before now (inl (inl told)) faults is = of_found found (sym told.0 ∙ is) faults
  told_reached found ended old new before now (inl (inr told)) faults is = apart _ ended told.0 is
  told_reached found ended old new before now (inr (inl told)) faults is = no_memory _ ended told.0 is
  told_reached found ended old new before now (inr (inr told)) faults is = apart _ ended told.0 is

  pub stored_reached : (name : List ℕ) (found : Result Output Halt) (ended : Status) (stores stores' : Option Stores) (store_faults store_faults' : ℕ) (old new : Option (List ℕ)) (before now : ℕ)
      → StoresAndTells name found ended stores stores' store_faults store_faults' old new before now → FaultsAtReached answer contents asked found → ended ≡ status.ReadFault → IsReached answer contents asked
  stored_reached name (Err halt) ended stores stores' store_faults store_faults' old new before now told faults is = told_reached (Err halt) ended old new before now told.2 faults is
  stored_reached name (Ok output) ended stores stores' store_faults store_faults' old new before now (listed, inl failed) faults is = apart _ ended failed.0 is
  stored_reached name (Ok output) ended stores stores' store_faults store_faults' old new before now (listed, inr told) faults is = told_reached (Ok output.report) ended old new before now told.1 tt is

-- of refused words, or where memory was wanting for them, nothing was read
pub refused_reached : (answer : Contents → Option Answer) (contents : Option Contents) (asked : Option Names) (halt : Halt) (ended : Status) (old new : Option (List ℕ)) (before now : ℕ)
    → HaltsAtReached answer contents asked halt → Tells (Err halt) ended old new before now → ended ≡ status.ReadFault → IsReached answer contents asked
refused_reached answer contents asked halt ended old new before now faults told is = told_reached answer contents asked (Err halt) ended old new before now told faults is

-- a status with the number 8 is that of a read fault
pub read_fault_of_code : (ended : Status) → code ended ≡ 8 → ended ≡ status.ReadFault
read_fault_of_code status.ReadFault is = refl
read_fault_of_code status.Done is = absurd (omega arith)
read_fault_of_code status.Usage is = absurd (omega arith)
read_fault_of_code status.Trap is = absurd (omega arith)
read_fault_of_code status.OutOfFuel is = absurd (omega arith)
read_fault_of_code status.Rejected is = absurd (omega arith)
read_fault_of_code status.ProgramRefused is = absurd (omega arith)
read_fault_of_code status.InputRefused is = absurd (omega arith)
read_fault_of_code status.WriteFault is = absurd (omega arith)
read_fault_of_code status.NoMemory is = absurd (omega arith)
read_fault_of_code status.Collision is = absurd (omega arith)
