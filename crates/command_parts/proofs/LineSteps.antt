-- Work on what is in hand that is told in several lines: its steps, put together, and how the run ends.
use Rattle.std.proofs.Common.{◌≡◌, ℕ, List, [], Option, None, Result, Ok, Err, IfOk, refl, sym, ◌∙◌, subst, inr}
use Rattle.lam_outside.specs.Told.{Stores}
use Rattle.command_words.specs.declared.command.Command.{Command}
use Rattle.printed_lines.specs.declared.refusal.Refusal.TheVariants as refusal
use Rattle.command_parts.specs.AnswerForms.{Answer}
use Rattle.command_parts.specs.EndingInCode.{EndsOnSink, with_sink}
use Rattle.command_parts.specs.Halting.{FindsLines, Found, StepGives, StepGivesFor, InHand, JudgementCause, ending_status, status_of}
use Rattle.command_parts.specs.SoundPrograms.{IsOutcome}
use Rattle.command_parts.specs.Statuses.{MayAnswer, ReadsAProgram, RunsAFunction}
use Rattle.command_parts.specs.Storing.{FindsOutput, StoresAndTells}
use Rattle.command_parts.specs.TellingInCode.{Tells}
use Rattle.command_parts.specs.declared.report.Halt.{Halt}
use Rattle.command_parts.specs.declared.report.Halt.TheVariants.{Usage, Refused, ReadFault, NoMemory}
use Rattle.command_parts.specs.declared.report.Output.{Output}
use Rattle.command_parts.specs.declared.status.Status.{Status}
use Rattle.command_parts.proofs.Ends.{adds_none}
use Rattle.command_parts.proofs.EndsStored.{ends_judged}
use Rattle.command_parts.proofs.Possible.{outcome_possible}

-- ---- steps

-- what halts the first of two steps halts both
module _ {A B S T : Type 0} (first : (A → Option Answer) → Option Answer) (next : A → (B → Option Answer) → Option Answer) (value : S → A) (behind : T → B) where
  halts : (halt : Halt) → InHand (StepGives first value) (Err halt) → InHand (StepGives (λ go. first (λ a. next a go)) behind) (Err halt)
  halts Usage goes = goes
  halts (Refused (refusal.Program kind line column)) goes = λ go. goes (λ a. next a go)
  halts (Refused (refusal.Object kind)) goes = λ go. goes (λ a. next a go)
  halts (Refused (refusal.Input fault)) goes = λ go. goes (λ a. next a go)
  halts (Refused (refusal.Proof cause)) goes = goes
  halts ReadFault goes = goes
  halts NoMemory goes = λ go. tt

  pub first_halts : (result : Result T Halt) (halt : Halt) → result ≡ Err halt → InHand (StepGives first value) (Err halt) → InHand (StepGives (λ go. first (λ a. next a go)) behind) result
  first_halts result halt is goes = subst (InHand (StepGives (λ go. first (λ a. next a go)) behind)) (sym is) (halts halt goes)

-- another step, which goes on in the same way
module _ {A T : Type 0} (step other : (A → Option Answer) → Option Answer) (value : T → A) (same : (go : A → Option Answer) → other go ≡ step go) where
  pub goes_as : (result : Result T Halt) → InHand (StepGives step value) result → InHand (StepGives other value) result
  goes_as (Ok t) goes = λ go. same go ∙ goes go
  goes_as (Err Usage) goes = goes
  goes_as (Err (Refused (refusal.Program kind line column))) goes = λ go. same go ∙ goes go
  goes_as (Err (Refused (refusal.Object kind))) goes = λ go. same go ∙ goes go
  goes_as (Err (Refused (refusal.Input fault))) goes = λ go. same go ∙ goes go
  goes_as (Err (Refused (refusal.Proof cause))) goes = goes
  goes_as (Err ReadFault) goes = goes
  goes_as (Err NoMemory) goes = λ go. tt

-- what halts a step halts the work
pub unfound : {A T : Type 0} (step : (A → Option Answer) → Option Answer) (value : T → A) (go : A → Option Answer) (result : Found) (halt : Halt)
    → result ≡ Err halt → InHand (StepGives step value) (Err halt) → InHand (FindsLines (step go)) result
unfound step value go result halt is goes = subst (InHand (FindsLines (step go))) (sym is) (by halt goes)
  where
    by : (halt : Halt) → InHand (StepGives step value) (Err halt) → InHand (FindsLines (step go)) (Err halt)
    by Usage goes = goes
    by (Refused (refusal.Program kind line column)) goes = goes go
    by (Refused (refusal.Object kind)) goes = goes go
    by (Refused (refusal.Input fault)) goes = goes go
    by (Refused (refusal.Proof cause)) goes = goes
    by ReadFault goes = goes
    by NoMemory goes = tt

pub unfound_for : {A T : Type 0} (step : (A → Option Answer) → Option Answer) (Stands : T → A → Type 0) (go : A → Option Answer) (result : Found) (halt : Halt)
    → result ≡ Err halt → InHand (StepGivesFor step Stands) (Err halt) → InHand (FindsLines (step go)) result
unfound_for step Stands go result halt is goes = subst (InHand (FindsLines (step go))) (sym is) (by halt goes)
  where
    by : (halt : Halt) → InHand (StepGivesFor step Stands) (Err halt) → InHand (FindsLines (step go)) (Err halt)
    by Usage goes = goes
    by (Refused (refusal.Program kind line column)) goes = goes go
    by (Refused (refusal.Object kind)) goes = goes go
    by (Refused (refusal.Input fault)) goes = goes go
    by (Refused (refusal.Proof cause)) goes = goes
    by ReadFault goes = goes
    by NoMemory goes = tt

-- what is found behind steps that went on
pub found_as : (answer behind : Option Answer) (result : Found) → answer ≡ behind → InHand (FindsLines behind) result → InHand (FindsLines answer) result
found_as answer behind result same finds = subst (λ a. InHand (FindsLines a) result) (sym same) finds

-- ---- the run

pub hand_possible : (command : Command) (Says : Found → Type 0) (found : Found) → RunsAFunction command → ReadsAProgram command → InHand Says found
    → IfOk found (λ report. IsOutcome (ending_status report.ending)) → MayAnswer command (status_of found)
hand_possible command Says (Ok report) runs program finds ending = outcome_possible command runs (ending_status report.ending) ending
hand_possible command Says (Err Usage) runs program finds ending = finds
hand_possible command Says (Err (Refused (refusal.Program kind line column))) runs program finds ending = program
hand_possible command Says (Err (Refused (refusal.Object kind))) runs program finds ending = program
hand_possible command Says (Err (Refused (refusal.Input fault))) runs program finds ending = tt
hand_possible command Says (Err (Refused (refusal.Proof cause))) runs program finds ending = absurd finds
hand_possible command Says (Err ReadFault) runs program finds ending = absurd finds
hand_possible command Says (Err NoMemory) runs program finds ending = tt

-- a report as an output with no file
abbrev as_output : Found → Result Output Halt
as_output (Ok report) = Ok (record { report = report; file = None })
as_output (Err halt) = Err halt

module _ (answer : Option Answer) where
  output_found : (found : Found) → InHand (FindsLines answer) found → FindsOutput [] answer (as_output found)
  output_found (Ok report) finds = (finds.0, finds.1, record { status = finds.2.status; lines = finds.2.lines; stored = finds.2.stored })
  output_found (Err Usage) finds = absurd finds
  output_found (Err (Refused (refusal.Program kind line column))) finds = finds
  output_found (Err (Refused (refusal.Object kind))) finds = finds
  output_found (Err (Refused (refusal.Input fault))) finds = finds
  output_found (Err (Refused (refusal.Proof cause))) finds = absurd finds
  output_found (Err ReadFault) finds = absurd finds
  output_found (Err NoMemory) finds = finds

  output_cause : (found : Found) (faults : ℕ) → InHand (FindsLines answer) found → JudgementCause faults faults (as_output found)
  output_cause (Ok report) faults finds = refl
  output_cause (Err Usage) faults finds = absurd finds
  output_cause (Err (Refused (refusal.Program kind line column))) faults finds = refl
  output_cause (Err (Refused (refusal.Object kind))) faults finds = refl
  output_cause (Err (Refused (refusal.Input fault))) faults finds = refl
  output_cause (Err (Refused (refusal.Proof cause))) faults finds = absurd finds
  output_cause (Err ReadFault) faults finds = absurd finds
  output_cause (Err NoMemory) faults finds = refl

  output_told : (found : Found) (ended : Status) (stores : Option Stores) (store_faults : ℕ) (old new : Option (List ℕ)) (before now : ℕ)
      → Tells found ended old new before now → StoresAndTells [] (as_output found) ended stores stores store_faults store_faults old new before now
  output_told (Ok report) ended stores store_faults old new before now told = (adds_none stores stores refl, inr (refl, told))
  output_told (Err halt) ended stores store_faults old new before now told = (refl, refl, told)

  pub lines_on_sink : (found : Found) (ended : Status) (old new : Option (List ℕ)) (before now : ℕ) → InHand (FindsLines answer) found
      → Tells found ended old new before now → EndsOnSink (λ files. answer) old new before now ended
  lines_on_sink found ended old new before now finds told = λ seen.
      ends_judged (λ files. answer) (with_sink seen old before) (with_sink seen new now) [] (as_output found) ended seen.read_faults seen.stores seen.store_faults
      (λ files known. output_found found finds) (output_cause found seen.read_faults finds) refl refl refl
      (output_told found ended seen.stores seen.store_faults old new before now told)
