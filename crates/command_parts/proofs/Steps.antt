-- The steps of a command's work, put together.
use Rattle.std.proofs.Common.{◌≡◌, ℕ, List, [], Option, Some, Result, Ok, Err, IsErrAnd, sym, ap, ◌∙◌, subst}
use Rattle.core_terms.specs.Values.{Value}
use Rattle.images.specs.Images.{Root, image_of}
use Rattle.images.specs.Images as images
use Rattle.images.specs.Loads.{TellsFault}
use Rattle.images.specs.declared.fault.ImageFault.{ImageFault}
use Rattle.images.specs.declared.fault.ImageFault.TheVariants as image_fault
use Rattle.printed_lines.specs.declared.refusal.Refusal.TheVariants as refusal
use Rattle.command_parts.specs.FileInputs.{image_read, with_image, with_root}
use Rattle.command_parts.specs.AnswerForms.{Answer}
use Rattle.command_parts.specs.FueledRoles.{DigestedProgram}
use Rattle.command_parts.specs.Halting.{Finds, Found, StepGives, StepGivesFor, HaltCause, HaltsAs, InHand, WithoutFiles, of_image_fault}
use Rattle.command_parts.specs.Storing.{FindsOutput}
use Rattle.command_parts.specs.declared.report.Halt.{Halt}
use Rattle.command_parts.specs.declared.report.Halt.TheVariants.{Usage, Refused, ReadFault, NoMemory}
use Rattle.command_parts.specs.declared.report.Output.{Output}

-- a step that halts
pub halted : {A T : Type 0} (step : (A → Option Answer) → Option Answer) (value : T → A) (result : Result T Halt) (halt : Halt)
    → result ≡ Err halt → ((go : A → Option Answer) → HaltsAs (step go) halt) → StepGives step value result
halted step value (Ok t) halt is halts = absurd (cc)
halted step value (Err other) halt is halts = λ go. let same : halt ≡ other = cc in subst (λ h. HaltsAs (step go) h) same (halts go)

-- the same step, where the answer goes on with less
pub goes_on_as : {A B T : Type 0} (step : (A → Option Answer) → Option Answer) (part : A → B) (value : T → A) (result : Result T Halt)
    → StepGives step value result → StepGives (λ go. step (λ a. go (part a))) (λ t. part (value t)) result
goes_on_as step part value (Ok t) goes = λ go. goes (λ a. go (part a))
goes_on_as step part value (Err halt) goes = λ go. goes (λ a. go (part a))

-- what halts the first of two steps halts both
pub halts_first : {A B T : Type 0} (first : (A → Option Answer) → Option Answer) (next : A → (B → Option Answer) → Option Answer) (value : T → B) (result : Result T Halt) (halt : Halt)
    → result ≡ Err halt → ((go : A → Option Answer) → HaltsAs (first go) halt) → StepGives (λ go. first (λ a. next a go)) value result
halts_first first next value result halt is halts = halted (λ go. first (λ a. next a go)) value result halt is (λ go. halts (λ a. next a go))

-- an answer that comes to a halt
pub halts_behind : (answer behind : Option Answer) (halt : Halt) → answer ≡ behind → HaltsAs behind halt → HaltsAs answer halt
halts_behind answer behind halt same halts = subst (λ a. HaltsAs a halt) (sym same) halts

-- what halts the first of two steps halts both, where what is given stands for a value
pub halts_first_for : {A B T : Type 0} (first : (A → Option Answer) → Option Answer) (next : A → (B → Option Answer) → Option Answer) (Stands : T → B → Type 0) (result : Result T Halt) (halt : Halt)
    → result ≡ Err halt → ((go : A → Option Answer) → HaltsAs (first go) halt) → StepGivesFor (λ go. first (λ a. next a go)) Stands result
halts_first_for first next Stands (Ok t) halt is halts = absurd (cc)
halts_first_for first next Stands (Err other) halt is halts =
    λ go. let same : halt ≡ other = cc in subst (λ h. HaltsAs (first (λ a. next a go)) h) same (halts (λ a. next a go))

-- a step on what is in hand, behind one that goes on with it
pub goes_behind : {A B T : Type 0} (first : (A → Option Answer) → Option Answer) (a : A) (next : A → (B → Option Answer) → Option Answer) (Stands : T → B → Type 0) (result : Result T Halt)
    → ((go : A → Option Answer) → first go ≡ go a) → InHand (StepGivesFor (next a) Stands) result → StepGivesFor (λ go. first (λ a. next a go)) Stands result
goes_behind first a next Stands (Ok t) is goes = (goes.0, (λ go. is (λ a. next a go) ∙ goes.1 go), goes.2)
goes_behind first a next Stands (Err Usage) is goes = absurd goes
goes_behind first a next Stands (Err (Refused (refusal.Program kind line column))) is goes = λ go. halts_behind _ _ (Refused (refusal.Program kind line column)) (is (λ a. next a go)) (goes go)
goes_behind first a next Stands (Err (Refused (refusal.Object kind))) is goes = λ go. halts_behind _ _ (Refused (refusal.Object kind)) (is (λ a. next a go)) (goes go)
goes_behind first a next Stands (Err (Refused (refusal.Input fault))) is goes = λ go. halts_behind _ _ (Refused (refusal.Input fault)) (is (λ a. next a go)) (goes go)
goes_behind first a next Stands (Err (Refused (refusal.Proof cause))) is goes = absurd goes
goes_behind first a next Stands (Err ReadFault) is goes = absurd goes
goes_behind first a next Stands (Err NoMemory) is goes = λ go. tt

-- the same of a step that may read files
pub follows : {A B T : Type 0} (first : (A → Option Answer) → Option Answer) (a : A) (next : A → (B → Option Answer) → Option Answer) (Stands : T → B → Type 0) (result : Result T Halt)
    → ((go : A → Option Answer) → first go ≡ go a) → StepGivesFor (next a) Stands result → StepGivesFor (λ go. first (λ a. next a go)) Stands result
follows first a next Stands (Ok t) is goes = (goes.0, (λ go. is (λ a. next a go) ∙ goes.1 go), goes.2)
follows first a next Stands (Err halt) is goes = λ go. halts_behind _ _ halt (is (λ a. next a go)) (goes go)

-- the same where the step gives the value itself
pub follows_on : {A B T : Type 0} (first : (A → Option Answer) → Option Answer) (a : A) (next : A → (B → Option Answer) → Option Answer) (value : T → B) (result : Result T Halt)
    → ((go : A → Option Answer) → first go ≡ go a) → StepGives (next a) value result → StepGives (λ go. first (λ a. next a go)) value result
follows_on first a next value (Ok t) is goes = λ go. is (λ a. next a go) ∙ goes go
follows_on first a next value (Err halt) is goes = λ go. halts_behind _ _ halt (is (λ a. next a go)) (goes go)

-- what halts a step on what is in hand
pub hand_halts : {A T : Type 0} (step : (A → Option Answer) → Option Answer) (value : T → A) (halt : Halt) → InHand (StepGives step value) (Err halt) → (go : A → Option Answer) → HaltsAs (step go) halt
hand_halts step value Usage goes = absurd goes
hand_halts step value (Refused (refusal.Program kind line column)) goes = goes
hand_halts step value (Refused (refusal.Object kind)) goes = goes
hand_halts step value (Refused (refusal.Input fault)) goes = goes
hand_halts step value (Refused (refusal.Proof cause)) goes = absurd goes
hand_halts step value ReadFault goes = absurd goes
hand_halts step value NoMemory goes = goes

-- what halted the work is found
pub finds_halt : (answer : Option Answer) (result : Found) (halt : Halt) → result ≡ Err halt → HaltsAs answer halt → Finds answer result
finds_halt answer (Ok report) halt is halts = absurd (cc)
finds_halt answer (Err other) halt is halts = let same : halt ≡ other = cc in subst (HaltsAs answer) same halts

-- what is found of work on what is in hand is found
pub report_found : (answer : Answer) (result : Found) → WithoutFiles (Finds (Some answer)) result → Finds (Some answer) result
report_found answer (Ok report) finds = finds
report_found answer (Err Usage) finds = absurd finds
report_found answer (Err (Refused what)) finds = finds
report_found answer (Err ReadFault) finds = absurd finds
report_found answer (Err NoMemory) finds = finds

-- what halted the work of a command that may store a file is found
pub output_halt : (name : List ℕ) (answer : Option Answer) (result : Result Output Halt) (halt : Halt) → result ≡ Err halt → HaltsAs answer halt → FindsOutput name answer result
output_halt name answer (Ok output) halt is halts = absurd (cc)
output_halt name answer (Err other) halt is halts = let same : halt ≡ other = cc in subst (HaltsAs answer) same halts

-- bytes that are no image are refused
pub image_refused : {T : Type 0} (p : DigestedProgram) (bytes : List ℕ) (value : T → Value) (fault : ImageFault) (result : Result T Halt)
    → IsErrAnd result (λ halt. halt ≡ of_image_fault fault) → TellsFault (λ f. image_of p.program p.digest bytes ≡ images.Refused f) fault → InHand (StepGives (with_image p bytes) value) result
unfolding image_read
image_refused p bytes value fault (Ok t) halt is = absurd halt
image_refused p bytes value fault (Err h) halt is = subst (λ h. InHand (StepGives (with_image p bytes) value) (Err h)) (sym halt) (by fault is)
  where
    by : (fault : ImageFault) → TellsFault (λ f. image_of p.program p.digest bytes ≡ images.Refused f) fault → InHand (StepGives (with_image p bytes) value) (Err (of_image_fault fault))
    by image_fault.Magic is = λ go. ap (λ i. with_root i go) is
    by (image_fault.Cut n) is = λ go. ap (λ i. with_root i go) is
    by image_fault.OtherProgram is = λ go. ap (λ i. with_root i go) is
    by (image_fault.BadRecord n) is = λ go. ap (λ i. with_root i go) is
    by (image_fault.TooBig n) is = λ go. ap (λ i. with_root i go) is
    by (image_fault.TooDeep n) is = λ go. ap (λ i. with_root i go) is
    by image_fault.RootType is = λ go. ap (λ i. with_root i go) is
    by (image_fault.Leftover n) is = λ go. ap (λ i. with_root i go) is
    by image_fault.NoMemory is = λ go. tt

pub image_refused_for : {T : Type 0} (p : DigestedProgram) (bytes : List ℕ) (Stands : T → Value → Type 0) (fault : ImageFault) (result : Result T Halt)
    → IsErrAnd result (λ halt. halt ≡ of_image_fault fault) → TellsFault (λ f. image_of p.program p.digest bytes ≡ images.Refused f) fault → InHand (StepGivesFor (with_image p bytes) Stands) result
image_refused_for p bytes Stands fault (Ok t) halt is = absurd halt
image_refused_for p bytes Stands fault (Err h) halt is = by h (image_refused {T = Value} p bytes (λ v. v) fault (Err h) halt is)
  where
    by : (h : Halt) → InHand (StepGives {T = Value} (with_image p bytes) (λ v. v)) (Err h) → InHand (StepGivesFor (with_image p bytes) Stands) (Err h)
    by Usage goes = absurd goes
    by (Refused (refusal.Program kind line column)) goes = goes
    by (Refused (refusal.Object kind)) goes = goes
    by (Refused (refusal.Input fault)) goes = goes
    by (Refused (refusal.Proof cause)) goes = absurd goes
    by ReadFault goes = absurd goes
    by NoMemory goes = goes

-- bytes that are one are gone on with
pub image_goes : (p : DigestedProgram) (bytes : List ℕ) (v : Value) → image_of p.program p.digest bytes ≡ Root v → (go : Value → Option Answer) → with_image p bytes go ≡ go v
unfolding image_read
image_goes p bytes v is go = ap (λ i. with_root i go) is

-- what halted work on what is in hand is found
pub hand_halt : {A T : Type 0} (name : List ℕ) (step : (A → Option Answer) → Option Answer) (value : T → A) (go : A → Option Answer) (result : Result Output Halt) (halt : Halt)
    → result ≡ Err halt → InHand (StepGives step value) (Err halt) → InHand (FindsOutput name (step go)) result
hand_halt name step value go result halt is goes = subst (InHand (FindsOutput name (step go))) (sym is) (by halt goes)
  where
    by : (halt : Halt) → InHand (StepGives step value) (Err halt) → InHand (FindsOutput name (step go)) (Err halt)
    by Usage goes = absurd goes
    by (Refused (refusal.Program kind line column)) goes = goes go
    by (Refused (refusal.Object kind)) goes = goes go
    by (Refused (refusal.Input fault)) goes = goes go
    by (Refused (refusal.Proof cause)) goes = absurd goes
    by ReadFault goes = absurd goes
    by NoMemory goes = goes go

-- what is found of work on what is in hand is found
pub hand_found : (name : List ℕ) (answer : Option Answer) (result : Result Output Halt) → InHand (FindsOutput name answer) result → FindsOutput name answer result
hand_found name answer (Ok output) finds = finds
hand_found name answer (Err Usage) finds = absurd finds
hand_found name answer (Err (Refused (refusal.Program kind line column))) finds = finds
hand_found name answer (Err (Refused (refusal.Object kind))) finds = finds
hand_found name answer (Err (Refused (refusal.Input fault))) finds = finds
hand_found name answer (Err (Refused (refusal.Proof cause))) finds = absurd finds
hand_found name answer (Err ReadFault) finds = absurd finds
hand_found name answer (Err NoMemory) finds = finds

-- and no file has failed
pub hand_cause : (answer : List ℕ → Option Answer) (result : Result Output Halt) (before now : ℕ) → ((name : List ℕ) → InHand (FindsOutput name (answer name)) result) → now ≡ before → HaltCause before now result
hand_cause answer (Ok output) before now finds same = same
hand_cause answer (Err Usage) before now finds same = absurd (finds [])
hand_cause answer (Err (Refused (refusal.Program kind line column))) before now finds same = same
hand_cause answer (Err (Refused (refusal.Object kind))) before now finds same = same
hand_cause answer (Err (Refused (refusal.Input fault))) before now finds same = same
hand_cause answer (Err (Refused (refusal.Proof cause))) before now finds same = absurd (finds [])
hand_cause answer (Err ReadFault) before now finds same = absurd (finds [])
hand_cause answer (Err NoMemory) before now finds same = same
