-- The steps of a call of a role, put together: what is in hand, what a file may halt, and what is found.
use Rattle.std.proofs.Common.{◌≡◌, ℕ, List, Option, Some, Result, Ok, Err, refl, sym, ◌∙◌, subst}
use Rattle.lam_outside.specs.Told.{Contents, Names}
use Rattle.printed_lines.specs.declared.refusal.Refusal.TheVariants as refusal
use Rattle.command_parts.specs.FileInputs.{with_program_file}
use Rattle.command_parts.specs.AnswerForms.{Answer}
use Rattle.command_parts.specs.FueledRoles.{NamedProgram}
use Rattle.command_parts.specs.Halting.{StepGives, StepGivesFor, HaltCause, HaltsAs, InHand}
use Rattle.command_parts.specs.Reaching.{IsReached, without}
use Rattle.command_parts.specs.ReachingInCode.{FaultsAtReached, HaltsAtReached}
use Rattle.command_parts.specs.Storing.{FindsOutput}
use Rattle.command_parts.specs.declared.report.Halt.{Halt}
use Rattle.command_parts.specs.declared.report.Halt.TheVariants.{Usage, Refused, ReadFault, NoMemory}
use Rattle.command_parts.specs.declared.report.Output.{Output}
use Rattle.command_parts.proofs.Reached.{behind}

-- what work on what is in hand may be halted by
abbrev IsInHand : Halt → Type 0
IsInHand Usage = ⊥
IsInHand (Refused (refusal.Proof cause)) = ⊥
IsInHand ReadFault = ⊥
IsInHand halt = Unit {0}

module _ {A T : Type 0} (step : (A → Option Answer) → Option Answer) (Stands : T → A → Type 0) where
  -- the halts of such work
  pub in_hand : (halt : Halt) → IsInHand halt → ((go : A → Option Answer) → HaltsAs (step go) halt) → InHand (StepGivesFor step Stands) (Err halt)
  in_hand Usage is halts = is
  in_hand (Refused (refusal.Program kind line column)) is halts = halts
  in_hand (Refused (refusal.Object kind)) is halts = halts
  in_hand (Refused (refusal.Input fault)) is halts = halts
  in_hand (Refused (refusal.Proof cause)) is halts = is
  in_hand ReadFault is halts = is
  in_hand NoMemory is halts = halts

  pub halts_in_hand : (halt : Halt) → InHand (StepGivesFor step Stands) (Err halt) → IsInHand halt × ((go : A → Option Answer) → HaltsAs (step go) halt)
  halts_in_hand Usage goes = absurd goes
  halts_in_hand (Refused (refusal.Program kind line column)) goes = (tt, goes)
  halts_in_hand (Refused (refusal.Object kind)) goes = (tt, goes)
  halts_in_hand (Refused (refusal.Input fault)) goes = (tt, goes)
  halts_in_hand (Refused (refusal.Proof cause)) goes = absurd goes
  halts_in_hand ReadFault goes = absurd goes
  halts_in_hand NoMemory goes = (tt, goes)

  pub for_files : (result : Result T Halt) → InHand (StepGivesFor step Stands) result → StepGivesFor step Stands result
  for_files (Ok t) goes = goes
  for_files (Err halt) goes = (halts_in_hand halt goes).1

  -- what halts it is no fault of the outside
  pub cause_in_hand : (before now : ℕ) (result : Result T Halt) → InHand (StepGivesFor step Stands) result → now ≡ before → HaltCause before now result
  cause_in_hand before now (Ok t) goes same = same
  cause_in_hand before now (Err Usage) goes same = absurd goes
  cause_in_hand before now (Err (Refused (refusal.Program kind line column))) goes same = same
  cause_in_hand before now (Err (Refused (refusal.Object kind))) goes same = same
  cause_in_hand before now (Err (Refused (refusal.Input fault))) goes same = same
  cause_in_hand before now (Err (Refused (refusal.Proof cause))) goes same = absurd goes
  cause_in_hand before now (Err ReadFault) goes same = absurd goes
  cause_in_hand before now (Err NoMemory) goes same = same

  pub reached_in_hand : (answer : Contents → Option Answer) (contents : Option Contents) (asked : Option Names) (result : Result T Halt) → InHand (StepGivesFor step Stands) result
      → FaultsAtReached answer contents asked result
  reached_in_hand answer contents asked (Ok t) goes = tt
  reached_in_hand answer contents asked (Err Usage) goes = absurd goes
  reached_in_hand answer contents asked (Err (Refused what)) goes = tt
  reached_in_hand answer contents asked (Err ReadFault) goes = absurd goes
  reached_in_hand answer contents asked (Err NoMemory) goes = tt

  -- another step, which goes on in the same way
  module _ (other : (A → Option Answer) → Option Answer) (same : (go : A → Option Answer) → other go ≡ step go) where
    pub same_in_hand : (result : Result T Halt) → InHand (StepGivesFor step Stands) result → InHand (StepGivesFor other Stands) result
    same_in_hand (Ok t) goes = (goes.0, (λ go. same go ∙ goes.1 go), goes.2)
    same_in_hand (Err Usage) goes = goes
    same_in_hand (Err (Refused (refusal.Program kind line column))) goes = λ go. same go ∙ goes go
    same_in_hand (Err (Refused (refusal.Object kind))) goes = λ go. same go ∙ goes go
    same_in_hand (Err (Refused (refusal.Input fault))) goes = λ go. same go ∙ goes go
    same_in_hand (Err (Refused (refusal.Proof cause))) goes = goes
    same_in_hand (Err ReadFault) goes = goes
    same_in_hand (Err NoMemory) goes = λ go. tt

-- what halts the first of two steps halts both
module _ {A B S T : Type 0} (first : (A → Option Answer) → Option Answer) (next : A → (B → Option Answer) → Option Answer) (value : S → A) (Stands : T → B → Type 0) where
  hand_halt_for : (halt : Halt) → InHand (StepGives first value) (Err halt) → InHand (StepGivesFor (λ go. first (λ a. next a go)) Stands) (Err halt)
  hand_halt_for Usage goes = goes
  hand_halt_for (Refused (refusal.Program kind line column)) goes = λ go. goes (λ a. next a go)
  hand_halt_for (Refused (refusal.Object kind)) goes = λ go. goes (λ a. next a go)
  hand_halt_for (Refused (refusal.Input fault)) goes = λ go. goes (λ a. next a go)
  hand_halt_for (Refused (refusal.Proof cause)) goes = goes
  hand_halt_for ReadFault goes = goes
  hand_halt_for NoMemory goes = λ go. tt

  pub hand_first : (result : Result T Halt) (halt : Halt) → result ≡ Err halt → InHand (StepGives first value) (Err halt) → InHand (StepGivesFor (λ go. first (λ a. next a go)) Stands) result
  hand_first result halt is goes = subst (InHand (StepGivesFor (λ go. first (λ a. next a go)) Stands)) (sym is) (hand_halt_for halt goes)

-- the same where the first gives what stands for a value
pub put_first : {A B S T : Type 0} (first : (A → Option Answer) → Option Answer) (next : A → (B → Option Answer) → Option Answer) (Put : S → A → Type 0) (Stands : T → B → Type 0)
    (result : Result T Halt) (halt : Halt) → result ≡ Err halt → InHand (StepGivesFor first Put) (Err halt) → InHand (StepGivesFor (λ go. first (λ a. next a go)) Stands) result
put_first first next Put Stands result halt is goes =
    let halts = halts_in_hand first Put halt goes in
    subst (InHand (StepGivesFor (λ go. first (λ a. next a go)) Stands)) (sym is) (in_hand (λ go. first (λ a. next a go)) Stands halt halts.0 (λ go. halts.1 (λ a. next a go)))

-- what halts a step halts the work
pub halts_for : {A T : Type 0} (step : (A → Option Answer) → Option Answer) (Stands : T → A → Type 0) (result : Result T Halt) (halt : Halt) → result ≡ Err halt
    → ((go : A → Option Answer) → HaltsAs (step go) halt) → StepGivesFor step Stands result
halts_for step Stands result halt is halts = subst (StepGivesFor step Stands) (sym is) halts

-- and the output is not found
pub hand_unfound : {A T : Type 0} (name : List ℕ) (step : (A → Option Answer) → Option Answer) (Stands : T → A → Type 0) (go : A → Option Answer) (result : Result Output Halt) (halt : Halt)
    → result ≡ Err halt → InHand (StepGivesFor step Stands) (Err halt) → InHand (FindsOutput name (step go)) result
hand_unfound name step Stands go result halt is goes = subst (InHand (FindsOutput name (step go))) (sym is) (by halt goes)
  where
    by : (halt : Halt) → InHand (StepGivesFor step Stands) (Err halt) → InHand (FindsOutput name (step go)) (Err halt)
    by Usage goes = goes
    by (Refused (refusal.Program kind line column)) goes = goes go
    by (Refused (refusal.Object kind)) goes = goes go
    by (Refused (refusal.Input fault)) goes = goes go
    by (Refused (refusal.Proof cause)) goes = goes
    by ReadFault goes = goes
    by NoMemory goes = tt

-- the file of a read fault, where one halt stands for another's work
pub same_reached : {U : Type 0} (answer : Contents → Option Answer) (contents : Option Contents) (asked : Option Names) (halt : Halt) (result : Result U Halt) → result ≡ Err halt
    → HaltsAtReached answer contents asked halt → FaultsAtReached answer contents asked result
same_reached answer contents asked halt result is faults = subst (FaultsAtReached answer contents asked) (sym is) faults

-- behind the program that a file has
module _ (program : List ℕ) (next : NamedProgram → Contents → Option Answer) (contents : Option Contents) (asked : Option Names) (p : NamedProgram)
    (goes : (files : Contents) → contents ≡ Some files → (go : NamedProgram → Option Answer) → with_program_file (files program) go ≡ go p) where
  abbrev whole : Contents → Option Answer
  whole files = with_program_file (files program) (λ p. next p files)

  is_reached : IsReached (next p) contents asked → IsReached whole contents asked
  is_reached reached = λ files known names told. let last = reached files known names told in (
    last.0,
    last.1,
    behind with_program_file program last.0 files p (λ p. next p (without last.0 files)) refl (goes files known) last.2,
  )

  pub program_reached : {T : Type 0} (later : Option Contents) (result : Result T Halt) → later ≡ contents → FaultsAtReached (next p) later asked result → FaultsAtReached whole contents asked result
  program_reached later (Ok t) same faults = tt
  program_reached later (Err Usage) same faults = tt
  program_reached later (Err (Refused what)) same faults = tt
  program_reached later (Err ReadFault) same faults = is_reached (subst (λ contents. IsReached (next p) contents asked) same faults)
  program_reached later (Err NoMemory) same faults = tt
