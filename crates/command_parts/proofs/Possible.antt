-- The statuses that a command may answer, from what its work found and how that was told.
use Rattle.std.proofs.Common.{◌≡◌, inl, inr, ℕ, List, Option, Some, None, Result, Ok, Err, IfErr, IfOk, refl, sym, subst, arith}
use Rattle.command_words.specs.Invocations.{Invocation}
use Rattle.command_words.specs.declared.command.Command.{Command}
use Rattle.command_words.specs.declared.command.Command.TheVariants.{Audit}
use Rattle.lam_outside.specs.Told.{Stores}
use Rattle.printed_lines.specs.declared.refusal.Refusal.TheVariants as refusal
use Rattle.command_parts.specs.AnswerForms.{Answer}
use Rattle.command_parts.specs.Codes.{code}
use Rattle.command_parts.specs.EndingInCode.{IsOfRefused}
use Rattle.command_parts.specs.Halting.{Found, StepGives, HaltCause, InHand, JudgementCause, MayHalt, ending_status, halt_status, status_of}
use Rattle.command_parts.specs.SoundPrograms.{IsOutcome}
use Rattle.command_parts.specs.Statuses.{JudgesAProof, MayAnswer, ReadsAProgram, ReadsFiles, RunsAFunction}
use Rattle.command_parts.specs.Storing.{StoresAndTells, output_status}
use Rattle.command_parts.specs.TellingInCode.{Tells}
use Rattle.command_parts.specs.declared.report.Halt.{Halt}
use Rattle.command_parts.specs.declared.report.Halt.TheVariants.{Usage, Refused, ReadFault, NoMemory}
use Rattle.command_parts.specs.declared.report.Output.{Output}
use Rattle.command_parts.specs.declared.status.Status.{Status}
use Rattle.command_parts.specs.declared.status.Status.TheVariants as status

module _ (command : Command) where
  -- the status of an outcome, where the command runs a function
  pub outcome_possible : RunsAFunction command → (s : Status) → IsOutcome s → MayAnswer command s
  outcome_possible runs status.Done is = tt
  outcome_possible runs status.Trap is = runs
  outcome_possible runs status.OutOfFuel is = runs
  outcome_possible runs status.Usage is = absurd is
  outcome_possible runs status.Rejected is = absurd is
  outcome_possible runs status.ProgramRefused is = absurd is
  outcome_possible runs status.InputRefused is = absurd is
  outcome_possible runs status.ReadFault is = absurd is
  outcome_possible runs status.WriteFault is = absurd is
  outcome_possible runs status.NoMemory is = absurd is
  outcome_possible runs status.Collision is = absurd is

  -- how it was told
  pub told_possible : (found : Found) (ended : Status) (old new : Option (List ℕ)) (before now : ℕ) → Tells found ended old new before now → MayAnswer command (status_of found) → MayAnswer command ended
  told_possible found ended old new before now (inl (inl told)) may = subst (MayAnswer command) (sym told.0) may
  told_possible found ended old new before now (inl (inr told)) may = subst (MayAnswer command) (sym told.0) tt
  told_possible found ended old new before now (inr (inl told)) may = subst (MayAnswer command) (sym told.0) tt
  told_possible found ended old new before now (inr (inr told)) may = subst (MayAnswer command) (sym told.0) tt

  pub stored_possible : (name : List ℕ) (found : Result Output Halt) (ended : Status) (stores stores' : Option Stores) (store_faults store_faults' : ℕ) (old new : Option (List ℕ)) (before now : ℕ)
      → StoresAndTells name found ended stores stores' store_faults store_faults' old new before now → MayAnswer command (output_status found) → MayAnswer command ended
  stored_possible name (Err halt) ended stores stores' store_faults store_faults' old new before now told may = told_possible (Err halt) ended old new before now told.2 may
  stored_possible name (Ok output) ended stores stores' store_faults store_faults' old new before now (listed, inl failed) may = subst (MayAnswer command) (sym failed.0) tt
  stored_possible name (Ok output) ended stores stores' store_faults store_faults' old new before now (listed, inr told) may = told_possible (Ok output.report) ended old new before now told.1 may

  -- a run that lacks the memory for its words
  pub memory_possible : (ended : Status) (old new : Option (List ℕ)) (before now : ℕ) → Tells (Err NoMemory) ended old new before now → MayAnswer command ended
  memory_possible ended old new before now told = told_possible (Err NoMemory) ended old new before now told tt

  -- what halted the work
  pub halted_possible : (found : Found) (halt : Halt) → found ≡ Err halt → MayAnswer command (halt_status halt) → MayAnswer command (status_of found)
  halted_possible found halt is may = subst (λ (found : Found). MayAnswer command (status_of found)) (sym is) may

  -- the same of a step
  pub err_possible : {T : Type 0} (result : Result T Halt) (halt : Halt) → result ≡ Err halt → MayAnswer command (halt_status halt) → IfErr result (λ halt. MayAnswer command (halt_status halt))
  err_possible result halt is may = subst (λ result. IfErr result (λ halt. MayAnswer command (halt_status halt))) (sym is) may

no_program : status.ProgramRefused ≡ status.InputRefused → ⊥
no_program e = cc (e)

-- a step on what is in hand that refuses inputs alone
module _ {A T : Type 0} (step : (A → Option Answer) → Option Answer) (value : T → A) (inputs : (a : Answer) → step (λ x. None) ≡ Some a → a.status ≡ status.InputRefused) (command : Command) where
  pub hand_halt_possible : (halt : Halt) → InHand (StepGives step value) (Err halt) → MayAnswer command (halt_status halt)
  hand_halt_possible Usage goes = absurd goes
  hand_halt_possible (Refused (refusal.Program kind line column)) goes = absurd (no_program (inputs _ (goes (λ x. None))))
  hand_halt_possible (Refused (refusal.Object kind)) goes = absurd (no_program (inputs _ (goes (λ x. None))))
  hand_halt_possible (Refused (refusal.Input fault)) goes = tt
  hand_halt_possible (Refused (refusal.Proof why)) goes = absurd goes
  hand_halt_possible ReadFault goes = absurd goes
  hand_halt_possible NoMemory goes = tt

  pub hand_step_possible : (result : Result T Halt) → InHand (StepGives step value) result → IfErr result (λ halt. MayAnswer command (halt_status halt))
  hand_step_possible (Ok t) goes = tt
  hand_step_possible (Err halt) goes = hand_halt_possible halt goes

-- a command that reads files, and so a program
module _ (command : Command) (reads : ReadsFiles command) (program : ReadsAProgram command) where
  -- what halts the reading of files, and what halts the judging of a proof
  halt_possible : (before now : ℕ) (halt : Halt) → MayHalt before now halt → MayAnswer command (halt_status halt)
  halt_possible before now Usage cause = cause
  halt_possible before now (Refused (refusal.Program kind line column)) cause = program
  halt_possible before now (Refused (refusal.Object kind)) cause = program
  halt_possible before now (Refused (refusal.Input fault)) cause = tt
  halt_possible before now (Refused (refusal.Proof why)) cause = absurd cause
  halt_possible before now ReadFault cause = reads
  halt_possible before now NoMemory cause = tt

  -- what was found, by its report
  pub found_possible : (before now : ℕ) (found : Found) → HaltCause before now found → IfOk found (λ report. MayAnswer command (ending_status report.ending)) → MayAnswer command (status_of found)
  found_possible before now (Ok report) cause ending = ending
  found_possible before now (Err halt) cause ending = halt_possible before now halt cause

  pub output_possible : (before now : ℕ) (found : Result Output Halt) → HaltCause before now found → IfOk found (λ output. MayAnswer command (ending_status output.report.ending))
      → MayAnswer command (output_status found)
  output_possible before now (Ok output) cause ending = ending
  output_possible before now (Err halt) cause ending = halt_possible before now halt cause

  pub judged_possible : JudgesAProof command → (before now : ℕ) (found : Found) → JudgementCause before now found → IfOk found (λ report. MayAnswer command (ending_status report.ending))
      → MayAnswer command (status_of found)
  judged_possible judges before now (Ok report) cause ending = ending
  judged_possible judges before now (Err Usage) cause ending = cause
  judged_possible judges before now (Err (Refused (refusal.Program kind line column))) cause ending = program
  judged_possible judges before now (Err (Refused (refusal.Object kind))) cause ending = program
  judged_possible judges before now (Err (Refused (refusal.Input fault))) cause ending = tt
  judged_possible judges before now (Err (Refused (refusal.Proof why))) cause ending = judges
  judged_possible judges before now (Err ReadFault) cause ending = reads
  judged_possible judges before now (Err NoMemory) cause ending = tt

  pub judged_output_possible : JudgesAProof command → (before now : ℕ) (found : Result Output Halt) → JudgementCause before now found
      → IfOk found (λ output. MayAnswer command (ending_status output.report.ending)) → MayAnswer command (output_status found)
  judged_output_possible judges before now (Ok output) cause ending = ending
  judged_output_possible judges before now (Err halt) cause ending = judged_possible judges before now (Err halt) cause tt

-- ---- the run, by the number of its status

-- 2 is answered to refused words alone
pub usage_alone : (found : Option Invocation) (ended : Status) → ((called : Invocation) → found ≡ Some called → MayAnswer called.command ended) → code ended ≡ 2 → found ≡ None
usage_alone None ended possible is = refl
usage_alone (Some called) ended possible is = absurd (none ended (possible called refl) is)
  where
    none : (ended : Status) → MayAnswer called.command ended → code ended ≡ 2 → ⊥
    none status.Usage may is = may
    none status.Done may is = omega arith
    none status.Trap may is = omega arith
    none status.OutOfFuel may is = omega arith
    none status.Rejected may is = omega arith
    none status.ProgramRefused may is = omega arith
    none status.InputRefused may is = omega arith
    none status.ReadFault may is = omega arith
    none status.WriteFault may is = omega arith
    none status.NoMemory may is = omega arith
    none status.Collision may is = omega arith

-- and 11 by an audit alone
pub collision_alone : (found : Option Invocation) (ended : Status) → ((called : Invocation) → found ≡ Some called → MayAnswer called.command ended) → (found ≡ None → IsOfRefused ended)
    → code ended ≡ 11 → (called : Invocation) × (found ≡ Some called) × (called.command ≡ Audit)
collision_alone found ended possible refused is = by found ended refl possible refused is
  where
    by : (o : Option Invocation) (ended : Status) → found ≡ o → ((called : Invocation) → found ≡ Some called → MayAnswer called.command ended) → (found ≡ None → IsOfRefused ended)
        → code ended ≡ 11 → (called : Invocation) × (found ≡ Some called) × (called.command ≡ Audit)
    by None status.Collision same possible refused is = absurd (refused same)
    by (Some called) status.Collision same possible refused is = (called, same, possible called same)
    by o status.Usage same possible refused is = absurd (omega arith)
    by o status.Done same possible refused is = absurd (omega arith)
    by o status.Trap same possible refused is = absurd (omega arith)
    by o status.OutOfFuel same possible refused is = absurd (omega arith)
    by o status.Rejected same possible refused is = absurd (omega arith)
    by o status.ProgramRefused same possible refused is = absurd (omega arith)
    by o status.InputRefused same possible refused is = absurd (omega arith)
    by o status.ReadFault same possible refused is = absurd (omega arith)
    by o status.WriteFault same possible refused is = absurd (omega arith)
    by o status.NoMemory same possible refused is = absurd (omega arith)
