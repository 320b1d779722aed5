-- Scripts that are read, and what stands behind them.
use Rattle.std.proofs.Common.{◌≡◌, ℕ, List, map, Option, Some, Result, Ok, Err, IsErrAnd, Vec, vec_items, sym, ap, ◌∙◌, subst}
use Rattle.std.specs.declared.alloc.Global.{Global}
use Rattle.core_terms.specs.Programs.{constructor_names, meaning}
use Rattle.core_terms.specs.declared.program.Program.{Program}
use Rattle.printed_lines.specs.declared.refusal.Refusal.TheVariants as refusal
use Rattle.ask_script.specs.ScriptAnswers.{ReadsScript, step_meant}
use Rattle.ask_script.specs.Scripts.{Script, UserStep, script_of}
use Rattle.ask_script.specs.declared.script.ScriptFault.{ScriptFault}
use Rattle.ask_script.specs.declared.script.ScriptFault.TheVariants as script_fault
use Rattle.ask_script.specs.declared.step.Step.{Step}
use Rattle.command_parts.specs.Answer.{Asking, script_read, with_script, with_steps}
use Rattle.command_parts.specs.AnswerForms.{Answer}
use Rattle.command_parts.specs.Halting.{StepGives, InHand, of_script_fault}
use Rattle.command_parts.specs.ReadPrograms.{named_of}
use Rattle.command_parts.specs.FilePrograms.{IsOfTextOrObject}
use Rattle.command_parts.specs.declared.report.Halt.{Halt}
use Rattle.command_parts.specs.declared.report.Halt.TheVariants.{Usage, Refused, ReadFault, NoMemory}
use Rattle.net_commands.specs.Asking.{IsOfScript, IsOfSources}
use Rattle.net_commands.specs.PreparedClients.{asked_with}
use Rattle.net_commands.specs.declared.asking.AskInputs.{AskInputs}
use Rattle.command_parts.proofs.Steps.{halts_behind}

module _ (p : Program) (text : List ℕ) where
  abbrev script : Script
  script = script_of (meaning p) (constructor_names p.types.named.items) text

  -- a line is at fault, or memory was wanting
  pub script_refused : {T : Type 0} (value : T → List UserStep) (fault : ScriptFault) (result : Result T Halt) → IsErrAnd result (λ halt. halt ≡ of_script_fault fault)
      → ReadsScript {Z = Global} script (Err fault) → InHand (StepGives (with_script (named_of p) text) value) result
  unfolding script_read
  script_refused value fault (Ok t) halt reads = absurd halt
  script_refused value fault (Err h) halt reads = subst (λ h. InHand (StepGives (with_script (named_of p) text) value) (Err h)) (sym halt) (by fault reads)
    where
      by : (fault : ScriptFault) → ReadsScript {Z = Global} script (Err fault) → InHand (StepGives (with_script (named_of p) text) value) (Err (of_script_fault fault))
      by (script_fault.Line number) reads = λ go. ap (λ s. with_steps s go) reads
      by script_fault.NoMemory reads = λ go. tt

  -- the steps are gone on with
  pub script_goes : {Z : Type 0} (steps : Vec Step Z) → ReadsScript script (Ok steps) → (go : List UserStep → Option Answer) → with_script (named_of p) text go ≡ go (map step_meant (vec_items steps))
  unfolding script_read
  script_goes steps reads go = ap (λ s. with_steps s go) reads

-- a step on what is in hand, behind one that goes on with it
pub goes_on_behind : {A B T : Type 0} (first : (A → Option Answer) → Option Answer) (a : A) (next : A → (B → Option Answer) → Option Answer) (value : T → B) (result : Result T Halt)
    → ((go : A → Option Answer) → first go ≡ go a) → InHand (StepGives (next a) value) result → StepGives (λ go. first (λ a. next a go)) value result
goes_on_behind first a next value (Ok t) is goes = λ go. is (λ a. next a go) ∙ goes go
goes_on_behind first a next value (Err Usage) is goes = absurd goes
goes_on_behind first a next value (Err (Refused (refusal.Program kind line column))) is goes = λ go. halts_behind _ _ (Refused (refusal.Program kind line column)) (is (λ a. next a go)) (goes go)
goes_on_behind first a next value (Err (Refused (refusal.Object kind))) is goes = λ go. halts_behind _ _ (Refused (refusal.Object kind)) (is (λ a. next a go)) (goes go)
goes_on_behind first a next value (Err (Refused (refusal.Input fault))) is goes = λ go. halts_behind _ _ (Refused (refusal.Input fault)) (is (λ a. next a go)) (goes go)
goes_on_behind first a next value (Err (Refused (refusal.Proof cause))) is goes = absurd goes
goes_on_behind first a next value (Err ReadFault) is goes = absurd goes
goes_on_behind first a next value (Err NoMemory) is goes = λ go. tt

-- What is asked with inputs that were read for one program has its sources, where that is the program of a text or of an object.
pub asked_of_sources : (p q : Program) (inputs : AskInputs) (a : Asking) → p ≡ q → IsOfScript (named_of p) (map step_meant inputs.steps.items) → IsOfTextOrObject (meaning q) → a ≡ asked_with q inputs → IsOfSources a
asked_of_sources p q inputs a same script source is =
    subst IsOfSources (sym is) (record { program = source; script = subst (λ (r : Program). IsOfScript (named_of r) (map step_meant inputs.steps.items)) same script })
