-- A call that is proved in turns: where it stands between them.
use Rattle.std.specs.Prelude.{◌≡◌, ◌<◌, ◌≤◌, ◌+◌, ◌-◌, ℕ, false, length, List, Option, Some, None}
use Rattle.core_terms.specs.Formats.{Hash}
use Rattle.core_terms.specs.Fronts.{AreFronts}
use Rattle.core_terms.specs.Projection.{digest_at}
use Rattle.core_terms.specs.Terms.{Program, function_at}
use Rattle.core_terms.specs.Values.{Values}
use Rattle.core_terms.specs.declared.outcome.Outcome.{Outcome}
use Rattle.ideal_meaning.specs.Ideal as ideal
use Rattle.ideal_meaning.specs.Run.{fuel_of, state_of}
use Rattle.value_store.specs.Markings.{ProverMarking}
use Rattle.value_store.specs.Nodes.{Node}
use Rattle.value_store.specs.Standing.{ProverNodes}
use Rattle.value_store.specs.declared.node.Ref.{Ref}
use Rattle.code_gen.specs.Programs.{program_in}
use Rattle.code_gen.specs.declared.code.Code.{Code}
use Rattle.mode_vm.specs.IdealRuns.{IsOutcome}
use Rattle.mode_vm.specs.Machines.{OpensFew}
use Rattle.mode_vm.specs.Meanings.{program_of}
use Rattle.mode_vm.specs.Runs.{WillRun}
use Rattle.prover_mode.specs.Seen.{AreSeen}
use Rattle.prover_mode.specs.declared.turns.Proving.{Proving}

-- how many calls of functions the ideal run of function f on these values with fuel k makes: each uses one unit
abbrev pub calls_made : Program → (f : ℕ) → Values → (k : ℕ) → ℕ
calls_made P f vs k = k - fuel_of (ideal.ideal P f vs k)

module _ (hash : Hash) (code : Code) where
  -- Among these nodes a call of function f on these values with fuel k stands where it has made so many calls of functions and is
  -- about to make one more: what it has opened is what was seen, and from there on its machine does the rest of the ideal run.
  pub record IsProving {A : Type 0} (nodes : List Node) (proving : Proving A) (f : ℕ) (vs : Values) (k made : ℕ) : Type 0 where
    pub seen : List ideal.Opened
    pub opened : AreSeen hash (program_in code).types nodes proving.machine.mode.opened.items seen
    pub runs : WillRun (ProverMarking hash) (program_of code) (function_at (program_of code) f).result nodes proving.machine.state seen (ideal.ideal (program_of code) f vs k)
    pub calls : k ≡ proving.machine.state.fuel + made
    pub due : proving.machine.state.entered ≡ false
    pub knows : AreFronts hash (program_in code).types proving.machine.mode.digesting.fronts
    pub few : OpensFew (length proving.machine.mode.opened.items) (program_of code) proving.machine.state

  -- Among these nodes the call has run to its end: what it has opened is what its ideal run opens.
  pub record HasRun {A : Type 0} (nodes : List Node) (proving : Proving A) (f : ℕ) (vs : Values) (k : ℕ) : Type 0 where
    pub opened : AreSeen hash (program_in code).types nodes proving.machine.mode.opened.items (state_of (ideal.ideal (program_of code) f vs k))

  -- the outcome of the ideal run; its value stands among these nodes
  abbrev pub IsIdealOutcome : List Node → (f : ℕ) → Values → (k : ℕ) → Outcome Ref → Type 0
  IsIdealOutcome nodes f vs k outcome =
      let P = program_of code in
      IsOutcome (ProverNodes (digest_at hash P)) P.types nodes (function_at P f).result outcome (ideal.outcome (ideal.ideal P f vs k))

  -- A turn ends behind so many calls of functions, those of earlier turns among them. Where it tells no outcome, the call stands there, and
  -- its ideal run makes more of them. Else it has run to its end, with no more of them, and the outcome is the ideal one.
  abbrev pub TurnEnds : {A : Type 0} → List Node → Proving A → (f : ℕ) → Values → (k made : ℕ) → Option (Outcome Ref) → Type 0
  TurnEnds nodes proving f vs k made None = IsProving nodes proving f vs k made × (made < calls_made (program_of code) f vs k)
  TurnEnds nodes proving f vs k made (Some outcome) =
      HasRun nodes proving f vs k × (calls_made (program_of code) f vs k ≤ made) × IsIdealOutcome nodes f vs k outcome
