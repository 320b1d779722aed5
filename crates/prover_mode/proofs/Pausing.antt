-- Calls that are proved in turns.
use Rattle.std.proofs.Common.{◌≡◌, ℕ, ◌+◌, ◌≤◌, length, List, Option, None, Some, Ok, ap, subst, arith}
use Rattle.core_terms.specs.Formats.{Hash}
use Rattle.core_terms.specs.Fronts.{AreFronts}
use Rattle.core_terms.specs.Terms.{Program, function_at}
use Rattle.core_terms.specs.Types.{Ty}
use Rattle.core_terms.specs.Values.{Values}
use Rattle.core_terms.specs.declared.outcome.Outcome.{Outcome}
use Rattle.core_terms.specs.declared.outcome.Outcome.TheVariants as told
use Rattle.ideal_meaning.specs.Ideal as ideal
use Rattle.ideal_meaning.specs.Run.{fuel_of}
use Rattle.value_store.specs.Markings.{ProverMarking}
use Rattle.value_store.specs.Nodes.{Node}
use Rattle.value_store.specs.declared.node.Ref.{Ref}
use Rattle.code_gen.specs.Programs.{program_in}
use Rattle.code_gen.specs.declared.code.Code.{Code}
use Rattle.mode_vm.specs.Machines.{OpensFew}
use Rattle.mode_vm.specs.Meanings.{CauseOf, RunOf, program_of}
use Rattle.mode_vm.specs.Runs.{OutcomeIs, Slices, WillRun}
use Rattle.mode_vm.specs.StateParts.{Calls, Spent}
use Rattle.mode_vm.specs.declared.state.State.{State}
use Rattle.mode_vm.specs.declared.state.Step.{Step}
use Rattle.mode_vm.specs.declared.state.Step.TheVariants.{Paused, Ended}
use Rattle.mode_vm.proofs.Fuel.{due_takes}
use Rattle.mode_vm.proofs.IdealOutcomes.{tells_digested}
use Rattle.prover_mode.specs.Seen.{AreSeen}
use Rattle.prover_mode.specs.Turns.{IsProving, TurnEnds}
use Rattle.prover_mode.specs.declared.turns.Proving.{Proving}
use Rattle.prover_mode.proofs.Running.{seen_then}

-- what a slice spends, by what its step is
module _ (E : Type 0) (units : ℕ) (old new : State) (step : Step) where
  pub spent_paused : step ≡ Paused → Slices {E = E} units old new (Ok step) → Spent units old.fuel new
  spent_paused e h = subst (λ (s : Step). Slices {E = E} units old new (Ok s)) e h

  pub calls_ended : (outcome : Outcome Ref) → step ≡ Ended outcome → Slices {E = E} units old new (Ok step) → Calls units old new
  calls_ended outcome e h = subst (λ (s : Step). Slices {E = E} units old new (Ok s)) e h

module _ (hash : Hash) (code : Code) where
  abbrev P : Program
  P = program_of code

  -- the fuel that is left where a run came to an outcome
  left_over : (z : Ty) {F : Type 0} (cause : F → Option (CauseOf (ProverMarking hash))) (New : List ideal.Opened → Type 0) (nodes : List Node) (n : ℕ) (o : Outcome Ref)
      (run : RunOf (ProverMarking hash)) → OutcomeIs (ProverMarking hash) P z cause New nodes n o run → fuel_of run ≡ n
  left_over z cause New nodes n (told.Done r) run h = ap fuel_of h.4
  left_over z cause New nodes n (told.Trapped trap) run h = ap fuel_of h.2
  left_over z cause New nodes n told.Out run h = ap fuel_of h.2

  -- behind a slice of so many calls
  module _ {A : Type 0} (before after : Proving A) (nodes new_nodes : List Node) (units f : ℕ) (vs : Values) (k made : ℕ) (h : IsProving hash code nodes before f vs k made) where
    abbrev New : List ideal.Opened → Type 0
    New = AreSeen hash (program_in code).types new_nodes after.machine.mode.opened.items

    pub pauses : AreFronts hash (program_in code).types after.machine.mode.digesting.fronts → (w : List ideal.Opened) → New w → WillRun (ProverMarking hash) P (function_at P f).result new_nodes after.machine.state w (ideal.ideal P f vs k)
        → Spent units before.machine.state.fuel after.machine.state → OpensFew (length after.machine.mode.opened.items) P after.machine.state
        → TurnEnds hash code new_nodes after f vs k (made + units) None
    pauses knows w seen will spent few =
        let given = h.calls in
        let spends = spent.made in
        let less = due_takes (ProverMarking hash) P (function_at P f).result new_nodes after.machine.state w (ideal.ideal P f vs k) will spent.due spent.some in (
          record { seen = w; opened = seen; runs = will; calls = omega (arith, given, spends); due = spent.due; knows = knows; few = few },
          omega (arith, given, spends, less),
        )

    pub ends : {F : Type 0} (cause : F → Option (CauseOf (ProverMarking hash))) (o : Outcome Ref)
        → OutcomeIs (ProverMarking hash) P (function_at P f).result cause New new_nodes after.machine.state.fuel o (ideal.ideal P f vs k)
        → Calls units before.machine.state after.machine.state → TurnEnds hash code new_nodes after f vs k (made + units) (Some o)
    ends cause o is calls =
        let given = h.calls in
        let most = calls.most in
        let left = left_over (function_at P f).result cause New new_nodes after.machine.state.fuel o (ideal.ideal P f vs k) is in (
          record { opened = seen_then hash (program_in code).types new_nodes P (function_at P f).result cause after.machine.mode.opened.items after.machine.state.fuel o (ideal.ideal P f vs k) is },
          omega (arith, given, most, left),
          tells_digested P (function_at P f).result hash cause New new_nodes after.machine.state.fuel o (ideal.ideal P f vs k) is,
        )

  -- what a turn tells
  module _ {A : Type 0} (after : Proving A) (nodes : List Node) (f : ℕ) (vs : Values) (k made : ℕ) (told : Option (Outcome Ref)) (h : TurnEnds hash code nodes after f vs k made told) where
    pub ended : (o : Outcome Ref) → told ≡ Some o → TurnEnds hash code nodes after f vs k made (Some o)
    ended o is = subst (TurnEnds hash code nodes after f vs k made) is h

    -- no call makes more calls of functions than it has fuel
    pub is_told : k ≤ made → told ≡ None → ⊥
    is_told all none =
        let goes : TurnEnds hash code nodes after f vs k made None = subst (TurnEnds hash code nodes after f vs k made) none h in
        let more = goes.1 in
        omega (arith, all, more)
