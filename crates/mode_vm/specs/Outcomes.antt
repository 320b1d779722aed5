-- What a step of the machine leads to.
use Rattle.std.specs.Prelude.{◌≡◌, ◌<◌, ℕ, Bool, List, Result, Ok, Err, Option, Some, None}
use Rattle.std.specs.declared.alloc.AllocError.{AllocError}
use Rattle.core_terms.specs.Types.{Ty}
use Rattle.core_terms.specs.Values.{Value}
use Rattle.core_terms.specs.Terms.{Program}
use Rattle.core_terms.specs.declared.outcome.Trap.{Trap}
use Rattle.core_terms.specs.declared.outcome.Outcome.{Outcome}
use Rattle.core_terms.specs.declared.outcome.Outcome.TheVariants.{Done, Trapped, Out}
use Rattle.ideal_meaning.specs.Run.{Gives, Ends, Traps, IsOut}
use Rattle.ideal_meaning.specs.Told.{trap_told}
use Rattle.core_terms.specs.Instructions.{Instruction}
use Rattle.ideal_meaning.specs.Execution.{Ran}
use Rattle.value_store.specs.Nodes.{Node}
use Rattle.value_store.specs.Standing.{StandsFor}
use Rattle.value_store.specs.Markings.{Marking, kind_of}
use Rattle.value_store.specs.declared.node.Ref.{Ref}
use Rattle.mode_vm.specs.Meanings.{StateOf}
use Rattle.mode_vm.specs.Machines.{Before, ValueFrame, ValueStack, IsSameCall, stack_steps, IsTop, Represents, end_of, runs_on}
use Rattle.mode_vm.specs.StateParts.{IsOver}
use Rattle.mode_vm.specs.declared.frame.Frame.{Frame}
use Rattle.mode_vm.specs.declared.frame.Rare.{Rare}
use Rattle.mode_vm.specs.declared.frame.Rare.TheVariants as rare
use Rattle.mode_vm.specs.declared.state.State.{State}
use Rattle.mode_vm.specs.declared.state.Step.{Step}
use Rattle.mode_vm.specs.declared.state.Step.TheVariants.{Paused, Ended}

module _ (m : Marking) (P : Program) (z : Ty) (nodes : List Node) where
  -- the machine ends with this outcome and this fuel left, from each state of the mode
  abbrev pub EndsAs : Outcome Ref → Bool → ValueStack → ℕ → Type 0
  EndsAs (Done r) entered cs k = (v : Value) × StandsFor (kind_of m P) P.types nodes r.0 z v × ((w : StateOf m) → end_of m P entered cs k w ≡ Ran (Gives v k w))
  EndsAs (Trapped trap) entered cs k = (w : StateOf m) → end_of m P entered cs k w ≡ Ran (Ends (Traps (trap_told trap)) k w)
  EndsAs Out entered cs k = (w : StateOf m) → end_of m P entered cs k w ≡ Ran (Ends IsOut k w)

  -- the machine will end as it would have before
  abbrev pub GoesTo : Bool → (k : ℕ) → ValueStack → State → Type 0
  GoesTo entered k cs new = (after : ValueStack) × Represents m P z nodes new after × ((w : StateOf m) → end_of m P entered cs k w ≡ end_of m P new.entered after new.fuel w)
      × (stack_steps P new.entered new.fuel after < stack_steps P entered k cs)

  -- After a step that asks nothing of the mode the machine will end as it would have before, or it ends.
  abbrev pub Leads : {E : Type 0} → Bool → (k : ℕ) → ValueStack → State → Result Step E → Type 0
  Leads entered k cs new (Ok Paused) = GoesTo entered k cs new
  Leads entered k cs new (Ok (Ended outcome)) = EndsAs outcome entered cs k × (new.fuel ≡ k)
  Leads entered k cs new (Err e) = Unit {0}

module _ (m : Marking) (P : Program) (nodes : List Node) where
  -- the frame will end as it would have before, over the same frames that wait
  abbrev pub FrameGoesOn : Frame → ValueFrame → Frame → Type 0
  FrameGoesOn old c new =
      (after : ValueFrame) × IsTop m P nodes new after × IsSameCall c after × ((k : ℕ) (w : StateOf m) → runs_on m P c k w ≡ runs_on m P after k w) × IsOver old new

  -- After an instruction that asks nothing of the mode the frame will end as it would have before, or it traps.
  abbrev pub Acts : {E : Type 0} → Frame → ValueFrame → Frame → Result (Option Trap) E → Type 0
  Acts old c new (Ok None) = FrameGoesOn old c new
  Acts old c new (Ok (Some trap)) = (k : ℕ) (w : StateOf m) → runs_on m P c k w ≡ Ran (Ends (Traps (trap_told trap)) k w)
  Acts old c new (Err e) = Unit {0}

abbrev pub step_told : Option Trap → Step
step_told None = Paused
step_told (Some trap) = Ended (Trapped trap)

-- what a rare instruction comes to, as each other one tells it
abbrev pub rare_told : Rare → Result (Option Trap) AllocError
rare_told rare.Acted = Ok None
rare_told (rare.Trapped trap) = Ok (Some trap)
rare_told (rare.NoMemory e) = Err e

-- the frame stands before this instruction, whatever the mode
abbrev pub IsBefore : Program → List Node → Frame → Instruction → Type 0
IsBefore P nodes frame i = (m : Marking) × (c : ValueFrame) × Before m P nodes frame i c

-- What the instruction does to the frame, which had these nodes before and has the new ones then: in each mode what it means.
abbrev pub Does : {E : Type 0} → Program → Instruction → (nodes new : List Node) → (frame after : Frame) → Result (Option Trap) E → Type 0
Does P i nodes new frame after result = (m : Marking) (c : ValueFrame) → Before m P nodes frame i c → Acts m P new frame c after result
