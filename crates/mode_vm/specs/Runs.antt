-- What a machine will come to, and what it came to.
use Rattle.std.specs.Prelude.{◌≡◌, ℕ, List, Result, Ok, Err, Option, Some}
use Rattle.core_terms.specs.Types.{Ty}
use Rattle.core_terms.specs.Values.{Value}
use Rattle.core_terms.specs.Terms.{Program}
use Rattle.core_terms.specs.declared.outcome.Outcome.{Outcome}
use Rattle.core_terms.specs.declared.outcome.Outcome.TheVariants.{Done, Trapped, Out}
use Rattle.ideal_meaning.specs.Run.{Run, Gives, Ends, Traps, IsOut, Rejects}
use Rattle.ideal_meaning.specs.Told.{trap_told}
use Rattle.ideal_meaning.specs.Execution.{Ran}
use Rattle.value_store.specs.Nodes.{Node}
use Rattle.value_store.specs.Standing.{StandsFor}
use Rattle.value_store.specs.Markings.{Marking, kind_of}
use Rattle.value_store.specs.declared.node.Ref.{Ref}
use Rattle.mode_vm.specs.Meanings.{CauseOf, StateOf}
use Rattle.mode_vm.specs.Machines.{ValueStack, Represents, end_of}
use Rattle.mode_vm.specs.StateParts.{Calls, Spent}
use Rattle.mode_vm.specs.declared.mode.Stop.{Stop}
use Rattle.mode_vm.specs.declared.mode.Stop.TheVariants.{Mode as ModeStops, NoMemory}
use Rattle.mode_vm.specs.declared.state.State.{State}
use Rattle.mode_vm.specs.declared.state.Step.{Step}
use Rattle.mode_vm.specs.declared.state.Step.TheVariants.{Paused, Ended}

module _ (m : Marking) (P : Program) (z : Ty) where
  -- the machine can go on over these nodes, and will give a value of type z, whatever is opened
  abbrev pub Ready : List Node → State → Type 0
  Ready nodes state = (cs : ValueStack) × Represents m P z nodes state cs

  -- from state w of the definitions' mode the rest of the machine's run is this one
  pub record WillRun (nodes : List Node) (state : State) (w : StateOf m) (run : Run (CauseOf m) (StateOf m) Value) : Type 0 where
    pub stack : ValueStack
    pub shows : Represents m P z nodes state stack
    pub ends : end_of m P state.entered stack state.fuel w ≡ Ran run

  abbrev pub OutcomeStands : List Node → Outcome Ref → Type 0
  OutcomeStands nodes (Done r) = (v : Value) × StandsFor (kind_of m P) P.types nodes r.0 z v
  OutcomeStands nodes outcome = Unit {0}

  -- a step can be gone on from, or a value of the type was given
  abbrev pub StepStands : {E : Type 0} → List Node → State → Result Step E → Type 0
  StepStands nodes new (Ok Paused) = Ready nodes new
  StepStands nodes new (Ok (Ended outcome)) = OutcomeStands nodes outcome
  StepStands nodes new (Err e) = Unit {0}

  abbrev pub RunStands : {E : Type 0} → List Node → Result (Outcome Ref) E → Type 0
  RunStands nodes (Ok outcome) = OutcomeStands nodes outcome
  RunStands nodes (Err e) = Unit {0}

  -- `New` says which states of the definitions' mode the mode stands in now, `cause` which cause a fault tells, and k is the fuel left.
  module _ {F : Type 0} (cause : F → Option (CauseOf m)) (New : StateOf m → Type 0) (nodes : List Node) where
    -- the run came to this outcome
    abbrev pub OutcomeIs : ℕ → Outcome Ref → Run (CauseOf m) (StateOf m) Value → Type 0
    OutcomeIs k (Done r) run = (v : Value) × (w : StateOf m) × New w × StandsFor (kind_of m P) P.types nodes r.0 z v × (run ≡ Gives v k w)
    OutcomeIs k (Trapped trap) run = (w : StateOf m) × New w × (run ≡ Ends (Traps (trap_told trap)) k w)
    OutcomeIs k Out run = (w : StateOf m) × New w × (run ≡ Ends IsOut k w)

    -- it was rejected for the cause that is told
    abbrev pub StopIs : ℕ → Stop F → Run (CauseOf m) (StateOf m) Value → Type 0
    StopIs k (ModeStops f) run = (c : CauseOf m) → cause f ≡ Some c → (w : StateOf m) × (run ≡ Ends (Rejects c) k w)
    StopIs k NoMemory run = Unit {0}

    abbrev pub StepIs : State → Result Step (Stop F) → Run (CauseOf m) (StateOf m) Value → Type 0
    StepIs new (Ok Paused) run = (w : StateOf m) × New w × WillRun nodes new w run
    StepIs new (Ok (Ended outcome)) run = OutcomeIs new.fuel outcome run
    StepIs new (Err stop) run = StopIs new.fuel stop run

    abbrev pub RunIs : State → Result (Outcome Ref) (Stop F) → Run (CauseOf m) (StateOf m) Value → Type 0
    RunIs new (Ok outcome) run = OutcomeIs new.fuel outcome run
    RunIs new (Err stop) run = StopIs new.fuel stop run

-- a fact about a step after which the machine goes on
abbrev pub OnGoes : {E : Type 0} → Result Step E → Type 0 → Type 0
OnGoes (Ok Paused) A = A
OnGoes (Ok (Ended outcome)) A = Unit {0}
OnGoes (Err e) A = Unit {0}

-- What a slice of so many calls spends: the machine pauses where a further call is due, all of them were made and fuel is left, and
-- there alone.
abbrev pub Slices : {E : Type 0} → ℕ → (old new : State) → Result Step E → Type 0
Slices units old new (Ok Paused) = Spent units old.fuel new
Slices units old new (Ok (Ended outcome)) = Calls units old new
Slices units old new (Err e) = Unit {0}
