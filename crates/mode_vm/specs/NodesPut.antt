-- Which nodes a machine puts. A scalar is no node while the machine has it in hand: what it computes with takes no place in the store.
use Rattle.std.specs.Prelude.{◌≡◌, ℕ, ◌+◌, ◌≤◌, Bool, true, false, List, length, Result, Ok, Err, Some, slice_get}
use Rattle.core_terms.specs.Terms.{Program}
use Rattle.core_terms.specs.declared.outcome.Outcome.{Outcome}
use Rattle.core_terms.specs.declared.outcome.Outcome.TheVariants.{Done, Trapped, Out}
use Rattle.core_terms.specs.Bodies.{code_at}
use Rattle.core_terms.specs.GeneratedCode.{generated}
use Rattle.core_terms.specs.Instructions.{Instruction, PushText, Pair, Make, Auth, Unauth, Cat, VecFill, VecPut}
use Rattle.value_store.specs.Nodes.{Node}
use Rattle.value_store.specs.declared.node.Ref.{Ref}
use Rattle.mode_vm.specs.declared.state.State.{State}
use Rattle.mode_vm.specs.declared.state.Step.{Step}
use Rattle.mode_vm.specs.declared.state.Step.TheVariants.{Paused, Ended}

-- The instruction makes no text, pair, constructor value or array, and asks nothing of the mode: it works on scalars, on locals and on parts of
-- values that are there, or it calls or gives back.
abbrev pub works_in_hand : Instruction → Bool
works_in_hand (PushText bytes) = false
works_in_hand Pair = false
works_in_hand (Make number tag) = false
works_in_hand Cat = false
works_in_hand (VecFill n) = false
works_in_hand VecPut = false
works_in_hand (Auth t) = false
works_in_hand (Unauth t) = false
works_in_hand i = true

-- the next instruction of the running frame, where that was entered, works in hand
abbrev pub NextInHand : Program → State → Type 0
NextInHand P state = state.entered ≡ true → (i : Instruction) → slice_get (code_at (generated P) state.top.function.0).code state.top.place ≡ Some i → works_in_hand i ≡ true

-- each instruction of the program does
abbrev pub WorksInHand : Program → Type 0
WorksInHand P = (f place : ℕ) (i : Instruction) → slice_get (code_at (generated P) f).code place ≡ Some i → works_in_hand i ≡ true

-- the nodes are as before, or one was put for the value of the outcome
abbrev pub OutcomePuts : (old new : List Node) → Outcome Ref → Type 0
OutcomePuts old new (Done r) = length new ≤ length old + 1
OutcomePuts old new (Trapped trap) = new ≡ old
OutcomePuts old new Out = new ≡ old

abbrev pub StepPuts : {E : Type 0} → (old new : List Node) → Result Step E → Type 0
StepPuts old new (Ok Paused) = new ≡ old
StepPuts old new (Ok (Ended outcome)) = OutcomePuts old new outcome
StepPuts old new (Err e) = new ≡ old

abbrev pub RunPuts : {E : Type 0} → (old new : List Node) → Result (Outcome Ref) E → Type 0
RunPuts old new (Ok outcome) = OutcomePuts old new outcome
RunPuts old new (Err e) = new ≡ old
