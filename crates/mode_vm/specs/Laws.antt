-- The laws of machines.
use Rattle.std.specs.Prelude.{List}
use Rattle.core_terms.specs.Types.{Ty}
use Rattle.core_terms.specs.Terms.{Program}
use Rattle.value_store.specs.Nodes.{Node}
use Rattle.value_store.specs.Standing.{Keeps}
use Rattle.value_store.specs.Markings.{Marking}
use Rattle.mode_vm.specs.Meanings.{RunOf, StateOf}
use Rattle.mode_vm.specs.Runs.{Ready, WillRun}
use Rattle.mode_vm.specs.declared.state.State.{State}

-- what was ready is ready over more nodes
abbrev pub PausedIsReady : Type 0
PausedIsReady = (m : Marking) (P : Program) (z : Ty) (old new : List Node) → Keeps old new → (state : State) → Ready m P z old state → Ready m P z new state

-- and will come to the same
abbrev pub PausedWill : Type 0
PausedWill = (m : Marking) (P : Program) (z : Ty) (old new : List Node) → Keeps old new → (state : State) (w : StateOf m) (run : RunOf m) → WillRun m P z old state w run
    → WillRun m P z new state w run
