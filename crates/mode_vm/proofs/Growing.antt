-- A machine that waits, while the store grows.
use Rattle.std.proofs.Common.{List, reverse}
use Rattle.core_terms.specs.Types.{Ty}
use Rattle.core_terms.specs.Terms.{Program}
use Rattle.value_store.specs.Nodes.{Node}
use Rattle.value_store.specs.Standing.{Keeps}
use Rattle.value_store.specs.Markings.{Marking}
use Rattle.mode_vm.specs.Meanings.{RunOf, StateOf}
use Rattle.mode_vm.specs.Machines.{ValueStack, Represents}
use Rattle.mode_vm.specs.Runs.{Ready, WillRun}
use Rattle.mode_vm.specs.declared.state.State.{State}
use Rattle.mode_vm.proofs.Lifting.{frame_keeps, waits_keep}

module _ (m : Marking) (P : Program) (z : Ty) (old new : List Node) (keeps : Keeps old new) (state : State) where
  shows_on : (cs : ValueStack) → Represents m P z old state cs → Represents m P z new state cs
  shows_on cs h = record {
    top = record { is = frame_keeps m P old new keeps state.top cs.top h.top.is; starts = h.top.starts };
    waits = waits_keep m P old new keeps z cs.top.result state.top.locals.below state.top.operands.below (reverse state.waiting.items) cs.waits h.waits;
    deep = h.deep;
    deep_below = h.deep_below;
  }

  pub ready_on : Ready m P z old state → Ready m P z new state
  ready_on h = (h.0, shows_on h.0 h.1)

  pub will_on : (w : StateOf m) (run : RunOf m) → WillRun m P z old state w run → WillRun m P z new state w run
  will_on w run h = record { stack = h.stack; shows = shows_on h.stack h.shows; ends = h.ends }
