-- No code gives fuel back, and a call that is due takes one unit first.
use Rattle.std.proofs.Common.{◌≡◌, ℕ, zero, suc, ◌≤◌, ◌<◌, Bool, true, false, List, [], ◌∷◌, subst, arith, le_refl}
use Rattle.core_terms.specs.Types.{Ty}
use Rattle.core_terms.specs.Values.{Value}
use Rattle.core_terms.specs.Terms.{Program}
use Rattle.core_terms.specs.Bodies.{Body}
use Rattle.ideal_meaning.specs.Run.{Mode, fuel_of}
use Rattle.ideal_meaning.specs.Execution.{Ran, held}
use Rattle.ideal_meaning.proofs.CodeNesting.{Low, low_coded, low_exec}
use Rattle.core_terms.specs.GeneratedCode.{generated}
use Rattle.code_meaning.specs.Steps.{Waiting, left_of, rest_of}
use Rattle.value_store.specs.Markings.{Marking}
use Rattle.value_store.specs.Nodes.{Node}
use Rattle.mode_vm.specs.Machines.{ValueStack, end_of, frame_of, waiting_of}
use Rattle.mode_vm.specs.Meanings.{CauseOf, RunOf, StateOf, mode_of}
use Rattle.mode_vm.specs.Runs.{WillRun}
use Rattle.mode_vm.specs.declared.state.State.{State}

module _ (C W : Type 0) (B : Body) (mode : Mode C W) where
  low_rest : (waits : List Waiting) (v : Value) (k : ℕ) (w : W) → Low C W k (rest_of B mode waits v k w)
  low_rest [] v k w = le_refl k
  low_rest (f ∷ fs) v k w =
      low_coded C W k (left_of B mode f.frame 0 f.frame.locals (held f.ty v ∷ f.frame.operands) k w) (rest_of B mode fs)
      (low_exec C W B mode f.frame.depth f.frame.left 0 f.frame.locals (held f.ty v ∷ f.frame.operands) k w) (low_rest fs)

module _ (m : Marking) (P : Program) where
  -- the fuel that is left in the end, where a call is due with so much
  takes : (entered : Bool) (k : ℕ) (stack : ValueStack) (w : StateOf m) (run : RunOf m) → end_of m P entered stack k w ≡ Ran run → entered ≡ false → 0 < k → fuel_of run < k
  takes true k stack w run ends due some = absurd (cc)
  takes false zero stack w run ends due some = absurd (omega arith)
  takes false (suc k) stack w run ends due some =
      let top = frame_of stack.top in
      let low = low_exec (CauseOf m) (StateOf m) (generated P) (mode_of m P) top.depth top.left
      0 top.locals top.operands k w in
      let whole = low_coded (CauseOf m) (StateOf m) k (left_of (generated P) (mode_of m P) top 0 top.locals top.operands k w)
      (rest_of (generated P) (mode_of m P) (waiting_of stack.top.result stack.waits)) low (low_rest (CauseOf m) (StateOf m) (generated P) (mode_of m P) (waiting_of stack.top.result stack.waits)) in
      let left : fuel_of run ≤ k = subst (Low (CauseOf m) (StateOf m) k) ends whole in
      omega (arith, left)

  -- A machine that pauses where a call is due, with fuel left, has a run to go on with that uses some of it.
  pub due_takes : (z : Ty) (nodes : List Node) (state : State) (w : StateOf m) (run : RunOf m) → WillRun m P z nodes state w run → state.entered ≡ false → 0 < state.fuel
      → fuel_of run < state.fuel
  due_takes z nodes state w run will due some = takes state.entered state.fuel will.stack w run will.ends due some
