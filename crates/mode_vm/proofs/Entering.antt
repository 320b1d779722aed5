-- A frame is entered.
use Rattle.std.proofs.Common.{◌≡◌, ℕ, suc, zero, ◌+◌, ◌*◌, ◌<◌, ◌≤◌, true, false, List, [], ◌∷◌, length, take, drop, reverse, slice_get, unwrap_or, refl, sym, ap, ap₂, ◌∙◌, subst, arith}
use Rattle.std.proofs.Math.Nat.{suc-mul}
use Rattle.core_terms.specs.Bodies.{FunctionCode, code_at, no_function_code}
use Rattle.core_terms.specs.GeneratedCode.{generated}
use Rattle.mode_vm.specs.declared.frame.Waiting.{Waiting}
use Rattle.mode_vm.specs.declared.operand.Operand.{Operand}
use Rattle.core_terms.specs.Types.{Ty}
use Rattle.core_terms.specs.Terms.{Program}
use Rattle.value_store.specs.Nodes.{Node}
use Rattle.value_store.specs.Markings.{Marking}
use Rattle.mode_vm.specs.Meanings.{StateOf}
use Rattle.code_gen.specs.CodeSizes.{code_size}
use Rattle.mode_vm.specs.Machines.{ValueFrame, ValueStack, Represents, end_of, AreDeep, AreWaiting, IsDeep, all_left, stack_steps, frames_left, left_if, steps_left}
use Rattle.mode_vm.specs.declared.state.State.{State}

pub less_deep : (k : ℕ) (cs : List ValueFrame) → AreDeep (suc k) cs → AreDeep k cs
less_deep k [] h = tt
less_deep k (c ∷ cs) h = (let l = h.0 in omega (arith, l), less_deep k cs h.1)

module _ (m : Marking) (P : Program) (z : Ty) (nodes : List Node) (state : State) (cs : ValueStack) (shows : Represents m P z nodes state cs) (waits : state.entered ≡ false) where
  deep_in : (k n : ℕ) → k ≡ suc n → IsDeep false k cs.top → IsDeep true n cs.top
  deep_in k n e h = omega (arith, e, h)

  pub entered_shows : (n : ℕ) → state.fuel ≡ suc n → Represents m P z nodes (record { fuel = n; entered = true; top = state.top; waiting = state.waiting }) cs
  entered_shows n e = record {
    top = shows.top;
    waits = shows.waits;
    deep = deep_in state.fuel n e (subst (λ b. IsDeep b state.fuel cs.top) waits shows.deep);
    deep_below = less_deep n cs.waits (subst (λ k. AreDeep k cs.waits) e shows.deep_below);
  }

  pub entered_same : (n : ℕ) → state.fuel ≡ suc n → (w : StateOf m) → end_of m P false cs state.fuel w ≡ end_of m P true cs n w
  entered_same n e w = ap (λ k. end_of m P false cs k w) e

code_fits : (fs : List FunctionCode) (f : ℕ) → f < length fs → length (unwrap_or (slice_get fs f) no_function_code).code ≤ code_size fs
code_fits [] f h = absurd (omega (arith, h))
code_fits (g ∷ gs) zero h = omega arith
code_fits (g ∷ gs) (suc f) h = let k : f < length gs = omega (arith, h) in let r = code_fits gs f k in omega (arith, r)

drop_shorter : {A : Type 0} (xs : List A) (n : ℕ) → length (drop n xs) ≤ length xs
drop_shorter xs zero = omega arith
drop_shorter [] (suc n) = omega arith
drop_shorter (x ∷ xs) (suc n) = let h = drop_shorter xs n in omega (arith, h)

module _ (m : Marking) (P : Program) (z : Ty) (nodes : List Node) (state : State) (cs : ValueStack) (shows : Represents m P z nodes state cs) where
  top_fits : length cs.top.left ≤ code_size (generated P).functions
  top_fits =
      let fits = code_fits (generated P).functions state.top.function.0 shows.top.is.there in
      let short = drop_shorter (code_at (generated P) state.top.function.0).code state.top.place in
      let same = ap length shows.top.is.left in
      omega (arith, fits, short, same)

  pub entered_fewer : (n : ℕ) → state.fuel ≡ suc n → stack_steps P true n cs < stack_steps P false state.fuel cs
  entered_fewer n e =
      let size = code_size (generated P).functions in
      let times : state.fuel * (size + 1) ≡ n * (size + 1) + (size + 1) = ap (λ k. k * (size + 1)) e ∙ suc-mul n (size + 1) in
      let h = top_fits in
      omega (arith, times, h)

  frames_same : (t : Ty) (ls os : List Operand) (fs : List Waiting) (ws : List ValueFrame) → AreWaiting m P nodes z t ls os fs ws → frames_left P fs ≡ all_left ws
  frames_same t ls os [] [] h = refl
  frames_same t ls os (f ∷ fs) (c ∷ ws) h = ap₂ (λ a b. a + b) (ap length (sym h.0.is.left)) (frames_same c.result (take f.local_base ls) (take f.operand_base os) fs ws h.1)
  frames_same t ls os [] (c ∷ ws) h = elim h [ ]
  frames_same t ls os (f ∷ fs) [] h = elim h [ ]

  -- the steps of a machine are those of what it shows
  pub steps_same : steps_left P state ≡ stack_steps P state.entered state.fuel cs
  steps_same = ap₂ (λ a b. state.fuel * (code_size (generated P).functions + 1) + (left_if state.entered a + b)) (ap length (sym shows.top.is.left))
      (frames_same cs.top.result state.top.locals.below state.top.operands.below (reverse state.waiting.items) cs.waits shows.waits)
