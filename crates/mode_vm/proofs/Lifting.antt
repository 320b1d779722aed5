-- What an instruction does to the running frame, it does to the machine.
use Rattle.std.proofs.Common.{◌≡◌, ℕ, zero, suc, ◌<◌, ◌≤◌, true, List, [], ◌∷◌, length, take, drop, map, reverse, Option, Ok, Some, None, slice_get, slice_index_or, refl, sym, ap, ap₂, ◌∙◌, subst, arith}
use Rattle.core_terms.specs.Types.{Ty}
use Rattle.core_terms.specs.Terms.{Program}
use Rattle.core_terms.specs.declared.outcome.Trap.{Trap}
use Rattle.core_terms.specs.Instructions.{Instruction}
use Rattle.core_terms.specs.Bodies.{Body, code_at}
use Rattle.core_terms.specs.GeneratedCode.{generated}
use Rattle.ideal_meaning.specs.Execution.{then_coded}
use Rattle.core_terms.specs.Accepted.{IsFine}
use Rattle.core_terms.specs.CodeShapes.{Shape}
use Rattle.code_meaning.specs.Steps as steps
use Rattle.code_meaning.proofs.CodeRight.{no_more_functions}
use Rattle.value_store.specs.Nodes.{Node}
use Rattle.value_store.specs.Standing.{Keeps}
use Rattle.value_store.specs.Markings.{Marking, kind_of}
use Rattle.mode_vm.specs.Meanings.{mode_of}
use Rattle.mode_vm.specs.Machines.{ValueFrame, ValueStack, stack_steps, waiting_of, runs_on, end_of, IsFrame, AreWaiting, AreDeep, IsDeep, Represents, IsNext}
use Rattle.mode_vm.specs.Outcomes.{Acts, Leads, step_told}
use Rattle.mode_vm.specs.StateParts.{IsOver, frame_in}
use Rattle.mode_vm.specs.declared.operand.Operand.{Operand}
use Rattle.mode_vm.specs.declared.frame.Frame.{Frame}
use Rattle.mode_vm.specs.declared.frame.Waiting.{Waiting}
use Rattle.mode_vm.specs.declared.state.State.{State}
use Rattle.mode_vm.proofs.Frames.{all_keep}

module _ (m : Marking) (P : Program) (old new : List Node) (keeps : Keeps old new) where
  pub frame_keeps : (frame : Frame) (c : ValueFrame) → IsFrame m P old frame c → IsFrame m P new frame c
  frame_keeps frame c h = record {
    there = h.there;
    result = h.result;
    left = h.left;
    fine = h.fine;
    locals = all_keep (kind_of m P) P.types old new keeps _ _ _ h.locals;
    operands = all_keep (kind_of m P) P.types old new keeps _ _ _ h.operands;
  }

  pub waits_keep : (z t : Ty) (ls os : List Operand) (fs : List Waiting) (cs : List ValueFrame) → AreWaiting m P old z t ls os fs cs → AreWaiting m P new z t ls os fs cs
  waits_keep z t ls os [] [] h = h
  waits_keep z t ls os (f ∷ fs) (c ∷ cs) h = (
    record { local_base = h.0.local_base; operand_base = h.0.operand_base; is = frame_keeps (frame_in f ls os) c h.0.is; starts = h.0.starts },
    waits_keep z c.result (take f.local_base ls) (take f.operand_base os) fs cs h.1,
  )
  waits_keep z t ls os [] (c ∷ cs) h = elim h [ ]
  waits_keep z t ls os (f ∷ fs) [] h = elim h [ ]

  -- those that wait below another frame, where as much lies below it
  pub waits_under : (z t : Ty) (before after : Frame) → IsOver before after → (fs : List Waiting) (cs : List ValueFrame)
      → AreWaiting m P old z t before.locals.below before.operands.below fs cs → AreWaiting m P new z t after.locals.below after.operands.below fs cs
  waits_under z t before after over fs cs h =
      subst (λ l. AreWaiting m P new z t l after.operands.below fs cs) (sym over.locals)
      (subst (λ l. AreWaiting m P new z t before.locals.below l fs cs) (sym over.operands) (waits_keep z t before.locals.below before.operands.below fs cs h))

  -- from the running frame to the machine
  pub lifted : (E : Type 0) (z : Ty) (before after : State) (cs : ValueStack) → Represents m P z old before cs → before.entered ≡ true → after.entered ≡ before.entered
      → after.fuel ≡ before.fuel → after.waiting ≡ before.waiting
      → (trapped : Option Trap) → Acts m P new {E = E} before.top cs.top after.top (Ok trapped) → Leads m P z new {E = E} true before.fuel cs after (Ok (step_told trapped))
  lifted E z before after cs shows entered stays fuel waiting None acts = (
    record { top = acts.0; waits = cs.waits },
    record {
      top = acts.1;
      waits = subst (λ t. AreWaiting m P new z t after.top.locals.below after.top.operands.below (reverse after.waiting.items) cs.waits) (sym acts.2.result)
          (subst (λ v. AreWaiting m P new z cs.top.result after.top.locals.below after.top.operands.below (reverse v.items) cs.waits) (sym waiting)
          (waits_under z cs.top.result before.top after.top acts.4 (reverse before.waiting.items) cs.waits shows.waits));
      deep = subst (λ b. IsDeep b after.fuel acts.0) (sym (stays ∙ entered))
          (subst (λ d. after.fuel ≤ d) (sym acts.2.depth) (subst (λ k. k ≤ cs.top.depth) (sym fuel) (subst (λ b. IsDeep b before.fuel cs.top) entered shows.deep)));
      deep_below = subst (λ k. AreDeep k cs.waits) (sym fuel) shows.deep_below;
    },
    λ w. ap (λ c. then_coded c (steps.rest_of (generated P) (mode_of m P) (waiting_of cs.top.result cs.waits))) (acts.3 before.fuel w)
        ∙ ap (λ t. then_coded (runs_on m P acts.0 before.fuel w) (steps.rest_of (generated P) (mode_of m P) (waiting_of t cs.waits))) (sym acts.2.result)
        ∙ ap₂ (λ b k. end_of m P b (record { top = acts.0; waits = cs.waits }) k w) (sym (stays ∙ entered)) (sym fuel),
    subst (λ b. stack_steps P b after.fuel (record { top = acts.0; waits = cs.waits }) < stack_steps P true before.fuel cs) (sym (stays ∙ entered))
        (subst (λ k. stack_steps P true k (record { top = acts.0; waits = cs.waits }) < stack_steps P true before.fuel cs) (sym fuel) (let h = acts.2.shorter in omega (arith, h))),
  )
  lifted E z before after cs shows entered stays fuel waiting (Some trap) acts =
      ((λ w. ap (λ c. then_coded c (steps.rest_of (generated P) (mode_of m P) (waiting_of cs.top.result cs.waits))) (acts before.fuel w)), fuel)

pub mapped : {A B : Type 0} (f : A → B) (xs : List A) (i : ℕ) (d : A) → i < length (map f xs) → slice_get (map f xs) i ≡ Some (f (slice_index_or xs i d))
mapped f [] i d h = absurd (omega (arith, h))
mapped f (x ∷ xs) zero d h = refl
mapped f (x ∷ xs) (suc i) d h = let k : i < length (map f xs) = omega (arith, h) in mapped f xs i d k

-- the next instruction stands at the place of the running frame
module _ (m : Marking) (P : Program) (z : Ty) (nodes : List Node) (state : State) (cs : ValueStack) (shows : Represents m P z nodes state cs) where
  some_left : (B : Body) (t : Ty) (is : List Instruction) (shapes : List Shape) (s : Shape) → IsFine B t is shapes → slice_get shapes 0 ≡ Some s → (i : Instruction)
      × (rest : List Instruction) × (is ≡ i ∷ rest)
  some_left B t (i ∷ rest) shapes s h e = (i, rest, refl)
  some_left B t [] [] s h e = absurd (cc)
  some_left B t [] (x ∷ shapes) s h e = elim h [ ]

  behind : {A : Type 0} (xs : List A) (n : ℕ) (x : A) (rest : List A) → drop n xs ≡ x ∷ rest → (slice_get xs n ≡ Some x) × (n < length xs)
  behind [] zero x rest e = absurd (cc)
  behind [] (suc n) x rest e = absurd (cc)
  behind (y ∷ ys) zero x rest e = (let same : y ≡ x = cc in ap Some same, omega arith)
  behind (y ∷ ys) (suc n) x rest e = let h = behind ys n x rest e in (h.0, let k = h.1 in omega (arith, k))

  abbrev code : List Instruction
  code = (code_at (generated P) state.top.function.0).code

  abbrev first : (i : Instruction) × (rest : List Instruction) × (cs.top.left ≡ i ∷ rest)
  first = some_left (generated P) cs.top.result cs.top.left cs.top.shapes _ shows.top.is.fine shows.top.starts

  pub place_there : state.top.place < length code
  place_there = (behind code state.top.place first.0 first.1 (sym shows.top.is.left ∙ first.2)).1

  pub next_is : (i : Instruction) → slice_get code state.top.place ≡ Some i → IsNext i cs.top
  next_is i e =
      let h = (behind code state.top.place first.0 first.1 (sym shows.top.is.left ∙ first.2)).0 in
      let same : first.0 ≡ i = some_same first.0 i (sym h ∙ e) in
      record { rest = first.1; is = first.2 ∙ ap (λ i. i ∷ first.1) same }
    where
      some_same : (x y : Instruction) → Some x ≡ Some y → x ≡ y
      some_same x y e = cc

-- the running function is one of the program
pub top_there : (m : Marking) (P : Program) (z : Ty) (nodes : List Node) (state : State) (cs : ValueStack) → Represents m P z nodes state cs → state.top.function.0 < length P.functions
top_there m P z nodes state cs shows = let there = shows.top.is.there in let few = no_more_functions P in omega (arith, there, few)
