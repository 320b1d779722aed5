-- A function gives its value back.
use Rattle.std.proofs.Common.{◌≡◌, ℕ, ◌+◌, ◌<◌, ◌≤◌, true, List, [], ◌∷◌, ◌++◌, length, drop, reverse, refl, sym, ap, ap₂, ◌∙◌, subst, arith}
use Rattle.std.proofs.lemmas.List.{reverse-append}
use Rattle.core_terms.specs.Types.{Ty, Table}
use Rattle.core_terms.specs.Values.{Value, Values, NoV, AndV}
use Rattle.core_terms.specs.Terms.{Program}
use Rattle.ideal_meaning.specs.Run.{Gives}
use Rattle.core_terms.specs.Instructions.{Return}
use Rattle.core_terms.specs.Bodies.{Body, code_at}
use Rattle.core_terms.specs.GeneratedCode.{generated}
use Rattle.ideal_meaning.specs.Execution.{Ran, tie, then_coded, exec, act}
use Rattle.core_terms.specs.Accepted.{IsFine, Fits}
use Rattle.code_meaning.specs.Steps as steps
use Rattle.value_store.specs.Nodes.{Node}
use Rattle.value_store.specs.Standing.{Kind}
use Rattle.value_store.specs.Markings.{Marking, kind_of}
use Rattle.mode_vm.specs.Operands.{AllHeld, IsHeld}
use Rattle.mode_vm.specs.declared.operand.Operand.{Operand}
use Rattle.mode_vm.specs.Meanings.{StateOf, mode_of}
use Rattle.mode_vm.specs.Machines.{ValueFrame, ValueStack, all_left, stack_steps, waiting_of, end_of, AreWaiting, AreDeep, IsDeep, Represents, IsNext}
use Rattle.core_terms.specs.declared.outcome.Outcome.TheVariants.{Done}
use Rattle.value_store.specs.Standing.{StandsFor}
use Rattle.value_store.specs.declared.node.Ref.{Ref}
use Rattle.mode_vm.specs.Outcomes.{EndsAs, GoesTo}
use Rattle.mode_vm.specs.StateParts.{IsAt, frame_in}
use Rattle.mode_vm.specs.declared.frame.Frame.{Frame}
use Rattle.mode_vm.specs.declared.frame.Waiting.{Waiting}
use Rattle.mode_vm.specs.declared.state.State.{State}
use Rattle.mode_vm.proofs.Frames.{ToNext, fits_first, reverse_push, calls}
use Rattle.mode_vm.proofs.Lifting.{waits_under}

module _ (kind : Kind) (types : Table) (nodes : List Node) (B : Body) (z : Ty) (ls : List Ty) (to : ℕ → List Ty → List Ty → Type 0) where
  -- the one operand
  pub record One (r : Operand) (os : List Ty) (us : Values) : Type 0 where
    pub v : Value
    pub types_are : os ≡ z ∷ []
    pub are : us ≡ AndV v NoV
    pub stands : IsHeld kind types nodes r z v

  pub one : (r : Operand) (rs : List Operand) (os : List Ty) (us : Values) → Fits B z Return ls os to → AllHeld kind types nodes (r ∷ rs) os us → One r os us
  one r rs (t ∷ []) (AndV v us) f h = record { v = v; types_are = ap (λ t. t ∷ []) f; are = ap (AndV v) (none rs us h.1); stands = subst (λ t. IsHeld kind types nodes r t v) f h.0 }
    where
      none : (rs : List Operand) (us : Values) → AllHeld kind types nodes rs [] us → us ≡ NoV
      none [] NoV h = refl
      none [] (AndV v us) h = elim h [ ]
      none (r ∷ rs) us h = elim h [ ]
  one r rs (t ∷ []) NoV f h = elim h [ ]
  one r rs (t ∷ (u ∷ os)) us f h = elim f [ ]
  one r rs [] us f h = elim f [ ]

module _ (m : Marking) (P : Program) (z : Ty) (nodes : List Node) (old : State) (cs : ValueStack) (shows : Represents m P z nodes old cs) (next : IsNext Return cs.top) (entered : old.entered ≡ true)
    (kept : List Operand) (r : Operand) (top : old.top.operands.items ≡ kept ++ r ∷ []) where
  abbrev B : Body
  B = generated P

  fits : Fits B cs.top.result Return cs.top.local_types cs.top.operand_types (ToNext B cs.top.result cs.top.shapes)
  fits = fits_first B cs.top.result Return next.rest cs.top.shapes cs.top.local_types cs.top.operand_types
      (subst (λ is. IsFine B cs.top.result is cs.top.shapes) next.is shows.top.is.fine) shows.top.starts

  given : One (kind_of m P) P.types nodes B cs.top.result cs.top.local_types (ToNext B cs.top.result cs.top.shapes) r cs.top.operand_types cs.top.operands
  given = one (kind_of m P) P.types nodes B cs.top.result cs.top.local_types (ToNext B cs.top.result cs.top.shapes) r (reverse kept) cs.top.operand_types cs.top.operands fits
      (subst (λ l. AllHeld (kind_of m P) P.types nodes l cs.top.operand_types cs.top.operands) (ap reverse top ∙ reverse_push kept r) shows.top.is.operands)

  gives : (k : ℕ) (w : StateOf m) → end_of m P true cs k w ≡ then_coded (Ran (Gives given.v k w)) (steps.rest_of B (mode_of m P) (waiting_of cs.top.result cs.waits))
  gives k w =
      let rest = steps.rest_of B (mode_of m P) (waiting_of cs.top.result cs.waits) in
      ap (λ is. then_coded (exec B (mode_of m P) (calls m P cs.top.depth) is 0 (tie cs.top.local_types cs.top.locals) (tie cs.top.operand_types cs.top.operands) k w) rest) next.is
      ∙ ap (λ os. then_coded (act B (mode_of m P) (calls m P cs.top.depth) Return (exec B (mode_of m P) (calls m P cs.top.depth) next.rest) (tie cs.top.local_types cs.top.locals)
      (tie os cs.top.operands) k w) rest) given.types_are
      ∙ ap (λ us. then_coded (act B (mode_of m P) (calls m P cs.top.depth) Return (exec B (mode_of m P) (calls m P cs.top.depth) next.rest) (tie cs.top.local_types cs.top.locals)
      (tie (cs.top.result ∷ []) us) k w) rest) given.are

  module _ (waiter : Waiting) (others : List Waiting) (waited : old.waiting.items ≡ others ++ waiter ∷ []) where
    abbrev caller : Frame
    caller = frame_in waiter old.top.locals.below old.top.operands.below

    waits : AreWaiting m P nodes z cs.top.result old.top.locals.below old.top.operands.below (waiter ∷ reverse others) cs.waits
    waits = subst (λ l. AreWaiting m P nodes z cs.top.result old.top.locals.below old.top.operands.below l cs.waits) (ap reverse waited ∙ reverse-append others (waiter ∷ [])) shows.waits

    -- what the frame that waits has lies below
    pub bases : (waiter.local_base ≤ length old.top.locals.below) × (waiter.operand_base ≤ length old.top.operands.below)
    bases = of cs.waits waits
      where
        of : (ws : List ValueFrame) → AreWaiting m P nodes z cs.top.result old.top.locals.below old.top.operands.below (waiter ∷ reverse others) ws
            → (waiter.local_base ≤ length old.top.locals.below) × (waiter.operand_base ≤ length old.top.operands.below)
        of [] h = elim h [ ]
        of (c ∷ ws) h = (h.0.local_base, h.0.operand_base)

    module _ (new : State) (at : IsAt caller caller.place caller.locals.items (caller.operands.items ++ r ∷ []) new.top) (waiting : new.waiting.items ≡ others) (fuel : new.fuel ≡ old.fuel)
        (stays : new.entered ≡ old.entered) where
      back : (t : Ty) (v : Value) (ws : List ValueFrame) → AreWaiting m P nodes z t old.top.locals.below old.top.operands.below (waiter ∷ reverse others) ws → AreDeep old.fuel ws → IsHeld (kind_of m P) P.types nodes r t v
          → (after : ValueStack) × Represents m P z nodes new after × ((k : ℕ) (w : StateOf m)
          → then_coded (Ran (Gives v k w)) (steps.rest_of B (mode_of m P) (waiting_of t ws)) ≡ end_of m P true after k w)
          × (length after.top.left + all_left after.waits ≡ all_left ws)
      back t v [] h d s = elim h [ ]
      back t v (c ∷ ws) h d s =
          let values : ValueFrame = record {
            depth = c.depth;
            left = c.left;
            shapes = c.shapes;
            result = c.result;
            local_types = c.local_types;
            locals = c.locals;
            operand_types = t ∷ c.operand_types;
            operands = AndV v c.operands;
          } in (
            record { top = values; waits = ws },
            record {
              top = record {
                is = record {
                  there = subst (λ f. f.0 < length (generated P).functions) (sym at.function) h.0.is.there;
                  result = h.0.is.result ∙ ap (λ f. (code_at B f.0).result) (sym at.function);
                  left = h.0.is.left ∙ ap (λ p. drop p (code_at B caller.function.0).code) (sym at.place) ∙ ap (λ f. drop new.top.place (code_at B f.0).code) (sym at.function);
                  fine = h.0.is.fine;
                  locals = subst (λ l. AllHeld (kind_of m P) P.types nodes l c.local_types c.locals) (sym at.locals) h.0.is.locals;
                  operands = subst (λ l. AllHeld (kind_of m P) P.types nodes l (t ∷ c.operand_types) (AndV v c.operands))
                      (sym (ap reverse at.operands ∙ reverse_push caller.operands.items r)) (s, h.0.is.operands);
                };
                starts = h.0.starts;
              };
              waits = subst (λ l. AreWaiting m P nodes z c.result new.top.locals.below new.top.operands.below (reverse l) ws) (sym waiting)
                  (waits_under m P nodes nodes (λ kind types r t v h. h) z c.result caller new.top at.over (reverse others) ws h.1);
              deep = subst (λ b. IsDeep b new.fuel values) (sym (stays ∙ entered)) (subst (λ k. k ≤ c.depth) (sym fuel) d.0);
              deep_below = subst (λ k. AreDeep k ws) (sym fuel) d.1;
            },
            (λ k w. refl),
            refl,
          )

      pub return_leads : GoesTo m P z nodes true old.fuel cs new
      return_leads =
          let b = back cs.top.result given.v cs.waits waits shows.deep_below given.stands in (
            b.0,
            b.1,
            (λ w. gives old.fuel w ∙ b.2 old.fuel w ∙ ap₂ (λ e k. end_of m P e b.0 k w) (sym (stays ∙ entered)) (sym fuel)),
            subst (λ e. stack_steps P e new.fuel b.0 < stack_steps P true old.fuel cs) (sym (stays ∙ entered))
                (subst (λ k. stack_steps P true k b.0 < stack_steps P true old.fuel cs) (sym fuel) (let l = ap length next.is in let h = b.3 in omega (arith, l, h))),
          )

  -- nothing waits for it: the run ends
  module _ (waited : old.waiting.items ≡ []) (new : List Node) (put : Ref)
      (placed : (t : Ty) (v : Value) → IsHeld (kind_of m P) P.types nodes r t v → StandsFor (kind_of m P) P.types new put.0 t v) where
    last : (t : Ty) (ws : List ValueFrame) → AreWaiting m P nodes z t old.top.locals.below old.top.operands.below [] ws → (t ≡ z) × (ws ≡ [])
    last t [] h = (h, refl)
    last t (c ∷ ws) h = elim h [ ]

    pub return_ends : EndsAs m P z new (Done put) true cs old.fuel
    return_ends =
        let l = last cs.top.result cs.waits (subst (λ l. AreWaiting m P nodes z cs.top.result old.top.locals.below old.top.operands.below (reverse l) cs.waits) waited shows.waits) in (
          given.v,
          subst (λ t. StandsFor (kind_of m P) P.types new put.0 t given.v) l.0 (placed cs.top.result given.v given.stands),
          λ w. gives old.fuel w ∙ ap (λ ws. then_coded (Ran (Gives given.v old.fuel w)) (steps.rest_of B (mode_of m P) (waiting_of cs.top.result ws))) l.1,
        )
