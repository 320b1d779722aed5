-- The machine opens its top operand.
use Rattle.std.proofs.Common.{◌≡◌, ℕ, ◌+◌, ◌≤◌, true, List, [], ◌∷◌, ◌++◌, reverse, Option, Err, refl, sym, ap, ap₂, ◌∙◌, subst, arith}
use Rattle.core_terms.specs.Types.{Ty, AuthTy}
use Rattle.core_terms.specs.Values.{Value, Values, NoV, AndV}
use Rattle.core_terms.specs.Terms.{Program}
use Rattle.ideal_meaning.specs.Run.{Run, Ends, Rejects, Opens, Refuses, with_fuel}
use Rattle.core_terms.specs.Instructions.{Unauth}
use Rattle.core_terms.specs.Bodies.{Body}
use Rattle.core_terms.specs.GeneratedCode.{generated}
use Rattle.ideal_meaning.specs.Execution.{Coded, Ran, held, tie, then_code, then_coded, exec, act}
use Rattle.core_terms.specs.Accepted.{Fits}
use Rattle.code_meaning.specs.Steps as steps
use Rattle.value_store.specs.Nodes.{Node}
use Rattle.value_store.specs.Standing.{Kind, Keeps, StandsFor}
use Rattle.value_store.specs.Markings.{Marking, kind_of}
use Rattle.value_store.proofs.OneValue.{one_value}
use Rattle.value_store.specs.declared.node.Ref.{Ref}
use Rattle.mode_vm.specs.Operands.{AllHeld, IsHeld}
use Rattle.mode_vm.specs.declared.operand.Operand.{Operand}
use Rattle.mode_vm.specs.declared.operand.Operand.TheVariants.{At}
use Rattle.mode_vm.specs.Meanings.{CauseOf, StateOf, RunOf, mode_of}
use Rattle.mode_vm.specs.Machines.{ValueStack, waiting_of, end_of, AreWaiting, AreDeep, IsDeep, Represents, IsNext, Before}
use Rattle.mode_vm.specs.StateParts.{IsAt, IsElseSame}
use Rattle.mode_vm.specs.Openings.{OpensAs}
use Rattle.mode_vm.specs.Runs.{StopIs}
use Rattle.mode_vm.specs.declared.mode.Stop.{Stop}
use Rattle.mode_vm.specs.declared.mode.Stop.TheVariants.{Mode as ModeStops, NoMemory}
use Rattle.mode_vm.specs.declared.state.State.{State}
use Rattle.mode_vm.proofs.Scalars.{IsNode, auth_node}
use Rattle.mode_vm.proofs.Frames.{ToNext, fits_next, moved, moved_top, all_keep, reverse_push, calls}
use Rattle.mode_vm.proofs.Lifting.{waits_under}

module _ (kind : Kind) (types : List (List (List Ty))) (nodes : List Node) (B : Body) (z t : Ty) (ls : List Ty) (to : ℕ → List Ty → List Ty → Type 0) where
  -- the authenticated operand on the others
  pub record Locked (r : Operand) (rs : List Operand) (os : List Ty) (us : Values) : Type 0 where
    pub x : Value
    pub below_types : List Ty
    pub below : Values
    pub types_are : os ≡ AuthTy t ∷ below_types
    pub are : us ≡ AndV x below
    pub stands : IsHeld kind types nodes r (AuthTy t) x
    pub others : AllHeld kind types nodes rs below_types below
    pub goes : to 0 ls (t ∷ below_types)

  pub locked : (r : Operand) (rs : List Operand) (os : List Ty) (us : Values) → Fits B z (Unauth t) ls os to → AllHeld kind types nodes (r ∷ rs) os us → Locked r rs os us
  locked r rs (AuthTy u ∷ os) (AndV x us) f h = record
      { x = x; below_types = os; below = us; types_are = ap (λ u. AuthTy u ∷ os) f.0; are = refl; stands = subst (λ u. IsHeld kind types nodes r (AuthTy u) x) f.0 h.0; others = h.1; goes = f.1 }
  locked r rs (AuthTy u ∷ os) NoV f h = elim h [ ]
  locked r rs os us f h = elim f [ ]

module _ (m : Marking) (P : Program) (z : Ty) (old new : List Node) (keeps : Keeps old new) (before : State) (t : Ty) (cs : ValueStack) (shows : Represents m P z old before cs)
    (next : IsNext (Unauth t) cs.top) (entered : before.entered ≡ true)
    (kept : List Operand) (v : Operand) (top : before.top.operands.items ≡ kept ++ v ∷ []) where
  abbrev B : Body
  B = generated P

  abbrev here : Before m P old before.top (Unauth t) cs.top
  here = record { top = shows.top; next = next }

  pub operand : Locked (kind_of m P) P.types old B cs.top.result t cs.top.local_types (ToNext B cs.top.result cs.top.shapes) v (reverse kept) cs.top.operand_types cs.top.operands
  operand = locked (kind_of m P) P.types old B cs.top.result t cs.top.local_types (ToNext B cs.top.result cs.top.shapes) v (reverse kept) cs.top.operand_types cs.top.operands
      (fits_next m P old before.top (Unauth t) cs.top here)
      (subst (λ l. AllHeld (kind_of m P) P.types old l cs.top.operand_types cs.top.operands) (ap reverse top ∙ reverse_push kept v) shows.top.is.operands)

  -- the operand is a node
  pub is_node : IsNode (kind_of m P) P.types old v (AuthTy t) operand.x
  is_node = auth_node (kind_of m P) P.types old t v operand.x operand.stands

  pub stands_at : (r : Ref) → v ≡ At r → StandsFor (kind_of m P) P.types old r.0 (AuthTy t) operand.x
  stands_at r is = subst (λ o. IsHeld (kind_of m P) P.types old o (AuthTy t) operand.x) is operand.stands

  abbrev rest : Value → ℕ → StateOf m → Coded (CauseOf m) (StateOf m)
  rest = steps.rest_of B (mode_of m P) (waiting_of cs.top.result cs.waits)

  abbrev behind : Value → ℕ → StateOf m → Coded (CauseOf m) (StateOf m)
  behind y k w = exec B (mode_of m P) (calls m P cs.top.depth) next.rest 0 (tie cs.top.local_types cs.top.locals) (held t y ∷ tie operand.below_types operand.below) k w

  opens : (k : ℕ) (w : StateOf m) → end_of m P true cs k w ≡ then_coded (then_code (with_fuel k ((mode_of m P).unauth t operand.x w)) behind) rest
  opens k w =
      let act_on = λ (ops : List _). then_coded (act B (mode_of m P) (calls m P cs.top.depth) (Unauth t) (exec B (mode_of m P) (calls m P cs.top.depth) next.rest)
      (tie cs.top.local_types cs.top.locals) ops k w) rest in
      ap (λ is. then_coded (exec B (mode_of m P) (calls m P cs.top.depth) is 0 (tie cs.top.local_types cs.top.locals) (tie cs.top.operand_types cs.top.operands) k w) rest) next.is
      ∙ ap (λ os. act_on (tie os cs.top.operands)) operand.types_are
      ∙ ap (λ us. act_on (tie (AuthTy t ∷ operand.below_types) us)) operand.are

  pub refused : (k : ℕ) (w w' : StateOf m) (cause : CauseOf m) → (mode_of m P).unauth t operand.x w ≡ Refuses cause w' → end_of m P true cs k w ≡ Ran (Ends (Rejects cause) k w')
  refused k w w' cause e = opens k w ∙ ap (λ o. then_coded (then_code (with_fuel k o) behind) rest) e

  module _ (after : State) (r : Ref) (at : IsAt before.top (before.top.place + 1) before.top.locals.items (kept ++ At r ∷ []) after.top) (others : IsElseSame before after) (y : Value)
      (stands : StandsFor (kind_of m P) P.types new r.0 t y) where
    abbrev pub opened_cores : ValueStack
    opened_cores = record { top = moved m P cs.top next.rest 0 cs.top.local_types (t ∷ operand.below_types) cs.top.locals (AndV y operand.below); waits = cs.waits }

    pub opened_shows : Represents m P z new after opened_cores
    opened_shows =
        let here_place : before.top.place + 1 ≡ before.top.place + 1 + 0 = omega arith in
        record {
          top = moved_top m P old new before.top after.top (Unauth t) cs.top here 0 before.top.locals.items (kept ++ At r ∷ []) cs.top.local_types (t ∷ operand.below_types) cs.top.locals
              (AndV y operand.below)
              (subst (λ p. IsAt before.top p before.top.locals.items (kept ++ At r ∷ []) after.top) here_place at) operand.goes
              (all_keep (kind_of m P) P.types old new keeps _ _ _ shows.top.is.locals)
              (subst (λ l. AllHeld (kind_of m P) P.types new l (t ∷ operand.below_types) (AndV y operand.below)) (sym (reverse_push kept (At r)))
              (stands, all_keep (kind_of m P) P.types old new keeps _ _ _ operand.others));
          waits = subst (λ v. AreWaiting m P new z cs.top.result after.top.locals.below after.top.operands.below (reverse v.items) cs.waits) (sym others.waiting)
              (waits_under m P old new keeps z cs.top.result before.top after.top at.over (reverse before.waiting.items) cs.waits shows.waits);
          deep = subst (λ b. IsDeep b after.fuel opened_cores.top) (sym (others.entered ∙ entered))
              (subst (λ k. k ≤ cs.top.depth) (sym others.fuel) (subst (λ b. IsDeep b before.fuel cs.top) entered shows.deep));
          deep_below = subst (λ k. AreDeep k cs.waits) (sym others.fuel) shows.deep_below;
        }

    -- another value that the node stands for is the same
    pub opened_same : (w w' : StateOf m) (y' : Value) → (mode_of m P).unauth t operand.x w ≡ Opens y' w' → StandsFor (kind_of m P) P.types new r.0 t y'
        → end_of m P true cs before.fuel w ≡ end_of m P after.entered opened_cores after.fuel w'
    opened_same w w' y' e stands' =
        let same : y' ≡ y = one_value (kind_of m P) P.types new t y' y r.0 stands' stands in
        opens before.fuel w
        ∙ ap (λ o. then_coded (then_code (with_fuel before.fuel o) behind) rest) (e ∙ ap (λ y. Opens y w') same)
        ∙ ap₂ (λ b k. end_of m P b opened_cores k w') (sym (others.entered ∙ entered)) (sym others.fuel)

pub rest_then : (a b c : State) → IsElseSame a b → IsElseSame b c → IsElseSame a c
rest_then a b c h j = record { entered = j.entered ∙ h.entered; fuel = j.fuel ∙ h.fuel; waiting = j.waiting ∙ h.waiting }

-- a mode that stops the run
module _ (m : Marking) (P : Program) (z : Ty) {F : Type 0} (cause : F → Option (CauseOf m)) (New : StateOf m → Type 0) (nodes : List Node) (t : Ty) (x : Value) (w : StateOf m) (k k' : ℕ)
    (same : k' ≡ k) (run : RunOf m)
    (ends : (c : CauseOf m) (w' : StateOf m) → (mode_of m P).unauth t x w ≡ Refuses c w' → run ≡ Ends (Rejects c) k w') where
  pub stop_is : (stop : Stop F) → OpensAs m P cause New nodes t x w (Err stop) → StopIs m P z cause New nodes k' stop run
  stop_is (ModeStops f) h = λ c e. let o = h c e in (o.0, ends c o.0 o.1 ∙ ap (λ k. Ends (Rejects c) k o.0) (sym same))
  stop_is NoMemory h = tt

ran_same : {C W : Type 0} (r s : Run C W Value) → Ran r ≡ Ran s → r ≡ s
ran_same r s e = cc

pub ran_is : {C W : Type 0} (c : Coded C W) (r s : Run C W Value) → c ≡ Ran r → c ≡ Ran s → r ≡ s
ran_is c r s e f = ran_same r s (sym e ∙ f)
