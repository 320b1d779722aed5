-- The machine authenticates its top operand.
use Rattle.std.proofs.Common.{◌≡◌, ℕ, ◌+◌, true, List, [], ◌∷◌, ◌++◌, reverse, None, refl, ap, ◌∙◌, subst}
use Rattle.core_terms.specs.Types.{Ty, AuthTy}
use Rattle.core_terms.specs.Values.{Value, Values, NoV, AndV}
use Rattle.core_terms.specs.Terms.{Program}
use Rattle.core_terms.specs.Instructions.{Auth}
use Rattle.core_terms.specs.Bodies.{Body}
use Rattle.core_terms.specs.GeneratedCode.{generated}
use Rattle.ideal_meaning.specs.Execution.{tie, act}
use Rattle.core_terms.specs.Accepted.{Fits}
use Rattle.value_store.specs.Nodes.{Node}
use Rattle.value_store.specs.Standing.{Kind, Keeps}
use Rattle.value_store.specs.Markings.{Marking, kind_of}
use Rattle.mode_vm.specs.Operands.{AllHeld, IsHeld}
use Rattle.mode_vm.specs.declared.operand.Operand.{Operand}
use Rattle.mode_vm.specs.Meanings.{mode_of}
use Rattle.mode_vm.specs.Machines.{ValueStack, Represents, IsNext, Before}
use Rattle.mode_vm.specs.Outcomes.{GoesTo}
use Rattle.mode_vm.specs.StateParts.{IsAt, IsElseSame}
use Rattle.mode_vm.specs.declared.state.State.{State}
use Rattle.mode_vm.proofs.Frames.{ToNext, fits_next, pushes, calls, reverse_push}
use Rattle.mode_vm.proofs.Lifting.{lifted}

module _ (kind : Kind) (types : List (List (List Ty))) (nodes : List Node) (B : Body) (z t : Ty) (ls : List Ty) (to : ℕ → List Ty → List Ty → Type 0) where
  pub record Plain (r : Operand) (rs : List Operand) (os : List Ty) (us : Values) : Type 0 where
    pub x : Value
    pub below_types : List Ty
    pub below : Values
    pub types_are : os ≡ t ∷ below_types
    pub are : us ≡ AndV x below
    pub stands : IsHeld kind types nodes r t x
    pub others : AllHeld kind types nodes rs below_types below
    pub goes : to 0 ls (AuthTy t ∷ below_types)

  pub plain : (r : Operand) (rs : List Operand) (os : List Ty) (us : Values) → Fits B z (Auth t) ls os to → AllHeld kind types nodes (r ∷ rs) os us → Plain r rs os us
  plain r rs (u ∷ os) (AndV x us) f h = record
      { x = x; below_types = os; below = us; types_are = ap (λ u. u ∷ os) f.0; are = refl; stands = subst (λ u. IsHeld kind types nodes r u x) f.0 h.0; others = h.1; goes = f.1 }
  plain r rs (u ∷ os) NoV f h = elim h [ ]
  plain r rs [] us f h = elim f [ ]

module _ (m : Marking) (P : Program) (z : Ty) (old : List Node) (before : State) (t : Ty) (cs : ValueStack) (shows : Represents m P z old before cs) (next : IsNext (Auth t) cs.top)
    (kept : List Operand) (v : Operand) (top : before.top.operands.items ≡ kept ++ v ∷ []) where
  abbrev here : Before m P old before.top (Auth t) cs.top
  here = record { top = shows.top; next = next }

  pub operand : Plain (kind_of m P) P.types old (generated P) cs.top.result t cs.top.local_types (ToNext (generated P) cs.top.result cs.top.shapes) v
      (reverse kept) cs.top.operand_types cs.top.operands
  operand = plain (kind_of m P) P.types old (generated P) cs.top.result t cs.top.local_types (ToNext (generated P) cs.top.result cs.top.shapes) v
      (reverse kept) cs.top.operand_types cs.top.operands
      (fits_next m P old before.top (Auth t) cs.top here)
      (subst (λ l. AllHeld (kind_of m P) P.types old l cs.top.operand_types cs.top.operands) (ap reverse top ∙ reverse_push kept v) shows.top.is.operands)

  pub authenticated : (new : List Node) → Keeps old new → (after : State) → before.entered ≡ true → (r : Operand)
      → IsAt before.top (before.top.place + 1) before.top.locals.items (kept ++ r ∷ []) after.top → IsElseSame before after
      → IsHeld (kind_of m P) P.types new r (AuthTy t) ((mode_of m P).auth t operand.x) → GoesTo m P z new true before.fuel cs after
  authenticated new keeps after entered r at others stands =
      lifted m P old new keeps (Unit {0}) z before after cs shows entered others.entered others.fuel others.waiting None
      (pushes m P old new keeps before.top after.top (Auth t) cs.top here kept r (AuthTy t) ((mode_of m P).auth t operand.x) operand.below_types operand.below at operand.goes stands operand.others
      (λ next k w.
      ap (λ os. act (generated P) (mode_of m P) (calls m P cs.top.depth) (Auth t) next (tie cs.top.local_types cs.top.locals) (tie os cs.top.operands) k w) operand.types_are
      ∙ ap (λ us. act (generated P) (mode_of m P) (calls m P cs.top.depth) (Auth t) next (tie cs.top.local_types cs.top.locals) (tie (t ∷ operand.below_types) us) k w) operand.are))
