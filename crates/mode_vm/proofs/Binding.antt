-- Locals are bound and dropped.
use Rattle.std.proofs.Common.{◌≡◌, ℕ, suc, ◌+◌, ◌-◌, ◌≤◌, List, [], ◌∷◌, ◌++◌, length, length-append, take, drop, reverse, refl, sym, ap, ◌∙◌, subst, arith}
use Rattle.core_terms.specs.Types.{Ty, Table}
use Rattle.core_terms.specs.Values.{Values, NoV, AndV}
use Rattle.core_terms.specs.Terms.{Program}
use Rattle.ideal_meaning.specs.Run.{join}
use Rattle.core_terms.specs.Instructions.{Bind, Unbind}
use Rattle.core_terms.specs.Bodies.{Body}
use Rattle.core_terms.specs.GeneratedCode.{generated}
use Rattle.ideal_meaning.specs.Execution.{tie, act, where_some, without_last}
use Rattle.core_terms.specs.Accepted.{Fits}
use Rattle.ideal_meaning.proofs.Parts.{last_dropped}
use Rattle.value_store.specs.Nodes.{Node}
use Rattle.value_store.specs.Standing.{Kind}
use Rattle.value_store.specs.Markings.{Marking, kind_of}
use Rattle.mode_vm.specs.Operands.{AllHeld}
use Rattle.mode_vm.specs.declared.operand.Operand.{Operand}
use Rattle.mode_vm.specs.Meanings.{mode_of}
use Rattle.mode_vm.specs.Machines.{ValueFrame, Before}
use Rattle.mode_vm.specs.Outcomes.{FrameGoesOn}
use Rattle.mode_vm.specs.StateParts.{IsAt}
use Rattle.mode_vm.specs.declared.frame.Frame.{Frame}
use Rattle.mode_vm.proofs.Frames.{ToNext, fits_next, goes_on, calls}
use Rattle.mode_vm.proofs.Operands.{One, as_many, one_popped}
use Rattle.mode_vm.proofs.Switching.{all_joined, tie_joined}

-- the operand that is bound
record Bound (B : Body) (z : Ty) (ls : List Ty) (to : ℕ → List Ty → List Ty → Type 0) (os : List Ty) : Type 0 where
  t : Ty
  below : List Ty
  is : os ≡ t ∷ below
  goes : to 0 (ls ++ t ∷ []) below

bound_parts : (B : Body) (z : Ty) (ls : List Ty) (to : ℕ → List Ty → List Ty → Type 0) (os : List Ty) → Fits B z Bind ls os to → Bound B z ls to os
bound_parts B z ls to (t ∷ os) h = record { t = t; below = os; is = refl; goes = h }
bound_parts B z ls to [] h = elim h [ ]

module _ (m : Marking) (P : Program) (nodes : List Node) (frame : Frame) (c : ValueFrame) (b : Before m P nodes frame Bind c) (last : List Operand) (r : Operand)
    (top : frame.operands.items ≡ last ++ r ∷ []) where
  binds : Bound (generated P) c.result c.local_types (ToNext (generated P) c.result c.shapes) c.operand_types
  binds = bound_parts (generated P) c.result c.local_types (ToNext (generated P) c.result c.shapes) c.operand_types (fits_next m P nodes frame Bind c b)

  abbrev one : One (kind_of m P) P.types nodes r (reverse last) binds.t binds.below c.operands
  one = one_popped (kind_of m P) P.types nodes frame.operands.items last r binds.t binds.below c.operands top
      (subst (λ os. AllHeld (kind_of m P) P.types nodes (reverse frame.operands.items) os c.operands) binds.is b.top.is.operands)

  pub bound : (after : Frame) → IsAt frame (frame.place + 1) (frame.locals.items ++ r ∷ []) last after → FrameGoesOn m P nodes frame c after
  bound after at =
      let here : frame.place + 1 ≡ frame.place + 1 + 0 = omega arith in
      goes_on m P nodes nodes frame after Bind c b 0 (frame.locals.items ++ r ∷ []) last (c.local_types ++ binds.t ∷ []) binds.below (join c.locals (AndV one.x NoV)) one.below
      (subst (λ p. IsAt frame p (frame.locals.items ++ r ∷ []) last after) here at)
      binds.goes
      (all_joined (kind_of m P) P.types nodes frame.locals.items (r ∷ []) c.local_types (binds.t ∷ []) c.locals (AndV one.x NoV) b.top.is.locals (one.stands, tt))
      one.rest
      (λ next k w.
      ap (λ os. act (generated P) (mode_of m P) (calls m P c.depth) Bind next (tie c.local_types c.locals) (tie os c.operands) k w) binds.is
      ∙ ap (λ us. act (generated P) (mode_of m P) (calls m P c.depth) Bind next (tie c.local_types c.locals) (tie (binds.t ∷ binds.below) us) k w) one.is
      ∙ ap (λ env. next 0 env (tie binds.below one.below) k w)
      (tie_joined (kind_of m P) P.types nodes frame.locals.items c.local_types (binds.t ∷ []) c.locals (AndV one.x NoV) b.top.is.locals))

module _ (kind : Kind) (types : Table) (nodes : List Node) where
  -- locals, and the last of them
  record Split (rs : List Operand) (ts us : List Ty) (vs : Values) : Type 0 where
    front : Values
    back : Values
    is : vs ≡ join front back
    stand : AllHeld kind types nodes (take (length ts) rs) ts front
    rest : AllHeld kind types nodes (drop (length ts) rs) us back

  split : (rs : List Operand) (ts us : List Ty) (vs : Values) → AllHeld kind types nodes rs (ts ++ us) vs → Split rs ts us vs
  split rs [] us vs h = record { front = NoV; back = vs; is = refl; stand = tt; rest = h }
  split (r ∷ rs) (t ∷ ts) us (AndV v vs) h =
      let s = split rs ts us vs h.1 in
      record { front = AndV v s.front; back = s.back; is = ap (AndV v) s.is; stand = (h.0, s.stand); rest = s.rest }
  split [] (t ∷ ts) us vs h = elim h [ ]
  split (r ∷ rs) (t ∷ ts) us NoV h = elim h [ ]

  pub tied_length : (rs : List Operand) (ts : List Ty) (vs : Values) → AllHeld kind types nodes rs ts vs → length (tie ts vs) ≡ length ts
  tied_length [] [] NoV h = refl
  tied_length (r ∷ rs) (t ∷ ts) (AndV v vs) h = ap suc (tied_length rs ts vs h.1)
  tied_length [] [] (AndV v vs) h = elim h [ ]
  tied_length [] (t ∷ ts) vs h = elim h [ ]
  tied_length (r ∷ rs) [] vs h = elim h [ ]
  tied_length (r ∷ rs) (t ∷ ts) NoV h = elim h [ ]

module _ (m : Marking) (P : Program) (nodes : List Node) (frame : Frame) (n : ℕ) (c : ValueFrame) (b : Before m P nodes frame (Unbind n) c) where
  unbinds : (kept : List Ty) × (dropped : List Ty) × (c.local_types ≡ kept ++ dropped) × (length dropped ≡ n) × ToNext (generated P) c.result c.shapes 0 kept c.operand_types
  unbinds = fits_next m P nodes frame (Unbind n) c b

  abbrev parts : Split (kind_of m P) P.types nodes frame.locals.items unbinds.0 unbinds.1 c.locals
  parts = split (kind_of m P) P.types nodes frame.locals.items unbinds.0 unbinds.1 c.locals
      (subst (λ ts. AllHeld (kind_of m P) P.types nodes frame.locals.items ts c.locals) unbinds.2 b.top.is.locals)

  all_locals : length frame.locals.items ≡ length unbinds.0 + n
  all_locals =
      let a = as_many (kind_of m P) P.types nodes frame.locals.items c.local_types c.locals b.top.is.locals in
      let t = ap length unbinds.2 in
      let s = length-append unbinds.0 unbinds.1 in
      let d = unbinds.3 in
      omega (arith, a, t, s, d)

  pub unbind_enough : n ≤ length frame.locals.items
  unbind_enough = let l = all_locals in omega (arith, l)

  pub unbound : (after : Frame) → IsAt frame (frame.place + 1) (take (length frame.locals.items - n) frame.locals.items) frame.operands.items after → FrameGoesOn m P nodes frame c after
  unbound after at =
      let here : frame.place + 1 ≡ frame.place + 1 + 0 = omega arith in
      let l = all_locals in
      let left : length frame.locals.items - n ≡ length unbinds.0 = omega (arith, l) in
      let kept = take (length unbinds.0) frame.locals.items in
      let ops = tie c.operand_types c.operands in
      goes_on m P nodes nodes frame after (Unbind n) c b 0 kept frame.operands.items unbinds.0 c.operand_types parts.front c.operands
      (subst (λ p. IsAt frame p kept frame.operands.items after) here (subst (λ k. IsAt frame (frame.place + 1) (take k frame.locals.items) frame.operands.items after) left at))
      unbinds.4
      parts.stand
      b.top.is.operands
      (λ next k w.
      ap (λ ts. where_some (without_last n (tie ts c.locals)) (λ env. next 0 env ops k w)) unbinds.2
      ∙ ap (λ vs. where_some (without_last n (tie (unbinds.0 ++ unbinds.1) vs)) (λ env. next 0 env ops k w)) parts.is
      ∙ ap (λ env. where_some (without_last n env) (λ env. next 0 env ops k w))
      (sym (tie_joined (kind_of m P) P.types nodes (take (length unbinds.0) frame.locals.items) unbinds.0 unbinds.1 parts.front parts.back parts.stand))
      ∙ ap (λ o. where_some o (λ env. next 0 env ops k w))
      (last_dropped (tie unbinds.0 parts.front) (tie unbinds.1 parts.back) n
      (tied_length (kind_of m P) P.types nodes (drop (length unbinds.0) frame.locals.items) unbinds.1 parts.back parts.rest ∙ unbinds.3)))
