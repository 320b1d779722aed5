-- A local.
use Rattle.std.proofs.Common.{◌≡◌, ℕ, zero, suc, ◌<◌, List, [], ◌∷◌, length, drop, Result, Ok, Option, Some, slice_get, slice_index_or, refl, sym, ap, ◌∙◌, subst, arith}
use Rattle.core_terms.specs.Types.{Ty, Table}
use Rattle.core_terms.specs.Values.{Value, Values, NoV, AndV}
use Rattle.core_terms.specs.Terms.{Program}
use Rattle.core_terms.specs.declared.outcome.Trap.{Trap}
use Rattle.ideal_meaning.specs.Run.{Gives}
use Rattle.core_terms.specs.Instructions.{Load}
use Rattle.ideal_meaning.specs.Execution.{held, tie, where_some}
use Rattle.core_terms.specs.CodeShapes.{shape}
use Rattle.value_store.specs.Nodes.{Node}
use Rattle.value_store.specs.Standing.{Kind}
use Rattle.value_store.specs.Markings.{Marking, kind_of}
use Rattle.mode_vm.specs.Operands.{AllHeld, IsHeld}
use Rattle.mode_vm.specs.declared.operand.Operand.{Operand}
use Rattle.mode_vm.specs.Machines.{ValueFrame, Before}
use Rattle.mode_vm.specs.Outcomes.{Acts}
use Rattle.mode_vm.specs.StateParts.{Finishes}
use Rattle.mode_vm.specs.declared.frame.Frame.{Frame}
use Rattle.mode_vm.proofs.Frames.{fits_next}
use Rattle.mode_vm.proofs.Made.{made_acts}

module _ (kind : Kind) (types : Table) (nodes : List Node) where
  -- the local with a number, and what it stands for
  record IsLocal (rs : List Operand) (ts : List Ty) (vs : Values) (i : ℕ) (t : Ty) : Type 0 where
    r : Operand
    v : Value
    there : slice_get rs i ≡ Some r
    stands : IsHeld kind types nodes r t v
    tied : slice_get (tie ts vs) i ≡ Some (held t v)

  is_local : (rs : List Operand) (ts : List Ty) (vs : Values) (i : ℕ) (t : Ty) → AllHeld kind types nodes rs ts vs → slice_get ts i ≡ Some t → IsLocal rs ts vs i t
  is_local (r ∷ rs) (u ∷ ts) (AndV v vs) zero t h e =
      let s : u ≡ t = cc in
      record { r = r; v = v; there = refl; stands = subst (λ t. IsHeld kind types nodes r t v) s h.0; tied = ap (λ t. Some (held t v)) s }
  is_local (r ∷ rs) (u ∷ ts) (AndV v vs) (suc i) t h e = let l = is_local rs ts vs i t h.1 e in record { r = l.r; v = l.v; there = l.there; stands = l.stands; tied = l.tied }
  is_local [] [] vs i t h e = absurd (cc)
  is_local (r ∷ rs) [] vs i t h e = absurd (cc)
  is_local [] (u ∷ ts) vs i t h e = elim h [ ]
  is_local (r ∷ rs) (u ∷ ts) NoV i t h e = elim h [ ]

pub some_same : {A : Type 0} (x y : A) → Some x ≡ Some y → x ≡ y
some_same x y e = cc

pub read_there : {A : Type 0} (xs : List A) (i : ℕ) (d : A) → i < length xs → slice_get xs i ≡ Some (slice_index_or xs i d)
read_there [] i d h = absurd (omega (arith, h))
read_there (x ∷ xs) zero d h = refl
read_there (x ∷ xs) (suc i) d h = let k : i < length xs = omega (arith, h) in read_there xs i d k

pub short : {A : Type 0} (xs : List A) (i : ℕ) (x : A) → slice_get xs i ≡ Some x → i < length xs
short [] i x e = absurd (cc)
short (y ∷ ys) zero x e = omega arith
short (y ∷ ys) (suc i) x e = let h = short ys i x e in omega (arith, h)

module _ (m : Marking) (P : Program) (nodes : List Node) (frame : Frame) (i : ℕ) (c : ValueFrame) (b : Before m P nodes frame (Load i) c) where
  abbrev found : (t : Ty) × (slice_get c.local_types i ≡ Some t) × (slice_get (drop 1 c.shapes) 0 ≡ Some (shape c.local_types (t ∷ c.operand_types)))
  found = fits_next m P nodes frame (Load i) c b

  abbrev here : IsLocal (kind_of m P) P.types nodes frame.locals.items c.local_types c.locals i found.0
  here = is_local (kind_of m P) P.types nodes frame.locals.items c.local_types c.locals i found.0 b.top.is.locals found.1

  pub local_there : i < length frame.locals.items
  local_there = short frame.locals.items i here.r here.there

  pub load_acts : {E : Type 0} (after : Frame) (r : Operand) → slice_get frame.locals.items i ≡ Some r → (result : Result (Option Trap) E) → Finishes frame (Ok r) after result
      → Acts m P nodes frame c after result
  load_acts after r is result finishes =
      let same : here.r ≡ r = some_same here.r r (sym here.there ∙ is) in
      made_acts m P nodes nodes (λ kind types r t v h. h) frame after (Load i) c b frame.operands.items found.0 c.operand_types c.operands (λ k w. Gives here.v k w)
      (λ next k w. ap (λ o. where_some o (λ x. next 0 (tie c.local_types c.locals) (x ∷ tie c.operand_types c.operands) k w)) here.tied)
      found.2 b.top.is.operands (Ok r)
      (here.v, subst (λ r. IsHeld (kind_of m P) P.types nodes r found.0 here.v) same here.stands, λ k w. refl) result finishes
