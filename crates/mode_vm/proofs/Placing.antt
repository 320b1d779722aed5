-- Operands are put among the nodes, and nodes are taken for operands.
use Rattle.std.proofs.Common.{◌≡◌, ℕ, zero, suc, ◌+◌, ◌<◌, ◌≤◌, List, [], ◌∷◌, ◌++◌, length, drop, slice_index_or, refl, sym, ap, ◌∙◌, arith}
use Rattle.core_terms.specs.Types.{Ty, Table}
use Rattle.core_terms.specs.Values.{Value, Values, NoV, AndV}
use Rattle.value_store.specs.CodeNodes.{numbers_of}
use Rattle.value_store.specs.Nodes.{Node}
use Rattle.value_store.specs.Standing.{AllStandFor, Keeps, Kind}
use Rattle.value_store.specs.declared.node.Ref.{Ref}
use Rattle.mode_vm.specs.Operands.{AllHeld, IsHeld, all_at}
use Rattle.mode_vm.specs.declared.operand.Operand.{Operand}
use Rattle.mode_vm.specs.declared.operand.Operand.TheVariants.{At}
use Rattle.mode_vm.proofs.Frames.{all_keep, held_keeps}

pub drop_next : {A : Type 0} (xs : List A) (i : ℕ) (d : A) → i < length xs → drop i xs ≡ slice_index_or xs i d ∷ drop (i + 1) xs
drop_next [] i d h = absurd (omega (arith, h))
drop_next (x ∷ xs) zero d h = refl
drop_next (x ∷ xs) (suc i) d h =
    let k : i < length xs = omega (arith, h) in
    let e : suc i + 1 ≡ suc (i + 1) = omega arith in
    drop_next xs i d k ∙ ap (λ n. slice_index_or xs i d ∷ drop n (x ∷ xs)) (sym e)

pub drop_past : {A : Type 0} (xs : List A) (i : ℕ) → length xs ≤ i → drop i xs ≡ []
drop_past [] zero h = refl
drop_past [] (suc i) h = refl
drop_past (x ∷ xs) zero h = absurd (omega (arith, h))
drop_past (x ∷ xs) (suc i) h = let k : length xs ≤ i = omega (arith, h) in drop_past xs i k

pub at_behind : (xs ys : List Ref) → all_at (xs ++ ys) ≡ all_at xs ++ all_at ys
at_behind [] ys = refl
at_behind (x ∷ xs) ys = ap (λ l. At x ∷ l) (at_behind xs ys)

module _ (kind : Kind) (types : Table) where
  pub held_nodes : (nodes : List Node) (rs : List Ref) (ts : List Ty) (vs : Values) → AllHeld kind types nodes (all_at rs) ts vs → AllStandFor kind types nodes (numbers_of rs) ts vs
  held_nodes nodes [] [] NoV h = tt
  held_nodes nodes (r ∷ rs) (t ∷ ts) (AndV v vs) h = (h.0, held_nodes nodes rs ts vs h.1)
  held_nodes nodes [] [] (AndV v vs) h = elim h [ ]
  held_nodes nodes [] (t ∷ ts) vs h = elim h [ ]
  held_nodes nodes (r ∷ rs) [] vs h = elim h [ ]
  held_nodes nodes (r ∷ rs) (t ∷ ts) NoV h = elim h [ ]

  -- one operand is put
  module _ (old new : List Node) (keeps : Keeps old new) (o : Operand) (r : Ref) (put : (t : Ty) (v : Value) → IsHeld kind types old o t v → IsHeld kind types new (At r) t v) (rest : List Operand) where
    pub one_put : (os : List Operand) (ts : List Ty) (vs : Values) → AllHeld kind types old (os ++ o ∷ rest) ts vs → AllHeld kind types new (os ++ At r ∷ rest) ts vs
    one_put [] (t ∷ ts) (AndV v vs) h = (put t v h.0, all_keep kind types old new keeps rest ts vs h.1)
    one_put (q ∷ os) (t ∷ ts) (AndV v vs) h = (held_keeps kind types old new keeps q t v h.0, one_put os ts vs h.1)
    one_put [] [] vs h = elim h [ ]
    one_put [] (t ∷ ts) NoV h = elim h [ ]
    one_put (q ∷ os) [] vs h = elim h [ ]
    one_put (q ∷ os) (t ∷ ts) NoV h = elim h [ ]
