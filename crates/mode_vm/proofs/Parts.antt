-- The parts of a pair that is seen, and the elements of an array.
use Rattle.std.proofs.Common.{◌≡◌, ◌∙◌, ℕ, List, Some, refl, sym, subst}
use Rattle.core_terms.specs.Types.{Ty, PairTy, VecTy, Table, item_types}
use Rattle.core_terms.specs.Values.{Value, PairV, ItemsV, Values}
use Rattle.value_store.specs.Nodes.{Node, PairNode, VecNode, form_at}
use Rattle.value_store.specs.Standing.{Kind, StandsFor, AllStandFor}

pair_same : (first second f s : ℕ) → Some (PairNode first second) ≡ Some (PairNode f s) → (first ≡ f) × (second ≡ s)
pair_same first second f s h = (cc, cc)

module _ (kind : Kind) (types : Table) (nodes : List Node) (r first second : ℕ) (a b : Ty) where
  pub parts_seen : (v : Value) → form_at nodes r ≡ Some (PairNode first second) → StandsFor kind types nodes r (PairTy a b) v
      → (x : Value) × (y : Value) × (v ≡ PairV x y) × StandsFor kind types nodes first a x × StandsFor kind types nodes second b y
  parts_seen (PairV x y) seen h =
      let same = pair_same h.0 h.1 first second (sym h.2 ∙ seen) in
      (x, y, refl, subst (λ i. StandsFor kind types nodes i a x) same.0 h.3, subst (λ i. StandsFor kind types nodes i b y) same.1 h.4)
  parts_seen v seen h = elim h [ ]

items_same : (items rs : List ℕ) → Some (VecNode items) ≡ Some (VecNode rs) → items ≡ rs
items_same items rs h = cc

-- and the elements of an array that is seen
module _ (kind : Kind) (types : Table) (nodes : List Node) (r : ℕ) (items : List ℕ) (n : ℕ) (t : Ty) where
  pub items_seen : (v : Value) → form_at nodes r ≡ Some (VecNode items) → StandsFor kind types nodes r (VecTy n t) v
      → (vs : Values) × (v ≡ ItemsV vs) × AllStandFor kind types nodes items (item_types n t) vs
  items_seen (ItemsV vs) seen h =
      (vs, refl, subst (λ rs. AllStandFor kind types nodes rs (item_types n t) vs) (items_same h.0 items (sym h.1 ∙ seen)) h.3)
  items_seen v seen h = elim h [ ]
