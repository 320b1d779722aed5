-- The nodes that a walk meets: for records_of and auth_order.
use Rattle.std.proofs.Common.{◌≡◌, ◌⊎◌, inl, inr, ℕ, ◌+◌, ◌<◌, zero, suc, List, [], ◌∷◌, ◌++◌, length, Some, slice_get, slice_index_or, sym, ap, subst, arith}
use Rattle.std.specs.Option.{option_map_or}
use Rattle.core_terms.specs.declared.types.TyId.{TyId}
use Rattle.core_terms.specs.declared.types.TyForm.{TyForm}
use Rattle.core_terms.specs.declared.types.TyForm.TheVariants.{UnitForm, BoolForm, IntForm, TextForm, AuthForm, PairForm, NamedForm, VecForm}
use Rattle.value_store.specs.CodeNodes.{numbers_of}
use Rattle.value_store.specs.Nodes.{InnerHeld, BothHeld, OnlyHeld, Form, UnitNode, BoolNode, IntNode, TextNode, PairNode, ConNode, AuthNode, VecNode, Node, form_at, refs_in}
use Rattle.value_store.specs.declared.node.Ref.{Ref}
use Rattle.images.specs.FormTypes.{inner_told}
use Rattle.images.specs.Frames.{frame_of}
use Rattle.images.specs.Reached.{AllReached, OrderReached, PartOf, Reaches}
use Rattle.images.specs.SavedRecords.{IsAdded, IsAmongOld, IsBehindOld, KeepsNodes, node_numbers, record_for}
use Rattle.images.specs.declared.save.Frame.{Frame}
use Rattle.images.specs.declared.save.records.Records.{Records}
use Rattle.images.proofs.NodeEntries.{refs_at}

module _ (nodes : List Node) (root : ℕ) where
  abbrev pub FramesReached : List Frame → Type 0
  FramesReached [] = Unit {0}
  FramesReached (f ∷ fs) = Reaches nodes root f.node.0 × FramesReached fs

  -- the first nodes are met, where they are kept
  abbrev pub FirstReached : Records → Type 0
  FirstReached records = KeepsNodes records → AllReached nodes root (node_numbers records)

  pub reached_part : (f : Frame) (fs : List Frame) (p : Ref) → slice_get (refs_at nodes f.node.0) f.next ≡ Some p.0 → FramesReached (f ∷ fs)
      → FramesReached (frame_of p 0 ∷ frame_of f.node (f.next + 1) ∷ fs)
  reached_part f fs p at h = (PartOf f.node.0 f.next p.0 h.0 at, (h.0, h.1))

  all_push : (rs : List ℕ) (r : ℕ) → AllReached nodes root rs → Reaches nodes root r → AllReached nodes root (rs ++ r ∷ [])
  all_push [] r h last = (last, tt)
  all_push (x ∷ rs) r h last = (h.0, all_push rs r h.1 last)

  pub reached_add : (node : ℕ) (form : Form) (old new : Records) → IsAdded node form old new → Reaches nodes root node → FirstReached old → FirstReached new
  reached_add node form old new added h all keeps = by added.1.1
    where
      by : IsAmongOld old new ⊎ IsBehindOld node (record_for old form) old new → AllReached nodes root (node_numbers new)
      by (inl there) = let kept = there.1 keeps in subst (AllReached nodes root) (sym kept.1) (all kept.0)
      by (inr behind) = let kept = behind.2 keeps in subst (AllReached nodes root) (sym kept.1) (all_push (node_numbers old) node (all kept.0) h)

  order_append : (a b : List (TyId × Ref)) → OrderReached nodes root a → OrderReached nodes root b → OrderReached nodes root (a ++ b)
  order_append [] b h j = j
  order_append (o ∷ a) b h j = (h.0, order_append a b h.1 j)

  -- what is told of a node that is met
  inner_reached : (r : ℕ) (told : TyForm) (form : Form) → refs_at nodes r ≡ refs_in form → Reaches nodes root r → OrderReached nodes root (inner_told told form)
  inner_reached r (AuthForm ty) (AuthNode (InnerHeld inner)) at h = (PartOf r 0 inner h (ap (λ rs. slice_get rs 0) at), tt)
  inner_reached r (AuthForm ty) (AuthNode (BothHeld digest inner)) at h = (PartOf r 0 inner h (ap (λ rs. slice_get rs 0) at), tt)
  inner_reached r (AuthForm ty) (AuthNode (OnlyHeld digest)) at h = tt
  inner_reached r (AuthForm ty) UnitNode at h = tt
  inner_reached r (AuthForm ty) (BoolNode b) at h = tt
  inner_reached r (AuthForm ty) (IntNode z) at h = tt
  inner_reached r (AuthForm ty) (TextNode bytes) at h = tt
  inner_reached r (AuthForm ty) (PairNode a b) at h = tt
  inner_reached r (AuthForm ty) (ConNode number tag fields) at h = tt
  inner_reached r (AuthForm ty) (VecNode items) at h = tt
  inner_reached r UnitForm form at h = tt
  inner_reached r BoolForm form at h = tt
  inner_reached r IntForm form at h = tt
  inner_reached r TextForm form at h = tt
  inner_reached r (PairForm a b) form at h = tt
  inner_reached r (NamedForm named) form at h = tt
  inner_reached r (VecForm n part) form at h = tt

  reached_at : (items : List Ref) (i : ℕ) (d : Ref) → i < length items → AllReached nodes root (numbers_of items) → Reaches nodes root (slice_index_or items i d).0
  reached_at [] i d h all = absurd (omega (arith, h))
  reached_at (x ∷ xs) zero d h all = all.0
  reached_at (x ∷ xs) (suc i) d h all = reached_at xs i d (omega (arith, h)) all.1

  pub order_reached : (order : List (TyId × Ref)) (items : List Ref) (i : ℕ) (d : Ref) (told : TyForm) (form : Form) → i < length items
      → AllReached nodes root (numbers_of items) → form_at nodes (slice_index_or items i d).0 ≡ Some form → OrderReached nodes root order
      → OrderReached nodes root (order ++ inner_told told form)
  order_reached order items i d told form inside all at h =
      order_append order (inner_told told form) h
      (inner_reached (slice_index_or items i d).0 told form (ap (λ o. option_map_or refs_in o []) at) (reached_at items i d inside all))
