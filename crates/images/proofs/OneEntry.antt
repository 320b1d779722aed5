-- A node stands for one entry: its form tells the type and the value.
use Rattle.std.proofs.Common.{◌≡◌, ℕ, zero, suc, true, List, [], ◌∷◌, Option, Some, refl, sym, ap, ap₂, ◌∙◌, subst}
use Rattle.core_terms.specs.Types.{Ty, UnitTy, BoolTy, IntTy, TextTy, PairTy, NamedTy, AuthTy, VecTy, Table, fields_at, is_length, item_types, OnFields}
use Rattle.core_terms.specs.Values.{Value, UnitV, BoolV, IntV, TextV, PairV, ConV, ItemsV, Values, NoV, AndV}
use Rattle.value_store.specs.Nodes.{Held, InnerHeld, BothHeld, OnlyHeld, Form, UnitNode, BoolNode, IntNode, TextNode, PairNode, ConNode, AuthNode, VecNode, Node, form_at}
use Rattle.value_store.specs.Standing.{IdealNodes, Holds, StandsFor, AllStandFor}

module _ (types : Table) (nodes : List Node) where
  abbrev Stands : ℕ → Ty → Value → Type 0
  Stands r t v = StandsFor IdealNodes types nodes r t v

  -- the node of an authenticated value refers to a node for the value
  abbrev Refers : Held → Ty → Value → Type 0
  Refers (InnerHeld inner) t v = Stands inner t v
  Refers (BothHeld digest inner) t v = Stands inner t v
  Refers (OnlyHeld digest) t v = ⊥

  refers : (held : Held) (t : Ty) (v : Value) → Holds IdealNodes types held t v (λ r. Stands r t v) → Refers held t v
  refers (InnerHeld inner) t v h = h
  refers (BothHeld digest inner) t v h = h
  refers (OnlyHeld digest) t v h = elim h [ ]

  -- what a node of the form may stand for
  abbrev Told : Form → Ty → Value → Type 0
  Told UnitNode t v = (t ≡ UnitTy) × (v ≡ UnitV)
  Told (BoolNode b) t v = (t ≡ BoolTy) × (v ≡ BoolV b)
  Told (IntNode z) t v = (t ≡ IntTy) × (v ≡ IntV z)
  Told (TextNode bytes) t v = (t ≡ TextTy) × (v ≡ TextV bytes)
  Told (PairNode first second) t v =
      (a : Ty) × (b : Ty) × (x : Value) × (y : Value) × (t ≡ PairTy a b) × (v ≡ PairV x y) × Stands first a x × Stands second b y
  Told (ConNode number tag fields) t v =
      (vs : Values) × (t ≡ NamedTy number) × (v ≡ ConV tag vs) × OnFields (fields_at types number tag) (λ ts. AllStandFor IdealNodes types nodes fields ts vs)
  Told (VecNode items) t v =
      (n : ℕ) × (u : Ty) × (vs : Values) × (t ≡ VecTy n u) × (v ≡ ItemsV vs) × AllStandFor IdealNodes types nodes items (item_types n u) vs
  Told (AuthNode held) t v = (u : Ty) × (t ≡ AuthTy u) × Refers held u v

  by_form : (r : ℕ) (form other : Form) (t : Ty) (v : Value) → form_at nodes r ≡ Some form → form_at nodes r ≡ Some other → Told other t v → Told form t v
  by_form r form other t v at is h = let same : other ≡ form = cc in subst (λ f. Told f t v) same h

  told : (r : ℕ) (form : Form) (t : Ty) (v : Value) → form_at nodes r ≡ Some form → Stands r t v → Told form t v
  told r form (AuthTy t) v at h = by_form r form (AuthNode h.0) (AuthTy t) v at h.1 (t, refl, refers h.0 t v h.2)
  told r form UnitTy UnitV at h = by_form r form UnitNode UnitTy UnitV at h (refl, refl)
  told r form BoolTy (BoolV b) at h = by_form r form (BoolNode b) BoolTy (BoolV b) at h (refl, refl)
  told r form IntTy (IntV z) at h = by_form r form (IntNode z) IntTy (IntV z) at h.0 (refl, refl)
  told r form TextTy (TextV bytes) at h = by_form r form (TextNode bytes) TextTy (TextV bytes) at h.0 (refl, refl)
  told r form (PairTy a b) (PairV x y) at h = by_form r form (PairNode h.0 h.1) (PairTy a b) (PairV x y) at h.2 (a, b, x, y, refl, refl, h.3, h.4)
  told r form (NamedTy number) (ConV tag vs) at h = by_form r form (ConNode number tag h.0) (NamedTy number) (ConV tag vs) at h.1 (vs, refl, refl, h.2)
  told r form (VecTy n t) (ItemsV vs) at h = by_form r form (VecNode h.0) (VecTy n t) (ItemsV vs) at h.1 (n, t, vs, refl, refl, h.3)
  told r form t v at h = elim h [ ]

  abbrev IsOne : Ty → Value → Ty → Value → Type 0
  IsOne t v u w = (t ≡ u) × (v ≡ w)

  one_held : (held : Held) (t u : Ty) (v w : Value) → ((r : ℕ) → Stands r t v → Stands r u w → IsOne t v u w)
      → Holds IdealNodes types held t v (λ r. Stands r t v) → Refers held u w → IsOne t v u w
  one_held (InnerHeld inner) t u v w go h j = go inner h j
  one_held (BothHeld digest inner) t u v w go h j = go inner h j
  one_held (OnlyHeld digest) t u v w go h j = elim h [ ]

  one_auth : (t u s : Ty) (v w : Value) → IsOne t v s w → u ≡ AuthTy s → IsOne (AuthTy t) v u w
  one_auth t u s v w h e = (ap AuthTy h.0 ∙ sym e, h.1)

  one_pair : (a b c d t : Ty) (x y x' y' v : Value) → t ≡ PairTy c d → v ≡ PairV x' y' → IsOne a x c x' → IsOne b y d y' → IsOne (PairTy a b) (PairV x y) t v
  one_pair a b c d t x y x' y' v e f h j = (ap₂ PairTy h.0 j.0 ∙ sym e, ap₂ PairV h.1 j.1 ∙ sym f)

  mutual
    pub one_entry : (t u : Ty) (v w : Value) (r : ℕ) → Stands r t v → Stands r u w → IsOne t v u w
    one_entry (AuthTy t) u v w r h j =
        let other = told r (AuthNode h.0) u w h.1 j in
        one_auth t u other.0 v w (one_held h.0 t other.0 v w (one_entry t other.0 v w) h.2 other.2) other.1
    one_entry UnitTy u UnitV w r h j = let other = told r UnitNode u w h j in (sym other.0, sym other.1)
    one_entry BoolTy u (BoolV b) w r h j = let other = told r (BoolNode b) u w h j in (sym other.0, sym other.1)
    one_entry IntTy u (IntV z) w r h j = let other = told r (IntNode z) u w h.0 j in (sym other.0, sym other.1)
    one_entry TextTy u (TextV bytes) w r h j = let other = told r (TextNode bytes) u w h.0 j in (sym other.0, sym other.1)
    one_entry (PairTy a b) u (PairV x y) w r h j =
        let other = told r (PairNode h.0 h.1) u w h.2 j in
        one_pair a b other.0 other.1 u x y other.2 other.3 w other.4 other.5
        (one_entry a other.0 x other.2 h.0 h.3 other.6) (one_entry b other.1 y other.3 h.1 h.4 other.7)
    one_entry (NamedTy number) u (ConV tag vs) w r h j =
        let other = told r (ConNode number tag h.0) u w h.1 j in
        (sym other.1, ap (ConV tag) (one_fields (fields_at types number tag) h.0 vs other.0 h.2 other.3) ∙ sym other.2)
    one_entry (VecTy n t) u (ItemsV vs) w r h j =
        let other = told r (VecNode h.0) u w h.1 j in
        let items = one_items n other.0 t other.1 h.0 vs other.2 h.3 other.5 in
        (ap₂ VecTy items.0 (one_item n other.0 t other.1 h.0 vs other.2 h.2 h.3 other.5) ∙ sym other.3, ap ItemsV items.1 ∙ sym other.4)
    one_entry t u v w r h j = elim h [ ]

    -- elements that stand by the same nodes are the same, and as many
    one_items : (n m : ℕ) (t u : Ty) (rs : List ℕ) (vs ws : Values)
        → AllStandFor IdealNodes types nodes rs (item_types n t) vs → AllStandFor IdealNodes types nodes rs (item_types m u) ws → (n ≡ m) × (vs ≡ ws)
    one_items zero zero t u [] NoV NoV h j = (refl, refl)
    one_items (suc n) (suc m) t u (r ∷ rs) (AndV v vs) (AndV w ws) h j =
        let first = one_entry t u v w r h.0 j.0 in
        let rest = one_items n m t u rs vs ws h.1 j.1 in
        (ap suc rest.0, ap₂ AndV first.1 rest.1)
    one_items zero m t u [] NoV ws h j = elim j [ ]
    one_items (suc n) m t u (r ∷ rs) (AndV v vs) ws h j = elim j [ ]
    one_items n m t u rs vs ws h j = elim h [ ]

    -- and of one type, as there is one
    one_item : (n m : ℕ) (t u : Ty) (rs : List ℕ) (vs ws : Values) → is_length n ≡ true
        → AllStandFor IdealNodes types nodes rs (item_types n t) vs → AllStandFor IdealNodes types nodes rs (item_types m u) ws → t ≡ u
    one_item (suc n) (suc m) t u (r ∷ rs) (AndV v vs) (AndV w ws) l h j = (one_entry t u v w r h.0 j.0).0
    one_item zero m t u rs vs ws l h j = absurd (cc)
    one_item (suc n) m t u (r ∷ rs) (AndV v vs) ws l h j = elim j [ ]
    one_item n m t u rs vs ws l h j = elim h [ ]

    one_fields : (o : Option (List Ty)) (rs : List ℕ) (vs ws : Values)
        → OnFields o (λ ts. AllStandFor IdealNodes types nodes rs ts vs) → OnFields o (λ ts. AllStandFor IdealNodes types nodes rs ts ws) → vs ≡ ws
    one_fields (Some []) [] NoV NoV h j = refl
    one_fields (Some []) [] NoV ws h j = elim j [ ]
    one_fields (Some (t ∷ ts)) (r ∷ rs) (AndV v vs) (AndV w ws) h j =
        let first = one_entry t t v w r h.0 j.0 in
        ap₂ AndV first.1 (one_fields (Some ts) rs vs ws h.1 j.1)
    one_fields (Some (t ∷ ts)) (r ∷ rs) (AndV v vs) ws h j = elim j [ ]
    one_fields o rs vs ws h j = elim h [ ]
