-- The entry that a node stands for: it is one only, its parts are those of the node, and its record is the node's.
use Rattle.std.proofs.Common.{◌≡◌, ℕ, zero, suc, ◌%◌, length, nat_le, true, arith, leb-true, Bool, List, [], ◌∷◌, ◌++◌, Option, Some, None, unwrap_or, refl, sym, ap, ap₂, ◌∙◌, subst}
use Rattle.std.proofs.Math.Nat.{mod-eq_of_lt}
use Rattle.std.specs.Int.{w32, to_be_bytes}
use Rattle.std.specs.Option.{option_map_or}
use Rattle.core_terms.specs.Types.{Ty, UnitTy, BoolTy, IntTy, TextTy, PairTy, NamedTy, AuthTy, VecTy, Table, fields_at, is_length, item_types, OnFields}
use Rattle.core_terms.specs.Values.{Value, UnitV, BoolV, IntV, TextV, PairV, ConV, ItemsV, Values, NoV, AndV}
use Rattle.core_terms.proofs.SameTypes.{second_of}
use Rattle.images.specs.Images.{Entry, entry}
use Rattle.images.specs.Parts.{HasLength}
use Rattle.images.specs.SavedImages.{number_among}
use Rattle.value_store.specs.Nodes.{Held, InnerHeld, BothHeld, OnlyHeld, Form, UnitNode, BoolNode, IntNode, TextNode, PairNode, ConNode, AuthNode, VecNode, Node, form_at, inner_refs, refs_in}
use Rattle.value_store.specs.Standing.{IdealNodes, Holds, StandsFor, AllStandFor}
use Rattle.images.specs.FormRecords.{head_of, numbered, record_at}
pub use Rattle.images.specs.KeptNodes.{StandsAs, StandAs}
use Rattle.images.proofs.EntryParts.{fields, parts}
use Rattle.images.proofs.RecordBytes.{head_at, part_numbers, record_parts}
use Rattle.images.proofs.RecordReading.{record_of}

-- the numbers of the nodes that a node refers to
abbrev pub refs_at : List Node → ℕ → List ℕ
refs_at nodes r = option_map_or refs_in (form_at nodes r) []

module _ (types : Table) (nodes : List Node) where
  fields_stand : (rs : List ℕ) (ts : List Ty) (vs : Values) → AllStandFor IdealNodes types nodes rs ts vs → StandAs types nodes rs (fields ts vs)
  fields_stand [] [] NoV h = tt
  fields_stand (r ∷ rs) (t ∷ ts) (AndV v vs) h = (h.0, fields_stand rs ts vs h.1)
  fields_stand rs ts vs h = elim h [ ]

  con_stand : (o : Option (List Ty)) (rs : List ℕ) (vs : Values) → OnFields o (λ ts. AllStandFor IdealNodes types nodes rs ts vs) → StandAs types nodes rs (fields (unwrap_or o []) vs)
  con_stand (Some ts) rs vs h = fields_stand rs ts vs h
  con_stand None rs vs h = elim h [ ]

  held_stands : (held : Held) (t : Ty) (v : Value) → Holds IdealNodes types held t v (λ r. StandsFor IdealNodes types nodes r t v) → StandAs types nodes (inner_refs held) (entry t v ∷ [])
  held_stands (InnerHeld inner) t v h = (h, tt)
  held_stands (BothHeld digest inner) t v h = (h, tt)
  held_stands (OnlyHeld digest) t v h = elim h [ ]

  at_form : (r : ℕ) (form : Form) (es : List Entry) → form_at nodes r ≡ Some form → StandAs types nodes (refs_in form) es → StandAs types nodes (refs_at nodes r) es
  at_form r form es at h = subst (λ rs. StandAs types nodes rs es) (sym (ap (λ o. option_map_or refs_in o []) at)) h

  -- the parts of a node stand for the parts of its value
  pub parts_stand : (r : ℕ) (t : Ty) (v : Value) → StandsFor IdealNodes types nodes r t v → StandAs types nodes (refs_at nodes r) (parts types t v)
  parts_stand r (AuthTy t) v h = at_form r (AuthNode h.0) (entry t v ∷ []) h.1 (held_stands h.0 t v h.2)
  parts_stand r UnitTy UnitV h = at_form r UnitNode [] h tt
  parts_stand r BoolTy (BoolV b) h = at_form r (BoolNode b) [] h tt
  parts_stand r IntTy (IntV z) h = at_form r (IntNode z) [] h.0 tt
  parts_stand r TextTy (TextV bytes) h = at_form r (TextNode bytes) [] h.0 tt
  parts_stand r (PairTy a b) (PairV x y) h = at_form r (PairNode h.0 h.1) (entry a x ∷ entry b y ∷ []) h.2 (h.3, (h.4, tt))
  parts_stand r (NamedTy number) (ConV tag vs) h =
      at_form r (ConNode number tag h.0) (fields (unwrap_or (fields_at types number tag) []) vs) h.1 (con_stand (fields_at types number tag) h.0 vs h.2)
  parts_stand r (VecTy n t) (ItemsV vs) h = at_form r (VecNode h.0) (fields (item_types n t) vs) h.1 (fields_stand h.0 (item_types n t) vs h.3)
  parts_stand r t v h = elim h [ ]

  -- an array that stands has a length that is allowed
  pub length_stands : (r : ℕ) (t : Ty) (v : Value) → StandsFor IdealNodes types nodes r t v → HasLength t
  length_stands r (VecTy n t) (ItemsV vs) h = h.2
  length_stands r (VecTy n t) v h = elim h [ ]
  length_stands r t v h = tt

  -- what stands in its record before the numbers of the parts
  abbrev HasHead : Form → Ty → Value → Type 0
  HasHead form t v = head_of form ≡ head_at t v

  with_form : (r : ℕ) (form other : Form) (t : Ty) (v : Value) → form_at nodes r ≡ Some form → form_at nodes r ≡ Some other → HasHead other t v → HasHead form t v
  with_form r form other t v at is h = let same : other ≡ form = cc in subst (λ f. HasHead f t v) same h

  bool_head : (b : Bool) → HasHead (BoolNode b) BoolTy (BoolV b)
  bool_head Bool.true = refl
  bool_head Bool.false = refl

  -- as many nodes as elements
  pub stand_count : (rs : List ℕ) (n : ℕ) (t : Ty) (vs : Values) → AllStandFor IdealNodes types nodes rs (item_types n t) vs → length rs ≡ n
  stand_count [] zero t NoV h = refl
  stand_count (r ∷ rs) (suc n) t (AndV v vs) h = ap suc (stand_count rs n t vs h.1)
  stand_count rs n t vs h = elim h [ ]

  -- 1 to 64 are told in a byte
  pub few : (n : ℕ) → is_length n ≡ true → n % 256 ≡ n
  few n l = mod-eq_of_lt {n = n} {m = 256} (let most = leb-true n 64 (second_of (nat_le 1 n) (nat_le n 64) l) in omega (arith, most))

  pub head_stands : (r : ℕ) (form : Form) (t : Ty) (v : Value) → form_at nodes r ≡ Some form → StandsFor IdealNodes types nodes r t v → HasHead form t v
  head_stands r form (AuthTy t) v at h = with_form r form (AuthNode h.0) (AuthTy t) v at h.1 refl
  head_stands r form UnitTy UnitV at h = with_form r form UnitNode UnitTy UnitV at h refl
  head_stands r form BoolTy (BoolV b) at h = with_form r form (BoolNode b) BoolTy (BoolV b) at h (bool_head b)
  head_stands r form IntTy (IntV z) at h = with_form r form (IntNode z) IntTy (IntV z) at h.0 refl
  head_stands r form TextTy (TextV bytes) at h = with_form r form (TextNode bytes) TextTy (TextV bytes) at h.0 refl
  head_stands r form (PairTy a b) (PairV x y) at h = with_form r form (PairNode h.0 h.1) (PairTy a b) (PairV x y) at h.2 refl
  head_stands r form (NamedTy number) (ConV tag vs) at h = with_form r form (ConNode number tag h.0) (NamedTy number) (ConV tag vs) at h.1 refl
  head_stands r form (VecTy n t) (ItemsV vs) at h =
      with_form r form (VecNode h.0) (VecTy n t) (ItemsV vs) at h.1 (ap (λ (m : ℕ). 7 ∷ m ∷ []) (ap (λ m. m % 256) (stand_count h.0 n t vs h.3) ∙ few n h.2))
  head_stands r form t v at h = elim h [ ]

-- the nodes have the numbers of the entries
abbrev pub HaveNumbers : (ℕ → ℕ) → List Entry → List ℕ → List Entry → Type 0
HaveNumbers number done [] [] = Unit {0}
HaveNumbers number done (r ∷ rs) (e ∷ es) = (number r ≡ number_among done e) × HaveNumbers number done rs es
HaveNumbers number done rs es = ⊥

numbers_agree : (number : ℕ → ℕ) (done : List Entry) (rs : List ℕ) (es : List Entry) → HaveNumbers number done rs es → numbered number rs ≡ part_numbers done es
numbers_agree number done [] [] h = refl
numbers_agree number done (r ∷ rs) (e ∷ es) h =
    ap₂ (λ n bytes. to_be_bytes w32 n ++ bytes) h.0 (numbers_agree number done rs es h.1)
numbers_agree number done rs es h = elim h [ ]

-- the record of a node is that of what it stands for, where its parts have the numbers of theirs
pub record_stands : (types : Table) (nodes : List Node) (number : ℕ → ℕ) (done : List Entry) (r : ℕ) (form : Form) (e : Entry)
    → form_at nodes r ≡ Some form → StandsAs types nodes r e → HaveNumbers number done (refs_in form) (parts types e.of_type e.value)
    → record_at number form ≡ record_of types done e
record_stands types nodes number done r form e at stands numbers =
    let head = head_stands types nodes r form e.of_type e.value at stands in
    ap₂ (λ (a b : List ℕ). a ++ b) head (numbers_agree number done (refs_in form) (parts types e.of_type e.value) numbers)
    ∙ sym (record_parts types done e.of_type e.value)
