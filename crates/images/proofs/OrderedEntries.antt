-- The types of the records that are known so far, and the authenticated parts among them: for auth_order.
use Rattle.std.proofs.Common.{◌≡◌, ℕ, zero, suc, ◌<◌, true, List, [], ◌∷◌, ◌++◌, length, Option, Some, None, IsSome, slice_get, slice_index_or, unwrap_or, true≢false, refl, sym, ap, ap₂, ◌∙◌, subst, arith, drop, ◌+◌, ◌%◌, ◌≤◌, lt-ltb, append_assoc}
use Rattle.std.specs.List.{All}
use Rattle.std.specs.Option.{option_map_or}
use Rattle.std.proofs.lemmas.List.{append-nil}
use Rattle.std.proofs.lemmas.List.Elements.{All-head, All-tail}
use Rattle.core_terms.specs.Types.{Ty, UnitTy, BoolTy, IntTy, TextTy, PairTy, NamedTy, AuthTy, VecTy, is_length, item_types}
use Rattle.core_terms.specs.Values.{Value, UnitV, BoolV, IntV, TextV, PairV, ConV, ItemsV, Values, NoV, AndV}
use Rattle.core_terms.specs.ProgramTypes.{types_by_number, types_meaning}
use Rattle.core_terms.specs.TypeTables.{stands_behind, type_at, type_of_form}
use Rattle.core_terms.specs.declared.program_types.Types.{Types}
use Rattle.core_terms.specs.declared.types.TyId.{TyId}
use Rattle.core_terms.proofs.TypingComplete.{both}
use Rattle.value_store.specs.Nodes.{Held, InnerHeld, BothHeld, OnlyHeld, Form, UnitNode, BoolNode, IntNode, TextNode, PairNode, ConNode, AuthNode, VecNode, Node, form_at, refs_in}
use Rattle.value_store.specs.Standing.{AllStandFor, Holds, IdealNodes, StandsFor}
use Rattle.value_store.specs.declared.node.Ref.{Ref}
use Rattle.value_store.proofs.StandingNodes.{there_stands}
use Rattle.images.specs.AuthOrders.{inner_of, inners}
use Rattle.images.specs.AuthOrdersInCode.{AreInOrder}
use Rattle.images.specs.FormTypes.{form_told, id_in, inner_told, no_type}
use Rattle.images.specs.Images.{Entry, entry}
use Rattle.images.specs.KeptNodes.{AllHave, AreKeptFor, StandAs, StandsAs}
use Rattle.images.specs.Parts.{is_part}
use Rattle.value_store.specs.CodeNodes.{numbers_of}
use Rattle.images.proofs.BehindParts.{AreBehind}
use Rattle.images.specs.SavedImages.{number_among}
use Rattle.images.specs.SavedRecords.{HaveRecords, number_at}
use Rattle.images.specs.declared.save.records.Records.{Records}
use Rattle.images.proofs.AmongEntries.{IsAmong, AreAmong}
use Rattle.images.proofs.EntryParts.{fields, parts}
use Rattle.images.proofs.NodeEntries.{few, stand_count}
use Rattle.images.proofs.NumberedEntries.{entry_numbered, number_more}
use Rattle.images.proofs.SavingWalk.{same_entries}

module _ (p : Types) (nodes : List Node) where
  -- the number is one of the type
  abbrev pub IsTyped : TyId → Ty → Type 0
  IsTyped id t = (id.0 < length (types_by_number p)) × (type_at (types_by_number p) id ≡ t)

  -- the types of the entries, one for one
  abbrev pub AreTyped : List TyId → List Entry → Type 0
  AreTyped [] [] = Unit {0}
  AreTyped (id ∷ ids) (e ∷ es) = IsTyped id e.of_type × AreTyped ids es
  AreTyped ids es = ⊥

  pub typed_more : (ids : List TyId) (es : List Entry) (id : TyId) (e : Entry) → AreTyped ids es → IsTyped id e.of_type → AreTyped (ids ++ id ∷ []) (es ++ e ∷ [])
  typed_more [] [] id e h is = (is, tt)
  typed_more (i ∷ ids) (x ∷ es) id e h is = (h.0, typed_more ids es id e h.1 is)
  typed_more [] (x ∷ es) id e h is = elim h [ ]
  typed_more (i ∷ ids) [] id e h is = elim h [ ]

  typed_at : (ids : List TyId) (es : List Entry) (n : ℕ) (e : Entry) → AreTyped ids es → slice_get es n ≡ Some e → IsTyped (slice_index_or ids n no_type) e.of_type
  typed_at [] [] n e h at = absurd (cc)
  typed_at (id ∷ ids) (x ∷ es) zero e h at = let same : x ≡ e = cc in subst (λ x. IsTyped id x.of_type) same h.0
  typed_at (id ∷ ids) (x ∷ es) (suc n) e h at = typed_at ids es n e h.1 at
  typed_at [] (x ∷ es) n e h at = elim h [ ]
  typed_at (i ∷ ids) [] n e h at = elim h [ ]

  module _ (records : Records) (known : List TyId) (done rest : List Entry) (typed : AreTyped known done)
      (kept : AreKeptFor (types_meaning p).types nodes (done ++ rest) records) where
    -- the type of a part that is among those that are done
    part_typed : (r : ℕ) (q : Entry) → StandsAs (types_meaning p).types nodes r q → IsAmong done q → IsSome (number_at records r) → IsTyped (id_in known records r) q.of_type
    part_typed r q stands among some = by (number_at records r) refl some
      where
        by : (o : Option ℕ) → number_at records r ≡ o → IsSome o → IsTyped (id_in known records r) q.of_type
        by None at h = absurd (true≢false (sym h))
        by (Some n) at h =
            let found = kept.numbers r n at in
            let same : found.0 ≡ q = same_entries (types_meaning p).types nodes r found.0 q found.1 stands in
            let place : n ≡ number_among done q = sym (kept.once n q (found.2 ∙ ap Some same)) ∙ number_more q done rest among in
            let there : slice_get done n ≡ Some q = ap (slice_get done) place ∙ entry_numbered q done among in
            subst (λ m. IsTyped (slice_index_or known m no_type) q.of_type) (sym (ap (λ o. unwrap_or o 0) at)) (typed_at known done n q typed there)

    -- the form tells the type, by types of the program
    abbrev pub Told : Form → Ty → Type 0
    Told form t =
        (type_of_form (types_by_number p) (form_told (id_in known records) form) ≡ t)
        × (stands_behind (length (types_by_number p)) (form_told (id_in known records) form) ≡ true)

    -- and the authenticated part
    abbrev pub TellsInner : Form → Ty → Value → Type 0
    TellsInner form t v = AreInOrder p nodes (inner_of t v) (inner_told (form_told (id_in known records) form) form)

    held_told : (held : Held) (t : Ty) (v : Value) → Holds IdealNodes (types_meaning p).types held t v (λ r. StandsFor IdealNodes (types_meaning p).types nodes r t v)
        → IsAmong done (entry t v) → HaveRecords records (refs_in (AuthNode held)) → Told (AuthNode held) (AuthTy t) × TellsInner (AuthNode held) (AuthTy t) v
    held_told (InnerHeld inner) t v h among have =
        let ty = part_typed inner (entry t v) h among have.0 in ((ap AuthTy ty.1, lt-ltb _ _ ty.0), (ty.1, h, tt))
    held_told (BothHeld digest inner) t v h among have =
        let ty = part_typed inner (entry t v) h among have.0 in ((ap AuthTy ty.1, lt-ltb _ _ ty.0), (ty.1, h, tt))
    held_told (OnlyHeld digest) t v h among have = elim h [ ]

    -- of an array that has an element
    items_told : (items : List ℕ) (n : ℕ) (t : Ty) (vs : Values) → is_length n ≡ true → AllStandFor IdealNodes (types_meaning p).types nodes items (item_types n t) vs
        → AreAmong done (fields (item_types n t) vs) → HaveRecords records items → Told (VecNode items) (VecTy n t) × TellsInner (VecNode items) (VecTy n t) (ItemsV vs)
    items_told (r ∷ rs) (suc n) t (AndV v vs) long h among have =
        let ty = part_typed r (entry t v) h.0 among.0 have.0 in
        let counted : length (r ∷ rs) % 256 ≡ suc n =
        ap (λ m. m % 256) (stand_count (types_meaning p).types nodes (r ∷ rs) (suc n) t (AndV v vs) h) ∙ few (types_meaning p).types nodes (suc n) long in
        ((ap₂ VecTy counted ty.1, both _ _ (lt-ltb _ _ ty.0) (subst (λ m. is_length m ≡ true) (sym counted) long)), tt)
    items_told [] zero t vs long h among have = absurd (true≢false (sym long))
    items_told items n t vs long h among have = elim h [ ]

    with_form : (r : ℕ) (form other : Form) (t : Ty) (v : Value) → form_at nodes r ≡ Some form → form_at nodes r ≡ Some other → HaveRecords records (refs_in form)
        → (HaveRecords records (refs_in other) → Told other t × TellsInner other t v) → Told form t × TellsInner form t v
    with_form r form other t v at is have h =
        let same : other ≡ form = cc in
        subst (λ f. Told f t × TellsInner f t v) same (h (subst (λ f. HaveRecords records (refs_in f)) (sym same) have))

    pub told : (r : ℕ) (form : Form) (t : Ty) (v : Value) → form_at nodes r ≡ Some form → StandsFor IdealNodes (types_meaning p).types nodes r t v
        → AreAmong done (parts (types_meaning p).types t v) → HaveRecords records (refs_in form) → Told form t × TellsInner form t v
    told r form (AuthTy t) v at h among have = with_form r form (AuthNode h.0) (AuthTy t) v at h.1 have (λ have. held_told h.0 t v h.2 among.0 have)
    told r form UnitTy UnitV at h among have = with_form r form UnitNode UnitTy UnitV at h have (λ have. ((refl, refl), tt))
    told r form BoolTy (BoolV b) at h among have = with_form r form (BoolNode b) BoolTy (BoolV b) at h have (λ have. ((refl, refl), tt))
    told r form IntTy (IntV z) at h among have = with_form r form (IntNode z) IntTy (IntV z) at h.0 have (λ have. ((refl, refl), tt))
    told r form TextTy (TextV bytes) at h among have = with_form r form (TextNode bytes) TextTy (TextV bytes) at h.0 have (λ have. ((refl, refl), tt))
    told r form (PairTy a b) (PairV x y) at h among have =
        with_form r form (PairNode h.0 h.1) (PairTy a b) (PairV x y) at h.2 have
        (λ have.
        let one = part_typed h.0 (entry a x) h.3 among.0 have.0 in
        let two = part_typed h.1 (entry b y) h.4 among.1.0 have.1.0 in
        ((ap₂ PairTy one.1 two.1, both _ _ (lt-ltb _ _ one.0) (lt-ltb _ _ two.0)), tt))
    told r form (NamedTy number) (ConV tag vs) at h among have =
        with_form r form (ConNode number tag h.0) (NamedTy number) (ConV tag vs) at h.1 have (λ have. ((refl, refl), tt))
    told r form (VecTy n t) (ItemsV vs) at h among have =
        with_form r form (VecNode h.0) (VecTy n t) (ItemsV vs) at h.1 have (λ have. items_told h.0 n t vs h.2 h.3 among have)
    told r form t v at h among have = elim h [ ]

  order_more : (es fs : List Entry) (os ps : List (TyId × Ref)) → AreInOrder p nodes es os → AreInOrder p nodes fs ps → AreInOrder p nodes (es ++ fs) (os ++ ps)
  order_more [] fs [] ps h j = j
  order_more (e ∷ es) fs (o ∷ os) ps h j = (h.0, h.1, order_more es fs os ps h.2 j)
  order_more [] fs (o ∷ os) ps h j = elim h [ ]
  order_more (e ∷ es) fs [] ps h j = elim h [ ]

  inners_push : (es : List Entry) (e : Entry) → inners (es ++ e ∷ []) ≡ inners es ++ inner_of e.of_type e.value
  inners_push [] e = append-nil (inner_of e.of_type e.value)
  inners_push (x ∷ es) e =
      ap (λ xs. inner_of x.of_type x.value ++ xs) (inners_push es e) ∙ sym (append_assoc (inner_of x.of_type x.value) (inners es) (inner_of e.of_type e.value))

  -- what is known and ordered so far, where these nodes wait
  pub record Ordering (records : Records) (entries : List Entry) (known : List TyId) (order : List (TyId × Ref)) (waiting : List Ref) : Type 0 where
    pub done : List Entry
    pub rest : List Entry
    pub all : done ++ rest ≡ entries
    pub typed : AreTyped known done
    pub ordered : AreInOrder p nodes (inners done) order
    pub stand : StandAs (types_meaning p).types nodes (numbers_of waiting) rest
    pub have : AllHave (types_meaning p).types nodes records (numbers_of waiting)
    pub behind : AreBehind (types_meaning p).types done rest
    pub parts : All (λ (e : Entry). is_part (types_meaning p).types e.of_type (types_meaning p).state ≡ true) rest

  module _ (records : Records) (entries : List Entry) (kept : AreKeptFor (types_meaning p).types nodes entries records) where
    -- before the first
    pub ordering_first : AreBehind (types_meaning p).types [] entries → All (λ (e : Entry). is_part (types_meaning p).types e.of_type (types_meaning p).state ≡ true) entries
        → Ordering records entries [] [] records.first_nodes.nodes.items
    ordering_first behind parts =
        record { done = []; rest = entries; all = refl; typed = tt; ordered = tt; stand = kept.stand; have = kept.have; behind = behind; parts = parts }

    -- behind the last
    pub ordering_last : (known : List TyId) (order : List (TyId × Ref)) → Ordering records entries known order [] → AreInOrder p nodes (inners entries) order
    ordering_last known order o = by o.rest o.stand o.all
      where
        by : (rest : List Entry) → StandAs (types_meaning p).types nodes [] rest → o.done ++ rest ≡ entries → AreInOrder p nodes (inners entries) order
        by [] h all = subst (λ es. AreInOrder p nodes (inners es) order) (sym (append-nil o.done) ∙ all) o.ordered
        by (e ∷ rest) h all = elim h [ ]

    -- the node that waits first
    pub record Next (known : List TyId) (order : List (TyId × Ref)) (node : Ref) (waiting : List Ref) (form : Form) : Type 0 where
      pub e : Entry
      pub is : type_of_form (types_by_number p) (form_told (id_in known records) form) ≡ e.of_type
      pub within : stands_behind (length (types_by_number p)) (form_told (id_in known records) form) ≡ true
      pub part : is_part (types_meaning p).types e.of_type (types_meaning p).state ≡ true
      pub go : (ty : TyId) → IsTyped ty e.of_type → Ordering records entries (known ++ ty ∷ []) (order ++ inner_told (form_told (id_in known records) form) form) waiting

    pub next : (known : List TyId) (order : List (TyId × Ref)) (node : Ref) (waiting : List Ref) (form : Form) → form_at nodes node.0 ≡ Some form
        → Ordering records entries known order (node ∷ waiting) → Next known order node waiting form
    next known order node waiting form at o = by o.rest o.all o.stand o.behind o.parts
      where
        by : (rest : List Entry) → o.done ++ rest ≡ entries → StandAs (types_meaning p).types nodes (node.0 ∷ numbers_of waiting) rest
            → AreBehind (types_meaning p).types o.done rest → All (λ (e : Entry). is_part (types_meaning p).types e.of_type (types_meaning p).state ≡ true) rest
            → Next known order node waiting form
        by [] all stand behind parts = elim stand [ ]
        by (e ∷ rest) all stand behind parts =
            let kept' : AreKeptFor (types_meaning p).types nodes (o.done ++ e ∷ rest) records =
            subst (λ es. AreKeptFor (types_meaning p).types nodes es records) (sym all) kept in
            let have : HaveRecords records (refs_in form) = subst (HaveRecords records) (ap (λ f. option_map_or refs_in f []) at) o.have.0 in
            let found = told records known o.done (e ∷ rest) o.typed kept' node.0 form e.of_type e.value at stand.0 behind.0 have in
            record {
              e = e;
              is = found.0.0;
              within = found.0.1;
              part = All-head (λ (e : Entry). is_part (types_meaning p).types e.of_type (types_meaning p).state ≡ true) e rest parts;
              go = λ ty is. record {
                done = o.done ++ e ∷ [];
                rest = rest;
                all = append_assoc o.done (e ∷ []) rest ∙ all;
                typed = typed_more known o.done ty e o.typed is;
                ordered = subst (λ es. AreInOrder p nodes es (order ++ inner_told (form_told (id_in known records) form) form)) (sym (inners_push o.done e))
                    (order_more (inners o.done) (inner_of e.of_type e.value) order _ o.ordered found.1);
                stand = stand.1;
                have = o.have.1;
                behind = behind.1;
                parts = All-tail (λ (e : Entry). is_part (types_meaning p).types e.of_type (types_meaning p).state ≡ true) e rest parts;
              };
            }

    first_of : (xs : List Ref) → drop 0 xs ≡ xs
    first_of [] = refl
    first_of (x ∷ xs) = refl

    -- as the code begins
    pub ordering_begins : (known : List TyId) (order : List (TyId × Ref)) (items : List Ref) → known ≡ [] → order ≡ [] → items ≡ records.first_nodes.nodes.items
        → AreBehind (types_meaning p).types [] entries → All (λ (e : Entry). is_part (types_meaning p).types e.of_type (types_meaning p).state ≡ true) entries
        → Ordering records entries known order (drop 0 items)
    ordering_begins known order items no_known no_order same behind parts =
        let P : List TyId → Type 0 = λ k. Ordering records entries k order (drop 0 items) in
        let Q : List (TyId × Ref) → Type 0 = λ o. Ordering records entries [] o (drop 0 items) in
        let R : List Ref → Type 0 = λ w. Ordering records entries [] [] w in
        subst P (sym no_known) (subst Q (sym no_order) (subst R (sym (first_of items ∙ same)) (ordering_first behind parts)))

    drop_suc : (xs : List Ref) (i : ℕ) (d : Ref) → i < length xs → drop i xs ≡ slice_index_or xs i d ∷ drop (suc i) xs
    drop_suc [] i d h = absurd (omega (arith, h))
    drop_suc (x ∷ xs) zero d h = ap (λ ys. x ∷ ys) (sym (first_of xs))
    drop_suc (x ∷ xs) (suc i) d h = drop_suc xs i d (omega (arith, h))

    drop_at : (xs : List Ref) (i : ℕ) (d : Ref) → i < length xs → drop i xs ≡ slice_index_or xs i d ∷ drop (i + 1) xs
    drop_at xs i d h = drop_suc xs i d h ∙ ap (λ n. slice_index_or xs i d ∷ drop n xs) (let k : suc i ≡ i + 1 = omega arith in k)

    -- as the code goes on
    pub ordering_next : (known : List TyId) (order : List (TyId × Ref)) (items : List Ref) (i : ℕ) (d : Ref) (form : Form) → i < length items
        → form_at nodes (slice_index_or items i d).0 ≡ Some form → Ordering records entries known order (drop i items)
        → Next known order (slice_index_or items i d) (drop (i + 1) items) form
    ordering_next known order items i d form inside at o =
        next known order (slice_index_or items i d) (drop (i + 1) items) form at (subst (Ordering records entries known order) (drop_at items i d inside) o)

    -- as the code ends
    pub ordering_ends : (known : List TyId) (order : List (TyId × Ref)) (items : List Ref) (i : ℕ) → length items ≤ i → Ordering records entries known order (drop i items)
        → AreInOrder p nodes (inners entries) order
    ordering_ends known order items i over o = ordering_last known order (subst (Ordering records entries known order) (drop_over items i over) o)
      where
        drop_over : (xs : List Ref) (i : ℕ) → length xs ≤ i → drop i xs ≡ []
        drop_over [] zero h = refl
        drop_over [] (suc i) h = refl
        drop_over (x ∷ xs) zero h = absurd (omega (arith, h))
        drop_over (x ∷ xs) (suc i) h = drop_over xs i (omega (arith, h))

    -- the node that waits is there
    pub there : (known : List TyId) (order : List (TyId × Ref)) (items : List Ref) (i : ℕ) (d : Ref) → i < length items → Ordering records entries known order (drop i items)
        → (slice_index_or items i d).0 < length nodes
    there known order items i d inside o =
        let P : List Ref → Type 0 = λ w. StandAs (types_meaning p).types nodes (numbers_of w) o.rest in
        by o.rest (subst P (drop_at items i d inside) o.stand)
      where
        by : (rest : List Entry) → StandAs (types_meaning p).types nodes (numbers_of (slice_index_or items i d ∷ drop (i + 1) items)) rest → (slice_index_or items i d).0 < length nodes
        by [] h = elim h [ ]
        by (e ∷ rest) h = there_stands IdealNodes (types_meaning p).types nodes e.of_type e.value (slice_index_or items i d).0 h.0
