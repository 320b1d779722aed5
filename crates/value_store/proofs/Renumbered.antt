-- What a node stands for is kept where the nodes are renumbered.
use Rattle.std.proofs.Common.{◌≡◌, ℕ, suc, ◌+◌, ◌-◌, ◌<◌, ◌≤◌, ◌⊎◌, inl, inr, true, max, ◌&&◌, List, [], ◌∷◌, ◌++◌, length, take, map, Option, Some, None, nat_lt, slice_get, refl, sym, ap, ap₂, ◌∙◌, subst, arith, ltb-true, lt-ltb, le-ltb, if◌then◌else◌}
use Rattle.std.specs.List.{list_all}
use Rattle.std.specs.Option.{option_map, option_map_or}
use Rattle.std.proofs.lemmas.Option.{slice_get-map, slice_get_within}
use Rattle.std.proofs.lemmas.List.{length-take}
use Rattle.core_terms.specs.Types.{Ty, UnitTy, BoolTy, IntTy, TextTy, PairTy, NamedTy, AuthTy, VecTy, Table, fields_at, item_types, OnFields}
use Rattle.core_terms.specs.Values.{Value, UnitV, BoolV, IntV, TextV, PairV, ConV, ItemsV, Values, NoV, AndV}
use Rattle.core_terms.specs.Formats.{depth_limit}
use Rattle.value_store.specs.Nodes.{Held, InnerHeld, BothHeld, OnlyHeld, Form, UnitNode, BoolNode, IntNode, TextNode, PairNode, ConNode, AuthNode, Node, AreSound, IsSoundNode, depth_at, form_at, form_depth, form_size, greatest_depth, refers_below, refs_in, size_at, total_size, VecNode}
use Rattle.value_store.specs.Standing.{Kind, IdealNodes, ProverNodes, VerifierNodes, Holds, StandsFor, AllStandFor}
use Rattle.value_store.specs.Moving.{absorbed, moved_form, moved_held, moved_node, moved_ref}
use Rattle.value_store.proofs.SoundNodes.{conjuncts, sound_too, lower_refs}
use Rattle.value_store.specs.Placing.{with_parts}
use Rattle.value_store.proofs.NodeLists.{get_there, node_there, slice_get_before, slice_get_take}

-- the numbers
below_stays : (from up r : ℕ) → r < from → moved_ref from up r ≡ r
below_stays from up r h = ap (λ b. if b then r else r + up) (lt-ltb r from h)

past_goes : (from up r : ℕ) → from ≤ r → moved_ref from up r ≡ r + up
past_goes from up r h = ap (λ b. if b then r else r + up) (le-ltb r from h)

same_refs : (from up : ℕ) (rs : List ℕ) → list_all (λ r. nat_lt r from) rs ≡ true → map (moved_ref from up) rs ≡ rs
same_refs from up [] h = refl
same_refs from up (r ∷ rs) h =
    let both = conjuncts (nat_lt r from) (list_all (λ r. nat_lt r from) rs) h in
    ap₂ (λ x xs. x ∷ xs) (below_stays from up r (ltb-true r from both.0)) (same_refs from up rs both.1)

one_same : (from up r : ℕ) → nat_lt r from && true ≡ true → moved_ref from up r ≡ r
one_same from up r h = below_stays from up r (ltb-true r from (conjuncts (nat_lt r from) true h).0)

same_form : (from up : ℕ) (form : Form) → refers_below from form ≡ true → moved_form from up form ≡ form
same_form from up (PairNode i j) h =
    let both = conjuncts (nat_lt i from) (nat_lt j from && true) h in
    ap₂ PairNode (below_stays from up i (ltb-true i from both.0)) (one_same from up j both.1)
same_form from up (ConNode number tag fields) h = ap (ConNode number tag) (same_refs from up fields h)
same_form from up (VecNode items) h = ap VecNode (same_refs from up items h)
same_form from up (AuthNode (InnerHeld inner)) h = ap (λ i. AuthNode (InnerHeld i)) (one_same from up inner h)
same_form from up (AuthNode (BothHeld digest inner)) h = ap (λ i. AuthNode (BothHeld digest i)) (one_same from up inner h)
same_form from up (AuthNode (OnlyHeld digest)) h = refl
same_form from up UnitNode h = refl
same_form from up (BoolNode b) h = refl
same_form from up (IntNode z) h = refl
same_form from up (TextNode bytes) h = refl

holds_moved : (kind : Kind) (types : Table) (from up : ℕ) (held : Held) (t : Ty) (v : Value) (Stands Stands' : ℕ → Type 0)
    → ((r : ℕ) → Stands r → Stands' (moved_ref from up r)) → Holds kind types held t v Stands → Holds kind types (moved_held from up held) t v Stands'
holds_moved IdealNodes types from up (InnerHeld inner) t v P Q go h = go inner h
holds_moved IdealNodes types from up (BothHeld digest inner) t v P Q go h = go inner h
holds_moved (ProverNodes digest_of) types from up (BothHeld digest inner) t v P Q go h = (go inner h.0, h.1)
holds_moved VerifierNodes types from up (BothHeld digest inner) t v P Q go h = h
holds_moved VerifierNodes types from up (OnlyHeld digest) t v P Q go h = h
holds_moved kind types from up held t v P Q go h = elim h [ ]

-- where each old node stands among the new ones, moved with the numbers in it
module _ (kind : Kind) (types : Table) (from up : ℕ) (old new : List Node)
    (agrees : (r : ℕ) (form : Form) → form_at old r ≡ Some form → form_at new (moved_ref from up r) ≡ Some (moved_form from up form)) where
  mutual
    pub renumbered : (t : Ty) (v : Value) (r : ℕ) → StandsFor kind types old r t v → StandsFor kind types new (moved_ref from up r) t v
    renumbered (AuthTy t) v r h =
        (moved_held from up h.0, agrees r _ h.1, holds_moved kind types from up h.0 t v (λ r. StandsFor kind types old r t v) (λ r. StandsFor kind types new r t v) (renumbered t v) h.2)
    renumbered UnitTy UnitV r h = agrees r _ h
    renumbered BoolTy (BoolV b) r h = agrees r _ h
    renumbered IntTy (IntV z) r h = (agrees r _ h.0, h.1)
    renumbered TextTy (TextV bytes) r h = (agrees r _ h.0, h.1)
    renumbered (PairTy a b) (PairV x y) r h =
        (moved_ref from up h.0, moved_ref from up h.1, agrees r _ h.2, renumbered a x h.0 h.3, renumbered b y h.1 h.4)
    renumbered (NamedTy number) (ConV tag vs) r h = (map (moved_ref from up) h.0, agrees r _ h.1, all_renumbered h.0 (fields_at types number tag) vs h.2)
    renumbered (VecTy n t) (ItemsV vs) r h = (map (moved_ref from up) h.0, agrees r _ h.1, h.2, all_renumbered h.0 (Some (item_types n t)) vs h.3)
    renumbered t v r h = elim h [ ]

    all_renumbered : (rs : List ℕ) (o : Option (List Ty)) (vs : Values)
        → OnFields o (λ ts. AllStandFor kind types old rs ts vs) → OnFields o (λ ts. AllStandFor kind types new (map (moved_ref from up) rs) ts vs)
    all_renumbered [] (Some []) NoV h = tt
    all_renumbered (r ∷ rs) (Some (t ∷ ts)) (AndV v vs) h = (renumbered t v r h.0, all_renumbered rs (Some ts) vs h.1)
    all_renumbered rs o vs h = elim h [ ]

-- an element behind others
pub get_past : {X : Type 0} (xs ys : List X) (i : ℕ) → slice_get (xs ++ ys) (length xs + i) ≡ slice_get ys i
get_past [] ys i = let e : 0 + i ≡ i = omega arith in ap (slice_get ys) e
get_past (x ∷ xs) ys i = let e : suc (length xs) + i ≡ suc (length xs + i) = omega arith in ap (slice_get (x ∷ xs ++ ys)) e ∙ get_past xs ys i

-- own nodes that were put behind the first `from` nodes of the base, moved behind all of it
module _ {limit : ℕ} (from : ℕ) (base own : List Node) (within : from ≤ length base) (sound : AreSound limit (take from base ++ own)) where
  abbrev old : List Node
  old = take from base ++ own

  abbrev up : ℕ
  up = length base - from

  front : length (take from base) ≡ from
  front = grind (arith, length-take from base, within)

  side : (r : ℕ) → (r < from) ⊎ (from ≤ r)
  side r = grind arith

  get_moved : (r : ℕ) (node : Node) → slice_get old r ≡ Some node → slice_get (absorbed from base own) (moved_ref from up r) ≡ Some (moved_node from up node)
  get_moved r node e = by (side r)
    where
      by : (r < from) ⊎ (from ≤ r) → slice_get (absorbed from base own) (moved_ref from up r) ≡ Some (moved_node from up node)
      by (inl below) =
          let before : r < length (take from base) = subst (λ n. r < n) (sym front) below in
          let in_base : r < length base = omega (arith, below, within) in
          let le : r ≤ from = omega (arith, below) in
          ap (slice_get (absorbed from base own)) (below_stays from up r below)
          ∙ slice_get_before base (map (moved_node from up) own) r in_base
          ∙ sym (slice_get_take base from r below) ∙ sym (slice_get_before (take from base) own r before) ∙ e
          ∙ ap (λ form. Some (with_parts form node.size node.depth)) (sym (same_form from up node.form (lower_refs r from le (refs_in node.form) (sound r node e).refers)))
      by (inr past) =
          let here : from + (r - from) ≡ r = omega (arith, past) in
          let there : length base + (r - from) ≡ r + up = omega (arith, past, within) in
          let own_at : slice_get own (r - from) ≡ Some node = sym (get_past (take from base) own (r - from)) ∙ ap (λ n. slice_get old (n + (r - from))) front ∙ ap (slice_get old) here ∙ e in
          ap (slice_get (absorbed from base own)) (past_goes from up r past ∙ sym there)
          ∙ get_past base (map (moved_node from up) own) (r - from)
          ∙ slice_get-map (moved_node from up) own (r - from) ∙ ap (option_map (moved_node from up)) own_at

  form_moved : (r : ℕ) (form : Form) → form_at old r ≡ Some form → form_at (absorbed from base own) (moved_ref from up r) ≡ Some (moved_form from up form)
  form_moved r form h =
      let there = node_there old r form h in
      ap (option_map (λ (n : Node). n.form)) (get_moved r there.0 there.1) ∙ ap (λ f. Some (moved_form from up f)) there.2

  -- what a node stands for, it stands for where it is moved
  pub absorbed_stands : (kind : Kind) (types : Table) (r : ℕ) (t : Ty) (v : Value) → StandsFor kind types old r t v → StandsFor kind types (absorbed from base own) (moved_ref from up r) t v
  absorbed_stands kind types r t v h = renumbered kind types from up old (absorbed from base own) form_moved t v r h

  size_moved : (r : ℕ) → r < length old → size_at (absorbed from base own) (moved_ref from up r) ≡ size_at old r
  size_moved r h =
      let node = get_there old r h in
      ap (λ o. option_map_or (λ (n : Node). n.size) o 0) (get_moved r node.0 node.1) ∙ sym (ap (λ o. option_map_or (λ (n : Node). n.size) o 0) node.1)

  depth_moved : (r : ℕ) → r < length old → depth_at (absorbed from base own) (moved_ref from up r) ≡ depth_at old r
  depth_moved r h =
      let node = get_there old r h in
      ap (λ o. option_map_or (λ (n : Node). n.depth) o 0) (get_moved r node.0 node.1) ∙ sym (ap (λ o. option_map_or (λ (n : Node). n.depth) o 0) node.1)

  total_moved : (n : ℕ) → n ≤ length old → (rs : List ℕ) → list_all (λ r. nat_lt r n) rs ≡ true → total_size (absorbed from base own) (map (moved_ref from up) rs) ≡ total_size old rs
  total_moved n le [] h = refl
  total_moved n le (r ∷ rs) h =
      let both = conjuncts (nat_lt r n) (list_all (λ r. nat_lt r n) rs) h in
      ap₂ (λ a b. a + b) (size_moved r (within_old r n le both.0)) (total_moved n le rs both.1)
    where
      within_old : (r n : ℕ) → n ≤ length old → nat_lt r n ≡ true → r < length old
      within_old r n le h = let lt = ltb-true r n h in omega (arith, lt, le)

  greatest_moved : (n : ℕ) → n ≤ length old → (rs : List ℕ) → list_all (λ r. nat_lt r n) rs ≡ true → greatest_depth (absorbed from base own) (map (moved_ref from up) rs) ≡ greatest_depth old rs
  greatest_moved n le [] h = refl
  greatest_moved n le (r ∷ rs) h =
      let both = conjuncts (nat_lt r n) (list_all (λ r. nat_lt r n) rs) h in
      ap₂ max (depth_moved r (within_old r n le both.0)) (greatest_moved n le rs both.1)
    where
      within_old : (r n : ℕ) → n ≤ length old → nat_lt r n ≡ true → r < length old
      within_old r n le h = let lt = ltb-true r n h in omega (arith, lt, le)

  module _ (n : ℕ) (le : n ≤ length old) where
    first_in : (i j : ℕ) → nat_lt i n && (nat_lt j n && true) ≡ true → i < length old
    first_in i j h = let lt = ltb-true i n (conjuncts (nat_lt i n) (nat_lt j n && true) h).0 in omega (arith, lt, le)

    second_in : (i j : ℕ) → nat_lt i n && (nat_lt j n && true) ≡ true → j < length old
    second_in i j h = let lt = ltb-true j n (conjuncts (nat_lt j n) true (conjuncts (nat_lt i n) (nat_lt j n && true) h).1).0 in omega (arith, lt, le)

    form_size_moved : (form : Form) → refers_below n form ≡ true → form_size (absorbed from base own) (moved_form from up form) ≡ form_size old form
    form_size_moved (PairNode i j) h = ap₂ (λ a b. a + b) (size_moved i (first_in i j h)) (size_moved j (second_in i j h))
    form_size_moved (ConNode number tag fields) h = ap (λ a. 1 + a) (total_moved n le fields h)
    form_size_moved (VecNode items) h = total_moved n le items h
    form_size_moved UnitNode h = refl
    form_size_moved (BoolNode b) h = refl
    form_size_moved (IntNode z) h = refl
    form_size_moved (TextNode bytes) h = refl
    form_size_moved (AuthNode held) h = refl

    form_depth_moved : (form : Form) → refers_below n form ≡ true → form_depth (absorbed from base own) (moved_form from up form) ≡ form_depth old form
    form_depth_moved (PairNode i j) h = ap₂ (λ a b. 1 + max a b) (depth_moved i (first_in i j h)) (depth_moved j (second_in i j h))
    form_depth_moved (ConNode number tag fields) h = ap (λ a. 1 + a) (greatest_moved n le fields h)
    form_depth_moved (VecNode items) h = ap (λ a. 1 + a) (greatest_moved n le items h)
    form_depth_moved UnitNode h = refl
    form_depth_moved (BoolNode b) h = refl
    form_depth_moved (IntNode z) h = refl
    form_depth_moved (TextNode bytes) h = refl
    form_depth_moved (AuthNode held) h = refl

  -- numbers below n go below where n goes
  moved_lt : (r n m : ℕ) → nat_lt r n ≡ true → n + up ≤ m → nat_lt (moved_ref from up r) m ≡ true
  moved_lt r n m h le = by (side r)
    where
      by : (r < from) ⊎ (from ≤ r) → nat_lt (moved_ref from up r) m ≡ true
      by (inl below) = let lt = ltb-true r n h in let lower : r < m = omega (arith, lt, le) in ap (λ i. nat_lt i m) (below_stays from up r below) ∙ lt-ltb r m lower
      by (inr past) = let lt = ltb-true r n h in let lower : r + up < m = omega (arith, lt, le) in ap (λ i. nat_lt i m) (past_goes from up r past) ∙ lt-ltb (r + up) m lower

  refs_moved : (n m : ℕ) → n + up ≤ m → (rs : List ℕ) → list_all (λ r. nat_lt r n) rs ≡ true → list_all (λ r. nat_lt r m) (map (moved_ref from up) rs) ≡ true
  refs_moved n m le [] h = refl
  refs_moved n m le (r ∷ rs) h =
      let both = conjuncts (nat_lt r n) (list_all (λ r. nat_lt r n) rs) h in
      ap₂ (λ a b. a && b) (moved_lt r n m both.0 le) (refs_moved n m le rs both.1)

  refers_moved : (n m : ℕ) → n + up ≤ m → (form : Form) → refers_below n form ≡ true → refers_below m (moved_form from up form) ≡ true
  refers_moved n m le (PairNode i j) h = refs_moved n m le (i ∷ j ∷ []) h
  refers_moved n m le (ConNode number tag fields) h = refs_moved n m le fields h
  refers_moved n m le (VecNode items) h = refs_moved n m le items h
  refers_moved n m le (AuthNode (InnerHeld inner)) h = refs_moved n m le (inner ∷ []) h
  refers_moved n m le (AuthNode (BothHeld digest inner)) h = refs_moved n m le (inner ∷ []) h
  refers_moved n m le (AuthNode (OnlyHeld digest)) h = refl
  refers_moved n m le UnitNode h = refl
  refers_moved n m le (BoolNode b) h = refl
  refers_moved n m le (IntNode z) h = refl
  refers_moved n m le (TextNode bytes) h = refl

  own_sound : (i : ℕ) (node : Node) → slice_get own i ≡ Some node → IsSoundNode limit (absorbed from base own) (length base + i) (moved_node from up node)
  own_sound i node e =
      let there : slice_get old (from + i) ≡ Some node = sym (ap (λ n. slice_get old (n + i)) front) ∙ get_past (take from base) own i ∙ e in
      let is = sound (from + i) node there in
      let below : from + i < length old = slice_get_within old (from + i) node there in
      let le : from + i ≤ length old = omega (arith, below) in
      let up_to : (from + i) + up ≤ length base + i = omega (arith, within) in
      let size_is = form_size_moved (from + i) le node.form is.refers in
      let depth_is = form_depth_moved (from + i) le node.form is.refers in
      record {
        refers = refers_moved (from + i) (length base + i) up_to node.form is.refers;
        size = is.size ∙ sym size_is;
        depth = is.depth ∙ sym depth_is;
        fits = record {
          size_fits = subst (λ s. s ≤ limit) (sym size_is) is.fits.size_fits;
          depth_fits = subst (λ s. s ≤ depth_limit) (sym depth_is) is.fits.depth_fits;
        };
      }

  -- the nodes that were absorbed are sound
  pub absorbed_sound : AreSound limit base → AreSound limit (absorbed from base own)
  absorbed_sound sound_base r node e = by (split r)
    where
      split : (r : ℕ) → (r < length base) ⊎ (length base ≤ r)
      split r = grind arith

      mapped : (o : Option Node) (i : ℕ) → slice_get own i ≡ o → option_map (moved_node from up) o ≡ Some node → IsSoundNode limit (absorbed from base own) (length base + i) node
      mapped (Some was) i h j = subst (λ n. IsSoundNode limit (absorbed from base own) (length base + i) n) (one (moved_node from up was) j) (own_sound i was h)
        where
          one : (x : Node) → Some x ≡ Some node → x ≡ node
          one x h = cc
      mapped None i h j = absurd (none j)
        where
          none : None ≡ Some node → ⊥
          none j = cc

      by : (r < length base) ⊎ (length base ≤ r) → IsSoundNode limit (absorbed from base own) r node
      by (inl below) =
          let before = slice_get_before base (map (moved_node from up) own) r below in
          let le : r ≤ length base = omega (arith, below) in
          sound_too (length base) base (absorbed from base own) (λ i h. slice_get_before base (map (moved_node from up) own) i h) r node le (sound_base r node (sym before ∙ e))
      by (inr past) =
          let here : length base + (r - length base) ≡ r = omega (arith, past) in
          let at = sym (slice_get-map (moved_node from up) own (r - length base)) ∙ sym (get_past base (map (moved_node from up) own) (r - length base)) ∙ ap (slice_get (absorbed from base own)) here ∙ e in
          subst (λ i. IsSoundNode limit (absorbed from base own) i node) here (mapped (slice_get own (r - length base)) (r - length base) refl at)

  -- own nodes refer to the nodes that stood then
  pub own_refers : (i : ℕ) (node : Node) → slice_get own i ≡ Some node → refers_below (from + length own) node.form ≡ true
  own_refers i node e =
      let there : slice_get old (from + i) ≡ Some node = sym (ap (λ n. slice_get old (n + i)) front) ∙ get_past (take from base) own i ∙ e in
      let lt = slice_get_within own i node e in
      let le : from + i ≤ from + length own = omega (arith, lt) in
      lower_refs (from + i) (from + length own) le (refs_in node.form) (sound (from + i) node there).refers
