-- Packed nodes that are moved behind others, with what they have in the pools.
use Rattle.std.proofs.Common.{◌≡◌, ℕ, zero, suc, ◌+◌, ◌%◌, ◌^◌, ◌*◌, ◌<◌, ◌≤◌, true, ◌&&◌, List, [], ◌∷◌, ◌++◌, length, map, Some, None, slice_get, nat_lt, if◌then◌else◌, refl, sym, ap, ap₂, ◌∙◌, subst, arith, ltb-true, length-append}
use Rattle.std.specs.Prelude.{slice_range}
use Rattle.std.specs.List.{list_all}
use Rattle.std.specs.Option.{option_map_or}
use Rattle.std.proofs.lemmas.List.{length-map}
use Rattle.std.proofs.lemmas.Nat.{mod-mul-add}
use Rattle.core_terms.specs.declared.digest.Digest.{Digest}
use Rattle.value_store.specs.Nodes as meant
use Rattle.value_store.specs.Nodes.{refers_below, refs_in}
use Rattle.value_store.specs.Moving.{moved_node, moved_ref}
use Rattle.value_store.specs.CodeNodes.{digest_in, form_of, node_of, node_with_end, nodes_of, numbers_of}
use Rattle.value_store.specs.Placing.{ArePlaced, EndsBy, IsPlaced, LiesBefore, Rise, digests_to, parts_from, with_parts}
use Rattle.value_store.specs.Shifting.{FormShifts, NodeShifts, shifted_form, shifted_node, wrapped_ref}
use Rattle.value_store.specs.declared.node.Ref.{Ref}
use Rattle.value_store.specs.declared.node.Form.{Form}
use Rattle.value_store.specs.declared.node.Form.TheVariants.{UnitNode, BoolNode, IntNode, TextNode, PairNode, ConstructorNode, VecNode, InnerNode, BothNode, OnlyNode}
use Rattle.value_store.specs.declared.node.Node.{Node}
use Rattle.value_store.specs.declared.absorbing.Shift.{Shift}
use Rattle.value_store.proofs.SoundNodes.{conjuncts}
use Rattle.value_store.proofs.Places.{map_twice, range_map, range_past}
use Rattle.value_store.proofs.Pools.{BeginAt}
use Rattle.value_store.proofs.Renumbered.{get_past}

-- a number that doesn't wrap
small_mod : (n : ℕ) → n < 2 ^ 64 → n % 2 ^ 64 ≡ n
small_mod n lt =
    let e : n ≡ 0 * 2 ^ 64 + n = omega arith in
    ap (λ m. m % 2 ^ 64) e ∙ mod-mul-add 0 (2 ^ 64) n lt

pub wrapped_is : (from up r : ℕ) → r + up < 2 ^ 64 → wrapped_ref from up r ≡ moved_ref from up r
wrapped_is from up r lt = ap (λ m. if nat_lt r from then r else m) (small_mod (r + up) lt)

wrapped_all : (from up n : ℕ) → n + up ≤ 2 ^ 64 → (rs : List ℕ) → list_all (λ r. nat_lt r n) rs ≡ true → map (wrapped_ref from up) rs ≡ map (moved_ref from up) rs
wrapped_all from up n le [] h = refl
wrapped_all from up n le (r ∷ rs) h =
    let both = conjuncts (nat_lt r n) (list_all (λ r. nat_lt r n) rs) h in
    let below = ltb-true r n both.0 in
    ap₂ (λ x xs. x ∷ xs) (wrapped_is from up r (omega (arith, below, le))) (wrapped_all from up n le rs both.1)

-- the pools of the base and of own nodes, the parts of these as they are moved
module _ (shift : Shift) (bp op mp : List Ref) (bd od : List Digest) (n : ℕ) (parts : shift.parts ≡ length bp) (digests : shift.digests ≡ length bd)
    (fits : n + shift.up ≤ 2 ^ 32) (moved : numbers_of mp ≡ map (wrapped_ref shift.from shift.up) (numbers_of op)) where
  abbrev goes : ℕ → ℕ
  goes = moved_ref shift.from shift.up

  range_moved : (start end : ℕ) → list_all (λ r. nat_lt r n) (numbers_of (slice_range op start end)) ≡ true
      → numbers_of (slice_range (bp ++ mp) (start + shift.parts) (end + shift.parts)) ≡ map goes (numbers_of (slice_range op start end))
  range_moved start end below =
      let wide : n + shift.up ≤ 2 ^ 64 = omega (arith, fits) in
      ap numbers_of (ap (λ m. slice_range (bp ++ mp) (start + m) (end + m)) parts ∙ range_past bp mp start end)
      ∙ sym (range_map (λ (r : Ref). r.0) mp start end)
      ∙ ap (λ xs. slice_range xs start end) moved
      ∙ range_map (wrapped_ref shift.from shift.up) (numbers_of op) start end
      ∙ ap (map (wrapped_ref shift.from shift.up)) (range_map (λ (r : Ref). r.0) op start end)
      ∙ wrapped_all shift.from shift.up n wide (numbers_of (slice_range op start end)) below

  digest_moved : (i : ℕ) → digest_in (bd ++ od) (i + shift.digests) ≡ digest_in od i
  digest_moved i =
      let at : i + shift.digests ≡ length bd + i = omega (arith, digests) in
      ap (λ o. option_map_or (λ (d : Digest). d.0) o []) (ap (slice_get (bd ++ od)) at ∙ get_past bd od i)

  with_moved : (end : ℕ) (form : Form) → refers_below n (form_of op od end form) ≡ true
      → node_with_end (bp ++ mp) (bd ++ od) (end + shift.parts) (shifted_form shift form) ≡ moved_node shift.from shift.up (node_with_end op od end form)
  with_moved end UnitNode refers = refl
  with_moved end (BoolNode b) refers = refl
  with_moved end (IntNode z) refers = refl
  with_moved end (TextNode size text) refers = refl
  with_moved end (PairNode depth size first second) refers = refl
  with_moved end (ConstructorNode tag depth size named start) refers =
      ap (λ rs. with_parts (meant.ConNode named tag.0 rs) size depth) (range_moved start end refers)
  with_moved end (VecNode depth size start) refers = ap (λ rs. with_parts (meant.VecNode rs) size depth) (range_moved start end refers)
  with_moved end (InnerNode inner) refers = refl
  with_moved end (BothNode digest inner) refers = ap (λ bytes. with_parts (meant.AuthNode (meant.BothHeld bytes (goes inner.0))) 32 1) (digest_moved digest)
  with_moved end (OnlyNode digest) refers = ap (λ bytes. with_parts (meant.AuthNode (meant.OnlyHeld bytes)) 32 1) (digest_moved digest)

  pub nodes_moved : (own : List Node) → ((i : ℕ) (node : Node) → slice_get own i ≡ Some node → refers_below n (node_of op od node).form ≡ true)
      → nodes_of (bp ++ mp) (bd ++ od) (map (shifted_node shift) own) ≡ map (moved_node shift.from shift.up) (nodes_of op od own)
  nodes_moved own refers =
      map_twice (node_of (bp ++ mp) (bd ++ od)) (shifted_node shift) (moved_node shift.from shift.up) (node_of op od) own
      (λ i node e. with_moved node.ends.parts node.form (refers i node e))

  pub long : length mp ≡ length op
  long = sym (length-map mp (λ (r : Ref). r.0)) ∙ ap length moved ∙ length-map (numbers_of op) (wrapped_ref shift.from shift.up) ∙ length-map op (λ (r : Ref). r.0)

-- All numbers of an own node fit, as it is moved. Own nodes refer to nodes below n.
module _ (shift : Shift) (op : List Ref) (od : List Digest) (n : ℕ) (fits : n + shift.up ≤ 2 ^ 32) (parts_fit : shift.parts + length op < 2 ^ 32) (digests_fit : shift.digests + length od < 2 ^ 32) where
  first_below : (i j : ℕ) → nat_lt i n && (nat_lt j n && true) ≡ true → i < n
  first_below i j h = ltb-true i n (conjuncts (nat_lt i n) (nat_lt j n && true) h).0

  second_below : (i j : ℕ) → nat_lt i n && (nat_lt j n && true) ≡ true → j < n
  second_below i j h = ltb-true j n (conjuncts (nat_lt j n) true (conjuncts (nat_lt i n) (nat_lt j n && true) h).1).0

  one_below : (i : ℕ) → nat_lt i n && true ≡ true → i < n
  one_below i h = ltb-true i n (conjuncts (nat_lt i n) true h).0

  form_shifts : (pe de : ℕ) (form : Form) → LiesBefore pe de form → pe ≤ length op → de ≤ length od → refers_below n (form_of op od pe form) ≡ true → FormShifts shift form
  form_shifts pe de (PairNode depth size first second) lies lp ld refers =
      let a = first_below first second refers in
      let b = second_below first second refers in
      (omega (arith, a, fits), omega (arith, b, fits))
  form_shifts pe de (ConstructorNode tag depth size named start) lies lp ld refers = let l = lies.0 in omega (arith, l, lp, parts_fit)
  form_shifts pe de (VecNode depth size start) lies lp ld refers = let l = lies.0 in omega (arith, l, lp, parts_fit)
  form_shifts pe de (InnerNode inner) lies lp ld refers = let a = one_below inner.0 refers in omega (arith, a, fits)
  form_shifts pe de (BothNode digest inner) lies lp ld refers = let a = one_below inner.0 refers in let l = lies.1 in (omega (arith, l, ld, digests_fit), omega (arith, a, fits))
  form_shifts pe de (OnlyNode digest) lies lp ld refers = let l = lies.1 in omega (arith, l, ld, digests_fit)
  form_shifts pe de UnitNode lies lp ld refers = tt
  form_shifts pe de (BoolNode b) lies lp ld refers = tt
  form_shifts pe de (IntNode z) lies lp ld refers = tt
  form_shifts pe de (TextNode size text) lies lp ld refers = tt

  pub node_shifts : (node : Node) → IsPlaced op od node → refers_below n (node_of op od node).form ≡ true → NodeShifts shift node
  node_shifts node placed refers =
      let a = placed.within.0 in
      let b = placed.within.1 in
      record {
        form = form_shifts node.ends.parts node.ends.digests node.form placed.lies placed.within.0 placed.within.1 refers;
        parts = omega (arith, a, parts_fit);
        digests = omega (arith, b, digests_fit);
      }

-- the nodes that are moved, with the pools behind those of the base
module _ (shift : Shift) where
  from_shifted : (form : Form) → parts_from (shifted_form shift form) ≤ parts_from form + shift.parts
  from_shifted UnitNode = omega arith
  from_shifted (BoolNode b) = omega arith
  from_shifted (IntNode z) = omega arith
  from_shifted (TextNode size text) = omega arith
  from_shifted (PairNode depth size first second) = omega arith
  from_shifted (ConstructorNode tag depth size named start) = omega arith
  from_shifted (VecNode depth size start) = omega arith
  from_shifted (InnerNode inner) = omega arith
  from_shifted (BothNode digest inner) = omega arith
  from_shifted (OnlyNode digest) = omega arith

  to_shifted : (form : Form) → digests_to (shifted_form shift form) ≤ digests_to form + shift.digests
  to_shifted UnitNode = omega arith
  to_shifted (BoolNode b) = omega arith
  to_shifted (IntNode z) = omega arith
  to_shifted (TextNode size text) = omega arith
  to_shifted (PairNode depth size first second) = omega arith
  to_shifted (ConstructorNode tag depth size named start) = omega arith
  to_shifted (VecNode depth size start) = omega arith
  to_shifted (InnerNode inner) = omega arith
  to_shifted (BothNode digest inner) = omega arith
  to_shifted (OnlyNode digest) = omega arith

  lies_shifted : (pe de : ℕ) (form : Form) → LiesBefore pe de form → LiesBefore (pe + shift.parts) (de + shift.digests) (shifted_form shift form)
  lies_shifted pe de form lies =
      let a = lies.0 in
      let b = lies.1 in
      let c = from_shifted form in
      let d = to_shifted form in
      (omega (arith, a, c), omega (arith, b, d))

-- an element of what is made of each
mapped_at : {A B : Type 0} (f : A → B) (xs : List A) (i : ℕ) (y : B) → slice_get (map f xs) i ≡ Some y → (x : A) × (slice_get xs i ≡ Some x) × (f x ≡ y)
mapped_at f [] i y e = absurd (none e)
  where
    none : None ≡ Some y → ⊥
    none e = cc
mapped_at f (x ∷ xs) zero y e = (x, refl, one e)
  where
    one : Some (f x) ≡ Some y → f x ≡ y
    one e = cc
mapped_at f (x ∷ xs) (suc i) y e = mapped_at f xs i y e

module _ (shift : Shift) (bp mp : List Ref) (bd od : List Digest) (count : ℕ) (parts : shift.parts ≡ length bp) (digests : shift.digests ≡ length bd) (long : length mp ≡ count) (own : List Node) where
  pub placed_shifted : (op : List Ref) → length op ≡ count → ArePlaced op od own → ArePlaced (bp ++ mp) (bd ++ od) (map (shifted_node shift) own)
  placed_shifted op as_long placed i node e =
      let was = mapped_at (shifted_node shift) own i node e in
      subst (IsPlaced (bp ++ mp) (bd ++ od)) was.2 (one was.0 (placed i was.0 was.1))
    where
      one : (node : Node) → IsPlaced op od node → IsPlaced (bp ++ mp) (bd ++ od) (shifted_node shift node)
      one node is =
          let a = is.within.0 in
          let b = is.within.1 in
          record {
            lies = lies_shifted shift node.ends.parts node.ends.digests node.form is.lies;
            within = (omega (arith, a, parts, long, as_long, length-append bp mp), omega (arith, b, digests, length-append bd od));
          }

  pub begin_shifted : BeginAt (length bp) (length bd) (map (shifted_node shift) own)
  begin_shifted i node e =
      let was = mapped_at (shifted_node shift) own i node e in
      subst (λ (y : Node). (length bp ≤ y.ends.parts) × (length bd ≤ y.ends.digests)) was.2 (omega (arith, parts), omega (arith, digests))

  pub rise_shifted : Rise own → Rise (map (shifted_node shift) own)
  rise_shifted rise n last at i node below there =
      let end = mapped_at (shifted_node shift) own n last at in
      let one = mapped_at (shifted_node shift) own i node there in
      let h = rise n end.0 end.1 i one.0 below one.1 in
      subst (λ (y : Node). EndsBy y.ends.parts y.ends.digests node.ends) end.2
      (subst (λ (y : Node). EndsBy (end.0.ends.parts + shift.parts) (end.0.ends.digests + shift.digests) y.ends) one.2 (up one.0.ends.parts end.0.ends.parts one.0.ends.digests end.0.ends.digests h))
    where
      up : (a b c d : ℕ) → (a ≤ b) × (c ≤ d) → (a + shift.parts ≤ b + shift.parts) × (c + shift.digests ≤ d + shift.digests)
      up a b c d h = let p = h.0 in let q = h.1 in (omega (arith, p), omega (arith, q))

-- a node whose form was moved
abbrev node_at : Shift → Node → Form → Node
node_at shift node form = record { form = form; ends = record { parts = node.ends.parts + shift.parts; digests = node.ends.digests + shift.digests } }

pub node_shifted : (shift : Shift) (node : Node) (form : Form) → form ≡ shifted_form shift node.form → node_at shift node form ≡ shifted_node shift node
node_shifted shift node form e = ap (node_at shift node) e
