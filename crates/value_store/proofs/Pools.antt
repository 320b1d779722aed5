-- Packed nodes, where nodes are put behind them, where the pools grow, and where all is cut.
use Rattle.std.proofs.Common.{◌≡◌, ◌⊎◌, inl, inr, ℕ, zero, suc, ◌+◌, ◌<◌, ◌≤◌, Bool, true, false, if◌then◌else◌, List, [], ◌∷◌, ◌++◌, length, take, Some, slice_get, slice_index_or, refl, sym, ap, ◌∙◌, subst, arith}
use Rattle.std.specs.Option.{option_map, option_map_or}
use Rattle.std.proofs.lemmas.List.{length-map, length-take, take-map, take-take}
use Rattle.std.proofs.lemmas.Option.{slice_get-map, slice_get-get_or}
use Rattle.std.proofs.Math.Seq.{take-append_seam, take-length}
use Rattle.core_terms.specs.declared.digest.Digest.{Digest}
use Rattle.value_store.specs.Nodes as meant
use Rattle.value_store.specs.CodeNodes.{form_of, kept_depth, kept_size, node_of, nodes_of, numbers_of}
use Rattle.value_store.specs.Placing.{ArePlaced, EndsBy, FirstEndBy, IsPlaced, LiesBefore, Rise, with_parts}
use Rattle.value_store.specs.declared.node.Ref.{Ref}
use Rattle.value_store.specs.declared.node.Form.{Form}
use Rattle.value_store.specs.declared.node.Form.TheVariants.{UnitNode, BoolNode, IntNode, TextNode, PairNode, ConstructorNode, VecNode, InnerNode, BothNode, OnlyNode}
use Rattle.value_store.specs.declared.node.Ends.{Ends}
use Rattle.value_store.specs.declared.node.Node.{Node}
use Rattle.value_store.proofs.Places.{append_at, get_same, map_same, none_is, range_same, some_is, taken_at}

-- A form is the same in pools that agree on what lies before its ends.
form_same : (p p' : List Ref) (d d' : List Digest) (pe de : ℕ) (form : Form) → LiesBefore pe de form → take pe p' ≡ take pe p → take de d' ≡ take de d
    → form_of p' d' pe form ≡ form_of p d pe form
form_same p p' d d' pe de UnitNode lies parts digests = refl
form_same p p' d d' pe de (BoolNode b) lies parts digests = refl
form_same p p' d d' pe de (IntNode z) lies parts digests = refl
form_same p p' d d' pe de (TextNode size text) lies parts digests = refl
form_same p p' d d' pe de (PairNode depth size first second) lies parts digests = refl
form_same p p' d d' pe de (ConstructorNode tag depth size named start) lies parts digests =
    ap (λ (rs : List Ref). meant.ConNode named tag.0 (numbers_of rs)) (range_same p p' start pe lies.0 parts)
form_same p p' d d' pe de (VecNode depth size start) lies parts digests =
    ap (λ (rs : List Ref). meant.VecNode (numbers_of rs)) (range_same p p' start pe lies.0 parts)
form_same p p' d d' pe de (InnerNode inner) lies parts digests = refl
form_same p p' d d' pe de (BothNode digest inner) lies parts digests =
    ap (λ o. meant.AuthNode (meant.BothHeld (option_map_or (λ (x : Digest). x.0) o []) inner.0)) (get_same d d' de digest (below lies.1) digests)
  where
    below : digest + 1 ≤ de → digest < de
    below h = omega (arith, h)
form_same p p' d d' pe de (OnlyNode digest) lies parts digests =
    ap (λ o. meant.AuthNode (meant.OnlyHeld (option_map_or (λ (x : Digest). x.0) o []))) (get_same d d' de digest (below lies.1) digests)
  where
    below : digest + 1 ≤ de → digest < de
    below h = omega (arith, h)

-- nodes are the same where each one's pools agree
nodes_same : (p p' : List Ref) (d d' : List Digest) (nodes : List Node)
    → ((i : ℕ) (node : Node) → slice_get nodes i ≡ Some node
    → LiesBefore node.ends.parts node.ends.digests node.form × (take node.ends.parts p' ≡ take node.ends.parts p) × (take node.ends.digests d' ≡ take node.ends.digests d))
    → nodes_of p' d' nodes ≡ nodes_of p d nodes
nodes_same p p' d d' nodes same = map_same (node_of p' d') (node_of p d) nodes one
  where
    one : (i : ℕ) (node : Node) → slice_get nodes i ≡ Some node → node_of p' d' node ≡ node_of p d node
    one i node e =
        let h = same i node e in
        ap (λ f. with_parts f (kept_size node.form) (kept_depth node.form)) (form_same p p' d d' node.ends.parts node.ends.digests node.form h.0 h.1 h.2)

-- pools that have the old ones in front
pub extended : {X : Type 0} (b : Bool) (xs more new : List X) → new ≡ (if b then xs ++ more else xs) → take (length xs) new ≡ xs
extended true xs more new e = ap (take (length xs)) e ∙ take-append_seam xs more
extended false xs more new e = ap (take (length xs)) e ∙ take-length xs

module _ (p p' : List Ref) (d d' : List Digest) (nodes : List Node) (placed : ArePlaced p d nodes) (parts : take (length p) p' ≡ p) (digests : take (length d) d' ≡ d) where
  front_same : {X : Type 0} (xs new : List X) (e : ℕ) → take (length xs) new ≡ xs → e ≤ length xs → take e new ≡ take e xs
  front_same xs new e same le = sym (take-take e (length xs) new le) ∙ ap (take e) same

  no_shorter : {X : Type 0} (xs new : List X) → take (length xs) new ≡ xs → length xs ≤ length new
  no_shorter xs new same = let long = ap length same in omega (arith, long, length-take (length xs) new)

  pub nodes_longer : nodes_of p' d' nodes ≡ nodes_of p d nodes
  nodes_longer =
      nodes_same p p' d d' nodes
      (λ i node e.
      let is = placed i node e in
      (is.lies, front_same p p' node.ends.parts parts is.within.0, front_same d d' node.ends.digests digests is.within.1))

  pub placed_longer : ArePlaced p' d' nodes
  placed_longer i node e =
      let is = placed i node e in
      let a = is.within.0 in
      let b = is.within.1 in
      let lp = no_shorter p p' parts in
      let ld = no_shorter d d' digests in
      record { lies = is.lies; within = (omega (arith, a, lp), omega (arith, b, ld)) }

-- others behind
pub placed_behind : (p : List Ref) (d : List Digest) (nodes more : List Node) → ArePlaced p d nodes → ArePlaced p d more → ArePlaced p d (nodes ++ more)
placed_behind p d nodes more first second i node e = by (append_at nodes more i node e)
  where
    by : ((slice_get nodes i ≡ Some node) × (i < length nodes)) ⊎ ((j : ℕ) × (i ≡ length nodes + j) × (slice_get more j ≡ Some node)) → IsPlaced p d node
    by (inl h) = first i node h.0
    by (inr h) = second h.0 node h.2

-- nodes that begin behind these places
abbrev pub BeginAt : (parts digests : ℕ) → List Node → Type 0
BeginAt parts digests nodes = (i : ℕ) (node : Node) → slice_get nodes i ≡ Some node → (parts ≤ node.ends.parts) × (digests ≤ node.ends.digests)

ends_later : (parts digests : ℕ) (ends : Ends) (p d : ℕ) → EndsBy parts digests ends → parts ≤ p → digests ≤ d → EndsBy p d ends
ends_later parts digests ends p d h lp ld = let a = h.0 in let b = h.1 in (omega (arith, a, lp), omega (arith, b, ld))

pub rise_behind : (parts digests : ℕ) (nodes more : List Node) → Rise nodes → FirstEndBy (length nodes) nodes parts digests → BeginAt parts digests more → Rise more → Rise (nodes ++ more)
rise_behind parts digests nodes more first ends begin second n last at i node below there = by (append_at nodes more n last at) (append_at nodes more i node there)
  where
    by : ((slice_get nodes n ≡ Some last) × (n < length nodes)) ⊎ ((j : ℕ) × (n ≡ length nodes + j) × (slice_get more j ≡ Some last))
        → ((slice_get nodes i ≡ Some node) × (i < length nodes)) ⊎ ((j : ℕ) × (i ≡ length nodes + j) × (slice_get more j ≡ Some node))
        → EndsBy last.ends.parts last.ends.digests node.ends
    by (inl h) (inl k) = first n last h.0 i node below k.0
    by (inl h) (inr k) = let lt = h.1 in let is = k.1 in absurd (omega (arith, lt, is, below))
    by (inr h) (inl k) =
        let from = begin h.0 last h.2 in
        ends_later parts digests node.ends last.ends.parts last.ends.digests (ends i node k.1 k.0) from.0 from.1
    by (inr h) (inr k) =
        let is = h.1 in
        let are = k.1 in
        let lower : k.0 < h.0 = omega (arith, is, are, below) in
        second h.0 last h.2 k.0 node lower k.2

-- one node behind
module _ (p : List Ref) (d : List Digest) (nodes : List Node) (placed : ArePlaced p d nodes) (rise : Rise nodes) (node : Node)
    (parts : node.ends.parts ≡ length p) (digests : node.ends.digests ≡ length d) where
  one_at : (i : ℕ) (x : Node) → slice_get (node ∷ []) i ≡ Some x → node ≡ x
  one_at zero x e = some_is node x e
  one_at (suc i) x e = absurd (none_is x e)

  pub placed_one : LiesBefore (length p) (length d) node.form → ArePlaced p d (nodes ++ node ∷ [])
  placed_one lies = placed_behind p d nodes (node ∷ []) placed (λ i x e. subst (IsPlaced p d) (one_at i x e) is)
    where
      is : IsPlaced p d node
      is =
          let a = lies.0 in
          let b = lies.1 in
          record {
            lies = (omega (arith, a, parts), omega (arith, b, digests));
            within = (omega (arith, parts), omega (arith, digests));
          }

  pub rise_one : Rise (nodes ++ node ∷ [])
  rise_one = rise_behind (length p) (length d) nodes (node ∷ []) rise (λ i x below e. (placed i x e).within) begin alone
    where
      begin : BeginAt (length p) (length d) (node ∷ [])
      begin i x e = subst (λ (y : Node). (length p ≤ y.ends.parts) × (length d ≤ y.ends.digests)) (one_at i x e) (omega (arith, parts), omega (arith, digests))

      alone : Rise (node ∷ [])
      alone zero last at i x below there = absurd (omega (arith, below))
      alone (suc n) last at i x below there = absurd (none_is last at)

  -- where it was put, or none where memory was wanting
  module _ (b : Bool) (new : List Node) (pushed : new ≡ (if b then nodes ++ node ∷ [] else nodes)) where
    pub placed_pushed : LiesBefore (length p) (length d) node.form → ArePlaced p d new
    placed_pushed lies = by b pushed
      where
        by : (b : Bool) → new ≡ (if b then nodes ++ node ∷ [] else nodes) → ArePlaced p d new
        by true e = subst (ArePlaced p d) (sym e) (placed_one lies)
        by false e = subst (ArePlaced p d) (sym e) placed

    pub rise_pushed : Rise new
    rise_pushed = by b pushed
      where
        by : (b : Bool) → new ≡ (if b then nodes ++ node ∷ [] else nodes) → Rise new
        by true e = subst Rise (sym e) rise_one
        by false e = subst Rise (sym e) rise

-- the first n of the nodes, with the pools up to where these end
module _ (p : List Ref) (d : List Digest) (nodes : List Node) (n pe de : ℕ) (placed : ArePlaced p d nodes) (ends : FirstEndBy n nodes pe de) where
  pub nodes_cut : nodes_of (take pe p) (take de d) (take n nodes) ≡ take n (nodes_of p d nodes)
  nodes_cut =
      nodes_same p (take pe p) d (take de d) (take n nodes) same ∙ sym (take-map (node_of p d) n nodes)
    where
      same : (i : ℕ) (node : Node) → slice_get (take n nodes) i ≡ Some node
          → LiesBefore node.ends.parts node.ends.digests node.form × (take node.ends.parts (take pe p) ≡ take node.ends.parts p) × (take node.ends.digests (take de d) ≡ take node.ends.digests d)
      same i node e =
          let at = taken_at nodes n i node e in
          let h = ends i node at.0 at.1 in
          ((placed i node at.1).lies, take-take node.ends.parts pe p h.0, take-take node.ends.digests de d h.1)

  pub placed_cut : ArePlaced (take pe p) (take de d) (take n nodes)
  placed_cut i node e =
      let at = taken_at nodes n i node e in
      let h = ends i node at.0 at.1 in
      let is = placed i node at.1 in
      let a = h.0 in
      let b = h.1 in
      let c = is.within.0 in
      let f = is.within.1 in
      record {
        lies = is.lies;
        within = (omega (arith, a, c, length-take pe p), omega (arith, b, f, length-take de d));
      }

  pub placed_after : (p' : List Ref) (d' : List Digest) (new : List Node) → p' ≡ take pe p → d' ≡ take de d → new ≡ take n nodes → ArePlaced p' d' new
  placed_after p' d' new parts digests are =
      subst (λ xs. ArePlaced xs d' new) (sym parts) (subst (λ xs. ArePlaced (take pe p) xs new) (sym digests) (subst (ArePlaced (take pe p) (take de d)) (sym are) placed_cut))

  pub nodes_after : (p' : List Ref) (d' : List Digest) (new : List Node) → p' ≡ take pe p → d' ≡ take de d → new ≡ take n nodes → nodes_of p' d' new ≡ take n (nodes_of p d nodes)
  nodes_after p' d' new parts digests are =
      ap (λ xs. nodes_of xs d' new) parts ∙ ap (λ xs. nodes_of (take pe p) xs new) digests ∙ ap (nodes_of (take pe p) (take de d)) are ∙ nodes_cut

-- reads of a node that is there
pub node_read : (p : List Ref) (d : List Digest) (nodes : List Node) (i : ℕ) (node : Node) → i < length (nodes_of p d nodes) → node ≡ slice_index_or nodes i node
    → slice_get (nodes_of p d nodes) i ≡ Some (node_of p d node)
node_read p d nodes i node there is =
    slice_get-map (node_of p d) nodes i
    ∙ ap (option_map (node_of p d)) (slice_get-get_or nodes i node (subst (λ n. i < n) (length-map nodes (node_of p d)) there) ∙ ap Some (sym is))

pub rise_cut : (nodes : List Node) (n : ℕ) → Rise nodes → Rise (take n nodes)
rise_cut nodes n rise m last at i node below there =
    let end = taken_at nodes n m last at in
    let one = taken_at nodes n i node there in
    rise m last end.1 i node below one.1

pub rise_after : (nodes new : List Node) (n : ℕ) → Rise nodes → new ≡ take n nodes → Rise new
rise_after nodes new n rise e = subst Rise (sym e) (rise_cut nodes n rise)
