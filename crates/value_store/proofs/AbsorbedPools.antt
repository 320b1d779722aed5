-- Own nodes that are put behind the nodes of a base, with their pools behind those of the base.
use Rattle.std.proofs.Common.{◌≡◌, ◌⊎◌, inl, inr, ℕ, ◌+◌, ◌-◌, ◌^◌, ◌<◌, ◌≤◌, Bool, true, false, if◌then◌else◌, List, ◌++◌, length, take, drop, map, Result, Ok, Err, Some, slice_get, refl, sym, ap, ap₂, ◌∙◌, subst, arith}
use Rattle.std.specs.Prelude.{IfOk, OnErr}
use Rattle.std.specs.Option.{option_map}
use Rattle.std.proofs.lemmas.List.{length-map, map-append}
use Rattle.std.proofs.lemmas.Option.{slice_get-map}
use Rattle.std.proofs.Math.Seq.{take-append_seam}
use Rattle.core_terms.specs.declared.digest.Digest.{Digest}
use Rattle.value_store.specs.Nodes as meant
use Rattle.value_store.specs.Nodes.{refers_below}
use Rattle.value_store.specs.Moving.{absorbed, moved_node}
use Rattle.value_store.specs.CodeNodes.{node_of, nodes_of, numbers_of}
use Rattle.value_store.specs.Placing.{ArePlaced, Rise}
use Rattle.value_store.specs.Shifting.{NodeShifts, shifted_node, wrapped_ref}
use Rattle.value_store.specs.declared.node.Ref.{Ref}
use Rattle.value_store.specs.declared.node.Node.{Node}
use Rattle.value_store.specs.declared.absorbing.Shift.{Shift}
use Rattle.value_store.proofs.Joined.{begin_shifted, long, node_shifts, nodes_moved, placed_shifted, rise_shifted}
use Rattle.value_store.proofs.Pools.{extended, nodes_longer, placed_behind, placed_longer, rise_behind}

-- what a list holds that was lent as a slice
pub lent_back : {X : Type 0} (k : ℕ) (new old : List X) → k ≡ length old → length new ≡ length old → take k (new ++ drop (length new) old) ≡ new
lent_back k new old is same = ap (λ n. take n (new ++ drop (length new) old)) (is ∙ sym same) ∙ take-append_seam new (drop (length new) old)

pub on_err : {X E P : Type 0} (result : Result X E) → P → OnErr result P
on_err (Ok x) h = tt
on_err (Err e) h = h

pub ok_so : {X E Y : Type 0} (old new end : Y) (result : Result X E) → IfOk result (λ x. new ≡ old) → old ≡ end → IfOk result (λ x. new ≡ end)
ok_so old new end (Ok x) h e = h ∙ e
ok_so old new end (Err x) h e = tt

pub either_so : {X E Y : Type 0} (was old new end : Y) (result : Result X E) → IfOk result (λ x. new ≡ old) → OnErr result (new ≡ was) → old ≡ end → (new ≡ was) ⊎ (new ≡ end)
either_so was old new end (Ok x) h r e = inr (h ∙ e)
either_so was old new end (Err x) h r e = inl r

-- the parts and the nodes that were lent to be moved
pub parts_back : (k : ℕ) (new old : List Ref) (ns : List ℕ) → k ≡ length old → numbers_of new ≡ ns → length ns ≡ length old
    → numbers_of (take k (new ++ drop (length new) old)) ≡ ns
parts_back k new old ns is same count = ap numbers_of (lent_back k new old is (sym (length-map new (λ (r : Ref). r.0)) ∙ ap length same ∙ count)) ∙ same

pub nodes_back : (k : ℕ) (new old : List Node) (shift : Shift) → k ≡ length old → new ≡ map (shifted_node shift) old → take k (new ++ drop (length new) old) ≡ map (shifted_node shift) old
nodes_back k new old shift is same = lent_back k new old is (ap length same ∙ length-map old (shifted_node shift)) ∙ same

module _ (bp op : List Ref) (bd od : List Digest) (bn on : List Node) (from : ℕ) (shift : Shift) (within : from ≤ length bn)
    (from_is : shift.from ≡ from) (up_is : shift.up ≡ length bn - from) (parts_is : shift.parts ≡ length bp) (digests_is : shift.digests ≡ length bd)
    (nodes_fit : length bn + length on < 2 ^ 32) (parts_fit : shift.parts + length op < 2 ^ 32) (digests_fit : shift.digests + length od < 2 ^ 32)
    (placed_base : ArePlaced bp bd bn) (rise_base : Rise bn) (placed_own : ArePlaced op od on) (rise_own : Rise on)
    (refers : (i : ℕ) (node : meant.Node) → slice_get (nodes_of op od on) i ≡ Some node → refers_below (from + length (nodes_of op od on)) node.form ≡ true) where
  fits : (from + length (nodes_of op od on)) + shift.up ≤ 2 ^ 32
  fits = let count = length-map on (node_of op od) in omega (arith, count, within, up_is, nodes_fit)

  refer : (i : ℕ) (node : Node) → slice_get on i ≡ Some node → refers_below (from + length (nodes_of op od on)) (node_of op od node).form ≡ true
  refer i node e = refers i (node_of op od node) (slice_get-map (node_of op od) on i ∙ ap (option_map (node_of op od)) e)

  pub all_shift : (i : ℕ) (node : Node) → slice_get on i ≡ Some node → NodeShifts shift node
  all_shift i node e = node_shifts shift op od (from + length (nodes_of op od on)) fits parts_fit digests_fit node (placed_own i node e) (refer i node e)

  module _ (mp : List Ref) (moved : numbers_of mp ≡ map (wrapped_ref shift.from shift.up) (numbers_of op)) where
    as_long : length mp ≡ length op
    as_long = long shift bp op mp bd od (from + length (nodes_of op od on)) parts_is digests_is fits moved

    longer : nodes_of (bp ++ mp) (bd ++ od) bn ≡ nodes_of bp bd bn
    longer = nodes_longer bp (bp ++ mp) bd (bd ++ od) bn placed_base (take-append_seam bp mp) (take-append_seam bd od)

    placed_all : ArePlaced (bp ++ mp) (bd ++ od) (bn ++ map (shifted_node shift) on)
    placed_all =
        placed_behind (bp ++ mp) (bd ++ od) bn (map (shifted_node shift) on)
        (placed_longer bp (bp ++ mp) bd (bd ++ od) bn placed_base (take-append_seam bp mp) (take-append_seam bd od))
        (placed_shifted shift bp mp bd od (length op) parts_is digests_is as_long on op refl placed_own)

    rise_all : Rise (bn ++ map (shifted_node shift) on)
    rise_all =
        rise_behind (length bp) (length bd) bn (map (shifted_node shift) on) rise_base (λ i node below e. (placed_base i node e).within)
        (begin_shifted shift bp mp bd od (length op) parts_is digests_is as_long on) (rise_shifted shift bp mp bd od (length op) parts_is digests_is as_long on rise_own)

    up_same : shift.up ≡ length (nodes_of bp bd bn) - from
    up_same = up_is ∙ ap (λ n. n - from) (sym (length-map bn (node_of bp bd)))

    nodes_all : nodes_of (bp ++ mp) (bd ++ od) (bn ++ map (shifted_node shift) on) ≡ absorbed from (nodes_of bp bd bn) (nodes_of op od on)
    nodes_all =
        map-append (node_of (bp ++ mp) (bd ++ od)) bn (map (shifted_node shift) on)
        ∙ ap₂ (λ (xs ys : List meant.Node). xs ++ ys) longer
        (nodes_moved shift bp op mp bd od (from + length (nodes_of op od on)) parts_is digests_is fits moved on refer
        ∙ ap₂ (λ m n. map (moved_node m n) (nodes_of op od on)) from_is up_same)

    module _ (mn : List Node) (are : mn ≡ map (shifted_node shift) on) where
      pub placed_joined : ArePlaced (bp ++ mp) (bd ++ od) (bn ++ mn)
      placed_joined = subst (λ xs. ArePlaced (bp ++ mp) (bd ++ od) (bn ++ xs)) (sym are) placed_all

      pub rise_joined : Rise (bn ++ mn)
      rise_joined = subst (λ xs. Rise (bn ++ xs)) (sym are) rise_all

      pub nodes_joined : nodes_of (bp ++ mp) (bd ++ od) (bn ++ mn) ≡ absorbed from (nodes_of bp bd bn) (nodes_of op od on)
      nodes_joined = ap (λ xs. nodes_of (bp ++ mp) (bd ++ od) (bn ++ xs)) are ∙ nodes_all

-- lists that were put behind, the last of them only where there was memory
module _ (p mp p' : List Ref) (d md d' : List Digest) (ns more ns' : List Node) (parts : p' ≡ p ++ mp) (digests : d' ≡ d ++ md) (placed : ArePlaced p d ns) where
  longer_parts : take (length p) p' ≡ p
  longer_parts = extended true p mp p' parts

  longer_digests : take (length d) d' ≡ d
  longer_digests = extended true d md d' digests

  pub placed_put : (b : Bool) → ns' ≡ (if b then ns ++ more else ns) → ArePlaced (p ++ mp) (d ++ md) (ns ++ more) → ArePlaced p' d' ns'
  placed_put true e whole =
      subst (λ xs. ArePlaced xs d' ns') (sym parts) (subst (λ xs. ArePlaced (p ++ mp) xs ns') (sym digests) (subst (ArePlaced (p ++ mp) (d ++ md)) (sym e) whole))
  placed_put false e whole = subst (ArePlaced p' d') (sym e) (placed_longer p p' d d' ns placed longer_parts longer_digests)

  pub same_put : ns' ≡ ns → nodes_of p' d' ns' ≡ nodes_of p d ns
  same_put e = ap (nodes_of p' d') e ∙ nodes_longer p p' d d' ns placed longer_parts longer_digests

pub rise_put : (b : Bool) (ns more ns' : List Node) → ns' ≡ (if b then ns ++ more else ns) → Rise ns → Rise (ns ++ more) → Rise ns'
rise_put true ns more ns' e rise whole = subst Rise (sym e) whole
rise_put false ns more ns' e rise whole = subst Rise (sym e) rise
