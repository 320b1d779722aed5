-- Numbers of nodes, as the code goes through them.
use Rattle.std.proofs.Common.{◌≡◌, ℕ, zero, suc, ◌+◌, ◌<◌, max, true, List, [], ◌∷◌, length, drop, Some, None, slice_get, slice_index_or, nat_lt, sym, ◌∙◌, ap, subst, arith, ltb-true, drop-cons, add-one}
use Rattle.std.specs.List.{list_all}
use Rattle.value_store.specs.Nodes as meant
use Rattle.value_store.specs.Nodes.{depth_at, form_at, greatest_depth, size_at, total_size}
use Rattle.value_store.specs.CodeNodes.{numbers_of}
use Rattle.value_store.specs.declared.node.Ref.{Ref}
use Rattle.value_store.proofs.SoundNodes.{conjuncts}

-- a number among some that are all below n
pub number_below : (refs : List Ref) (n i : ℕ) (d : Ref) → list_all (λ r. nat_lt r n) (numbers_of refs) ≡ true → i < length refs → (slice_index_or refs i d).0 < n
number_below [] n i d h below = absurd (omega arith)
number_below (r ∷ refs) n zero d h below = ltb-true r.0 n (conjuncts (nat_lt r.0 n) (list_all (λ r. nat_lt r n) (numbers_of refs)) h).0
number_below (r ∷ refs) n (suc i) d h below = number_below refs n i d (conjuncts (nat_lt r.0 n) (list_all (λ r. nat_lt r n) (numbers_of refs)) h).1 (omega arith)

module _ (nodes : List meant.Node) (refs : List Ref) (i : ℕ) (d : Ref) (below : i < length refs) where
  -- the rest of some numbers, from its first one
  rest_is : numbers_of (drop i refs) ≡ (slice_index_or refs i d).0 ∷ numbers_of (drop (i + 1) refs)
  rest_is = ap numbers_of (drop-cons refs i d below) ∙ ap (λ n. (slice_index_or refs i d).0 ∷ numbers_of (drop n refs)) (sym (add-one i))

  -- a sum so far
  pub total_further : (total size whole : ℕ) → size ≡ size_at nodes (slice_index_or refs i d).0
      → total + total_size nodes (numbers_of (drop i refs)) ≡ whole → (total + size) + total_size nodes (numbers_of (drop (i + 1) refs)) ≡ whole
  total_further total size whole is so_far =
      let rest : total_size nodes (numbers_of (drop i refs)) ≡ size_at nodes (slice_index_or refs i d).0 + total_size nodes (numbers_of (drop (i + 1) refs)) =
      ap (total_size nodes) rest_is in
      omega (arith, is, so_far, rest)

  -- a greatest one so far
  pub greatest_further : (greatest depth whole : ℕ) → depth ≡ depth_at nodes (slice_index_or refs i d).0
      → max greatest (greatest_depth nodes (numbers_of (drop i refs))) ≡ whole → max (max greatest depth) (greatest_depth nodes (numbers_of (drop (i + 1) refs))) ≡ whole
  greatest_further greatest depth whole is so_far =
      let rest : greatest_depth nodes (numbers_of (drop i refs)) ≡ max (depth_at nodes (slice_index_or refs i d).0) (greatest_depth nodes (numbers_of (drop (i + 1) refs))) =
      ap (greatest_depth nodes) rest_is in
      omega (arith, is, so_far, rest)

-- a number among some that are all below n
pub number_at : (rs : List ℕ) (n i r : ℕ) → list_all (λ r. nat_lt r n) rs ≡ true → slice_get rs i ≡ Some r → r < n
number_at [] n i r h e = absurd (none e)
  where
    none : None ≡ Some r → ⊥
    none e = cc
number_at (x ∷ rs) n zero r h e = subst (λ i. i < n) (one x r e) (ltb-true x n (conjuncts (nat_lt x n) (list_all (λ r. nat_lt r n) rs) h).0)
  where
    one : (x r : ℕ) → Some x ≡ Some r → x ≡ r
    one x r e = cc
number_at (x ∷ rs) n (suc i) r h e = number_at rs n i r (conjuncts (nat_lt x n) (list_all (λ r. nat_lt r n) rs) h).1 e
