-- How much is left to walk: a bound that falls with each step.
use Rattle.std.proofs.Common.{◌≡◌, ℕ, zero, suc, ◌+◌, ◌<◌, ◌≤◌, true, List, [], ◌∷◌, ◌++◌, drop, Some, slice_get, nat_lt, refl, ap, ◌∙◌, subst, arith, ltb-true}
use Rattle.std.specs.List.{list_all}
use Rattle.value_store.specs.Nodes.{Node}
use Rattle.value_store.specs.declared.node.Ref.{Ref}
use Rattle.core_terms.proofs.SameTypes.{first_of, second_of}
use Rattle.images.specs.Frames.{frame_of}
use Rattle.images.specs.declared.save.Frame.{Frame}
use Rattle.images.proofs.NodeEntries.{refs_at}
use Rattle.images.proofs.NumberedParts.{drop_next}

-- the sum of the weights of some nodes, each with one more
abbrev pub total : (ℕ → ℕ) → List ℕ → ℕ
total weigh [] = 0
total weigh (r ∷ rs) = (1 + weigh r) + total weigh rs

pub drop_zero : {A : Type 0} (xs : List A) → drop 0 xs ≡ xs
drop_zero [] = refl
drop_zero (x ∷ xs) = refl

pub below_at : (n : ℕ) (rs : List ℕ) (i p : ℕ) → list_all (λ r. nat_lt r n) rs ≡ true → slice_get rs i ≡ Some p → p < n
below_at n [] i p h at = absurd (cc)
below_at n (r ∷ rs) zero p h at = let same : r ≡ p = cc in subst (λ p. p < n) same (ltb-true r n (first_of _ _ h))
below_at n (r ∷ rs) (suc i) p h at = below_at n rs i p (second_of (nat_lt r n) _ h) at

module _ (nodes : List Node) where
  -- the weight of a node: one more than the total of its parts, down to so many levels
  abbrev pub weight : ℕ → ℕ → ℕ
  weight zero r = 1
  weight (suc n) r = 1 + total (weight n) (refs_at nodes r)

  total_grows : (f g : ℕ → ℕ) → ((r : ℕ) → f r ≤ g r) → (rs : List ℕ) → total f rs ≤ total g rs
  total_grows f g h [] = omega arith
  total_grows f g h (r ∷ rs) = let first = h r in let rest = total_grows f g h rs in omega (arith, first, rest)

  weight_grows : (m n r : ℕ) → m ≤ n → weight m r ≤ weight n r
  weight_grows zero zero r h = omega arith
  weight_grows zero (suc n) r h = omega arith
  weight_grows (suc m) zero r h = absurd (omega arith)
  weight_grows (suc m) (suc n) r h =
      let grown = total_grows (weight m) (weight n) (λ r. weight_grows m n r (omega arith)) (refs_at nodes r) in omega (arith, grown)

  -- what is left of a frame, and of all
  abbrev pub left_of : ℕ → ℕ → ℕ
  left_of r i = 1 + total (weight r) (drop i (refs_at nodes r))

  abbrev pub left_in : List Frame → ℕ
  left_in [] = 0
  left_in (f ∷ fs) = left_of f.node.0 f.next + left_in fs

  pub left_push : (fs : List Frame) (node : Ref) (next : ℕ) → left_in (fs ++ frame_of node next ∷ []) ≡ left_in fs + left_of node.0 next
  left_push [] node next = omega arith
  left_push (f ∷ fs) node next = let rest = left_push fs node next in omega (arith, rest)

  left_next : (r i p : ℕ) → slice_get (refs_at nodes r) i ≡ Some p → left_of r i ≡ (1 + weight r p) + left_of r (i + 1)
  left_next r i p at = let e = ap (total (weight r)) (drop_next (refs_at nodes r) i (i + 1) p refl at) in omega (arith, e)

  left_part : (r p : ℕ) → p < r → left_of p 0 ≤ weight r p
  left_part r p h =
      let all = ap (total (weight p)) (drop_zero (refs_at nodes p)) in
      let grown : weight (suc p) p ≤ weight r p = weight_grows (suc p) r p (omega arith) in
      omega (arith, all, grown)

  -- a part that has its record is passed
  pub less_next : (old fs new : List Frame) (f : Frame) (p : ℕ) → slice_get (refs_at nodes f.node.0) f.next ≡ Some p
      → old ≡ fs ++ f ∷ [] → new ≡ fs ++ frame_of f.node (f.next + 1) ∷ [] → left_in new < left_in old
  less_next old fs new f p at was is =
      let before = ap left_in was ∙ left_push fs f.node f.next in
      let after = ap left_in is ∙ left_push fs f.node (f.next + 1) in
      let step = left_next f.node.0 f.next p at in
      omega (arith, before, after, step)

  -- and one that has none is walked first
  pub less_part : (old fs between new : List Frame) (f : Frame) (p : Ref) → slice_get (refs_at nodes f.node.0) f.next ≡ Some p.0 → p.0 < f.node.0
      → old ≡ fs ++ f ∷ [] → between ≡ fs ++ frame_of f.node (f.next + 1) ∷ [] → new ≡ between ++ frame_of p 0 ∷ [] → left_in new < left_in old
  less_part old fs between new f p at below was is now =
      let before = ap left_in was ∙ left_push fs f.node f.next in
      let middle = ap left_in is ∙ left_push fs f.node (f.next + 1) in
      let after = ap left_in now ∙ left_push between p 0 in
      let step = left_next f.node.0 f.next p.0 at in
      let part = left_part f.node.0 p.0 below in
      omega (arith, before, middle, after, step, part)

  pub less_done : (old fs : List Frame) (f : Frame) → old ≡ fs ++ f ∷ [] → left_in fs < left_in old
  less_done old fs f was = let before = ap left_in was ∙ left_push fs f.node f.next in omega (arith, before)
