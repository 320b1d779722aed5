-- The nodes that wait for their records, the one that is walked now first.
use Rattle.std.proofs.Common.{◌≡◌, ◌⊎◌, inl, inr, ℕ, ◌+◌, ◌<◌, List, [], ◌∷◌, ◌++◌, length, take, Some, None, IsSome, slice_get, refl, sym, subst}
use Rattle.value_store.specs.Nodes.{Node}
use Rattle.value_store.specs.declared.node.Ref.{Ref}
use Rattle.images.specs.Frames.{frame_of}
use Rattle.images.specs.SavedRecords.{HaveRecords, number_at}
use Rattle.images.specs.declared.save.Frame.{Frame}
use Rattle.images.specs.declared.save.records.Records.{Records}
use Rattle.images.proofs.NodeEntries.{refs_at}
use Rattle.images.proofs.NumberedParts.{take_all, take_next}

abbrev pub Each : (ℕ → Type 0) → List ℕ → Type 0
Each Known [] = Unit {0}
Each Known (r ∷ rs) = Known r × Each Known rs

-- the node has its record
abbrev pub HasRecord : Records → ℕ → Type 0
HasRecord records r = IsSome (number_at records r)

each_more : (K L : ℕ → Type 0) → ((r : ℕ) → K r → L r) → (rs : List ℕ) → Each K rs → Each L rs
each_more K L m [] h = tt
each_more K L m (r ∷ rs) h = (m r h.0, each_more K L m rs h.1)

each_push : (K : ℕ → Type 0) (rs : List ℕ) (r : ℕ) → Each K rs → K r → Each K (rs ++ r ∷ [])
each_push K [] r h k = (k, tt)
each_push K (x ∷ xs) r h k = (h.0, each_push K xs r h.1 k)

take_zero : (rs : List ℕ) → take 0 rs ≡ []
take_zero [] = refl
take_zero (r ∷ rs) = refl

module _ (nodes : List Node) where
  -- The parts of each node, as far as they are passed, are known; to those that wait longer the node itself is, too.
  abbrev pub AreWaiting : (ℕ → Type 0) → List Frame → Type 0
  AreWaiting Known [] = Unit {0}
  AreWaiting Known (f ∷ fs) =
      (f.node.0 < length nodes) × Each Known (take f.next (refs_at nodes f.node.0)) × AreWaiting (λ r. Known r ⊎ (r ≡ f.node.0)) fs

  either_more : (K L : ℕ → Type 0) → ((r : ℕ) → K r → L r) → (n r : ℕ) → K r ⊎ (r ≡ n) → L r ⊎ (r ≡ n)
  either_more K L m n r (inl k) = inl (m r k)
  either_more K L m n r (inr e) = inr e

  pub waiting_more : (fs : List Frame) (K L : ℕ → Type 0) → ((r : ℕ) → K r → L r) → AreWaiting K fs → AreWaiting L fs
  waiting_more [] K L m h = tt
  waiting_more (f ∷ fs) K L m h =
      (h.0, each_more K L m (take f.next (refs_at nodes f.node.0)) h.1, waiting_more fs (λ r. K r ⊎ (r ≡ f.node.0)) (λ r. L r ⊎ (r ≡ f.node.0)) (either_more K L m f.node.0) h.2)

  pub waiting_first : (K : ℕ → Type 0) (root : Ref) → root.0 < length nodes → AreWaiting K (frame_of root 0 ∷ [])
  waiting_first K root h = (h, subst (Each K) (sym (take_zero (refs_at nodes root.0))) tt, tt)

  -- one part more is known
  pub waiting_next : (K : ℕ → Type 0) (fs : List Frame) (f : Frame) (p : ℕ) → slice_get (refs_at nodes f.node.0) f.next ≡ Some p → K p
      → AreWaiting K (f ∷ fs) → AreWaiting K (frame_of f.node (f.next + 1) ∷ fs)
  waiting_next K fs f p at k h =
      (h.0, subst (Each K) (sym (take_next (refs_at nodes f.node.0) f.next (f.next + 1) p refl at)) (each_push K (take f.next (refs_at nodes f.node.0)) p h.1 k), h.2)

  -- a part is walked before the node goes on
  pub waiting_part : (K : ℕ → Type 0) (fs : List Frame) (f : Frame) (p : Ref) → slice_get (refs_at nodes f.node.0) f.next ≡ Some p.0 → p.0 < length nodes
      → AreWaiting K (f ∷ fs) → AreWaiting K (frame_of p 0 ∷ frame_of f.node (f.next + 1) ∷ fs)
  waiting_part K fs f p at inside h =
      let more = waiting_more (f ∷ fs) K (λ r. K r ⊎ (r ≡ p.0)) (λ r k. inl k) h in
      (inside, subst (Each K) (sym (take_zero (refs_at nodes p.0))) tt, waiting_next (λ r. K r ⊎ (r ≡ p.0)) fs f p.0 at (inr refl) more)

  -- a node that has its record waits no longer
  pub waiting_rest : (K L : ℕ → Type 0) (fs : List Frame) (f : Frame) → ((r : ℕ) → K r ⊎ (r ≡ f.node.0) → L r) → AreWaiting K (f ∷ fs) → AreWaiting L fs
  waiting_rest K L fs f m h = waiting_more fs (λ r. K r ⊎ (r ≡ f.node.0)) L m h.2

  have_all : (records : Records) (rs : List ℕ) → Each (HasRecord records) rs → HaveRecords records rs
  have_all records [] h = tt
  have_all records (r ∷ rs) h = (h.0, have_all records rs h.1)

  -- where all parts are passed, all have their records
  pub waiting_whole : (records : Records) (fs : List Frame) (f : Frame) → slice_get (refs_at nodes f.node.0) f.next ≡ None
      → AreWaiting (HasRecord records) (f ∷ fs) → HaveRecords records (refs_at nodes f.node.0)
  waiting_whole records fs f at h =
      have_all records (refs_at nodes f.node.0) (subst (Each (HasRecord records)) (take_all (refs_at nodes f.node.0) f.next at) h.1)
