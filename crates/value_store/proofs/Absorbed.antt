-- A store that took own nodes over, where there was memory.
use Rattle.std.proofs.Common.{◌≡◌, ◌⊎◌, inl, inr, ℕ, ◌-◌, ◌≤◌, List, ◌++◌, length, take, map, sym, subst}
use Rattle.core_terms.specs.Types.{Ty, Table}
use Rattle.core_terms.specs.Values.{Value}
use Rattle.value_store.specs.Nodes.{AreSound, Node}
use Rattle.value_store.specs.Standing.{Keeps, Kind, StandsFor}
use Rattle.value_store.specs.Moving.{absorbed, moved_node, moved_ref}
use Rattle.value_store.proofs.Moved.{kept_before}
use Rattle.value_store.proofs.Renumbered.{absorbed_sound, absorbed_stands}

module _ {limit : ℕ} (from : ℕ) (base own new : List Node) (within : from ≤ length base) (sound : AreSound limit (take from base ++ own)) where
  module _ (either : (new ≡ base) ⊎ (new ≡ absorbed from base own)) where
    pub joined_sound : AreSound limit base → AreSound limit new
    joined_sound sound_base = by either
      where
        by : (new ≡ base) ⊎ (new ≡ absorbed from base own) → AreSound limit new
        by (inl same) = subst (AreSound limit) (sym same) sound_base
        by (inr joined) = subst (AreSound limit) (sym joined) (absorbed_sound from base own within sound sound_base)

    pub joined_keeps : Keeps base new
    joined_keeps = by either
      where
        by : (new ≡ base) ⊎ (new ≡ absorbed from base own) → Keeps base new
        by (inl same) = subst (Keeps base) (sym same) (λ kind types r t v h. h)
        by (inr joined) = subst (Keeps base) (sym joined) (kept_before base (map (moved_node from (length base - from)) own))

  pub joined_stands : new ≡ absorbed from base own → (r s : ℕ) → s ≡ moved_ref from (length base - from) r → (kind : Kind) (types : Table) (t : Ty) (v : Value)
      → StandsFor kind types (take from base ++ own) r t v → StandsFor kind types new s t v
  joined_stands e r s goes kind types t v h =
      subst (λ nodes. StandsFor kind types nodes s t v) (sym e)
      (subst (λ i. StandsFor kind types (absorbed from base own) i t v) (sym goes) (absorbed_stands from base own within sound kind types r t v h))
