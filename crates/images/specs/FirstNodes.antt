-- The first nodes of records, where they are kept.
use Rattle.std.specs.Prelude.{◌≡◌, true, ◌∷◌, ◌++◌, []}
use Rattle.images.specs.declared.save.first_nodes.FirstNodes.{FirstNodes}
use Rattle.value_store.specs.declared.node.Ref.{Ref}

abbrev pub KeepsFirst : FirstNodes → Type 0
KeepsFirst firsts = firsts.are_kept ≡ true

-- where nodes are kept, they were before, and this one is behind them now
abbrev pub IsKeptBehind : Ref → (old new : FirstNodes) → Type 0
IsKeptBehind node old new = KeepsFirst new → KeepsFirst old × (new.nodes.items ≡ old.nodes.items ++ node ∷ [])
