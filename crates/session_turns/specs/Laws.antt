-- What stays where a store grows.
use Rattle.std.specs.Prelude.{◌≡◌, ℕ, ◌≤◌, List, ◌++◌, length, take}
use Rattle.core_terms.specs.Formats.{Hash}
use Rattle.core_terms.specs.Terms.{Program}
use Rattle.core_terms.specs.Values.{Value}
use Rattle.value_store.specs.Nodes.{Node}
use Rattle.value_store.specs.Standing.{Grows}
use Rattle.value_store.specs.declared.node.Ref.{Ref}
use Rattle.session_turns.specs.Versions.{AreVersions}

-- Versions stand for the same states when nodes are put behind.
abbrev pub VersionsStay : Type 0
VersionsStay = (hash : Hash) (P : Program) (old new : List Node) (rs : List Ref) (vs : List Value) → Grows old new
    → AreVersions hash P old rs vs → AreVersions hash P new rs vs

-- The first nodes, with a call's own behind them, are the same ones then.
abbrev pub OwnNodesStay : Type 0
OwnNodesStay = (from : ℕ) (old new own : List Node) → Grows old new → from ≤ length old → take from new ++ own ≡ take from old ++ own
