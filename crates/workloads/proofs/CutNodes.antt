-- Nodes that are cut to a mark: a node that was put behind the mark still stands.
use Rattle.std.proofs.Common.{◌≡◌, ℕ, ◌≤◌, List, [], length, take, ap, arith}
use Rattle.std.proofs.lemmas.List.{length-take}
use Rattle.core_terms.specs.Types.{IntTy}
use Rattle.core_terms.specs.Values.{Value}
use Rattle.value_store.specs.Nodes.{Node}
use Rattle.value_store.specs.Standing.{IdealNodes, StandsFor}
use Rattle.value_store.proofs.StandingNodes.{there_stands}

module _ (old new : List Node) (mark r : ℕ) (at : mark ≡ length old) (first : r ≡ length old) where
  pub mark_there : (v : Value) → StandsFor IdealNodes [] new r IntTy v → mark ≤ length new
  mark_there v h =
      let there = there_stands IdealNodes [] new IntTy v r h in
      omega (arith, there, at, first)

-- what is lent stands first, so before the mark
pub lent_first : (lent nodes : List Node) → take (length lent) nodes ≡ lent → length lent ≤ length nodes
lent_first lent nodes first =
    let short : length (take (length lent) nodes) ≡ length lent = ap length first in
    let least = length-take (length lent) nodes in
    omega (arith, short, least)
