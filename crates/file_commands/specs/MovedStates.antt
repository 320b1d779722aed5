-- States of one program that are states of another.
use Rattle.std.specs.Prelude.{◌≡◌, ◌≤◌, false}
use Rattle.core_terms.specs.Terms.{Program}

-- Each state of the one is a state of the other: they have the same types, the other's limit is no smaller, and the one has no arrays.
pub record KeepsStates (from to : Program) : Type 0 where
  pub types : to.types ≡ from.types
  pub state : to.state ≡ from.state
  pub limit : from.format.limit ≤ to.format.limit
  pub arrays : from.format.arrays ≡ false
