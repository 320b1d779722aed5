-- When a source is read: what is left to come then, and what was sent by then to where it comes from.
use Rattle.std.specs.Prelude.{ℕ, List, Option}

-- a read, as it begins
pub record Moment : Type 0 where
  pub left : Option (List ℕ)
  pub sent : Option (List ℕ)
