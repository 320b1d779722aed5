-- What a server may begin with, beside a first version: versions and the commits that made them.
use Rattle.std.specs.Prelude.{◌≤◌, length}
use Rattle.std.specs.List.{AllByRecursion}
use Rattle.core_terms.specs.Terms.{Program}
use Rattle.session_meaning.specs.Server.{Shared, versions_limit}
use Rattle.session_meaning.specs.ServedHistories.{IsHistory}
use Rattle.session_meaning.specs.Within.{IsCallWithin, IsStateWithin}

-- The versions are within the limits, and no more than there may be; each but the first is made of the one before it by its commit, which is a call
-- that a message may ask for.
pub record IsBegun (P : Program) (begun : Shared) : Type 0 where
  pub within : AllByRecursion (IsStateWithin P) begun.versions
  pub few : length begun.versions ≤ versions_limit
  pub made : IsHistory P begun.versions begun.commits
  pub asked : AllByRecursion (IsCallWithin P) begun.commits
