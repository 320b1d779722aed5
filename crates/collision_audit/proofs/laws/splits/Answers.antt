use Rattle.collision_audit.proofs.FirstSplits.{split_is_found, no_split_is_found}
use Rattle.collision_audit.proofs.laws.splits.Goals as goal

pub returns-clause-found : goal.returns-clause-found
returns-clause-found c = split_is_found

pub returns-clause-none : goal.returns-clause-none
returns-clause-none c = no_split_is_found
