use Rattle.auth_types.proofs.SoundPrograms.{checked_is_within_all_limits, checked_is_within_limits}
use Rattle.auth_types.proofs.laws.checked_is_within_limits.Goals as goal

pub returns-clause-counted : goal.returns-clause-counted
returns-clause-counted c = checked_is_within_limits

pub returns-clause-all : goal.returns-clause-all
returns-clause-all c = checked_is_within_all_limits
