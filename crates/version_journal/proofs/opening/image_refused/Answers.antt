use Rattle.version_journal.proofs.Reopening.{refuses_other}
use Rattle.version_journal.proofs.opening.image_refused.Goals as goal

pub returns-in_default : goal.returns-in_default
returns-in_default c = refuses_other c.args.fault c.in_default.not-NoMemory
