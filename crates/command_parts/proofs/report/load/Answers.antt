use Rattle.command_parts.proofs.Reached.{last_asked}
use Rattle.command_parts.proofs.report.load.Goals as goal

pub returns-in-Err-ReadFault-clause-asked : goal.returns-in-Err-ReadFault-clause-asked
returns-in-Err-ReadFault-clause-asked g c = last_asked _ _ _ c.load_all.ensures.asked
