use Rattle.net_commands.proofs.ServeStored.{stores_unstored}
use Rattle.net_commands.proofs.last_version.store_last.Goals as goal

pub returns-clause-stores : goal.returns-clause-stores
returns-clause-stores g c = λ s server holds is.
    stores_unstored s server c.args.name.now c.args.told c.tell_unstored.result _ _ _ _ _ _ c.in-Err.fault (c.in-Err.ensures s server holds is) c.tell_unstored.ensures
