use Rattle.call_commands.proofs.OnProofs.{verdicts_are_on_proofs}
use Rattle.call_commands.proofs.laws.verdicts_are_on_proofs.Goals as goal

pub returns : goal.returns
returns c = verdicts_are_on_proofs
