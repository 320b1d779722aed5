use Rattle.emitted_objects.proofs.TextPrograms
use Rattle.emitted_objects.proofs.laws.emitted_is_accepted.Goals as goal

pub returns : goal.returns
returns c = TextPrograms.emitted_is_accepted
