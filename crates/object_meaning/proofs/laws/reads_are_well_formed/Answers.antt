use Rattle.object_meaning.proofs.ReadsWellFormed
use Rattle.object_meaning.proofs.laws.reads_are_well_formed.Goals as goal

pub returns : goal.returns
returns c = ReadsWellFormed.reads_are_well_formed
