use Rattle.emitted_objects.proofs.TextPrograms
use Rattle.emitted_objects.proofs.laws.texts_are_emittable.Goals as goal

pub returns : goal.returns
returns c = TextPrograms.texts_are_emittable
