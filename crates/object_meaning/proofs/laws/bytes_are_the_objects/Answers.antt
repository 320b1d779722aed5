use Rattle.object_meaning.proofs.OnlyObjects
use Rattle.object_meaning.proofs.laws.bytes_are_the_objects.Goals as goal

pub returns : goal.returns
returns c = OnlyObjects.bytes_are_the_objects
