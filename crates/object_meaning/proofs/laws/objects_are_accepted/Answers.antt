use Rattle.object_meaning.proofs.ObjectPrograms.{objects_are_sound}
use Rattle.object_meaning.proofs.ReadThere.{objects_are_accepted}
use Rattle.object_meaning.proofs.ReadWithin.{constructors_have_names, objects_are_within}
use Rattle.object_meaning.proofs.laws.objects_are_accepted.Goals as goal

pub returns : goal.returns
returns c = record { code = objects_are_accepted; program = objects_are_sound; limits = objects_are_within; names = constructors_have_names }
