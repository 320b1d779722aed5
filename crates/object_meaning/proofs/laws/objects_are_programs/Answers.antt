use Rattle.object_meaning.proofs.ObjectCode.{objects_are_code}
use Rattle.object_meaning.proofs.ObjectPrograms.{objects_are_bodies, objects_are_programs}
use Rattle.object_meaning.proofs.laws.objects_are_programs.Goals as goal

pub returns : goal.returns
returns c = record { bodies = objects_are_bodies; code = objects_are_code; programs = objects_are_programs }
