use Rattle.object_meaning.proofs.ObjectCode.{objects_do_the_same}
use Rattle.object_meaning.proofs.ObjectPrograms.{objects_mean_the_same}
use Rattle.object_meaning.proofs.ObjectVerdicts.{verdicts_are_the_same}
use Rattle.object_meaning.proofs.laws.objects_mean_the_same.Goals as goal

pub returns : goal.returns
returns c = record { code = objects_do_the_same; program = objects_mean_the_same; verdict = verdicts_are_the_same }
