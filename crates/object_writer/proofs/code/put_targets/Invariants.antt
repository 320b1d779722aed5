use Rattle.std.proofs.Common.{◌≡◌, ◌++◌, drop}
use Rattle.object_writer.specs.Adding.{written_so_far}
use Rattle.object_writer.proofs.LoopForms.{target_words}
use Rattle.object_writer.proofs.code.put_targets.Given as goal

abbrev pub invariant-loop-passed : goal.invariant-loop-passed
invariant-loop-passed l = written_so_far l.object ++ target_words l.place (drop l.passed-index l.places) ≡ written_so_far l.initial.object ++ target_words l.place l.places
