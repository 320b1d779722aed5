use Rattle.std.proofs.Common.{◌≡◌, map, take}
use Rattle.object_meaning.specs.ObjectBodies.{passed}
use Rattle.code_check.proofs.listed_code.all_passed.Given as goal

abbrev pub invariant-loop-target : goal.invariant-loop-target
invariant-loop-target l = l.places.items ≡ map (passed l.index) (take l.target-index l.targets)
