-- The value decreases.
use denote.Param.Weighed.{most}
use Rattle.std.proofs.Common.{◌+◌, ◌*◌}
use Rattle.reference_run.specs.declared.values.Plain.TheViews.{size-Plain}
use Rattle.array_tests.proofs.stage.+comparing.Given as goal

abbrev pub decreases-is_same : goal.decreases-is_same
decreases-is_same l = 2 * size-Plain l.value.now

abbrev pub decreases-are_same : goal.decreases-are_same
decreases-are_same l = 2 * most size-Plain l.values.now + 1
