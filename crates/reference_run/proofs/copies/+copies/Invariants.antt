use denote.Param.Weighed.{most}
use Rattle.std.proofs.Common.{◌≡◌, ◌+◌, ◌*◌, max, take}
use Rattle.reference_run.specs.PlainValues.{plains_of}
use Rattle.reference_run.specs.declared.values.Plain.TheViews.{size-Plain}
use Rattle.reference_run.proofs.copies.+copies.Given as goal

-- the values so far were copied
abbrev pub invariant-all_copied-loop-value : goal.invariant-all_copied-loop-value
invariant-all_copied-loop-value l = plains_of l.copies.items ≡ plains_of (take l.value-index l.values)

abbrev pub decreases-copied : goal.decreases-copied
decreases-copied l = 2 * goal.size-copied l

abbrev pub decreases-copied_pair : goal.decreases-copied_pair
decreases-copied_pair l = 2 * max (size-Plain l.first.now) (size-Plain l.second.now) + 1

abbrev pub decreases-all_copied : goal.decreases-all_copied
decreases-all_copied l = 2 * most size-Plain l.values.now + 1
