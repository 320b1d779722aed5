use Rattle.std.proofs.Common.{◌≡◌}
use Rattle.ideal_meaning.specs.Run as meant
use Rattle.reference_run.specs.PlainValues.{plain_of, plains_of}
use Rattle.reference_run.proofs.copies.repeated.Given as goal

-- the copies so far
abbrev pub invariant-loop-made : goal.invariant-loop-made
invariant-loop-made l = plains_of l.copies.items ≡ meant.repeated l._made (plain_of l.value)
