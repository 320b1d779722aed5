use Rattle.std.proofs.Common.{◌≡◌, ◌+◌, ◌-◌, ℕ, length}
use Rattle.images.specs.NodeNumbers.{number_in}
use Rattle.images.proofs.save.numbers.Numbers.reach.Given as goal

-- no number is another
abbrev pub invariant-loop-self : goal.invariant-loop-self
invariant-loop-self l = (r : ℕ) → number_in l.self r ≡ number_in l.initial.self r

abbrev pub decreases-loop-self : goal.decreases-loop-self
decreases-loop-self l = l.node + 1 - length l.self.behind.items
