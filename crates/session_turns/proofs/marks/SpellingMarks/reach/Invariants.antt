use Rattle.std.proofs.Common.{◌≡◌, ◌+◌, ◌-◌, ℕ, length}
use Rattle.session_turns.specs.Marks.{mark_in}
use Rattle.session_turns.proofs.marks.SpellingMarks.reach.Given as goal

-- no mark is another
abbrev pub invariant-loop-self : goal.invariant-loop-self
invariant-loop-self l = (n : ℕ) → mark_in l.self n ≡ mark_in l.initial.self n

abbrev pub decreases-loop-self : goal.decreases-loop-self
decreases-loop-self l = l.version + 1 - length l.self.known.items
