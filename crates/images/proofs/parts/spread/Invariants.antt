use Rattle.images.proofs.PartSpreading.{IsSpreadFrom}
use Rattle.images.proofs.parts.spread.Given as goal

-- the marks of the types from this number on are spread
abbrev pub invariant-loop-number : goal.invariant-loop-number
invariant-loop-number l = IsSpreadFrom l.types l.number l.initial.marks l.marks
