use Rattle.images.specs.PartMarks.{AddsMarks, IsOpened}
use Rattle.images.proofs.parts.open.Given as goal

-- the fields of the types so far are marked
abbrev pub invariant-loop-number : goal.invariant-loop-number
invariant-loop-number l = AddsMarks (IsOpened l.types l.opened l.number) l.initial.marks l.marks
