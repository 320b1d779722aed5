use Rattle.images.specs.PartMarks.{AddsMarks, IsAmong}
use Rattle.images.proofs.parts.mark_all.Given as goal

-- those so far are marked
abbrev pub invariant-loop-ty : goal.invariant-loop-ty
invariant-loop-ty l = AddsMarks (IsAmong l.types l.ty-index) l.initial.marks l.marks
