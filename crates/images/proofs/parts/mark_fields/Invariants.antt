use Rattle.images.specs.PartMarks.{AddsMarks, IsOfField}
use Rattle.images.proofs.parts.mark_fields.Given as goal

-- those of the fields so far are marked
abbrev pub invariant-loop-constructor : goal.invariant-loop-constructor
invariant-loop-constructor l = AddsMarks (IsOfField l.constructors l.constructor-index) l.initial.marks l.marks
