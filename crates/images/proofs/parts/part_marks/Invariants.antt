use Rattle.images.specs.PartMarks.{AreLevelMarks}
use Rattle.images.proofs.parts.part_marks.Given as goal

-- the marks are those of the level
abbrev pub invariant-loop-level : goal.invariant-loop-level
invariant-loop-level l = AreLevelMarks l.types l._level l.marks.items
