use Rattle.std.proofs.Common.{◌≡◌, length}
use Rattle.core_terms.specs.AuthMarks.{AreLevelMarks}
use Rattle.core_terms.specs.Programs.{types_in}
use Rattle.core_terms.proofs.marks.level_marks.Given as goal

-- each type so far has its mark
abbrev pub invariant-loop-number : goal.invariant-loop-number
invariant-loop-number l = (length l.marks.items ≡ l.number) × AreLevelMarks (types_in l.types) l.opened l.number l.marks.items
