use Rattle.core_terms.specs.AuthMarks.{AreOpenedMarks}
use Rattle.core_terms.specs.Programs.{types_in}
use Rattle.core_terms.specs.ProgramTrees.{table_of}
use Rattle.core_terms.proofs.marks.opened_marks.Given as goal

-- the marks are those of the level
abbrev pub invariant-loop-level : goal.invariant-loop-level
invariant-loop-level l = AreOpenedMarks (table_of (types_in l.types) l.named) l._level l.opened.items
