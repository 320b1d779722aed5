use Rattle.core_terms.specs.Programs.{types_in}
use Rattle.object_meaning.specs.Accepting.{shape_fault}
use Rattle.code_check.specs.ObjectParts.{parts_program}
use Rattle.code_check.proofs.RoleTests.{StandsAt}
use Rattle.code_check.proofs.shapes.first_misshaped.Given as goal

abbrev pub invariant-loop-number : goal.invariant-loop-number
invariant-loop-number l = StandsAt (parts_program l.fn.parts) (types_in l.fn.parts.types) l.fn.parts.functions.items (shape_fault (parts_program l.fn.parts)) l.number
