use Rattle.std.proofs.Common.{◌≡◌, drop}
use Rattle.core_terms.specs.InstructionViews.{instructions_of}
use Rattle.core_terms.specs.ProgramTypes.{types_by_number}
use Rattle.object_meaning.specs.WrittenObjects.{with_instructions}
use Rattle.object_writer.specs.Numberings.{IsNumbering, listed}
use Rattle.object_writer.proofs.walk.list_code.Given as goal

abbrev pub invariant-loop-instruction : goal.invariant-loop-instruction
invariant-loop-instruction l =
    let types = types_by_number l.types in
    IsNumbering l.types l.numbering
    × (with_instructions (listed l.types l.numbering) (instructions_of types (drop l.instruction-index l.code)) ≡ with_instructions (listed l.types l.initial.numbering) (instructions_of types l.code))
