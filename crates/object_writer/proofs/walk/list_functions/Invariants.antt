use Rattle.std.proofs.Common.{◌≡◌, drop}
use Rattle.core_terms.specs.ProgramTypes.{named_table, types_by_number}
use Rattle.object_writer.specs.Numberings.{IsNumbering, listed}
use Rattle.object_writer.proofs.WalkForms.{with_program_functions}
use Rattle.object_writer.proofs.walk.list_functions.Given as goal

abbrev pub invariant-loop-place : goal.invariant-loop-place
invariant-loop-place l =
    let walk = with_program_functions (named_table l.types) (types_by_number l.types) in
    IsNumbering l.types l.numbering × (walk (listed l.types l.numbering) (drop l.place l.functions) ≡ walk (listed l.types l.initial.numbering) l.functions)
