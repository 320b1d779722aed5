use Rattle.std.proofs.Common.{◌≡◌, drop}
use Rattle.core_terms.specs.ProgramTrees.{table_of}
use Rattle.core_terms.specs.ProgramTypes.{types_by_number}
use Rattle.object_meaning.specs.WrittenObjects.{with_all_fields}
use Rattle.object_writer.specs.Numberings.{IsNumbering, listed}
use Rattle.object_writer.proofs.walk.list_named.Given as goal

abbrev pub invariant-loop-declared : goal.invariant-loop-declared
invariant-loop-declared l =
    let types = types_by_number l.types in
    IsNumbering l.types l.numbering
    × (with_all_fields (listed l.types l.numbering) (table_of types (drop l.declared-index l.named)) ≡ with_all_fields (listed l.types l.initial.numbering) (table_of types l.named))
