use Rattle.std.proofs.Common.{◌≡◌, ◌++◌, drop}
use Rattle.core_terms.specs.ProgramTypes.{named_table, types_by_number}
use Rattle.object_writer.specs.Adding.{written_so_far}
use Rattle.object_writer.specs.Numberings.{listed}
use Rattle.object_writer.proofs.LoopForms.{function_parts}
use Rattle.object_writer.proofs.functions.put_functions.Given as goal

abbrev pub invariant-loop-place : goal.invariant-loop-place
invariant-loop-place l =
    let part = function_parts (listed l.types l.numbering) (types_by_number l.types) (named_table l.types) in
    written_so_far l.object ++ part (drop l.place l.functions) ≡ written_so_far l.initial.object ++ part l.functions
