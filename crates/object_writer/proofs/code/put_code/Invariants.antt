use Rattle.std.proofs.Common.{◌≡◌, ◌++◌, drop}
use Rattle.core_terms.specs.ProgramTypes.{types_by_number}
use Rattle.object_writer.specs.Adding.{written_so_far}
use Rattle.object_writer.specs.Numberings.{listed}
use Rattle.object_writer.proofs.LoopForms.{code_parts}
use Rattle.object_writer.proofs.code.put_code.Given as goal

abbrev pub invariant-loop-place : goal.invariant-loop-place
invariant-loop-place l =
    let part = code_parts (listed l.types l.numbering) (types_by_number l.types) in
    written_so_far l.object ++ part l.place (drop l.place l.code) ≡ written_so_far l.initial.object ++ part 0 l.code
