use Rattle.std.proofs.Common.{◌≡◌, ◌++◌, drop}
use Rattle.core_terms.specs.ProgramTypes.{types_by_number}
use Rattle.object_writer.specs.Adding.{written_so_far}
use Rattle.object_writer.specs.Numberings.{listed}
use Rattle.object_writer.proofs.LoopForms.{constructor_parts}
use Rattle.object_writer.proofs.types.put_constructors.Given as goal

abbrev pub invariant-loop-constructor : goal.invariant-loop-constructor
invariant-loop-constructor l =
    let part = constructor_parts (listed l.types l.numbering) (types_by_number l.types) in
    written_so_far l.object ++ part (drop l.constructor-index l.constructors) ≡ written_so_far l.initial.object ++ part l.constructors
