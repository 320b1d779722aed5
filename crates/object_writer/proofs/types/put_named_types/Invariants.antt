use Rattle.std.proofs.Common.{◌≡◌, ◌++◌, drop}
use Rattle.object_writer.specs.Adding.{written_so_far}
use Rattle.object_writer.specs.Numberings.{listed}
use Rattle.object_writer.proofs.LoopForms.{named_parts}
use Rattle.object_writer.proofs.types.put_named_types.Given as goal

abbrev pub invariant-loop-declared : goal.invariant-loop-declared
invariant-loop-declared l =
    let part = named_parts (listed l.types l.numbering) l.types in
    written_so_far l.object ++ part l.declared-index (drop l.declared-index l.declared-items) ≡ written_so_far l.initial.object ++ part 0 l.declared-items
