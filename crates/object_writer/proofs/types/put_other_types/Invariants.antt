use Rattle.std.proofs.Common.{◌≡◌, ◌++◌, drop}
use Rattle.object_writer.specs.Adding.{written_so_far}
use Rattle.object_writer.specs.Numberings.{listed}
use Rattle.object_writer.proofs.LoopForms.{type_parts}
use Rattle.object_writer.proofs.types.put_other_types.Given as goal

abbrev pub invariant-loop-ty : goal.invariant-loop-ty
invariant-loop-ty l =
    let part = type_parts (listed l.types l.numbering) l.types in
    written_so_far l.object ++ part (drop l.ty-index l.ty-items) ≡ written_so_far l.initial.object ++ part l.ty-items
