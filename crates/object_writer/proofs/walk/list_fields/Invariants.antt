use Rattle.std.proofs.Common.{◌≡◌, drop}
use Rattle.core_terms.specs.ProgramTypes.{types_by_number}
use Rattle.object_writer.specs.Numberings.{IsNumbering, listed}
use Rattle.object_writer.proofs.WalkForms.{with_constructors}
use Rattle.object_writer.proofs.walk.list_fields.Given as goal

abbrev pub invariant-loop-constructor : goal.invariant-loop-constructor
invariant-loop-constructor l =
    let walk = with_constructors (types_by_number l.types) in
    IsNumbering l.types l.numbering
    × (walk (listed l.types l.numbering) (drop l.constructor-index l.constructors) ≡ walk (listed l.types l.initial.numbering) l.constructors)
