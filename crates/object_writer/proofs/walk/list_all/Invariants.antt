use Rattle.std.proofs.Common.{◌≡◌, drop}
use Rattle.core_terms.specs.ProgramTrees.{types_at}
use Rattle.core_terms.specs.ProgramTypes.{types_by_number}
use Rattle.object_meaning.specs.WrittenObjects.{with_types}
use Rattle.object_writer.specs.Numberings.{IsNumbering, listed}
use Rattle.object_writer.proofs.walk.list_all.Given as goal

abbrev pub invariant-loop-ty : goal.invariant-loop-ty
invariant-loop-ty l =
    let types = types_by_number l.types in
    IsNumbering l.types l.numbering
    × (with_types (listed l.types l.numbering) (types_at types (drop l.ty-index l.listing)) ≡ with_types (listed l.types l.initial.numbering) (types_at types l.listing))
