use Rattle.std.proofs.Common.{◌≡◌, ◌++◌, drop}
use Rattle.core_terms.specs.ProgramTypes.{types_by_number}
use Rattle.object_writer.specs.Adding.{written_so_far}
use Rattle.object_writer.specs.Numberings.{listed}
use Rattle.object_writer.proofs.LoopForms.{number_words}
use Rattle.object_writer.proofs.types.put_numbers.Given as goal

abbrev pub invariant-loop-ty : goal.invariant-loop-ty
invariant-loop-ty l =
    let part = number_words (listed l.types l.numbering) (types_by_number l.types) in
    written_so_far l.object ++ part (drop l.ty-index l.listing) ≡ written_so_far l.initial.object ++ part l.listing
