use Rattle.std.proofs.Common.{◌≡◌, map, take}
use Rattle.core_terms.specs.ProgramTypes.{named_table, types_by_number}
use Rattle.object_meaning.specs.WrittenObjects.{named_from, place_of}
use Rattle.object_writer.proofs.numbering.named_numbers.Given as goal

abbrev pub invariant-loop-number : goal.invariant-loop-number
invariant-loop-number l = l.numbers.items ≡ map (place_of (named_from 0 (named_table l.types))) (take l.number (types_by_number l.types))
