use Rattle.std.proofs.Common.{◌≡◌, map, take}
use Rattle.core_terms.specs.Programs.{types_of}
use Rattle.printed_syntax.specs.PrintedLengths.{bare_size}
use Rattle.printed_syntax.proofs.printing.lengths.bare_lengths.Given as goal

-- those of the types so far
abbrev pub invariant-loop-number : goal.invariant-loop-number
invariant-loop-number l = l.lengths.items ≡ map bare_size (take l.number (types_of l.program))
