use Rattle.std.proofs.Common.{◌≡◌, ◌+◌, length, take}
use Rattle.printed_syntax.specs.PrintedLengths.{counted}
use Rattle.printed_syntax.specs.PrintedValues.{all_escaped}
use Rattle.printed_syntax.proofs.printing.leaf_lengths.quoted_length.Given as goal

-- the quotes and the bytes so far
abbrev pub invariant-loop-byte : goal.invariant-loop-byte
invariant-loop-byte l = l.length ≡ counted (length (all_escaped (take l.byte-index l.content)) + 2)
