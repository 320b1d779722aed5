use Rattle.std.proofs.Common.{◌≡◌, ◌++◌, codes, take}
use Rattle.printed_syntax.specs.PrintedValues.{all_escaped}
use Rattle.printed_syntax.proofs.printing.leaves.push_quoted.Given as goal

-- the quote and the bytes so far
abbrev pub invariant-loop-byte : goal.invariant-loop-byte
invariant-loop-byte l = l.text.items ≡ l.fn.text.items ++ codes "\"" ++ all_escaped (take l.byte-index l.content)
