use Rattle.std.proofs.Common.{◌-◌, length}
use Rattle.lexemes.proofs.TextLemmas.{IsReadSoFar}
use Rattle.lexemes.proofs.lexer.texts.behind_quote.Given as goal

abbrev pub invariant-loop-bytes : goal.invariant-loop-bytes
invariant-loop-bytes l = IsReadSoFar l.text l.bytes.items l.done

abbrev pub decreases-loop-bytes : goal.decreases-loop-bytes
decreases-loop-bytes l = length l.text - l.done
