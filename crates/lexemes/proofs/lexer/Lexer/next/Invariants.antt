use Rattle.std.proofs.Common.{◌≡◌, length}
use Rattle.lexemes.specs.TokenViews.{tokens_left}
use Rattle.lexemes.proofs.lexer.Lexer.next.Given as goal

abbrev pub invariant-loop-piece : goal.invariant-loop-piece
invariant-loop-piece l = tokens_left l.fn.self ≡ tokens_left l.self

abbrev pub decreases-loop-piece : goal.decreases-loop-piece
decreases-loop-piece l = length l.self.rest.now
