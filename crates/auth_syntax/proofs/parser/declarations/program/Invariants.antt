use Rattle.lexemes.specs.Tokens.{count}
use Rattle.auth_syntax.specs.Trees.{declarations_of}
use Rattle.lexemes.specs.Remaining.{remaining}
use Rattle.auth_syntax.proofs.Loops.{AreDeclaredSoFar}
use Rattle.auth_syntax.proofs.parser.declarations.program.Given as goal

abbrev pub invariant-each : goal.invariant-each
invariant-each l = AreDeclaredSoFar (remaining l.fn.parser) (declarations_of l.declarations) (remaining l.parser)

abbrev pub decreases-each : goal.decreases-each
decreases-each l = count (remaining l.parser)
