use Rattle.std.proofs.Common.{map}
use Rattle.lexemes.specs.Tokens.{count}
use Rattle.auth_syntax.specs.Parsing.{read_bar, read_constructor_declaration}
use Rattle.auth_syntax.specs.Trees.{constructor_of}
use Rattle.lexemes.specs.Remaining.{remaining}
use Rattle.auth_syntax.proofs.Loops.{IsReadSoFar}
use Rattle.auth_syntax.proofs.parser.declarations.constructor_list.Given as goal

abbrev pub invariant-each : goal.invariant-each
invariant-each l = IsReadSoFar read_bar read_constructor_declaration (remaining l.fn.parser) (map constructor_of l.constructors.items) (remaining l.parser)

abbrev pub decreases-each : goal.decreases-each
decreases-each l = count (remaining l.parser)
