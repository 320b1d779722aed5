use Rattle.std.proofs.Common.{map}
use Rattle.lexemes.specs.Tokens.{count}
use Rattle.lexemes.specs.Readings.{read_separator}
use Rattle.auth_syntax.specs.Parsing.{read_lower}
use Rattle.auth_syntax.specs.Trees.{name_of}
use Rattle.lexemes.specs.Remaining.{remaining}
use Rattle.auth_syntax.proofs.Loops.{IsReadSoFar}
use Rattle.auth_syntax.proofs.parser.expressions.name_list.Given as goal

abbrev pub invariant-each : goal.invariant-each
invariant-each l = IsReadSoFar read_separator read_lower (remaining l.fn.parser) (map name_of l.names.items) (remaining l.parser)

abbrev pub decreases-each : goal.decreases-each
decreases-each l = count (remaining l.parser)
