use Rattle.std.proofs.Common.{map}
use Rattle.lexemes.specs.Tokens.{count}
use Rattle.lexemes.specs.Readings.{read_separator}
use Rattle.auth_syntax.specs.Parsing.{read_whole_type}
use Rattle.auth_syntax.specs.Trees.{type_of}
use Rattle.lexemes.specs.Remaining.{remaining}
use Rattle.auth_syntax.proofs.Loops.{IsReadSoFar}
use Rattle.auth_syntax.proofs.parser.types.type_list.Given as goal

abbrev pub invariant-each : goal.invariant-each
invariant-each l = IsReadSoFar read_separator read_whole_type (remaining l.fn.parser) (map type_of l.types.items) (remaining l.parser)

abbrev pub decreases-each : goal.decreases-each
decreases-each l = count (remaining l.parser)
