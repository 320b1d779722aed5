use Rattle.std.proofs.Common.{map}
use Rattle.lexemes.specs.Tokens.{count}
use Rattle.lexemes.specs.Readings.{read_separator}
use Rattle.auth_syntax.specs.Parsing.{read_parameter}
use Rattle.auth_syntax.specs.Trees.{parameter_of}
use Rattle.lexemes.specs.Remaining.{remaining}
use Rattle.auth_syntax.proofs.Loops.{IsReadSoFar}
use Rattle.auth_syntax.proofs.parser.declarations.parameter_list.Given as goal

abbrev pub invariant-each : goal.invariant-each
invariant-each l = IsReadSoFar read_separator read_parameter (remaining l.fn.parser) (map parameter_of l.parameters.items) (remaining l.parser)

abbrev pub decreases-each : goal.decreases-each
decreases-each l = count (remaining l.parser)
