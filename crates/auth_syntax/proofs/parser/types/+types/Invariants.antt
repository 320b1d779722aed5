use Rattle.std.proofs.Common.{◌+◌, ◌*◌}
use Rattle.auth_syntax.proofs.parser.types.+types.Given as goal

abbrev pub decreases-written_type : goal.decreases-written_type
decreases-written_type l = 4 * l.levels

abbrev pub decreases-type_from : goal.decreases-type_from
decreases-type_from l = 4 * l.levels + 3

abbrev pub decreases-auth_type : goal.decreases-auth_type
decreases-auth_type l = 4 * l.levels + 2

abbrev pub decreases-array_type : goal.decreases-array_type
decreases-array_type l = 4 * l.levels + 2

abbrev pub decreases-pair_type : goal.decreases-pair_type
decreases-pair_type l = 4 * l.levels + 2

abbrev pub decreases-boxed_type : goal.decreases-boxed_type
decreases-boxed_type l = 4 * l.levels + 1
