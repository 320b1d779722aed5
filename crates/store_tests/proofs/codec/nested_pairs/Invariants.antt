use Rattle.std.proofs.Common.{◌<◌, length}
use Rattle.core_terms.specs.Programs.{types_in}
use Rattle.store_tests.proofs.codec.nested_pairs.Given as goal

-- the type is in the table
abbrev pub invariant-loop-level : goal.invariant-loop-level
invariant-loop-level l = l.ty.0 < length (types_in l.types)
