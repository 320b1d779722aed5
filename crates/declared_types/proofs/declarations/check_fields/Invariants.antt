use Rattle.std.proofs.Common.{◌≡◌, map, drop}
use Rattle.auth_syntax.specs.Trees.{type_of}
use Rattle.declared_types.specs.Declarations.{checked_fields}
use Rattle.declared_types.proofs.declarations.check_fields.Given as goal

abbrev pub invariant-loop-before : goal.invariant-loop-before
invariant-loop-before l = checked_fields 0 (map type_of l.fields) ≡ checked_fields l.before (map type_of (drop l.before l.fields))
