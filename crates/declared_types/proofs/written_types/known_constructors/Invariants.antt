use Rattle.std.proofs.Common.{◌≡◌, map, drop}
use Rattle.auth_syntax.specs.Trees.{constructor_of}
use Rattle.declared_types.specs.ScopeNames.{names_in}
use Rattle.declared_types.specs.WrittenTypes.{known_constructors}
use Rattle.declared_types.proofs.written_types.known_constructors.Given as goal

abbrev pub invariant-loop-constructor : goal.invariant-loop-constructor
invariant-loop-constructor l = known_constructors l.format (names_in l.names.keys) (map constructor_of l.constructors) ≡ known_constructors l.format
    (names_in l.names.keys) (map constructor_of (drop l.constructor-index l.constructors))
