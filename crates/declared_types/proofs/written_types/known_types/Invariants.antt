use Rattle.std.proofs.Common.{◌≡◌, map, drop}
use Rattle.auth_syntax.specs.Trees.{type_of}
use Rattle.declared_types.specs.ScopeNames.{names_in}
use Rattle.declared_types.specs.WrittenTypes.{known_types}
use Rattle.declared_types.proofs.written_types.known_types.Given as goal

abbrev pub invariant-loop-tree : goal.invariant-loop-tree
invariant-loop-tree l = known_types l.format (names_in l.names.keys) (map type_of l.types) ≡ known_types l.format (names_in l.names.keys)
    (map type_of (drop l.tree-index l.types))
