use Rattle.std.proofs.Common.{◌≡◌, map, drop}
use Rattle.auth_syntax.specs.Trees.{declaration_of}
use Rattle.declared_types.specs.ScopeNames.{names_in}
use Rattle.declared_types.specs.WrittenTypes.{known_declarations}
use Rattle.declared_types.proofs.written_types.second_pass.Given as goal

abbrev pub invariant-loop-declaration : goal.invariant-loop-declaration
invariant-loop-declaration l = known_declarations l.format (names_in l.names.keys) (map declaration_of l.declarations) ≡ known_declarations l.format
    (names_in l.names.keys) (map declaration_of (drop l.declaration-index l.declarations))
