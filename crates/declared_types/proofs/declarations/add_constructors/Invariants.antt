use Rattle.std.proofs.Common.{◌≡◌, map, drop}
use Rattle.auth_syntax.specs.Trees.{constructor_of}
use Rattle.declared_types.specs.Declarations.{checked_constructors}
use Rattle.declared_types.specs.DeclaredNames.{names_met}
use Rattle.declared_types.proofs.declarations.add_constructors.Given as goal

abbrev pub invariant-loop-before : goal.invariant-loop-before
invariant-loop-before l =
    checked_constructors 0 (names_met l.initial.names.keys) (map constructor_of l.constructors)
    ≡ checked_constructors l.before (names_met l.names.keys) (map constructor_of (drop l.before l.constructors))
