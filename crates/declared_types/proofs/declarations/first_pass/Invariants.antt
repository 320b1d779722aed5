use Rattle.std.proofs.Common.{◌≡◌, map, drop}
use Rattle.auth_syntax.specs.Trees.{declaration_of}
use Rattle.declared_types.specs.Declarations.{checked_declarations, nothing_declared}
use Rattle.declared_types.specs.DeclaredNames.{declared_of}
use Rattle.declared_types.proofs.declarations.first_pass.Given as goal

abbrev pub invariant-loop-declaration : goal.invariant-loop-declaration
invariant-loop-declaration l = checked_declarations nothing_declared (map declaration_of l.declarations) ≡ checked_declarations
    (declared_of l.declared.value) (map declaration_of (drop l.declaration-index l.declarations))
