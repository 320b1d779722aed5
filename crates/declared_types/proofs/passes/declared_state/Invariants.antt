use Rattle.std.proofs.Common.{◌≡◌, drop, map}
use Rattle.auth_syntax.specs.Trees.{declaration_of}
use Rattle.declared_types.specs.WrittenTypes.{states_in}
use Rattle.declared_types.proofs.passes.declared_state.Given as goal

abbrev pub invariant-loop-declaration : goal.invariant-loop-declaration
invariant-loop-declaration l = states_in (map declaration_of l.declarations) ≡ states_in
    (map declaration_of (drop l.declaration-index l.declarations))
