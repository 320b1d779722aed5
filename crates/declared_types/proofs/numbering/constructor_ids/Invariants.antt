use Rattle.std.proofs.Common.{◌≡◌, ◌++◌, drop, map}
use Rattle.declared_types.specs.ScopeNames.{constructor_meant, constructors_meant, numbered}
use Rattle.declared_types.proofs.numbering.constructor_ids.Given as goal

abbrev pub invariant-loop-number : goal.invariant-loop-number
invariant-loop-number l = map constructor_meant l.ids.items ++ numbered l.number (constructors_meant (drop l.number l.named)) ≡ numbered 0
    (constructors_meant l.named)
