use Rattle.std.proofs.Common.{◌≡◌, ◌++◌, drop, map}
use Rattle.core_terms.specs.declared.term.Constructor.{Constructor}
use Rattle.declared_types.specs.ScopeNames.{constructor_meant, tagged}
use Rattle.declared_types.proofs.numbering.add_ids.Given as goal

abbrev pub invariant-loop-tag : goal.invariant-loop-tag
invariant-loop-tag l =
    map constructor_meant l.ids.items ++ tagged l.named.0 l.tag (map (λ (c : Constructor). c.name) (drop l.tag l.constructors))
    ≡ map constructor_meant l.initial.ids.items ++ tagged l.named.0 0 (map (λ (c : Constructor). c.name) l.constructors)
