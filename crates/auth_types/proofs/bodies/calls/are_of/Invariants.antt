use Rattle.std.proofs.Common.{◌≡◌, drop, map}
use Rattle.core_terms.specs.declared.term.Constructor.{Constructor}
use Rattle.auth_syntax.specs.Trees.{arm_of, arms_in_a_row}
use Rattle.auth_types.specs.Bodies.{arm_names, same_names}
use Rattle.auth_types.proofs.bodies.calls.are_of.Given as goal

-- so far the names are the same
abbrev pub invariant-loop-index : goal.invariant-loop-index
invariant-loop-index l =
    same_names (arm_names (arms_in_a_row (map arm_of l.arms))) (map (λ (c : Constructor). c.name) l.constructors)
    ≡ same_names (arm_names (arms_in_a_row (map arm_of (drop l.index l.arms)))) (map (λ (c : Constructor). c.name) (drop l.index l.constructors))
