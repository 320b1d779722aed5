use denote.Param.Weighed.{most}
use Rattle.std.proofs.Common.{◌≡◌, ◌<◌, ◌+◌, ◌*◌, ◌++◌, List, max, map, drop, length}
use Rattle.std.specs.Prelude.{IfSome}
use Rattle.core_terms.specs.Types.{Ty}
use Rattle.core_terms.specs.ProgramTrees.{expression_of as term_of, types_at}
use Rattle.auth_syntax.specs.Parsing.{in_a_row}
use Rattle.auth_syntax.specs.Trees.{arm_of, arms_in_a_row, expression_of}
use Rattle.auth_syntax.specs.declared.tree.ExpTree.TheViews.{size-ExpTree, size-Arm}
use Rattle.auth_types.specs.CheckedLaws.{ArmsHaveGoodLiterals, HaveGoodLiterals}
use Rattle.auth_types.specs.Elaborators.{Keeps, arms_found, fields_of, locals_of, row_found, scope_of, types_of, want_of}
use Rattle.auth_types.proofs.RowSteps.{arms_behind, arms_left, row_behind, row_left}
use Rattle.auth_types.proofs.bodies.elaborator.Elaborator.+bodies.Given as goal

-- the expressions so far stand before those that are left
abbrev pub invariant-operands-loop-index : goal.invariant-operands-loop-index
invariant-operands-loop-index l = record {
  keeps : Keeps l.fn.self l.self;
  found : (more : List Ty) → row_found l.fn.self (in_a_row (map expression_of l.operands)) (types_at (types_of l.fn.self) l.types)
      ≡ row_behind (map (term_of (types_of l.self ++ more)) l.terms.items)
      (row_left (scope_of l.fn.self) (locals_of l.fn.self) (map expression_of l.operands) (types_at (types_of l.fn.self) l.types) l.index);
  literals : HaveGoodLiterals (in_a_row (drop l.index (map expression_of l.operands))) → HaveGoodLiterals (in_a_row (map expression_of l.operands));
}

-- the arms so far, whose type is wanted of those that are left
abbrev pub invariant-arms-loop-index : goal.invariant-arms-loop-index
invariant-arms-loop-index l = record {
  keeps : Keeps l.fn.self l.self;
  found : (more : List Ty) → arms_found l.fn.self (arms_in_a_row (map arm_of l.arms)) (fields_of (types_of l.fn.self) l.constructors)
      ≡ arms_behind (map (term_of (types_of l.self ++ more)) l.bodies.items)
      (arms_left (scope_of l.fn.self) (locals_of l.fn.self) (map arm_of l.arms) (fields_of (types_of l.fn.self) l.constructors)
      (want_of (types_of l.self ++ more) l.wanted) l.index);
  inside : IfSome l.wanted (λ ty. ty.0 < length (types_of l.self));
  literals : ArmsHaveGoodLiterals (arms_in_a_row (drop l.index (map arm_of l.arms))) → ArmsHaveGoodLiterals (arms_in_a_row (map arm_of l.arms));
}

-- Six times the depth, and a little more for those who hand the same expressions on.
abbrev pub decreases-term : goal.decreases-term
decreases-term l = 6 * goal.size-term l

abbrev pub decreases-part : goal.decreases-part
decreases-part l = 6 * goal.size-part l + 1

abbrev pub decreases-two : goal.decreases-two
decreases-two l = 6 * max (size-ExpTree l.first.now) (size-ExpTree l.second.now) + 1

abbrev pub decreases-condition : goal.decreases-condition
decreases-condition l = 6 * max (size-ExpTree l.test.now) (max (size-ExpTree l.first.now) (size-ExpTree l.other.now)) + 2

abbrev pub decreases-match_with : goal.decreases-match_with
decreases-match_with l = 6 * max (size-ExpTree l.subject.now) (most size-Arm l.arms.now) + 2

abbrev pub decreases-applied : goal.decreases-applied
decreases-applied l = 6 * goal.size-applied l + 4

abbrev pub decreases-on_array : goal.decreases-on_array
decreases-on_array l = 6 * goal.size-on_array l + 4

abbrev pub decreases-operands : goal.decreases-operands
decreases-operands l = 6 * goal.size-operands l + 3

abbrev pub decreases-arms : goal.decreases-arms
decreases-arms l = 6 * goal.size-arms l + 1

abbrev pub decreases-arm : goal.decreases-arm
decreases-arm l = 6 * goal.size-arm l
