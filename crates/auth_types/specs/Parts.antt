-- What is found of an expression, by its parts.
use denote.Param.Weighed.{most}
use Rattle.std.specs.Prelude.{◌≡◌, ◌<◌, ℕ, List, map, true, ⊤}
use Rattle.lexemes.specs.Places.{start}
use Rattle.auth_syntax.specs.Parsing.{in_a_row}
use Rattle.auth_syntax.specs.Syntax.{ExpSyntax, IfSyntax, MatchSyntax, OperateSyntax, place_of}
use Rattle.auth_syntax.specs.Trees.{arm_of, arms_in_a_row, array_of, expression_of, unary_of}
use Rattle.auth_syntax.specs.declared.tree.ExpTree.TheViews.{size-ExpTree, size-Arm}
use Rattle.declared_types.specs.Checking.{Checking}
use Rattle.declared_types.specs.Signatures.{Scope}
use Rattle.auth_types.specs.Applications.{application}
use Rattle.auth_types.specs.Bodies.{Local, Typed, count_of, elaborated, elaborated_each, unary}
use Rattle.auth_types.specs.CheckedLaws.{ArmsHaveGoodLiterals, HasGoodLiterals, HaveGoodLiterals}
use Rattle.auth_types.specs.Joins.{two}
use Rattle.auth_types.specs.Leaves.{is_leaf}
use Rattle.auth_types.specs.declared.bodies.parts.Parts.{Parts}
use Rattle.auth_types.specs.declared.bodies.parts.Parts.TheVariants.{Leaf, One, Two, Row, Array, Branches, Arms}

abbrev pub found_by : Scope → List Local → ExpSyntax → Parts → Checking Typed
found_by scope locals x Leaf = elaborated scope locals x
found_by scope locals x (One operator a) =
    unary (unary_of operator) (place_of (expression_of a.now)) (elaborated scope locals (expression_of a.now))
found_by scope locals x (Two join a b) = two scope locals join (expression_of a.now) (expression_of b.now)
found_by scope locals x (Row space at name operands) =
    application scope space at name.now (count_of (in_a_row (map expression_of operands.now)))
    (elaborated_each scope locals (in_a_row (map expression_of operands.now)))
found_by scope locals x (Array at operator operands) =
    elaborated scope locals (OperateSyntax at (array_of operator) (in_a_row (map expression_of operands.now)))
found_by scope locals x (Branches test a b) =
    elaborated scope locals (IfSyntax start (expression_of test.now) (expression_of a.now) (expression_of b.now))
found_by scope locals x (Arms at subject arms) =
    elaborated scope locals (MatchSyntax at (expression_of subject.now) (arms_in_a_row (map arm_of arms.now)))

-- an expression without parts is the whole
abbrev pub IsWhole : ExpSyntax → Parts → Type 0
IsWhole x Leaf = is_leaf x ≡ true
IsWhole x parts = ⊤

-- the literals of the parts are good
abbrev pub AreGood : ExpSyntax → Parts → Type 0
AreGood x Leaf = HasGoodLiterals x
AreGood x (One operator a) = HasGoodLiterals (expression_of a.now)
AreGood x (Two join a b) = HasGoodLiterals (expression_of a.now) × HasGoodLiterals (expression_of b.now)
AreGood x (Row space at name operands) = HaveGoodLiterals (in_a_row (map expression_of operands.now))
AreGood x (Array at operator operands) = HaveGoodLiterals (in_a_row (map expression_of operands.now))
AreGood x (Branches test a b) = HasGoodLiterals (expression_of test.now) × HasGoodLiterals (expression_of a.now) × HasGoodLiterals (expression_of b.now)
AreGood x (Arms at subject arms) = HasGoodLiterals (expression_of subject.now) × ArmsHaveGoodLiterals (arms_in_a_row (map arm_of arms.now))

-- the depth of each part is below this one
abbrev pub AreBelow : ℕ → Parts → Type 0
AreBelow n Leaf = ⊤
AreBelow n (One operator a) = size-ExpTree a.now < n
AreBelow n (Two join a b) = (size-ExpTree a.now < n) × (size-ExpTree b.now < n)
AreBelow n (Row space at name operands) = most size-ExpTree operands.now < n
AreBelow n (Array at operator operands) = most size-ExpTree operands.now < n
AreBelow n (Branches test a b) = (size-ExpTree test.now < n) × (size-ExpTree a.now < n) × (size-ExpTree b.now < n)
AreBelow n (Arms at subject arms) = (size-ExpTree subject.now < n) × (most size-Arm arms.now < n)
