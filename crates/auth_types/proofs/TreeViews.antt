-- What trees of expressions stand for, by their forms.
use Rattle.std.proofs.Common.{◌≡◌, ℤ, Bool, map, Vec, ◌∙◌, ap, sym}
use Rattle.std.specs.declared.alloc.Global.{Global}
use Rattle.std.specs.declared.boxed.Box.{Box}
use Rattle.core_terms.specs.Texts.{bytes_of}
use Rattle.core_terms.specs.declared.term.Name.{Name}
use Rattle.core_terms.specs.declared.term.Text.{Text}
use Rattle.auth_syntax.specs.Parsing.{in_a_row}
use Rattle.auth_syntax.specs.Syntax.{UnitSyntax, BoolSyntax, IntSyntax, TextSyntax, LocalSyntax, PairSyntax, BinarySyntax, CallSyntax, ConstructorSyntax, OperateSyntax, LetSyntax, IfSyntax, MatchSyntax}
use Rattle.auth_syntax.specs.Trees.{ArmSyntax, expression_of, arm_of, arm_from_parts, expression_from_parts, arms_in_a_row, array_of, name_of, names_of}
use Rattle.lexemes.specs.declared.place.Place.{Place}
use Rattle.auth_syntax.specs.declared.tree.PlacedName.{PlacedName}
use Rattle.auth_syntax.specs.declared.tree.ArrayOperator.{ArrayOperator}
use Rattle.core_terms.specs.declared.term.BinaryOperator.{BinaryOperator}
use Rattle.auth_syntax.specs.declared.tree.Arm.{Arm, out-Arm}
use Rattle.auth_syntax.specs.declared.tree.ExpTree.{ExpTree}
use Rattle.auth_syntax.specs.declared.tree.ExpTree as tree
use Rattle.auth_syntax.specs.declared.tree.ExpTree.TheVariants.{rolls-UnitLiteral, rolls-BoolLiteral, rolls-IntLiteral, rolls-TextLiteral, rolls-Local, rolls-Pair, rolls-Binary, rolls-Call, rolls-Constructor, rolls-Operate, rolls-Let, rolls-If, rolls-Match}
use Rattle.auth_syntax.specs.declared.tree.ExpTree.TheFolds.{fold-roll-ExpTree, fold_out-Arm}
use Rattle.auth_syntax.specs.Syntax.{ExpSyntax}

pub expression-UnitLiteral : (at : Place) → expression_of (tree.UnitLiteral at) ≡ UnitSyntax at
expression-UnitLiteral at = ap expression_of (sym (rolls-UnitLiteral at)) ∙ fold-roll-ExpTree _ _ _ _ _

pub expression-BoolLiteral : (at : Place) (b : Bool) → expression_of (tree.BoolLiteral at b) ≡ BoolSyntax at b
expression-BoolLiteral at b = ap expression_of (sym (rolls-BoolLiteral at b)) ∙ fold-roll-ExpTree _ _ _ _ _

pub expression-IntLiteral : (at : Place) (z : ℤ) → expression_of (tree.IntLiteral at z) ≡ IntSyntax at z
expression-IntLiteral at z = ap expression_of (sym (rolls-IntLiteral at z)) ∙ fold-roll-ExpTree _ _ _ _ _

pub expression-TextLiteral : (at : Place) (text : Text) → expression_of (tree.TextLiteral at text) ≡ TextSyntax at (bytes_of text)
expression-TextLiteral at text = ap expression_of (sym (rolls-TextLiteral at text)) ∙ fold-roll-ExpTree _ _ _ _ _

pub expression-Local : (at : Place) (name : Name) → expression_of (tree.Local at name) ≡ LocalSyntax at name
expression-Local at name = ap expression_of (sym (rolls-Local at name)) ∙ fold-roll-ExpTree _ _ _ _ _

pub expression-Pair : (at : Place) (first second : Box ExpTree Global)
    → expression_of (tree.Pair at first second) ≡ PairSyntax at (expression_of first.value) (expression_of second.value)
expression-Pair at first second = ap expression_of (sym (rolls-Pair at first second)) ∙ fold-roll-ExpTree _ _ _ _ _

pub expression-Binary : (at : Place) (operation : BinaryOperator) (first second : Box ExpTree Global)
    → expression_of (tree.Binary at operation first second) ≡ BinarySyntax at operation (expression_of first.value) (expression_of second.value)
expression-Binary at operation first second = ap expression_of (sym (rolls-Binary at operation first second)) ∙ fold-roll-ExpTree _ _ _ _ _

pub expression-Call : (at : Place) (name : Name) (operands : Vec ExpTree Global)
    → expression_of (tree.Call at name operands) ≡ CallSyntax at name (in_a_row (map expression_of operands.items))
expression-Call at name operands = ap expression_of (sym (rolls-Call at name operands)) ∙ fold-roll-ExpTree _ _ _ _ _

pub expression-Constructor : (at : Place) (name : Name) (operands : Vec ExpTree Global)
    → expression_of (tree.Constructor at name operands) ≡ ConstructorSyntax at name (in_a_row (map expression_of operands.items))
expression-Constructor at name operands = ap expression_of (sym (rolls-Constructor at name operands)) ∙ fold-roll-ExpTree _ _ _ _ _

pub expression-Operate : (at : Place) (operation : ArrayOperator) (operands : Vec ExpTree Global)
    → expression_of (tree.Operate at operation operands) ≡ OperateSyntax at (array_of operation) (in_a_row (map expression_of operands.items))
expression-Operate at operation operands = ap expression_of (sym (rolls-Operate at operation operands)) ∙ fold-roll-ExpTree _ _ _ _ _

pub expression-Let : (at : Place) (name : PlacedName) (bound body : Box ExpTree Global)
    → expression_of (tree.Let at name bound body) ≡ LetSyntax at (name_of name) (expression_of bound.value) (expression_of body.value)
expression-Let at name bound body = ap expression_of (sym (rolls-Let at name bound body)) ∙ fold-roll-ExpTree _ _ _ _ _

pub expression-If : (at : Place) (test first other : Box ExpTree Global)
    → expression_of (tree.If at test first other) ≡ IfSyntax at (expression_of test.value) (expression_of first.value) (expression_of other.value)
expression-If at test first other = ap expression_of (sym (rolls-If at test first other)) ∙ fold-roll-ExpTree _ _ _ _ _

pub expression-Match : (at : Place) (subject : Box ExpTree Global) (arms : Vec Arm Global)
    → expression_of (tree.Match at subject arms) ≡ MatchSyntax at (expression_of subject.value) (arms_in_a_row (map arm_of arms.items))
expression-Match at subject arms = ap expression_of (sym (rolls-Match at subject arms)) ∙ fold-roll-ExpTree _ _ _ _ _

-- an arm of a match
pub arm-parts : (arm : Arm) → arm_of arm ≡ record {
  constructor = name_of (out-Arm arm).constructor;
  fields = names_of (out-Arm arm).fields;
  body =
      expression_of (out-Arm arm).body;
}
arm-parts arm = fold_out-Arm ExpSyntax ArmSyntax expression_from_parts arm_from_parts arm
