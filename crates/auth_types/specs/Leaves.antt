-- Expressions without parts: literals, and names of locals.
use Rattle.std.specs.Prelude.{Bool, true, false}
use Rattle.auth_syntax.specs.Syntax.{ExpSyntax, UnitSyntax, BoolSyntax, IntSyntax, TextSyntax, LocalSyntax, PairSyntax, UnarySyntax, BinarySyntax, CallSyntax, ConstructorSyntax, OperateSyntax, LetSyntax, IfSyntax, MatchSyntax}

abbrev pub is_leaf : ExpSyntax → Bool
is_leaf (UnitSyntax at) = true
is_leaf (BoolSyntax at b) = true
is_leaf (IntSyntax at z) = true
is_leaf (TextSyntax at bytes) = true
is_leaf (LocalSyntax at name) = true
is_leaf (PairSyntax at first second) = false
is_leaf (UnarySyntax at operation operand) = false
is_leaf (BinarySyntax at operation first second) = false
is_leaf (CallSyntax at name operands) = false
is_leaf (ConstructorSyntax at name operands) = false
is_leaf (OperateSyntax at operation operands) = false
is_leaf (LetSyntax at name bound body) = false
is_leaf (IfSyntax at test first other) = false
is_leaf (MatchSyntax at subject arms) = false
