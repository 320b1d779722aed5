-- The code of a few expressions. Each equation holds by computing both sides.
use Rattle.std.specs.Prelude.{◌≡◌, [], ◌∷◌, pos, true, refl}
use Rattle.core_terms.specs.Types.{BoolTy, IntTy, Table}
use Rattle.core_terms.specs.Terms.{UnitE, BoolE, IntE, LocalE, PairE, FstE, NotE, UnauthE, ConE, ArithE, CompareE, LetE, IfE, MatchE, CallE, NoE, AndE, NoArm, AndArm, Inner}
use Rattle.core_terms.specs.declared.term.Arith.TheVariants.{Sub}
use Rattle.core_terms.specs.declared.term.Compare.TheVariants.{Le}
use Rattle.core_terms.specs.Instructions.{PushUnit, PushBool, PushInt, Load, Bind, Unbind, Pair, Fst, Make, Switch, Branch, Jump, Call, Return, Unauth, ArithOp, CompareOp, Not}
use Rattle.core_terms.specs.GeneratedCode.{code_of, function_code}

-- one named type, whose constructors have no field, one and two
abbrev pub three : Table
three = ([] ∷ (IntTy ∷ []) ∷ (IntTy ∷ BoolTy ∷ []) ∷ []) ∷ []

-- operands from left to right
pub difference : code_of [] (ArithE Sub (IntE (pos 1)) (IntE (pos 2))) ≡ PushInt (pos 1) ∷ PushInt (pos 2) ∷ ArithOp Sub ∷ []
difference = refl

pub first_of_pair : code_of [] (FstE IntTy BoolTy (PairE IntTy BoolTy (LocalE 0) (BoolE true))) ≡ Load 0 ∷ PushBool true ∷ Pair ∷ Fst ∷ []
first_of_pair = refl

-- a value is bound as the next local, and dropped behind the body
pub bound_value : code_of [] (LetE BoolTy (UnauthE BoolTy (LocalE 0)) (NotE (LocalE 1))) ≡ Load 0 ∷ Unauth BoolTy ∷ Bind ∷ Load 1 ∷ Not ∷ Unbind 1 ∷ []
bound_value = refl

-- where the test is false, the first side and the jump behind it are passed over; the other side has three instructions
pub condition : code_of [] (IfE (CompareE Le (LocalE 0) (IntE (pos 0))) (IntE (pos 0)) (ArithE Sub (LocalE 0) (IntE (pos 1))))
    ≡ Load 0 ∷ PushInt (pos 0) ∷ CompareOp Le ∷ Branch 2 ∷ PushInt (pos 0) ∷ Jump 3 ∷ Load 0 ∷ PushInt (pos 1) ∷ ArithOp Sub ∷ []
condition = refl

-- The arms begin 0, 2 and 5 instructions behind the switch. Behind the first one 5 are passed over, behind the second one 2; the
-- first has no fields to drop.
pub three_arms : code_of three (MatchE 0 (LocalE 0) (AndArm (IntE (pos 0)) (AndArm (LocalE 1) (AndArm (LocalE 1) NoArm))))
    ≡ Load 0 ∷ Switch 0 (0 ∷ 2 ∷ 5 ∷ [])
    ∷ PushInt (pos 0) ∷ Jump 5
    ∷ Load 1 ∷ Unbind 1 ∷ Jump 2
    ∷ Load 1 ∷ Unbind 2 ∷ []
three_arms = refl

pub no_arms : code_of ([] ∷ []) (MatchE 0 (LocalE 0) NoArm) ≡ Load 0 ∷ Switch 0 [] ∷ []
no_arms = refl

pub fields_in_order : code_of three (ConE 0 2 (AndE (IntE (pos 7)) (AndE (BoolE true) NoE))) ≡ PushInt (pos 7) ∷ PushBool true ∷ Make 0 2 ∷ []
fields_in_order = refl

-- a call within the arguments of another
pub nested_calls : code_of [] (CallE 1 (AndE (CallE 0 (AndE (IntE (pos 7)) NoE)) (AndE UnitE NoE))) ≡ PushInt (pos 7) ∷ Call 0 ∷ PushUnit ∷ Call 1 ∷ []
nested_calls = refl

-- the body of a function, and the return
pub identity : function_code [] (record { name = []; kind = Inner; parameters = IntTy ∷ []; result = IntTy; body = LocalE 0 })
    ≡ record { parameters = IntTy ∷ []; result = IntTy; code = Load 0 ∷ Return ∷ [] }
identity = refl
