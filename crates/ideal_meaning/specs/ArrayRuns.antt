-- What programs on arrays do in ideal mode. Each equation holds by computing both sides.
use Rattle.std.specs.Prelude.{◌≡◌, ℕ, zero, suc, List, [], ◌∷◌, codes, replicate, pos, negsuc, true, refl}
use Rattle.core_terms.specs.Types.{Ty, IntTy, TextTy, AuthTy, VecTy}
use Rattle.core_terms.specs.Values.{Value, IntV, TextV, ItemsV, NoV, AndV}
use Rattle.core_terms.specs.Terms.{Expression, IntE, TextE, LocalE, UnauthE, ArithE, OperateE, VecFill, VecGet, VecPut, Query, Program}
use Rattle.core_terms.specs.declared.term.Arith.TheVariants.{Add, Div}
use Rattle.core_terms.specs.Typing.{is_typed}
use Rattle.core_terms.specs.ArrayRows.{around, seven_and_nine}
use Rattle.ideal_meaning.specs.Run.{Run, Gives, Ends, Traps, Index, TooBig, TooDeep, DivZero}
use Rattle.ideal_meaning.specs.Ideal.{Opened, ideal, outcome, Trapped}
use Rattle.ideal_meaning.specs.Headline.{call_values}
use Rattle.ideal_meaning.specs.Examples.{values, operands, function, program, expression_program}
use Rattle.ideal_meaning.specs.ExampleRuns.{alone}

-- Two ints, and one of them.
--   format 2;
--   state vec[2] int;
--   query at(s: vec[2] int, i: int): int = vget(s, i);
abbrev pub two_ints_program : Program
two_ints_program = program [] (VecTy 2 IntTy) (
    function (codes "at") Query (VecTy 2 IntTy ∷ IntTy ∷ []) IntTy (OperateE (VecGet 2 IntTy) (operands (LocalE 0 ∷ LocalE 1 ∷ [])))
    ∷ [])

pub two_ints_program_is_typed : is_typed two_ints_program ≡ true
two_ints_program_is_typed = refl

pub second_of_two : ideal two_ints_program 0 (call_values seven_and_nine (IntV (pos 1))) 1 ≡ Gives (IntV (pos 9)) 0 []
second_of_two = refl

pub no_third : ideal two_ints_program 0 (call_values seven_and_nine (IntV (pos 2))) 1 ≡ Ends (Traps Index) 0 []
no_third = refl

pub none_before_the_first : ideal two_ints_program 0 (call_values seven_and_nine (IntV (negsuc 0))) 1 ≡ Ends (Traps Index) 0 []
none_before_the_first = refl

-- what an expression of a type gives, where the locals are these
abbrev pub of_locals : List Ty → Ty → Expression → List Value → Run ⊥ (List Opened) Value
of_locals ts t e vs = ideal (expression_program ts t e) 0 (values vs) 1

abbrev pub fill : ℕ → Ty → Expression → Expression
fill n t x = OperateE (VecFill n t) (operands (x ∷ []))

abbrev pub get : ℕ → Ty → Expression → Expression → Expression
get n t x y = OperateE (VecGet n t) (operands (x ∷ y ∷ []))

abbrev pub put : ℕ → Ty → Expression → Expression → Expression → Expression
put n t x y z = OperateE (VecPut n t) (operands (x ∷ y ∷ z ∷ []))

abbrev pub int : ℕ → Expression
int n = IntE (pos n)

pub filled : of_locals [] (VecTy 2 IntTy) (fill 2 IntTy (int 7)) [] ≡ Gives (ItemsV (AndV (IntV (pos 7)) (AndV (IntV (pos 7)) NoV))) 0 []
filled = refl

pub replaced_at_1 : of_locals [] (VecTy 2 IntTy) (put 2 IntTy (fill 2 IntTy (int 7)) (int 1) (int 9)) [] ≡ Gives seven_and_nine 0 []
replaced_at_1 = refl

pub replaced_beyond : of_locals [] (VecTy 2 IntTy) (put 2 IntTy (fill 2 IntTy (int 7)) (int 2) (int 9)) [] ≡ Ends (Traps Index) 0 []
replaced_beyond = refl

-- operands go first, from left to right
abbrev pub by_zero : Expression
by_zero = ArithE Div (int 1) (int 0)

abbrev pub too_large : Expression
too_large = ArithE Add (int 9223372036854775807) (int 1)

pub operands_trap_first : alone (get 2 IntTy (fill 2 IntTy by_zero) too_large) ≡ Ends (Traps DivZero) 0 []
operands_trap_first = refl

pub replacement_traps_before_the_index : of_locals [] (VecTy 2 IntTy) (put 2 IntTy (fill 2 IntTy (int 7)) (int 2) by_zero) [] ≡ Ends (Traps DivZero) 0 []
replacement_traps_before_the_index = refl

-- then the index, then the size, then the depth: 64 texts of 1,024 bytes spell 65,536, and of a byte more are too big
abbrev pub letters : ℕ → Expression
letters n = TextE (replicate n 0x61)

pub greatest_is_made : alone (get 2 IntTy (fill 2 IntTy (int 7)) (int 0)) ≡ Gives (IntV (pos 7)) 0 []
greatest_is_made = refl

pub too_big : of_locals [] (VecTy 64 TextTy) (fill 64 TextTy (letters 1021)) [] ≡ Ends (Traps TooBig) 0 []
too_big = refl

-- an array of two elements of depth 512 is too deep, and of 64 such that are too big too it is too big
abbrev pub inside : ℕ → Value → Value
inside zero v = v
inside (suc n) v = ItemsV (AndV (inside n v) NoV)

pub too_deep : outcome (of_locals (around 511 TextTy ∷ []) (VecTy 2 (around 511 TextTy)) (fill 2 (around 511 TextTy) (LocalE 0)) (inside 511 (TextV (replicate 1021 0x61)) ∷ [])) ≡ Trapped TooDeep
too_deep = refl

pub too_big_before_too_deep : outcome (of_locals (around 511 TextTy ∷ []) (VecTy 64 (around 511 TextTy)) (fill 64 (around 511 TextTy) (LocalE 0)) (inside 511 (TextV (replicate 1021 0x61)) ∷ [])) ≡ Trapped TooBig
too_big_before_too_deep = refl

-- and where there is no such element, neither is looked at
pub index_before_too_big : outcome (of_locals (TextTy ∷ []) (VecTy 1 TextTy) (put 1 TextTy (fill 1 TextTy (letters 1)) (int 1) (LocalE 0)) (TextV (replicate 65533 0x61) ∷ [])) ≡ Trapped Index
index_before_too_big = refl

pub replacement_is_too_big : outcome (of_locals (TextTy ∷ []) (VecTy 1 TextTy) (put 1 TextTy (fill 1 TextTy (letters 1)) (int 0) (LocalE 0)) (TextV (replicate 65533 0x61) ∷ [])) ≡ Trapped TooBig
replacement_is_too_big = refl

-- an array of authenticated values: one is opened
pub one_is_opened : ideal (expression_program (VecTy 2 (AuthTy IntTy) ∷ IntTy ∷ []) IntTy (UnauthE IntTy (get 2 (AuthTy IntTy) (LocalE 0) (LocalE 1)))) 0 (values (seven_and_nine ∷ IntV (pos 1) ∷ [])) 1
    ≡ Gives (IntV (pos 9)) 0 (record { ty = IntTy; value = IntV (pos 9) } ∷ [])
one_is_opened = refl
