-- What the code of example programs does. Each equation holds by computing both sides.
use Rattle.std.specs.Prelude.{◌≡◌, ℕ, List, [], ◌∷◌, codes, pos, true, false, refl}
use Rattle.core_terms.specs.Types.{BoolTy, IntTy, NamedTy, UnitTy}
use Rattle.core_terms.specs.Values.{UnitV, BoolV, IntV, PairV, ConV, Values, NoV}
use Rattle.core_terms.specs.Terms.{Expression, IntE, LocalE, ArithE, MatchE, CallE, Inner, Program}
use Rattle.core_terms.specs.declared.term.Arith.TheVariants.{Add, Div}
use Rattle.ideal_meaning.specs.Run.{Gives, Ends, Traps, IsOut, Overflow, DivZero}
use Rattle.ideal_meaning.specs.Ideal.{Opened, ideal_mode}
use Rattle.ideal_meaning.specs.Headline.{call_values}
use Rattle.ideal_meaning.specs.Examples.{operands, arms_of, values, function, program, expression_program, bool_program, spin_program}
use Rattle.core_terms.specs.Instructions.{Instruction, PushInt, Load, Jump, Return}
use Rattle.core_terms.specs.Bodies.{Body}
use Rattle.core_terms.specs.GeneratedCode.{generated}
use Rattle.code_gen.specs.CodeRows.{three}
use Rattle.ideal_meaning.specs.Execution.{Coded, Ran, Stuck, call_code_from}

-- a call of a function of a program's code, in the ideal mode
abbrev pub called : Program → ℕ → Values → ℕ → Coded ⊥ (List Opened)
called P f args k = call_code_from (generated P) ideal_mode f args k []

-- A recursion from 3 makes four calls, and the update that enters it one.
pub put_makes_five_calls : called spin_program 2 (call_values (BoolV true) (PairV (IntV (pos 3)) (BoolV true))) 100 ≡ Ran (Gives (PairV (BoolV true) (IntV (pos 0))) 95 [])
put_makes_five_calls = refl

pub put_is_out_with_four : called spin_program 2 (call_values (BoolV true) (PairV (IntV (pos 3)) (BoolV true))) 4 ≡ Ran (Ends IsOut 0 [])
put_is_out_with_four = refl

pub flip_gives_both : called bool_program 2 (call_values (BoolV true) UnitV) 1 ≡ Ran (Gives (PairV (BoolV false) (BoolV true)) 0 (record { ty = BoolTy; value = BoolV true } ∷ []))
flip_gives_both = refl

pub over_traps : called bool_program 3 (call_values (BoolV true) UnitV) 1 ≡ Ran (Ends (Traps Overflow) 0 (record { ty = BoolTy; value = BoolV true } ∷ []))
over_traps = refl

-- Arms without fields, with one and with two: 0, the field, and the first of the fields.
abbrev pub first_field : Program
first_field = program three UnitTy (function (codes "f") Inner (NamedTy 0 ∷ []) IntTy (MatchE 0 (LocalE 0) (arms_of (IntE (pos 0) ∷ LocalE 1 ∷ LocalE 1 ∷ []))) ∷ [])

pub arm_of_no_field : called first_field 0 (values (ConV 0 NoV ∷ [])) 1 ≡ Ran (Gives (IntV (pos 0)) 0 [])
arm_of_no_field = refl

pub arm_of_one_field : called first_field 0 (values (ConV 1 (values (IntV (pos 7) ∷ [])) ∷ [])) 1 ≡ Ran (Gives (IntV (pos 7)) 0 [])
arm_of_one_field = refl

pub arm_of_two_fields : called first_field 0 (values (ConV 2 (values (IntV (pos 8) ∷ BoolV true ∷ [])) ∷ [])) 1 ≡ Ran (Gives (IntV (pos 8)) 0 [])
arm_of_two_fields = refl

abbrev pub overflowing : Expression
overflowing = ArithE Add (IntE (pos 9223372036854775807)) (IntE (pos 1))

abbrev pub dividing : Expression
dividing = ArithE Div (IntE (pos 1)) (IntE (pos 0))

-- the left operand traps first
pub left_traps_first : called (expression_program [] IntTy (ArithE Add overflowing dividing)) 0 (values []) 1 ≡ Ran (Ends (Traps Overflow) 0 [])
left_traps_first = refl

-- a call takes its unit of fuel behind its arguments, and not where it gives back
pub arguments_come_first : called (expression_program (IntTy ∷ []) IntTy (CallE 0 (operands (dividing ∷ [])))) 0 (values (IntV (pos 1) ∷ [])) 2 ≡ Ran (Ends (Traps DivZero) 1 [])
arguments_come_first = refl

pub no_fuel_is_taken_at_return : called (expression_program [] IntTy (IntE (pos 5))) 0 (values []) 1 ≡ Ran (Gives (IntV (pos 5)) 0 [])
no_fuel_is_taken_at_return = refl

-- a function of these instructions alone, without parameters
abbrev pub of_instructions : List Instruction → Body
of_instructions code = record { limit = 65536; types = []; functions = record { parameters = []; result = IntTy; code = code } ∷ [] }

abbrev pub executed : List Instruction → Coded ⊥ (List Opened)
executed code = call_code_from (of_instructions code) ideal_mode 0 (values []) 1 []

-- a jump passes over what stands behind it
pub jump_passes_over : executed (PushInt (pos 1) ∷ Jump 1 ∷ PushInt (pos 2) ∷ Return ∷ []) ≡ Ran (Gives (IntV (pos 1)) 0 [])
jump_passes_over = refl

-- there is no local, no operand, no end; more than one operand is left
pub no_local_is_stuck : executed (Load 0 ∷ Return ∷ []) ≡ Stuck
no_local_is_stuck = refl

pub no_operand_is_stuck : executed (Return ∷ []) ≡ Stuck
no_operand_is_stuck = refl

pub no_return_is_stuck : executed (PushInt (pos 1) ∷ []) ≡ Stuck
no_return_is_stuck = refl

pub two_operands_are_stuck : executed (PushInt (pos 1) ∷ PushInt (pos 2) ∷ Return ∷ []) ≡ Stuck
two_operands_are_stuck = refl
