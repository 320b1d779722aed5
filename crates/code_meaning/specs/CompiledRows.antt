-- Programs that are compiled, by example. Each equation holds by computing both sides.
use Rattle.std.specs.Prelude.{◌≡◌, List, [], ◌∷◌, map, codes, pos, true, false, Some, refl}
use Rattle.core_terms.specs.Types.{BoolTy, IntTy, UnitTy}
use Rattle.core_terms.specs.Values.{UnitV, BoolV, IntV, PairV}
use Rattle.core_terms.specs.Instructions.{Instruction, PushUnit, PushBool, PushInt, Load, Branch, Jump, Call, Return}
use Rattle.core_terms.specs.Bodies.{FunctionCode}
use Rattle.core_terms.specs.Terms.{Function, Inner, Program, UnitE}
use Rattle.core_terms.specs.Typing.{is_typed}
use Rattle.ideal_meaning.specs.Run.{Gives, Ends, Traps, IsOut, Overflow}
use Rattle.ideal_meaning.specs.Ideal.{ideal}
use Rattle.ideal_meaning.specs.Headline.{call_values}
use Rattle.ideal_meaning.specs.Examples.{function, program, values, bool_program, spin_program}
use Rattle.core_terms.specs.GeneratedCode.{generated}

-- a function without its body
abbrev pub declared : Function → Function
declared g = record { name = g.name; kind = g.kind; parameters = g.parameters; result = g.result; body = UnitE }

-- a program with its code in the place of its bodies
abbrev pub compiled : Program → Program
compiled P = record {
  format = P.format;
  types = P.types;
  state = P.state;
  functions = map declared P.functions;
  code = Some (map (λ (f : FunctionCode). f.code) (generated P).functions);
}

-- what is generated is well-typed
pub compiled_spin_is_typed : is_typed (compiled spin_program) ≡ true
compiled_spin_is_typed = refl

pub compiled_bool_is_typed : is_typed (compiled bool_program) ≡ true
compiled_bool_is_typed = refl

-- It does what the written program does: it gives the same, ends in the same way, and leaves the same fuel.
pub put_gives_the_same : ideal (compiled spin_program) 2 (call_values (BoolV true) (PairV (IntV (pos 3)) (BoolV true))) 100 ≡ Gives (PairV (BoolV true) (IntV (pos 0))) 95 []
put_gives_the_same = refl

pub put_is_out_as_well : ideal (compiled spin_program) 2 (call_values (BoolV true) (PairV (IntV (pos 3)) (BoolV true))) 4 ≡ Ends IsOut 0 []
put_is_out_as_well = refl

pub over_traps_as_well : ideal (compiled bool_program) 3 (call_values (BoolV true) UnitV) 1 ≡ Ends (Traps Overflow) 0 (record { ty = BoolTy; value = BoolV true } ∷ [])
over_traps_as_well = refl

-- a function from an int to an int, compiled to these instructions
abbrev pub of_code : List Instruction → Program
of_code code = record {
  format = (program [] UnitTy []).format;
  types = [];
  state = UnitTy;
  functions = function (codes "f") Inner (IntTy ∷ []) IntTy UnitE ∷ [];
  code = Some (code ∷ []);
}

pub parameter_is_given : is_typed (of_code (Load 0 ∷ Return ∷ [])) ≡ true
parameter_is_given = refl

-- a body is not asked for
pub body_is_not_run : ideal (of_code (Load 0 ∷ Return ∷ [])) 0 (values (IntV (pos 7) ∷ [])) 1 ≡ Gives (IntV (pos 7)) 0 []
body_is_not_run = refl

-- What is at fault: a local that isn't there, an operand that isn't there, a result of another type, a jump past the end, an end without a
-- return, an instruction that none leads to, two ways to one place with different types, a call of a function that isn't there.
pub no_local : is_typed (of_code (Load 1 ∷ Return ∷ [])) ≡ false
no_local = refl

pub no_operand : is_typed (of_code (Return ∷ [])) ≡ false
no_operand = refl

pub other_result : is_typed (of_code (PushBool true ∷ Return ∷ [])) ≡ false
other_result = refl

pub past_the_end : is_typed (of_code (Jump 1 ∷ PushInt (pos 1) ∷ [])) ≡ false
past_the_end = refl

pub no_return : is_typed (of_code (PushInt (pos 1) ∷ [])) ≡ false
no_return = refl

pub not_led_to : is_typed (of_code (Load 0 ∷ Return ∷ Load 0 ∷ Return ∷ [])) ≡ false
not_led_to = refl

pub two_shapes : is_typed (of_code (PushBool true ∷ Branch 2 ∷ PushInt (pos 1) ∷ Jump 1 ∷ PushUnit ∷ Return ∷ [])) ≡ false
two_shapes = refl

pub one_shape : is_typed (of_code (PushBool true ∷ Branch 2 ∷ PushInt (pos 1) ∷ Jump 1 ∷ PushInt (pos 2) ∷ Return ∷ [])) ≡ true
one_shape = refl

pub no_function : is_typed (of_code (Load 0 ∷ Call 1 ∷ Return ∷ [])) ≡ false
no_function = refl

-- and a program with code for fewer functions than it has
pub no_code : is_typed (record { format = (program [] UnitTy []).format; types = []; state = UnitTy; functions = function (codes "f") Inner (IntTy ∷ []) IntTy UnitE ∷ []; code = Some [] }) ≡ false
no_code = refl
