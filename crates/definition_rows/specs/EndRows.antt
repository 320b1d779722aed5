-- How a run ends (`Run`, `Ideal`, `Agreement`, `Table`): the fuel that is left, the outcome, and where a new value is too big or too deep. Each
-- equation holds by computing both sides.
use Rattle.std.specs.Prelude.{◌≡◌, ℕ, List, [], ◌∷◌, true, pos, negsuc, None}
use Rattle.core_terms.specs.Types.{Ty, UnitTy, BoolTy, IntTy, TextTy, PairTy}
use Rattle.core_terms.specs.Formats.{Hash}
use Rattle.core_terms.specs.Values.{Value, UnitV, BoolV, IntV, TextV, PairV, NoV}
use Rattle.core_terms.specs.Terms.{Expression, UnitE, BoolE, IntE, TextE, AuthE, PairE, ConE, CatE, CallE, NoE, Inner, Program}
use Rattle.core_terms.specs.FormatRows.{other_format}
use Rattle.core_terms.specs.ValueRows.{two_types}
use Rattle.core_terms.specs.ReadingRows.{nested, nested_value}
use Rattle.ideal_meaning.specs.Run.{Run, Gives, Ends, Trap, Traps, IsOut, Overflow, DivZero, TooBig, TooDeep, fuel_of, limited}
use Rattle.ideal_meaning.specs.Ideal.{Opened, Trapped, Out, ideal, outcome, outcome_projection}
use Rattle.ideal_meaning.specs.Agreement.{as_checked}
use Rattle.ideal_meaning.specs.Table.{divides, made}
use Rattle.ideal_meaning.specs.Headline.{call_values}
use Rattle.ideal_meaning.specs.Examples.{bool_program, function, operands, program}
use Rattle.ideal_meaning.specs.OperationRows.{choices}

-- a new value, within such a limit
abbrev pub new : ℕ → Ty → Value → Run ⊥ (List Opened) Value
new limit t v = limited limit two_types t v 3 []

abbrev pub of_two_types : Program
of_two_types = program two_types UnitTy []

-- an expression alone, where a spelling has at most 9 bytes
abbrev pub in_nine_bytes : Expression → Run ⊥ (List Opened) Value
in_nine_bytes e = ideal (record { format = other_format; types = two_types; state = UnitTy; functions = function [] Inner [] UnitTy e ∷ []; code = None }) 0 NoV 1

-- a function that calls another twice
abbrev pub calling_twice : Program
calling_twice = program [] UnitTy (function [] Inner [] UnitTy UnitE ∷ function [] Inner [] (PairTy UnitTy UnitTy) (PairE UnitTy UnitTy (CallE 0 NoE) (CallE 0 NoE)) ∷ [])

pub record EndRows : Type 0 where
  -- a run that traps keeps the fuel that is left
  pub trap_keeps_its_fuel : ideal choices 5 NoV 9 ≡ Ends (Traps DivZero) 8 []
  pub fuel_of_a_trap : fuel_of (ideal choices 5 NoV 9) ≡ 8
  pub fuel_of_a_value : fuel_of (ideal choices 6 NoV 9) ≡ 8
  -- each call takes a unit of fuel, and of three calls with two units the last one is out
  pub both_calls_are_made : ideal calling_twice 1 NoV 3 ≡ Gives (PairV UnitV UnitV) 0 []
  pub second_call_is_out : ideal calling_twice 1 NoV 2 ≡ Ends IsOut 0 []
  -- a trap and the want of fuel are outcomes, which are their own projections and the same in a checked run
  pub outcome_of_a_trap : outcome (ideal bool_program 3 (call_values (BoolV true) UnitV) 1) ≡ Trapped Overflow
  pub trap_is_its_projection : (hash : Hash) (t : Ty) (trap : Trap) → outcome_projection hash bool_program t (Trapped trap) ≡ Trapped trap
  pub out_is_its_projection : (hash : Hash) (t : Ty) → outcome_projection hash bool_program t Out ≡ Out
  pub trap_is_checked : (trap : Trap) → as_checked (Traps trap) ≡ Traps trap
  pub out_is_checked : as_checked IsOut ≡ IsOut
  -- a new value has as many bytes as the limit at most, and a depth of 512; its size is tested first
  pub as_many_bytes_as_the_limit : new 8 IntTy (IntV (pos 5)) ≡ Gives (IntV (pos 5)) 3 []
  pub more_bytes_than_the_limit : new 7 IntTy (IntV (pos 5)) ≡ Ends (Traps TooBig) 3 []
  pub as_deep_as_the_limit : new 65536 (nested 511 BoolTy) (nested_value 511 (BoolV true)) ≡ Gives (nested_value 511 (BoolV true)) 3 []
  pub deeper_than_the_limit : new 65536 (nested 512 BoolTy) (nested_value 512 (BoolV true)) ≡ Ends (Traps TooDeep) 3 []
  pub too_big_and_too_deep : new 9 (nested 512 BoolTy) (nested_value 512 (BoolV true)) ≡ Ends (Traps TooBig) 3 []
  pub made_as_deep_as_the_limit : made of_two_types (nested 511 BoolTy) (nested_value 511 (BoolV true)) 3 [] ≡ Gives (nested_value 511 (BoolV true)) 3 []
  pub made_deeper_than_the_limit : made of_two_types (nested 512 BoolTy) (nested_value 512 (BoolV true)) 3 [] ≡ Ends (Traps TooDeep) 3 []
  -- pairs, constructors and joined texts are new values
  pub pair_is_too_big : in_nine_bytes (PairE IntTy IntTy (IntE (pos 1)) (IntE (pos 2))) ≡ Ends (Traps TooBig) 0 []
  pub constructor_is_too_big : in_nine_bytes (ConE 1 1 (operands (BoolE true ∷ IntE (pos 5) ∷ AuthE TextTy (TextE []) ∷ []))) ≡ Ends (Traps TooBig) 0 []
  pub joined_text_is_too_big : in_nine_bytes (CatE (TextE (0x61 ∷ 0x62 ∷ 0x63 ∷ [])) (TextE (0x64 ∷ 0x65 ∷ 0x66 ∷ []))) ≡ Ends (Traps TooBig) 0 []
  pub joined_text_of_nine_bytes : in_nine_bytes (CatE (TextE (0x61 ∷ 0x62 ∷ 0x63 ∷ [])) (TextE (0x64 ∷ 0x65 ∷ []))) ≡ Gives (TextV (0x61 ∷ 0x62 ∷ 0x63 ∷ 0x64 ∷ 0x65 ∷ [])) 0 []
  -- the quotient of the least int by -1 is no int
  pub no_quotient_of_the_least : divides (pos 9223372036854775808) (negsuc 9223372036854775807) (negsuc 0) 3 [] ≡ Ends (Traps Overflow) 3 []
