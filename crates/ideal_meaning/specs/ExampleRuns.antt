-- What the example programs do in ideal mode: outcomes, fuel and what is opened. Each equation holds by computing both sides.
use Rattle.std.specs.Prelude.{◌≡◌, ℕ, zero, suc, List, [], ◌∷◌, codes, replicate, pos, negsuc, true, false, Some, None, refl}
use Rattle.core_terms.specs.Types.{Ty, UnitTy, BoolTy, IntTy, PairTy, AuthTy}
use Rattle.core_terms.specs.Formats.{Hash}
use Rattle.core_terms.specs.Values.{Value, UnitV, BoolV, IntV, TextV, PairV, DigestV}
use Rattle.core_terms.specs.Terms.{Expression, UnitE, IntE, LocalE, PairE, ArithE, LetE, Query, Update}
use Rattle.core_terms.specs.declared.term.Arith.TheVariants.{Sub, Div, Rem}
use Rattle.core_terms.specs.Typing.{is_typed}
use Rattle.core_terms.specs.Roles.{role_named}
use Rattle.core_terms.specs.RoleTypes.{IsPlain, IsRole}
use Rattle.core_terms.specs.Projection.{projection}
use Rattle.ideal_meaning.specs.Run.{Run, Gives, Ends, Traps, Overflow, DivZero, TooBig, fuel_of}
use Rattle.ideal_meaning.specs.Ideal.{Opened, ideal, outcome, Done, Out, honest_pieces, bytes_of}
use Rattle.ideal_meaning.specs.Headline.{call_values}
use Rattle.ideal_meaning.specs.Examples.{values, unit_program, bool_program, two_bools_program, nested_program, text_program, spin_program, pair_program, expression_program}

-- every example is well-typed
pub unit_program_is_typed : is_typed unit_program ≡ true
unit_program_is_typed = refl

pub bool_program_is_typed : is_typed bool_program ≡ true
bool_program_is_typed = refl

pub two_bools_program_is_typed : is_typed two_bools_program ≡ true
two_bools_program_is_typed = refl

pub nested_program_is_typed : is_typed nested_program ≡ true
nested_program_is_typed = refl

pub text_program_is_typed : is_typed text_program ≡ true
text_program_is_typed = refl

pub spin_program_is_typed : is_typed spin_program ≡ true
spin_program_is_typed = refl

pub pair_program_is_typed : is_typed pair_program ≡ true
pair_program_is_typed = refl

-- Roles are found by their names; a function that cannot be entered from outside is none.
pub put_is_found : role_named spin_program (codes "put") ≡ Some 2
put_is_found = refl

pub inner_function_is_no_role : role_named spin_program (codes "spin") ≡ None
inner_function_is_no_role = refl

pub unit_is_plain : IsPlain [] UnitTy
unit_is_plain zero = refl
unit_is_plain (suc opened) = refl

pub int_and_bool_are_plain : IsPlain [] (PairTy IntTy BoolTy)
int_and_bool_are_plain zero = refl
int_and_bool_are_plain (suc opened) = refl

pub open_is_a_query : IsRole unit_program 1 Query UnitTy UnitTy
open_is_a_query = record { function = _; there = refl; entered = refl; of_kind = refl; parameters = refl; result = refl; plain = unit_is_plain }

pub put_is_an_update : IsRole spin_program 2 Update (PairTy IntTy BoolTy) IntTy
put_is_an_update = record { function = _; there = refl; entered = refl; of_kind = refl; parameters = refl; result = refl; plain = int_and_bool_are_plain }

-- The entry call takes a unit of fuel. Without it the outcome is Out, and nothing is opened.
pub open_is_done : ideal unit_program 1 (call_values UnitV UnitV) 1 ≡ Gives UnitV 0 (record { ty = UnitTy; value = UnitV } ∷ [])
open_is_done = refl

pub open_is_out : outcome (ideal unit_program 1 (call_values UnitV UnitV) 0) ≡ Out
open_is_out = refl

pub nothing_is_opened_without_fuel : (hash : Hash) → honest_pieces hash unit_program 1 (call_values UnitV UnitV) 0 ≡ []
nothing_is_opened_without_fuel hash = refl

-- A recursion from 3 makes four calls, and the update that enters it one.
pub put_makes_five_calls : ideal spin_program 2 (call_values (BoolV true) (PairV (IntV (pos 3)) (BoolV true))) 100 ≡ Gives (PairV (BoolV true) (IntV (pos 0))) 95 []
put_makes_five_calls = refl

pub put_is_done_with_five : outcome (ideal spin_program 2 (call_values (BoolV true) (PairV (IntV (pos 3)) (BoolV true))) 5) ≡ Done (PairV (BoolV true) (IntV (pos 0)))
put_is_done_with_five = refl

pub put_is_out_with_four : outcome (ideal spin_program 2 (call_values (BoolV true) (PairV (IntV (pos 3)) (BoolV true))) 4) ≡ Out
put_is_out_with_four = refl

-- of the most fuel that a call may have, what isn't spent is left
pub most_fuel_is_left : fuel_of (ideal spin_program 0 (values (IntV (pos 40) ∷ [])) 1000000000000) ≡ 999999999959
most_fuel_is_left = refl

-- In ideal mode an authenticated value is the value; its projection is the digest of its spelling.
pub make_gives_the_value : ideal bool_program 0 (values (BoolV true ∷ [])) 1 ≡ Gives (BoolV true) 0 []
make_gives_the_value = refl

pub true_is_projected : (hash : Hash) → projection hash bool_program (AuthTy BoolTy) (BoolV true) ≡ DigestV (hash (1 ∷ []))
true_is_projected hash = refl

pub flip_gives_both : ideal bool_program 2 (call_values (BoolV true) UnitV) 1 ≡ Gives (PairV (BoolV false) (BoolV true)) 0 (record { ty = BoolTy; value = BoolV true } ∷ [])
flip_gives_both = refl

-- a trap keeps what was opened before it
pub over_traps : ideal bool_program 3 (call_values (BoolV true) UnitV) 1 ≡ Ends (Traps Overflow) 0 (record { ty = BoolTy; value = BoolV true } ∷ [])
over_traps = refl

-- Pieces are noted in the order of their opening, each time anew.
pub both_opens_twice : (hash : Hash) → bytes_of (honest_pieces hash bool_program 1 (call_values (BoolV true) UnitV) 1) ≡ (1 ∷ []) ∷ (1 ∷ []) ∷ []
both_opens_twice hash = refl

pub three_gives_all : outcome (ideal two_bools_program 1 (call_values (PairV (BoolV true) (BoolV false)) UnitV) 1) ≡ Done (PairV (BoolV true) (PairV (BoolV false) (BoolV true)))
three_gives_all = refl

pub three_opens_in_order : (hash : Hash) → bytes_of (honest_pieces hash two_bools_program 1 (call_values (PairV (BoolV true) (BoolV false)) UnitV) 1) ≡ (1 ∷ []) ∷ (0 ∷ []) ∷ (1 ∷ []) ∷ []
three_opens_in_order hash = refl

-- What stands inside an authenticated value is in its piece as a digest.
pub nested_value_is_projected : (hash : Hash) → projection hash nested_program (AuthTy (AuthTy UnitTy)) UnitV ≡ DigestV (hash (hash []))
nested_value_is_projected hash = refl

pub deep_opens_outer_then_inner : (hash : Hash) → bytes_of (honest_pieces hash nested_program 1 (call_values UnitV UnitV) 1) ≡ hash [] ∷ [] ∷ []
deep_opens_outer_then_inner hash = refl

-- the longest text is opened whole
pub size_is_counted : outcome (ideal text_program 1 (call_values (TextV (replicate 65532 0x61)) UnitV) 1) ≡ Done (IntV (pos 65532))
size_is_counted = refl

-- The outcome of an expression without locals.
abbrev pub alone : Expression → Run ⊥ (List Opened) Value
alone e = ideal (expression_program [] IntTy e) 0 (values []) 1

-- the least int divided by -1 is no int
pub least_by_minus_one_overflows : alone (ArithE Div (ArithE Sub (IntE (negsuc 9223372036854775806)) (IntE (pos 1))) (IntE (negsuc 0))) ≡ Ends (Traps Overflow) 0 []
least_by_minus_one_overflows = refl

-- and so the remainder traps too
pub least_rem_minus_one_overflows : alone (ArithE Rem (ArithE Sub (IntE (negsuc 9223372036854775806)) (IntE (pos 1))) (IntE (negsuc 0))) ≡ Ends (Traps Overflow) 0 []
least_rem_minus_one_overflows = refl

pub division_by_zero_traps : alone (ArithE Div (IntE (pos 1)) (IntE (pos 0))) ≡ Ends (Traps DivZero) 0 []
division_by_zero_traps = refl

-- quotients are truncated toward zero, and the remainder has the sign of the dividend
pub quotient_is_truncated : alone (ArithE Div (IntE (negsuc 6)) (IntE (pos 2))) ≡ Gives (IntV (negsuc 2)) 0 []
quotient_is_truncated = refl

pub remainder_has_the_sign : alone (ArithE Rem (IntE (negsuc 6)) (IntE (pos 2))) ≡ Gives (IntV (negsuc 0)) 0 []
remainder_has_the_sign = refl

-- So many times `let y = (x, x) in` of the last local, from one of type t, and unit at the end.
abbrev pub doublings : ℕ → Ty → ℕ → Expression
doublings zero t i = UnitE
doublings (suc n) t i = LetE (PairTy t t) (PairE t t (LocalE i) (LocalE i)) (doublings n (PairTy t t) (suc i))

abbrev pub doubled : ℕ → Run ⊥ (List Opened) Value
doubled n = ideal (expression_program (IntTy ∷ []) UnitTy (doublings n IntTy 0)) 0 (values (IntV (pos 7) ∷ [])) 1

-- an int doubled 13 times spells 65,536 bytes, which is within the limit; once more is too big
pub thirteen_doublings_fit : doubled 13 ≡ Gives UnitV 0 []
thirteen_doublings_fit = refl

pub fourteen_doublings_are_too_big : doubled 14 ≡ Ends (Traps TooBig) 0 []
fourteen_doublings_are_too_big = refl
