-- Ints, divisions and the order of texts, in the words of arithmetic and of byte strings (`Operations`).
use Rattle.std.specs.Prelude.{◌≡◌, List, ℕ, [], ◌∷◌, pos, negsuc, true, false}
use Rattle.core_terms.specs.Values.{BoolV, IntV}
use Rattle.core_terms.specs.Terms.{LocalE, ArithE}
use Rattle.core_terms.specs.declared.term.Arith.TheVariants.{Sub}
use Rattle.ideal_meaning.specs.Run.{Gives, Ends, Traps, Overflow}
use Rattle.ideal_meaning.specs.OperationRows.{choices}
use Rattle.ideal_meaning.specs.Operations.{ComesBefore, IsDivision, IsExact, IsInt, SaysWhether, on_two}

pub record IntRows : Type 0 where
  -- from -2^63 to 2^63 - 1
  pub greatest_int : IsInt (pos 9223372036854775807)
  pub no_greater_int : IsInt (pos 9223372036854775808) → ⊥
  pub least_int : IsInt (negsuc 9223372036854775807)
  pub no_lesser_int : IsInt (negsuc 9223372036854775808) → ⊥
  -- 7 by 2 is 3, and 1 remains; -7 by 2 is -3, and -1 remains
  pub seven_by_two : IsDivision (pos 7) (pos 2) (pos 3) (pos 1)
  pub seven_by_two_from_above : IsDivision (pos 7) (pos 2) (pos 4) (negsuc 0) → ⊥
  pub more_remains : IsDivision (pos 7) (pos 2) (pos 2) (pos 3) → ⊥
  pub other_quotient : IsDivision (pos 7) (pos 2) (pos 2) (pos 1) → ⊥
  pub minus_seven_by_two : IsDivision (negsuc 6) (pos 2) (negsuc 2) (negsuc 0)
  pub minus_seven_by_two_from_below : IsDivision (negsuc 6) (pos 2) (negsuc 3) (pos 1) → ⊥
  -- an int is exact, and traps where it is none
  pub exact_int : IsExact (pos 5) 3 [] (Gives (IntV (pos 5)) 3 [])
  pub exact_int_does_not_trap : IsExact (pos 5) 3 [] (Ends (Traps Overflow) 3 []) → ⊥
  pub no_int_traps : IsExact (pos 9223372036854775808) 3 [] (Gives (IntV (pos 9223372036854775808)) 3 []) → ⊥
  -- true where the fact holds, false where it doesn't
  pub fact_is_not_false : SaysWhether (true ≡ true) 3 [] (Gives (BoolV false) 3 []) → ⊥
  pub other_is_not_true : SaysWhether (true ≡ false) 3 [] (Gives (BoolV true) 3 []) → ⊥
  -- the first local is the first operand
  pub operands_in_order : on_two choices 0 (ArithE Sub (LocalE 0) (LocalE 1)) (IntV (pos 7)) (IntV (pos 2)) 3 [] ≡ Gives (IntV (pos 5)) 3 []
  -- a text comes behind its front and behind one with a smaller byte, and never before itself
  pub front_comes_before : ComesBefore (1 ∷ []) (1 ∷ 2 ∷ [])
  pub smaller_byte_comes_before : ComesBefore (1 ∷ 1 ∷ 9 ∷ []) (1 ∷ 2 ∷ [])
  pub no_text_before_itself : (bytes : List ℕ) → ComesBefore bytes bytes → ⊥
