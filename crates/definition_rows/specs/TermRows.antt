-- The locals and levels of an expression (`ProgramLimits`), types that a local has not (`Typing`), and the function of a number that none has (`Terms`).
-- Each equation holds by computing both sides.
use Rattle.std.specs.Prelude.{◌≡◌, [], true, false}
use Rattle.core_terms.specs.Types.{UnitTy, BoolTy, IntTy, TextTy, PairTy, NamedTy, AuthTy}
use Rattle.core_terms.specs.Terms.{Expression, UnitE, BoolE, LocalE, PairE, SndE, NotE, LenE, AuthE, ConE, ArithE, CompareE, TextCompareE, CatE, LetE, MatchE, NoE, AndE, NoArm, AndArm, Inner, function_at}
use Rattle.core_terms.specs.declared.term.Arith.TheVariants.{Rem}
use Rattle.core_terms.specs.declared.term.Compare.TheVariants.{Lt}
use Rattle.core_terms.specs.declared.term.TextCompare.TheVariants.{Lt as TLt}
use Rattle.core_terms.specs.ProgramSizes.{levels_of_arms, locals_in, locals_in_arms}
use Rattle.core_terms.specs.LimitRows.{bind_two, two_constructors}
use Rattle.core_terms.specs.RoleRows.{five}
use Rattle.core_terms.specs.TypingRows.{takes}

-- the locals of a later arm count, and those of what is matched
abbrev pub bind_three : Expression
bind_three = LetE UnitTy UnitE bind_two

pub record TermRows : Type 0 where
  pub locals_of_a_later_arm : locals_in two_constructors 0 (MatchE 0 UnitE (AndArm UnitE (AndArm bind_three NoArm))) ≡ 3
  pub locals_of_what_is_matched : locals_in two_constructors 0 (MatchE 0 bind_three (AndArm UnitE (AndArm UnitE NoArm))) ≡ 3
  pub locals_of_a_constructor_without_fields : locals_in two_constructors 5 (ConE 0 0 NoE) ≡ 5
  pub locals_without_an_arm : locals_in_arms two_constructors 5 [] NoArm ≡ 5
  pub levels_without_an_arm : levels_of_arms NoArm ≡ 0
  -- a pair has both its types
  pub second_part_of_a_local : takes (LocalE 3) (PairTy IntTy BoolTy) ≡ false
  -- nor has an expression another type, or such a type where a part has another one
  pub unit_is_no_bool : takes UnitE BoolTy ≡ false
  pub bool_is_no_unit : takes (BoolE true) UnitTy ≡ false
  pub pair_of_other_first : takes (PairE IntTy TextTy (LocalE 2) (LocalE 2)) (PairTy IntTy TextTy) ≡ false
  pub pair_of_other_second : takes (PairE IntTy TextTy (LocalE 0) (LocalE 0)) (PairTy IntTy TextTy) ≡ false
  pub second_part_is_not_the_first : takes (SndE IntTy TextTy (LocalE 3)) IntTy ≡ false
  pub no_negation_of_an_int : takes (NotE (LocalE 0)) BoolTy ≡ false
  pub no_length_of_an_int : takes (LenE (LocalE 0)) IntTy ≡ false
  pub no_auth_of_a_bool : takes (AuthE IntTy (LocalE 1)) (AuthTy IntTy) ≡ false
  pub no_other_auth : takes (AuthE IntTy (LocalE 0)) (AuthTy BoolTy) ≡ false
  pub no_other_field : takes (ConE 0 1 (AndE (LocalE 0) (AndE (LocalE 0) NoE))) (NamedTy 0) ≡ false
  pub no_remainder_by_a_bool : takes (ArithE Rem (LocalE 0) (LocalE 1)) IntTy ≡ false
  pub no_int_before_a_bool : takes (CompareE Lt (LocalE 0) (LocalE 1)) BoolTy ≡ false
  pub no_text_before_a_bool : takes (TextCompareE TLt (LocalE 2) (LocalE 1)) BoolTy ≡ false
  pub no_text_joined_with_an_int : takes (CatE (LocalE 2) (LocalE 0)) TextTy ≡ false
  pub no_match_of_an_int : takes (MatchE 0 (LocalE 0) (AndArm (LocalE 2) (AndArm (LocalE 2) NoArm))) TextTy ≡ false
  -- named types are told apart by their numbers
  pub local_of_another_named_type : takes (LocalE 5) (NamedTy 1) ≡ false
  -- a number that no function has stands for an inner one
  pub no_such_function : function_at five 5 ≡ record { name = []; kind = Inner; parameters = []; result = UnitTy; body = UnitE }
