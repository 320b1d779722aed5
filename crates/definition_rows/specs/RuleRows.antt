-- The typing rules (`Terms`): each form where it has its type, and what has none.
use Rattle.std.specs.Prelude.{[], ◌∷◌, true, pos, replicate, None}
use Rattle.core_terms.specs.Types.{Ty, UnitTy, BoolTy, IntTy, TextTy, PairTy, NamedTy, AuthTy}
use Rattle.core_terms.specs.Formats.{first_format}
use Rattle.core_terms.specs.Terms.{Expression, UnitE, BoolE, IntE, TextE, LocalE, PairE, FstE, SndE, NotE, LenE, AuthE, UnauthE, ConE, ArithE, CompareE, TextCompareE, CatE, LetE, IfE, MatchE, CallE, NoE, AndE, NoArm, AndArm, Inner, Program}
use Rattle.core_terms.specs.TypingRules.{HasType, IsTyped}
use Rattle.core_terms.specs.declared.term.Arith.TheVariants.{Rem}
use Rattle.core_terms.specs.declared.term.Compare.TheVariants.{Lt}
use Rattle.core_terms.specs.declared.term.TextCompare.TheVariants.{Lt as TLt}
use Rattle.core_terms.specs.TypingRows.{small}

-- where the locals are an int, a bool, a text, a pair of an int and a text, an authenticated int, and a value of the named type
abbrev pub IsWellTyped : Expression → Ty → Type 0
IsWellTyped e t = HasType small (IntTy ∷ BoolTy ∷ TextTy ∷ PairTy IntTy TextTy ∷ AuthTy IntTy ∷ NamedTy 0 ∷ []) e t

-- a function without parameters, whose body is a local
abbrev pub of_no_local : Program
of_no_local = record { format = first_format 0; types = []; state = UnitTy; functions = record { name = []; kind = Inner; parameters = []; result = UnitTy; body = LocalE 0 } ∷ []; code = None }

pub record RuleRows : Type 0 where
  pub literals : IsWellTyped UnitE UnitTy × IsWellTyped (BoolE true) BoolTy × IsWellTyped (IntE (pos 5)) IntTy × IsWellTyped (TextE []) TextTy
  pub pair_and_parts : IsWellTyped (PairE IntTy TextTy (LocalE 0) (LocalE 2)) (PairTy IntTy TextTy) × IsWellTyped (FstE IntTy TextTy (LocalE 3)) IntTy
      × IsWellTyped (SndE IntTy TextTy (LocalE 3)) TextTy
  pub negation_and_length : IsWellTyped (NotE (LocalE 1)) BoolTy × IsWellTyped (LenE (LocalE 2)) IntTy
  pub auth_and_unauth : IsWellTyped (AuthE IntTy (LocalE 0)) (AuthTy IntTy) × IsWellTyped (UnauthE IntTy (LocalE 4)) IntTy
  pub constructor_with_its_fields : IsWellTyped (ConE 0 1 (AndE (LocalE 0) (AndE (LocalE 2) NoE))) (NamedTy 0)
  pub operations : IsWellTyped (ArithE Rem (LocalE 0) (LocalE 0)) IntTy × IsWellTyped (CompareE Lt (LocalE 0) (LocalE 0)) BoolTy
      × IsWellTyped (TextCompareE TLt (LocalE 2) (LocalE 2)) BoolTy × IsWellTyped (CatE (LocalE 2) (LocalE 2)) TextTy
  -- what is bound is the last local, and so are the fields of an arm
  pub bound_part : IsWellTyped (LetE TextTy (LocalE 2) (LocalE 6)) TextTy
  pub both_branches : IsWellTyped (IfE (LocalE 1) (LocalE 0) (LocalE 0)) IntTy
  pub each_arm : IsWellTyped (MatchE 0 (LocalE 5) (AndArm (LocalE 2) (AndArm (LocalE 7) NoArm))) TextTy
  pub each_argument : IsWellTyped (CallE 0 (AndE (LocalE 0) (AndE (LocalE 1) NoE))) TextTy
  -- what has no type
  pub no_int_beyond_the_greatest : IsWellTyped (IntE (pos 9223372036854775808)) IntTy → ⊥
  pub no_text_of_65533_bytes : IsWellTyped (TextE (replicate 65533 0x61)) TextTy → ⊥
  pub no_pair_of_another_first : IsWellTyped (PairE IntTy TextTy (LocalE 2) (LocalE 2)) (PairTy IntTy TextTy) → ⊥
  pub no_pair_of_another_second : IsWellTyped (PairE IntTy TextTy (LocalE 0) (LocalE 0)) (PairTy IntTy TextTy) → ⊥
  pub no_remainder_by_a_bool : IsWellTyped (ArithE Rem (LocalE 0) (LocalE 1)) IntTy → ⊥
  pub no_int_before_a_bool : IsWellTyped (CompareE Lt (LocalE 0) (LocalE 1)) BoolTy → ⊥
  pub no_text_before_a_bool : IsWellTyped (TextCompareE TLt (LocalE 2) (LocalE 1)) BoolTy → ⊥
  pub no_text_joined_with_an_int : IsWellTyped (CatE (LocalE 2) (LocalE 0)) TextTy → ⊥
  pub no_such_constructor : IsWellTyped (ConE 0 2 NoE) (NamedTy 0) → ⊥
  pub no_unauth_of_an_int : IsWellTyped (UnauthE IntTy (LocalE 0)) IntTy → ⊥
  pub no_other_branch_of_another_type : IsWellTyped (IfE (LocalE 1) (LocalE 0) (LocalE 2)) IntTy → ⊥
  pub field_too_few : IsWellTyped (ConE 0 1 (AndE (LocalE 0) NoE)) (NamedTy 0) → ⊥
  pub field_too_many : IsWellTyped (ConE 0 0 (AndE (LocalE 0) NoE)) (NamedTy 0) → ⊥
  pub arm_too_few : IsWellTyped (MatchE 0 (LocalE 5) (AndArm (LocalE 2) NoArm)) TextTy → ⊥
  pub arm_too_many : IsWellTyped (MatchE 0 (LocalE 5) (AndArm (LocalE 2) (AndArm (LocalE 7) (AndArm (LocalE 2) NoArm)))) TextTy → ⊥
  pub argument_too_few : IsWellTyped (CallE 0 (AndE (LocalE 0) NoE)) TextTy → ⊥
  pub no_such_function : IsWellTyped (CallE 1 NoE) TextTy → ⊥
  -- a program's body has no locals but its parameters
  pub result_is_no_local : IsTyped of_no_local → ⊥
