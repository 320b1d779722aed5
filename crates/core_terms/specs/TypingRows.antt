-- Expressions that the typing rules take, and such that they don't. Each equation holds by computing both sides.
use Rattle.std.specs.Prelude.{◌≡◌, List, [], ◌∷◌, Bool, true, false, pos, negsuc, replicate, refl, None}
use Rattle.std.specs.Str.{is_utf8, chars}
use lib.Utf8.{encode}
use Rattle.core_terms.specs.Types.{Ty, UnitTy, BoolTy, IntTy, TextTy, PairTy, NamedTy, AuthTy}
use Rattle.core_terms.specs.Formats.{first_format}
use Rattle.core_terms.specs.Terms.{Expression, UnitE, BoolE, IntE, TextE, LocalE, PairE, FstE, SndE, NotE, LenE, AuthE, UnauthE, ConE, ArithE, CompareE, TextCompareE, CatE, LetE, IfE, MatchE, CallE, NoE, AndE, NoArm, AndArm, Inner, Init, Query, Update, Function, Kind, Program}
use Rattle.core_terms.specs.declared.term.Arith.TheVariants.{Rem}
use Rattle.core_terms.specs.declared.term.Compare.TheVariants.{Lt}
use Rattle.core_terms.specs.declared.term.TextCompare.TheVariants.{Lt as TLt}
use Rattle.core_terms.specs.Typing.{has_type, is_typed}
use Rattle.core_terms.specs.RoleShapes.{shape_test}

-- a program with one named type of two constructors, of no field, and of an int and a text; and a function from an int and a bool to a text
abbrev pub small : Program
small = record {
  format = first_format 0;
  types = ([] ∷ (IntTy ∷ TextTy ∷ []) ∷ []) ∷ [];
  state = AuthTy IntTy;
  functions = record { name = []; kind = Inner; parameters = IntTy ∷ BoolTy ∷ []; result = TextTy; body = TextE [] } ∷ [];
  code = None;
}

-- where the locals are an int, a bool, a text, a pair of an int and a text, an authenticated int, and a value of the named type
abbrev pub takes : Expression → Ty → Bool
takes e t = has_type small (IntTy ∷ BoolTy ∷ TextTy ∷ PairTy IntTy TextTy ∷ AuthTy IntTy ∷ NamedTy 0 ∷ []) e t

-- literals
pub unit_has_its_type : takes UnitE UnitTy ≡ true
unit_has_its_type = refl

pub false_has_its_type : takes (BoolE false) BoolTy ≡ true
false_has_its_type = refl

pub least_int_has_its_type : takes (IntE (negsuc 9223372036854775807)) IntTy ≡ true
least_int_has_its_type = refl

pub wider_literal_is_refused : takes (IntE (pos 9223372036854775808)) IntTy ≡ false
wider_literal_is_refused = refl

pub longest_text_has_its_type : takes (TextE (replicate 65532 0x61)) TextTy ≡ true
unfolding is_utf8 chars encode
longest_text_has_its_type = refl

pub longer_text_is_refused : takes (TextE (replicate 65533 0x61)) TextTy ≡ false
unfolding is_utf8 chars encode
longer_text_is_refused = refl

pub text_is_utf8 : takes (TextE (0xFF ∷ [])) TextTy ≡ false
unfolding is_utf8 chars encode
text_is_utf8 = refl

-- locals by number, the outermost being 0; there is none behind the last
pub second_local : takes (LocalE 1) BoolTy ≡ true
second_local = refl

pub no_local : takes (LocalE 6) UnitTy ≡ false
no_local = refl

-- pairs and their parts
pub pair_has_its_types : takes (PairE IntTy TextTy (LocalE 0) (LocalE 2)) (PairTy IntTy TextTy) ≡ true
pair_has_its_types = refl

pub pair_is_in_order : takes (PairE IntTy TextTy (LocalE 2) (LocalE 0)) (PairTy IntTy TextTy) ≡ false
pair_is_in_order = refl

pub first_part : takes (FstE IntTy TextTy (LocalE 3)) IntTy ≡ true
first_part = refl

pub second_part : takes (SndE IntTy TextTy (LocalE 3)) TextTy ≡ true
second_part = refl

pub second_part_is_no_first : takes (SndE IntTy TextTy (LocalE 3)) IntTy ≡ false
second_part_is_no_first = refl

-- operations
pub not_of_a_bool : takes (NotE (LocalE 1)) BoolTy ≡ true
not_of_a_bool = refl

pub not_of_an_int : takes (NotE (LocalE 0)) BoolTy ≡ false
not_of_an_int = refl

pub length_of_a_text : takes (LenE (LocalE 2)) IntTy ≡ true
length_of_a_text = refl

pub length_of_an_int : takes (LenE (LocalE 0)) IntTy ≡ false
length_of_an_int = refl

pub remainder_of_ints : takes (ArithE Rem (LocalE 0) (LocalE 0)) IntTy ≡ true
remainder_of_ints = refl

pub second_operand_is_an_int : takes (ArithE Rem (LocalE 0) (LocalE 2)) IntTy ≡ false
second_operand_is_an_int = refl

pub ints_are_compared : takes (CompareE Lt (LocalE 0) (LocalE 0)) BoolTy ≡ true
ints_are_compared = refl

pub texts_are_not_compared_as_ints : takes (CompareE Lt (LocalE 2) (LocalE 2)) BoolTy ≡ false
texts_are_not_compared_as_ints = refl

pub texts_are_compared : takes (TextCompareE TLt (LocalE 2) (LocalE 2)) BoolTy ≡ true
texts_are_compared = refl

pub ints_are_not_compared_as_texts : takes (TextCompareE TLt (LocalE 0) (LocalE 0)) BoolTy ≡ false
ints_are_not_compared_as_texts = refl

pub texts_are_joined : takes (CatE (LocalE 2) (LocalE 2)) TextTy ≡ true
texts_are_joined = refl

pub int_is_not_joined : takes (CatE (LocalE 2) (LocalE 0)) TextTy ≡ false
int_is_not_joined = refl

-- authenticated values
pub auth_of_an_int : takes (AuthE IntTy (LocalE 0)) (AuthTy IntTy) ≡ true
auth_of_an_int = refl

pub unauth_of_an_authenticated_int : takes (UnauthE IntTy (LocalE 4)) IntTy ≡ true
unauth_of_an_authenticated_int = refl

pub unauth_of_an_int : takes (UnauthE IntTy (LocalE 0)) IntTy ≡ false
unauth_of_an_int = refl

-- constructors: each field, and no more
pub constructor_with_its_fields : takes (ConE 0 1 (AndE (LocalE 0) (AndE (LocalE 2) NoE))) (NamedTy 0) ≡ true
constructor_with_its_fields = refl

pub field_too_few : takes (ConE 0 1 (AndE (LocalE 0) NoE)) (NamedTy 0) ≡ false
field_too_few = refl

pub field_too_many : takes (ConE 0 0 (AndE (LocalE 0) NoE)) (NamedTy 0) ≡ false
field_too_many = refl

pub no_such_constructor : takes (ConE 0 2 NoE) (NamedTy 0) ≡ false
no_such_constructor = refl

-- binders and branches: what is bound is the last local, and so are the fields of an arm
pub bound_part_is_the_last_local : takes (LetE TextTy (LocalE 2) (LocalE 6)) TextTy ≡ true
bound_part_is_the_last_local = refl

pub branches_of_one_type : takes (IfE (LocalE 1) (LocalE 0) (IntE (pos 1))) IntTy ≡ true
branches_of_one_type = refl

pub other_branch_of_another_type : takes (IfE (LocalE 1) (LocalE 0) (LocalE 2)) IntTy ≡ false
other_branch_of_another_type = refl

pub condition_is_a_bool : takes (IfE (LocalE 0) (LocalE 0) (LocalE 0)) IntTy ≡ false
condition_is_a_bool = refl

pub arm_for_each_constructor : takes (MatchE 0 (LocalE 5) (AndArm (LocalE 2) (AndArm (LocalE 7) NoArm))) TextTy ≡ true
arm_for_each_constructor = refl

pub arm_too_few : takes (MatchE 0 (LocalE 5) (AndArm (LocalE 2) NoArm)) TextTy ≡ false
arm_too_few = refl

pub arm_too_many : takes (MatchE 0 (LocalE 5) (AndArm (LocalE 2) (AndArm (LocalE 7) (AndArm (LocalE 2) NoArm)))) TextTy ≡ false
arm_too_many = refl

-- calls: each argument, and no more
pub call_has_the_result : takes (CallE 0 (AndE (LocalE 0) (AndE (LocalE 1) NoE))) TextTy ≡ true
call_has_the_result = refl

pub call_has_no_other_type : takes (CallE 0 (AndE (LocalE 0) (AndE (LocalE 1) NoE))) IntTy ≡ false
call_has_no_other_type = refl

pub arguments_in_order : takes (CallE 0 (AndE (LocalE 1) (AndE (LocalE 0) NoE))) TextTy ≡ false
arguments_in_order = refl

pub argument_too_few : takes (CallE 0 (AndE (LocalE 0) NoE)) TextTy ≡ false
argument_too_few = refl

pub argument_too_many : takes (CallE 0 (AndE (LocalE 0) (AndE (LocalE 1) (AndE (LocalE 2) NoE)))) TextTy ≡ false
argument_too_many = refl

pub no_such_function : takes (CallE 1 NoE) TextTy ≡ false
no_such_function = refl

-- each body counts, not only the first
abbrev pub with_function : Function → Program
with_function g = record { format = first_format 0; types = []; state = AuthTy IntTy; functions = record { name = []; kind = Inner; parameters = IntTy ∷ []; result = IntTy; body = LocalE 0 } ∷ g ∷ []; code = None }

pub second_body_is_typed : is_typed (with_function (record { name = []; kind = Inner; parameters = []; result = BoolTy; body = UnitE })) ≡ false
second_body_is_typed = refl

-- the shapes of roles, where the state is an authenticated int
abbrev pub has_shape : Kind → List Ty → Ty → Bool
has_shape kind parameters result = shape_test small kind parameters result

pub inner_functions_are_free : has_shape Inner (TextTy ∷ AuthTy TextTy ∷ []) (AuthTy BoolTy) ≡ true
inner_functions_are_free = refl

pub init_makes_the_state : has_shape Init (NamedTy 0 ∷ []) (AuthTy IntTy) ≡ true
init_makes_the_state = refl

pub init_makes_nothing_else : has_shape Init (TextTy ∷ []) IntTy ≡ false
init_makes_nothing_else = refl

pub init_takes_no_state : has_shape Init (AuthTy IntTy ∷ TextTy ∷ []) (AuthTy IntTy) ≡ false
init_takes_no_state = refl

pub query_takes_the_state_first : has_shape Query (AuthTy IntTy ∷ TextTy ∷ []) (AuthTy BoolTy) ≡ true
query_takes_the_state_first = refl

pub query_takes_it_not_second : has_shape Query (TextTy ∷ AuthTy IntTy ∷ []) BoolTy ≡ false
query_takes_it_not_second = refl

pub no_auth_in_an_argument : has_shape Query (AuthTy IntTy ∷ PairTy TextTy (AuthTy UnitTy) ∷ []) BoolTy ≡ false
no_auth_in_an_argument = refl

pub update_gives_state_and_answer : has_shape Update (AuthTy IntTy ∷ TextTy ∷ []) (PairTy (AuthTy IntTy) BoolTy) ≡ true
update_gives_state_and_answer = refl

pub update_gives_the_state_first : has_shape Update (AuthTy IntTy ∷ TextTy ∷ []) (PairTy BoolTy (AuthTy IntTy)) ≡ false
update_gives_the_state_first = refl

pub update_gives_both : has_shape Update (AuthTy IntTy ∷ TextTy ∷ []) (AuthTy IntTy) ≡ false
update_gives_both = refl
