-- The definitions, computed on texts.
use Rattle.std.proofs.Common.{◌≡◌, ℕ, Bool, true, false, ◌&&◌, List, ◌++◌, Option, Some, None, refl}
use Rattle.std.specs.Prelude.{codes}
use Rattle.std.specs.Str.{is_utf8, chars}
use lib.Utf8.{encode}
use Rattle.core_terms.specs.Typing.{is_typed, is_shaped}
use Rattle.auth_syntax.specs.Parsing.{Parsed, Tree, parsed}
use Rattle.auth_types.specs.CheckedPrograms.{Checked, IsProgram, FirstFault, checked}
use Rattle.declared_types.specs.declared.fault.TypeKind.TheVariants.{Twice, Limit, NoState, UnknownName, RoleShape, AuthInArgument, WrongType, NotPair, NotAuth, NotSum, ArmsWrong, WrongCount}
use Rattle.declared_types.specs.declared.fault.Limited.TheVariants.{Fields, Parameters}

-- what checking gives of a text that has a tree
abbrev of_tree : Parsed → Option Checked
of_tree (Tree program) = Some (checked program)
of_tree parsed = None

abbrev pub answer : List ℕ → Option Checked
answer text = of_tree (parsed text)

-- a text is that of a program, and what is found of it is well-typed, with roles of their shapes
abbrev accepts : Option Checked → Bool
accepts (Some (IsProgram P)) = is_typed P && is_shaped P
accepts answer = false

abbrev pub is_program : List ℕ → Bool
is_program text = accepts (answer text)

-- The first pass: names that stand twice, in each space
a_second_type : answer (codes "type a = A; type a = B;") ≡ Some (FirstFault Twice 1 18)
unfolding checked
a_second_type = refl

a_second_constructor_of_a_type : answer (codes "type a = A | A;") ≡ Some (FirstFault Twice 1 14)
unfolding checked
a_second_constructor_of_a_type = refl

a_second_constructor_of_the_program : answer (codes "type a = A; type b = B | A;") ≡ Some (FirstFault Twice 1 26)
unfolding checked
a_second_constructor_of_the_program = refl

a_second_function : answer (codes "state unit; fun f(x: unit): unit = x; query f(s: unit, x: unit): unit = x;") ≡ Some (FirstFault Twice 1 45)
unfolding checked
a_second_function = refl

a_second_parameter : answer (codes "state unit; fun f(x: int, y: int, x: text): int = x;") ≡ Some (FirstFault Twice 1 35)
unfolding checked
a_second_parameter = refl

a_second_state : answer (codes "state unit; fun f(x: unit): unit = x; state int;") ≡ Some (FirstFault Twice 1 39)
unfolding checked
a_second_state = refl

spaces_are_apart : is_program (codes "type a = A(a) | B; state a; fun a(a: a): a = A(a(a)); fun b(a: a): a = a;") ≡ true
unfolding checked
spaces_are_apart = refl

-- The first pass: how many there may be
a_ninth_parameter : answer (codes
    "state unit; fun f(a: int, b: int, c: int, d: int, e: int, f: int, g: int, h: int, i: int): int = a;") ≡ Some (FirstFault (Limit Parameters) 1 83)
unfolding checked
a_ninth_parameter = refl

a_ninth_field : answer (codes "type a = A(int, int, int, int, int, int, int, int, auth int);") ≡ Some (FirstFault (Limit Fields) 1 52)
unfolding checked
a_ninth_field = refl

eight_of_each : is_program (codes
    "type a = A(int, int, int, int, int, int, int, int); state unit; fun f(a: int, b: int, c: int, d: int, e: int, f: int, g: int, h: int): int = a;") ≡ true
unfolding checked
eight_of_each = refl

twice_at_a_ninth_parameter : answer (codes
    "state unit; fun f(a: int, b: int, c: int, d: int, e: int, f: int, g: int, h: int, h: int): int = a;") ≡ Some (FirstFault Twice 1 83)
unfolding checked
twice_at_a_ninth_parameter = refl

no_state_in_the_empty_text : answer (codes "") ≡ Some (FirstFault NoState 1 1)
unfolding checked
no_state_in_the_empty_text = refl

no_state_at_the_end : answer (codes "fun f(x: int): int = x; # no state\n ") ≡ Some (FirstFault NoState 2 2)
unfolding checked
no_state_at_the_end = refl

-- The second pass: names of types
unknown_state : answer (codes "state a;") ≡ Some (FirstFault UnknownName 1 7)
unfolding checked
unknown_state = refl

unknown_field : answer (codes "state unit; type a = A | B(a, auth b);") ≡ Some (FirstFault UnknownName 1 36)
unfolding checked
unknown_field = refl

unknown_parameter : answer (codes "state unit; fun f(x: (int, a)): int = 1;") ≡ Some (FirstFault UnknownName 1 28)
unfolding checked
unknown_parameter = refl

unknown_result : answer (codes "state unit; fun f(x: int): a = 1;") ≡ Some (FirstFault UnknownName 1 28)
unfolding checked
unknown_result = refl

a_later_type_is_known : is_program (codes "state a; type a = A(b); type b = B;") ≡ true
unfolding checked
a_later_type_is_known = refl

-- The third pass: shapes of roles
init_of_two : answer (codes "state unit; init f(x: int, y: int): unit = ();") ≡ Some (FirstFault RoleShape 1 18)
unfolding checked
init_of_two = refl

init_of_no_state : answer (codes "state unit; init f(x: int): int = x;") ≡ Some (FirstFault RoleShape 1 18)
unfolding checked
init_of_no_state = refl

query_of_one : answer (codes "state unit; query f(s: unit): unit = s;") ≡ Some (FirstFault RoleShape 1 19)
unfolding checked
query_of_one = refl

query_of_three : answer (codes "state unit; query f(s: unit, x: int, y: int): unit = s;") ≡ Some (FirstFault RoleShape 1 19)
unfolding checked
query_of_three = refl

query_of_no_state : answer (codes "state auth int; query f(s: int, x: int): int = x;") ≡ Some (FirstFault RoleShape 1 23)
unfolding checked
query_of_no_state = refl

update_of_one : answer (codes "state unit; update f(s: unit): (unit, int) = (s, 1);") ≡ Some (FirstFault RoleShape 1 20)
unfolding checked
update_of_one = refl

update_of_no_state : answer (codes "state unit; update f(s: int, x: int): (unit, int) = ((), x);") ≡ Some (FirstFault RoleShape 1 20)
unfolding checked
update_of_no_state = refl

update_with_no_answer : answer (codes "state unit; update f(s: unit, x: int): unit = s;") ≡ Some (FirstFault RoleShape 1 20)
unfolding checked
update_with_no_answer = refl

update_with_no_new_state : answer (codes "state unit; update f(s: unit, x: int): (int, unit) = (x, s);") ≡ Some (FirstFault RoleShape 1 20)
unfolding checked
update_with_no_new_state = refl

roles_of_their_shapes : is_program (codes
    "type a = A; state a; init f(x: int): a = A; query g(s: a, x: text): bool = true; update h(s: a, x: (int, a)): (a, int) = (s, 1);") ≡ true
unfolding checked
roles_of_their_shapes = refl

auth_in_an_argument : answer (codes "state unit; query q(s: unit, x: auth int): int = 1;") ≡ Some (FirstFault AuthInArgument 1 33)
unfolding checked
auth_in_an_argument = refl

auth_in_an_argument_of_init : answer (codes "state unit; init f(x: auth int): unit = ();") ≡ Some (FirstFault AuthInArgument 1 23)
unfolding checked
auth_in_an_argument_of_init = refl

auth_in_an_argument_of_update : answer (codes "state unit; update f(s: unit, x: (int, auth int)): (unit, int) = (s, 1);") ≡ Some (FirstFault
    AuthInArgument 1 34)
unfolding checked
auth_in_an_argument_of_update = refl

auth_in_a_named_argument : answer (codes "type a = A(auth int); state unit; query q(s: unit, x: a): int = 1;") ≡ Some (FirstFault AuthInArgument 1 55)
unfolding checked
auth_in_a_named_argument = refl

auth_far_in_a_named_argument : answer (codes
    "type a = A | B(int, b); type b = C(a) | D(auth unit); state unit; init f(x: (int, a)): unit = ();") ≡ Some (FirstFault AuthInArgument 1 77)
unfolding checked
auth_far_in_a_named_argument = refl

no_auth_in_types_that_name_each_other : is_program (codes
    "type a = A | B(int, b); type b = C(a) | D(int); type c = E(auth c); state unit; init f(x: (int, a)): unit = ();") ≡ true
unfolding checked
no_auth_in_types_that_name_each_other = refl

auth_in_a_state_and_an_inner_argument : is_program (codes
    "state auth int; fun f(x: auth int): auth int = x; query q(s: auth int, x: int): auth int = s;") ≡ true
unfolding checked
auth_in_a_state_and_an_inner_argument = refl

shape_before_argument : answer (codes "state unit; init f(x: auth int): int = 1;") ≡ Some (FirstFault RoleShape 1 18)
unfolding checked
shape_before_argument = refl

-- The fourth pass: names
unknown_local : answer (codes "state unit; fun f(x: int): int = add(x, y);") ≡ Some (FirstFault UnknownName 1 41)
unfolding checked
unknown_local = refl

unknown_function : answer (codes "state unit; fun f(x: int): int = x(1);") ≡ Some (FirstFault UnknownName 1 34)
unfolding checked
unknown_function = refl

unknown_constructor : answer (codes "state unit; fun f(x: int): int = A;") ≡ Some (FirstFault UnknownName 1 34)
unfolding checked
unknown_constructor = refl

a_let_ends : answer (codes "state unit; fun f(x: int): int = add(let y = 1 in y, y);") ≡ Some (FirstFault UnknownName 1 54)
unfolding checked
a_let_ends = refl

a_let_is_not_in_its_bound_part : answer (codes "state unit; fun f(x: int): int = let y = y in y;") ≡ Some (FirstFault UnknownName 1 42)
unfolding checked
a_let_is_not_in_its_bound_part = refl

a_pattern_ends : answer (codes "type a = A(int) | B; state unit; fun f(x: a): int = match x with | A(y) -> y | B -> y end;") ≡ Some (FirstFault
    UnknownName 1 85)
unfolding checked
a_pattern_ends = refl

a_let_hides : is_program (codes "state unit; fun f(x: int): bool = let x = lt(x, 1) in let x = not(x) in x;") ≡ true
unfolding checked
a_let_hides = refl

a_hidden_local_has_another_type : answer (codes "state unit; fun f(x: int): bool = let x = lt(x, 1) in lt(x, 1);") ≡ Some (FirstFault WrongType 1 58)
unfolding checked
a_hidden_local_has_another_type = refl

a_pattern_hides : is_program (codes "type a = A(bool, a) | B; state unit; fun f(x: a): bool = match x with | A(y, x) -> y | B -> false end;") ≡ true
unfolding checked
a_pattern_hides = refl

a_hidden_local_comes_back : is_program (codes "state unit; fun f(x: int): int = add(if let x = lt(x, 1) in x then 1 else 2, x);") ≡ true
unfolding checked
a_hidden_local_comes_back = refl

functions_and_roles_are_called_anywhere : is_program (codes
    "state unit; fun f(x: unit): int = g((), x); query g(s: unit, x: unit): int = add(f(s), g(s, x));") ≡ true
unfolding checked
functions_and_roles_are_called_anywhere = refl

-- The fourth pass: counts
count_of_a_call : answer (codes "state unit; fun f(x: int): int = f(x, y);") ≡ Some (FirstFault WrongCount 1 34)
unfolding checked
count_of_a_call = refl

count_of_a_constructor : answer (codes "type a = A(int, int); state unit; fun f(x: int): a = A(y);") ≡ Some (FirstFault WrongCount 1 54)
unfolding checked
count_of_a_constructor = refl

count_of_a_constructor_alone : answer (codes "type a = A(int); state unit; fun f(x: int): a = A;") ≡ Some (FirstFault WrongCount 1 49)
unfolding checked
count_of_a_constructor_alone = refl

count_of_a_pattern : answer (codes
    "type a = A(int, int) | B; state unit; fun f(x: a): int = match x with | A(y) -> z | B -> 1 end;") ≡ Some (FirstFault WrongCount 1 73)
unfolding checked
count_of_a_pattern = refl

count_of_a_later_pattern : answer (codes
    "type a = A(int, int) | B; state unit; fun f(x: a): int = match x with | A(y, z) -> z | B(y) -> 1 end;") ≡ Some (FirstFault WrongCount 1 88)
unfolding checked
count_of_a_later_pattern = refl

-- The fourth pass: types of parts, each at the part's first token
add_of_a_first_bool : answer (codes "state unit; fun f(x: bool, y: int): int = add(x, y);") ≡ Some (FirstFault WrongType 1 47)
unfolding checked
add_of_a_first_bool = refl

sub_of_a_first_text : answer (codes "state unit; fun f(x: text, y: int): int = sub(x, y);") ≡ Some (FirstFault WrongType 1 47)
unfolding checked
sub_of_a_first_text = refl

mul_of_a_first_unit : answer (codes "state unit; fun f(x: unit, y: int): int = mul(x, y);") ≡ Some (FirstFault WrongType 1 47)
unfolding checked
mul_of_a_first_unit = refl

div_of_a_first_bool : answer (codes "state unit; fun f(x: bool, y: int): int = div(x, y);") ≡ Some (FirstFault WrongType 1 47)
unfolding checked
div_of_a_first_bool = refl

rem_of_a_first_bool : answer (codes "state unit; fun f(x: bool, y: int): int = rem(x, y);") ≡ Some (FirstFault WrongType 1 47)
unfolding checked
rem_of_a_first_bool = refl

eq_of_a_first_text : answer (codes "state unit; fun f(x: text, y: int): bool = eq(x, y);") ≡ Some (FirstFault WrongType 1 47)
unfolding checked
eq_of_a_first_text = refl

lt_of_a_first_bool : answer (codes "state unit; fun f(x: bool, y: int): bool = lt(x, y);") ≡ Some (FirstFault WrongType 1 47)
unfolding checked
lt_of_a_first_bool = refl

le_of_a_first_bool : answer (codes "state unit; fun f(x: bool, y: int): bool = le(x, y);") ≡ Some (FirstFault WrongType 1 47)
unfolding checked
le_of_a_first_bool = refl

teq_of_a_first_int : answer (codes "state unit; fun f(x: int, y: text): bool = teq(x, y);") ≡ Some (FirstFault WrongType 1 48)
unfolding checked
teq_of_a_first_int = refl

tlt_of_a_first_int : answer (codes "state unit; fun f(x: int, y: text): bool = tlt(x, y);") ≡ Some (FirstFault WrongType 1 48)
unfolding checked
tlt_of_a_first_int = refl

cat_of_a_first_int : answer (codes "state unit; fun f(x: int, y: text): text = cat(x, y);") ≡ Some (FirstFault WrongType 1 48)
unfolding checked
cat_of_a_first_int = refl

add_of_a_second_bool : answer (codes "state unit; fun f(x: int, y: bool): int = add(x, y);") ≡ Some (FirstFault WrongType 1 50)
unfolding checked
add_of_a_second_bool = refl

sub_of_a_second_bool : answer (codes "state unit; fun f(x: int, y: bool): int = sub(x, y);") ≡ Some (FirstFault WrongType 1 50)
unfolding checked
sub_of_a_second_bool = refl

mul_of_a_second_bool : answer (codes "state unit; fun f(x: int, y: bool): int = mul(x, y);") ≡ Some (FirstFault WrongType 1 50)
unfolding checked
mul_of_a_second_bool = refl

div_of_a_second_bool : answer (codes "state unit; fun f(x: int, y: bool): int = div(x, y);") ≡ Some (FirstFault WrongType 1 50)
unfolding checked
div_of_a_second_bool = refl

rem_of_a_second_bool : answer (codes "state unit; fun f(x: int, y: bool): int = rem(x, y);") ≡ Some (FirstFault WrongType 1 50)
unfolding checked
rem_of_a_second_bool = refl

eq_of_a_second_text : answer (codes "state unit; fun f(x: int, y: text): bool = eq(x, y);") ≡ Some (FirstFault WrongType 1 50)
unfolding checked
eq_of_a_second_text = refl

lt_of_a_second_bool : answer (codes "state unit; fun f(x: int, y: bool): bool = lt(x, y);") ≡ Some (FirstFault WrongType 1 50)
unfolding checked
lt_of_a_second_bool = refl

le_of_a_second_bool : answer (codes "state unit; fun f(x: int, y: bool): bool = le(x, y);") ≡ Some (FirstFault WrongType 1 50)
unfolding checked
le_of_a_second_bool = refl

teq_of_a_second_int : answer (codes "state unit; fun f(x: text, y: int): bool = teq(x, y);") ≡ Some (FirstFault WrongType 1 51)
unfolding checked
teq_of_a_second_int = refl

tlt_of_a_second_int : answer (codes "state unit; fun f(x: text, y: int): bool = tlt(x, y);") ≡ Some (FirstFault WrongType 1 51)
unfolding checked
tlt_of_a_second_int = refl

cat_of_a_second_int : answer (codes "state unit; fun f(x: text, y: int): text = cat(x, y);") ≡ Some (FirstFault WrongType 1 51)
unfolding checked
cat_of_a_second_int = refl

len_of_an_int : answer (codes "state unit; fun f(x: int): int = len(add(x, 1));") ≡ Some (FirstFault WrongType 1 38)
unfolding checked
len_of_an_int = refl

not_of_an_int : answer (codes "state unit; fun f(x: int): bool = not(x);") ≡ Some (FirstFault WrongType 1 39)
unfolding checked
not_of_an_int = refl

a_first_argument : answer (codes "state unit; fun f(x: int, y: bool): int = f(y, x);") ≡ Some (FirstFault WrongType 1 45)
unfolding checked
a_first_argument = refl

a_second_argument : answer (codes "state unit; fun f(x: int, y: bool): int = f(x, add(x, 1));") ≡ Some (FirstFault WrongType 1 48)
unfolding checked
a_second_argument = refl

a_field : answer (codes "type a = A(int, auth int); state unit; fun f(x: int): a = A(x, x);") ≡ Some (FirstFault WrongType 1 64)
unfolding checked
a_field = refl

a_condition : answer (codes "state unit; fun f(x: int): int = if x then x else x;") ≡ Some (FirstFault WrongType 1 37)
unfolding checked
a_condition = refl

an_else : answer (codes "state unit; fun f(x: int): int = if true then x else true;") ≡ Some (FirstFault WrongType 1 54)
unfolding checked
an_else = refl

a_later_arm : answer (codes "type a = A | B | C; state unit; fun f(x: a): int = match x with | A -> 1 | B -> true | C -> () end;") ≡ Some (FirstFault
    WrongType 1 81)
unfolding checked
a_later_arm = refl

a_body : answer (codes "state unit; fun f(x: int): auth int = x;") ≡ Some (FirstFault WrongType 1 39)
unfolding checked
a_body = refl

a_body_of_another_pair : answer (codes "state unit; fun f(x: int): (int, bool) = (x, x);") ≡ Some (FirstFault WrongType 1 42)
unfolding checked
a_body_of_another_pair = refl

a_body_of_another_named_type : answer (codes "type a = A; type b = B; state unit; fun f(x: int): a = B;") ≡ Some (FirstFault WrongType 1 56)
unfolding checked
a_body_of_another_named_type = refl

fst_of_an_int : answer (codes "state unit; fun f(x: int): int = fst(x);") ≡ Some (FirstFault NotPair 1 38)
unfolding checked
fst_of_an_int = refl

snd_of_an_auth : answer (codes "state unit; fun f(x: int): int = snd(auth((x, x)));") ≡ Some (FirstFault NotPair 1 38)
unfolding checked
snd_of_an_auth = refl

unauth_of_an_int : answer (codes "state unit; fun f(x: int): int = unauth(5);") ≡ Some (FirstFault NotAuth 1 41)
unfolding checked
unauth_of_an_int = refl

match_of_an_int : answer (codes "type a = A; state unit; fun f(x: int): int = match x with | A -> 1 end;") ≡ Some (FirstFault NotSum 1 52)
unfolding checked
match_of_an_int = refl

match_of_an_auth : answer (codes "type a = A; state unit; fun f(x: auth a): int = match x with | A -> 1 end;") ≡ Some (FirstFault NotSum 1 55)
unfolding checked
match_of_an_auth = refl

all_literals : is_program (codes "state unit; fun f(x: unit): (text, (int, (bool, (bool, unit)))) = (\"a\", (-1, (true, (false, ()))));") ≡ true
unfolding checked is_utf8 chars encode
all_literals = refl

a_text_for_an_int : answer (codes "state unit; fun f(x: unit): int = \"a\";") ≡ Some (FirstFault WrongType 1 35)
unfolding checked is_utf8 chars encode
a_text_for_an_int = refl

all_operations : is_program (codes
    "state unit; fun f(x: int, t: text, b: bool): (auth int, (bool, text)) = (auth(add(sub(x, 1), mul(div(x, 2), rem(x, 3)))), (if eq(x, 1) then not(lt(x, 1)) else if le(len(t), 1) then teq(t, t) else tlt(t, t), cat(t, t))); fun g(x: auth (int, bool)): bool = snd((fst(unauth(x)), snd(unauth(x))));") ≡ true
unfolding checked
all_operations = refl

-- The fourth pass: arms
an_arm_is_missing : answer (codes "type a = A | B; state unit; fun f(x: a): int = add(1, match x with | A -> 1 end);") ≡ Some (FirstFault ArmsWrong 1
    55)
unfolding checked
an_arm_is_missing = refl

an_arm_too_many : answer (codes "type a = A; type b = B; state unit; fun f(x: a): int = match x with | A -> 1 | B -> y end;") ≡ Some (FirstFault
    ArmsWrong 1 56)
unfolding checked
an_arm_too_many = refl

arms_in_another_order : answer (codes "type a = A | B; state unit; fun f(x: a): int = match x with | B -> 1 | A -> 1 end;") ≡ Some (FirstFault
    ArmsWrong 1 48)
unfolding checked
arms_in_another_order = refl

arms_of_another_type : answer (codes "type a = A; type b = B; state unit; fun f(x: a): int = match x with | B -> 1 end;") ≡ Some (FirstFault ArmsWrong
    1 56)
unfolding checked
arms_of_another_type = refl

a_name_stands_twice_in_a_pattern : answer (codes
    "type a = A(int, int, int); state unit; fun f(x: a): int = match x with | A(y, z, y) -> 1 end;") ≡ Some (FirstFault Twice 1 82)
unfolding checked
a_name_stands_twice_in_a_pattern = refl

a_name_stands_in_two_patterns : is_program (codes
    "type a = A(int) | B(int, a); state unit; fun f(x: a): int = match x with | A(y) -> y | B(y, z) -> match z with | A(y) -> y | B(z, y) -> z end end;") ≡ true
unfolding checked
a_name_stands_in_two_patterns = refl

-- The first fault of the first pass that has one
first_pass_before_second : answer (codes "state b; fun f(x: int): int = x; fun f(x: int): int = x;") ≡ Some (FirstFault Twice 1 38)
unfolding checked
first_pass_before_second = refl

no_state_before_second : answer (codes "type a = A(b);") ≡ Some (FirstFault NoState 1 15)
unfolding checked
no_state_before_second = refl

second_pass_before_third : answer (codes "state unit; init f(x: int): int = x; fun g(x: a): int = 1;") ≡ Some (FirstFault UnknownName 1 47)
unfolding checked
second_pass_before_third = refl

third_pass_before_fourth : answer (codes "state unit; fun f(x: int): int = y; init g(x: int): int = 1;") ≡ Some (FirstFault RoleShape 1 42)
unfolding checked
third_pass_before_fourth = refl

first_pass_by_place : answer (codes "state unit; state int; type a = A; type a = A; fun f(x: int, x: int): int = x;") ≡ Some (FirstFault Twice 1 13)
unfolding checked
first_pass_by_place = refl

twice_before_no_state : answer (codes "type a = A; type a = B;") ≡ Some (FirstFault Twice 1 18)
unfolding checked
twice_before_no_state = refl

parameter_before_constructor : answer (codes "fun f(x: int, x: int): int = x; type a = A | A;") ≡ Some (FirstFault Twice 1 15)
unfolding checked
parameter_before_constructor = refl

constructor_before_parameter : answer (codes "type a = A | A; fun f(x: int, x: int): int = x;") ≡ Some (FirstFault Twice 1 14)
unfolding checked
constructor_before_parameter = refl

second_pass_by_place : answer (codes "state unit; fun f(x: a, y: b): c = 1; type d = D(e);") ≡ Some (FirstFault UnknownName 1 22)
unfolding checked
second_pass_by_place = refl

third_pass_by_place : answer (codes "state unit; init f(x: auth int): unit = (); init g(x: int): int = 1;") ≡ Some (FirstFault AuthInArgument 1 23)
unfolding checked
third_pass_by_place = refl

fourth_pass_by_place : answer (codes "state unit; fun f(x: int): int = add(true, y); fun g(x: int): int = z;") ≡ Some (FirstFault WrongType 1 38)
unfolding checked
fourth_pass_by_place = refl

a_part_before_the_whole : answer (codes "state unit; fun f(x: int): text = add(x, y);") ≡ Some (FirstFault UnknownName 1 42)
unfolding checked
a_part_before_the_whole = refl

a_first_operand_before_a_second_part : answer (codes "state unit; fun f(x: int): int = add(true, add(y, z));") ≡ Some (FirstFault WrongType 1 38)
unfolding checked
a_first_operand_before_a_second_part = refl

a_condition_before_its_branches : answer (codes "state unit; fun f(x: int): int = if 1 then y else z;") ≡ Some (FirstFault WrongType 1 37)
unfolding checked
a_condition_before_its_branches = refl

arms_before_a_body : answer (codes "type a = A | B; state unit; fun f(x: a): int = match x with | A -> y end;") ≡ Some (FirstFault ArmsWrong 1 48)
unfolding checked
arms_before_a_body = refl

a_count_before_a_name : answer (codes
    "type a = A(int) | B; state unit; fun f(x: a): int = match x with | A(y, y) -> z | B -> 1 end;") ≡ Some (FirstFault WrongCount 1 68)
unfolding checked
a_count_before_a_name = refl

a_name_before_a_body : answer (codes "type a = A(int, int); state unit; fun f(x: a): int = match x with | A(y, y) -> z end;") ≡ Some (FirstFault Twice
    1 74)
unfolding checked
a_name_before_a_body = refl

-- a search tree: from keys to values
abbrev bst : List ℕ
bst =
    codes "type tree = Leaf | Node(int, int, auth tree, auth tree);\n"
    ++ codes "type found = Missing | Found(int);\n"
    ++ codes "state auth tree;\n"
    ++ codes "fun look(t: auth tree, k: int): found = match unauth(t) with | Leaf -> Missing\n"
    ++ codes "  | Node(a, v, l, r) -> if eq(k, a) then Found(v) else if lt(k, a) then look(l, k) else look(r, k) end;\n"
    ++ codes "fun ins(t: auth tree, k: int, v: int): auth tree = match unauth(t) with\n"
    ++ codes "  | Leaf -> auth(Node(k, v, auth(Leaf), auth(Leaf)))\n"
    ++ codes "  | Node(a, w, l, r) -> if eq(k, a) then auth(Node(a, v, l, r))\n"
    ++ codes "      else if lt(k, a) then auth(Node(a, w, ins(l, k, v), r)) else auth(Node(a, w, l, ins(r, k, v))) end;\n"
    ++ codes "init empty(x: unit): auth tree = auth(Leaf);\n"
    ++ codes "query get(s: auth tree, k: int): found = look(s, k);\n"
    ++ codes "update put(s: auth tree, e: (int, int)): (auth tree, unit) = (ins(s, fst(e), snd(e)), ());\n"

bst_is_a_program : is_program bst ≡ true
unfolding checked
bst_is_a_program = refl

-- a list of 2 to the power of d ints, as a tree
abbrev merkle : List ℕ
merkle =
    codes "type tree = Tip(int) | Fork(auth tree, auth tree);\n"
    ++ codes "type found = Missing | Found(int);\n"
    ++ codes "state (int, auth tree);\n"
    ++ codes "fun full(d: int): int = if le(d, 0) then 1 else mul(2, full(sub(d, 1)));\n"
    ++ codes "fun fill(n: int, v: int): auth tree = if le(n, 1) then auth(Tip(v))\n"
    ++ codes "  else let t = fill(div(n, 2), v) in auth(Fork(t, t));\n"
    ++ codes "fun look(t: auth tree, n: int, i: int): found = match unauth(t) with | Tip(v) -> Found(v)\n"
    ++ codes "  | Fork(l, r) -> let h = div(n, 2) in if lt(i, h) then look(l, h, i) else look(r, h, sub(i, h)) end;\n"
    ++ codes "fun change(t: auth tree, n: int, i: int, v: int): auth tree = match unauth(t) with | Tip(w) -> auth(Tip(v))\n"
    ++ codes "  | Fork(l, r) -> let h = div(n, 2) in if lt(i, h) then auth(Fork(change(l, h, i, v), r))\n"
    ++ codes "      else auth(Fork(l, change(r, h, sub(i, h), v))) end;\n"
    ++ codes "init make(x: (int, int)): (int, auth tree) =\n"
    ++ codes "  let d = if lt(fst(x), 0) then 0 else if lt(30, fst(x)) then 30 else fst(x) in\n"
    ++ codes "  let n = full(d) in (n, fill(n, snd(x)));\n"
    ++ codes "query get(s: (int, auth tree), i: int): found = if lt(i, 0) then Missing\n"
    ++ codes "  else if le(fst(s), i) then Missing else look(snd(s), fst(s), i);\n"
    ++ codes "update put(s: (int, auth tree), e: (int, int)): ((int, auth tree), unit) = if lt(fst(e), 0) then (s, ())\n"
    ++ codes "  else if le(fst(s), fst(e)) then (s, ()) else ((fst(s), change(snd(s), fst(s), fst(e), snd(e))), ());\n"

merkle_is_a_program : is_program merkle ≡ true
unfolding checked
merkle_is_a_program = refl
