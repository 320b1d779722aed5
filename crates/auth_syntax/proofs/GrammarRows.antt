-- The definitions, computed on texts.
use Rattle.std.proofs.Common.{◌≡◌, refl}
use Rattle.std.specs.Prelude.{ℕ, zero, suc, Bool, true, false, List, [], ◌∷◌, ◌++◌, Option, Some, None, codes}
use Rattle.std.specs.Str.{is_utf8, chars}
use lib.Utf8.{encode}
use Rattle.auth_syntax.specs.Parsing.{Parsed, Tree, FirstFault, parsed}
use Rattle.lexemes.specs.declared.fault.SyntaxKind.{SyntaxKind}
use Rattle.lexemes.specs.declared.fault.SyntaxKind.TheVariants.{Lexical, Expected, TooNested}
use Rattle.lexemes.specs.declared.fault.LexicalFault.TheVariants as lexical

abbrev is_tree : Parsed → Bool
is_tree (Tree program) = true
is_tree (FirstFault kind at) = false

-- a first fault, by its line and column
abbrev fault_of : Parsed → Option (SyntaxKind × ℕ × ℕ)
fault_of (Tree program) = None
fault_of (FirstFault kind at) = Some (kind, at.line, at.column)

-- a text so many times
abbrev pub repeated : ℕ → List ℕ → List ℕ
repeated zero text = []
repeated (suc n) text = text ++ repeated n text

-- a text in a line of a longer one
abbrev on_first : List ℕ → List ℕ
on_first text = text ++ codes "\nstate unit;"

abbrev on_middle : List ℕ → List ℕ
on_middle text = codes "state unit;\n  " ++ text ++ codes "\nstate unit;"

abbrev on_last : List ℕ → List ℕ
on_last text = codes "state unit;\nstate unit;\n " ++ text

-- lines, each with its end
abbrev lines : List (List ℕ) → List ℕ
lines [] = []
lines (line ∷ rest) = line ++ codes "\n" ++ lines rest

nothing_is_a_program : is_tree (parsed (codes "")) ≡ true
nothing_is_a_program = refl

comment_without_an_end_of_line : is_tree (parsed (codes "state unit; # x")) ≡ true
comment_without_an_end_of_line = refl

each_simple_type : is_tree (parsed (codes "query f(a: unit, b: bool, c: int, d: text, e: t, f: auth int, g: (int, auth t)): unit = ();")) ≡ true
each_simple_type = refl

named_types : is_tree (parsed (codes "type t = A | B(int) | C(t, auth t, text);")) ≡ true
named_types = refl

each_kind_of_function : is_tree (parsed (codes "fun f(x: int): int = x; init g(x: int): int = x; query h(x: int): int = x; update i(x: int): int = x;")) ≡ true
each_kind_of_function = refl

literals : is_tree (parsed (codes "query f(x: int): t = g((), true, false, 0, -7, 007);")) ≡ true
literals = refl

texts : is_tree (parsed (codes "query f(x: int): text = \"a\\\"\\x41\";")) ≡ true
unfolding is_utf8 chars encode
texts = refl

calls_and_constructors : is_tree (parsed (codes "query f(x: int): t = A(B, C(x, f(x)), g(x, h(x)));")) ≡ true
calls_and_constructors = refl

unary_operations : is_tree (parsed (codes "query f(x: int): t = A(fst(x), snd(x), auth(x), unauth(x), len(x), not(x));")) ≡ true
unary_operations = refl

binary_operations : is_tree (parsed (codes "query f(x: int): t = A(add(x, x), sub(x, x), mul(x, x), div(x, x), rem(x, x), eq(x, x), lt(x, x), le(x, x), teq(x, x), tlt(x, x), cat(x, x));")) ≡ true
binary_operations = refl

let_if_and_match : is_tree (parsed (codes "query f(x: int): t = let y = (x, x) in if y then match y with | A -> x | B(a) -> a | C(a, b) -> b end else ((), y);")) ≡ true
let_if_and_match = refl

auths_100 : is_tree (parsed (codes "query f(x: t): t = " ++ repeated 99 (codes "auth(") ++ codes "x" ++ repeated 99 (codes ")") ++ codes ";")) ≡ true
auths_100 = refl

auths_101 : fault_of (parsed (codes "query f(x: t): t = " ++ repeated 100 (codes "auth(") ++ codes "x" ++ repeated 100 (codes ")") ++ codes ";")) ≡ Some (TooNested, 1, 520)
auths_101 = refl

auth_types_100 : is_tree (parsed (codes "state " ++ repeated 99 (codes "auth ") ++ codes "unit" ++ repeated 99 (codes "") ++ codes ";")) ≡ true
auth_types_100 = refl

auth_types_101 : fault_of (parsed (codes "state " ++ repeated 100 (codes "auth ") ++ codes "unit" ++ repeated 100 (codes "") ++ codes ";")) ≡ Some (TooNested, 1, 507)
auth_types_101 = refl

pair_types_100 : is_tree (parsed (codes "state " ++ repeated 99 (codes "(int, ") ++ codes "unit" ++ repeated 99 (codes ")") ++ codes ";")) ≡ true
pair_types_100 = refl

pair_types_101 : fault_of (parsed (codes "state " ++ repeated 100 (codes "(int, ") ++ codes "unit" ++ repeated 100 (codes ")") ++ codes ";")) ≡ Some (TooNested, 1, 602)
pair_types_101 = refl

pairs_100 : is_tree (parsed (codes "query f(x: t): t = " ++ repeated 99 (codes "((), ") ++ codes "x" ++ repeated 99 (codes ")") ++ codes ";")) ≡ true
pairs_100 = refl

pairs_101 : fault_of (parsed (codes "query f(x: t): t = " ++ repeated 100 (codes "((), ") ++ codes "x" ++ repeated 100 (codes ")") ++ codes ";")) ≡ Some (TooNested, 1, 516)
pairs_101 = refl

lets_100 : is_tree (parsed (codes "query f(x: t): t = " ++ repeated 99 (codes "let y = x in ") ++ codes "x" ++ repeated 99 (codes "") ++ codes ";")) ≡ true
lets_100 = refl

lets_101 : fault_of (parsed (codes "query f(x: t): t = " ++ repeated 100 (codes "let y = x in ") ++ codes "x" ++ repeated 100 (codes "") ++ codes ";")) ≡ Some (TooNested, 1, 1315)
lets_101 = refl

matches_100 : is_tree (parsed (codes "query f(x: t): t = " ++ repeated 99 (codes "match x with | A -> ") ++ codes "x" ++ repeated 99 (codes " end") ++ codes ";")) ≡ true
matches_100 = refl

matches_101 : fault_of (parsed (codes "query f(x: t): t = " ++ repeated 100 (codes "match x with | A -> ") ++ codes "x" ++ repeated 100 (codes " end") ++ codes ";")) ≡ Some (TooNested, 1, 2006)
matches_101 = refl

nothing_begins_at_level_101 : fault_of (parsed (codes "state " ++ repeated 100 (codes "auth ") ++ codes ";")) ≡ Some (Expected, 1, 507)
nothing_begins_at_level_101 = refl

no_expression_begins_at_level_101 : fault_of (parsed (codes "query f(x: t): t = " ++ repeated 100 (codes "auth(") ++ codes ")")) ≡ Some (Expected, 1, 520)
no_expression_begins_at_level_101 = refl

char_at_the_first_line : fault_of (parsed (on_first (codes "$"))) ≡ Some ((Lexical lexical.Char), 1, 1)
char_at_the_first_line = refl

char_at_a_middle_line : fault_of (parsed (on_middle (codes "$"))) ≡ Some ((Lexical lexical.Char), 2, 3)
char_at_a_middle_line = refl

char_at_the_last_line : fault_of (parsed (on_last (codes "$"))) ≡ Some ((Lexical lexical.Char), 3, 2)
char_at_the_last_line = refl

bad_escape_at_the_first_line : fault_of (parsed (on_first (codes "\"a\\q\""))) ≡ Some ((Lexical lexical.BadEscape), 1, 3)
bad_escape_at_the_first_line = refl

bad_escape_at_a_middle_line : fault_of (parsed (on_middle (codes "\"a\\q\""))) ≡ Some ((Lexical lexical.BadEscape), 2, 5)
bad_escape_at_a_middle_line = refl

bad_escape_at_the_last_line : fault_of (parsed (on_last (codes "\"a\\q\""))) ≡ Some ((Lexical lexical.BadEscape), 3, 4)
bad_escape_at_the_last_line = refl

utf8_at_the_first_line : fault_of (parsed (on_first (codes "\"" ++ 255 ∷ codes "\""))) ≡ Some ((Lexical lexical.Utf8), 1, 1)
unfolding is_utf8 chars encode
utf8_at_the_first_line = refl

utf8_at_a_middle_line : fault_of (parsed (on_middle (codes "\"" ++ 255 ∷ codes "\""))) ≡ Some ((Lexical lexical.Utf8), 2, 3)
unfolding is_utf8 chars encode
utf8_at_a_middle_line = refl

utf8_at_the_last_line : fault_of (parsed (on_last (codes "\"" ++ 255 ∷ codes "\""))) ≡ Some ((Lexical lexical.Utf8), 3, 2)
unfolding is_utf8 chars encode
utf8_at_the_last_line = refl

number_range_at_the_first_line : fault_of (parsed (on_first (codes "9223372036854775808"))) ≡ Some ((Lexical lexical.NumberRange), 1, 1)
number_range_at_the_first_line = refl

number_range_at_a_middle_line : fault_of (parsed (on_middle (codes "9223372036854775808"))) ≡ Some ((Lexical lexical.NumberRange), 2, 3)
number_range_at_a_middle_line = refl

number_range_at_the_last_line : fault_of (parsed (on_last (codes "9223372036854775808"))) ≡ Some ((Lexical lexical.NumberRange), 3, 2)
number_range_at_the_last_line = refl

name_long_at_the_first_line : fault_of (parsed (on_first (repeated 65 (codes "a")))) ≡ Some ((Lexical lexical.NameLong), 1, 1)
name_long_at_the_first_line = refl

name_long_at_a_middle_line : fault_of (parsed (on_middle (repeated 65 (codes "a")))) ≡ Some ((Lexical lexical.NameLong), 2, 3)
name_long_at_a_middle_line = refl

name_long_at_the_last_line : fault_of (parsed (on_last (repeated 65 (codes "a")))) ≡ Some ((Lexical lexical.NameLong), 3, 2)
name_long_at_the_last_line = refl

expected_at_the_first_line : fault_of (parsed (on_first (codes ";"))) ≡ Some (Expected, 1, 1)
expected_at_the_first_line = refl

expected_at_a_middle_line : fault_of (parsed (on_middle (codes ";"))) ≡ Some (Expected, 2, 3)
expected_at_a_middle_line = refl

expected_at_the_last_line : fault_of (parsed (on_last (codes ";"))) ≡ Some (Expected, 3, 2)
expected_at_the_last_line = refl

too_nested_at_the_first_line : fault_of (parsed (on_first (codes "state " ++ repeated 100 (codes "auth ") ++ codes "unit;"))) ≡ Some (TooNested, 1, 507)
too_nested_at_the_first_line = refl

too_nested_at_a_middle_line : fault_of (parsed (on_middle (codes "state " ++ repeated 100 (codes "auth ") ++ codes "unit;"))) ≡ Some (TooNested, 2, 509)
too_nested_at_a_middle_line = refl

too_nested_at_the_last_line : fault_of (parsed (on_last (codes "state " ++ repeated 100 (codes "auth ") ++ codes "unit;"))) ≡ Some (TooNested, 3, 508)
too_nested_at_the_last_line = refl

text_long_at_the_first_line : fault_of (parsed (on_first (codes "\"" ++ repeated 65533 (codes "a") ++ codes "\""))) ≡ Some ((Lexical lexical.TextLong), 1, 1)
unfolding is_utf8 chars encode
text_long_at_the_first_line = refl

text_long_at_a_middle_line : fault_of (parsed (on_middle (codes "\"" ++ repeated 65533 (codes "a") ++ codes "\""))) ≡ Some ((Lexical lexical.TextLong), 2, 3)
unfolding is_utf8 chars encode
text_long_at_a_middle_line = refl

text_long_at_the_last_line : fault_of (parsed (on_last (codes "\"" ++ repeated 65533 (codes "a") ++ codes "\""))) ≡ Some ((Lexical lexical.TextLong), 3, 2)
unfolding is_utf8 chars encode
text_long_at_the_last_line = refl

longest_text : is_tree (parsed (codes "query f(x: int): text = \"" ++ repeated 65532 (codes "a") ++ codes "\";")) ≡ true
unfolding is_utf8 chars encode
longest_text = refl

unclosed_at_the_only_line : fault_of (parsed (codes "\"abc")) ≡ Some ((Lexical lexical.Unclosed), 1, 1)
unclosed_at_the_only_line = refl

unclosed_at_the_last_line : fault_of (parsed (on_last (codes "\"abc"))) ≡ Some ((Lexical lexical.Unclosed), 3, 2)
unclosed_at_the_last_line = refl

a_text_ends_on_its_line : fault_of (parsed (on_middle (codes "\"abc"))) ≡ Some ((Lexical lexical.Char), 2, 7)
a_text_ends_on_its_line = refl

escape_is_cut_by_the_end : fault_of (parsed (on_last (codes "\"a\\"))) ≡ Some ((Lexical lexical.BadEscape), 3, 4)
escape_is_cut_by_the_end = refl

end_is_expected : fault_of (parsed (codes "state unit")) ≡ Some (Expected, 1, 11)
end_is_expected = refl

a_name_is_no_declaration : fault_of (parsed (codes "abc")) ≡ Some (Expected, 1, 1)
a_name_is_no_declaration = refl

let_is_no_declaration : fault_of (parsed (codes "let")) ≡ Some (Expected, 1, 1)
let_is_no_declaration = refl

a_call_has_an_argument : fault_of (parsed (codes "query f(x: int): int = f();")) ≡ Some (Expected, 1, 26)
a_call_has_an_argument = refl

a_match_has_an_arm : fault_of (parsed (codes "query f(x: int): int = match x with end;")) ≡ Some (Expected, 1, 37)
a_match_has_an_arm = refl

a_function_has_a_parameter : fault_of (parsed (codes "query f(): int = 1;")) ≡ Some (Expected, 1, 9)
a_function_has_a_parameter = refl

no_grouping : fault_of (parsed (codes "query f(x: int): int = (x);")) ≡ Some (Expected, 1, 26)
no_grouping = refl

-- a format, and arrays, which the second one has
the_first_format : is_tree (parsed (codes "format 1; state unit;")) ≡ true
the_first_format = refl

a_format_with_a_leading_zero : is_tree (parsed (codes "format 02; state unit;")) ≡ true
a_format_with_a_leading_zero = refl

there_is_no_third_format : fault_of (parsed (codes "format 3;")) ≡ Some (Expected, 1, 8)
there_is_no_third_format = refl

a_format_is_a_number : fault_of (parsed (codes "format x;")) ≡ Some (Expected, 1, 8)
a_format_is_a_number = refl

a_format_ends_with_a_semicolon : fault_of (parsed (codes "format 2")) ≡ Some (Expected, 1, 9)
a_format_ends_with_a_semicolon = refl

one_format_is_told : fault_of (parsed (codes "format 2; format 2;")) ≡ Some (Expected, 1, 11)
one_format_is_told = refl

format_is_a_name_elsewhere : is_tree (parsed (codes "state unit; fun format(x: int): int = x;")) ≡ true
format_is_a_name_elsewhere = refl

an_array_and_its_element : is_tree (parsed (codes "format 2; state vec[2] int; query at(s: vec[2] int, i: int): int = vget(s, i);")) ≡ true
an_array_and_its_element = refl

an_array_that_is_filled : is_tree (parsed (codes "format 2; query f(x: int): vec[3] int = vfill[3](x);")) ≡ true
an_array_that_is_filled = refl

an_array_with_another_element : is_tree (parsed (codes "format 2; query f(x: vec[64] (int, vec[1] text)): vec[64] (int, vec[1] text) = vput(x, 0, vget(x, 1));")) ≡ true
an_array_with_another_element = refl

an_array_has_an_element : fault_of (parsed (codes "format 2; state vec[0] int;")) ≡ Some ((Lexical lexical.NumberRange), 1, 21)
an_array_has_an_element = refl

an_array_has_at_most_64_elements : fault_of (parsed (codes "format 2; state vec[65] int;")) ≡ Some ((Lexical lexical.NumberRange), 1, 21)
an_array_has_at_most_64_elements = refl

a_length_is_not_negative : fault_of (parsed (codes "format 2; state vec[-2] int;")) ≡ Some ((Lexical lexical.NumberRange), 1, 21)
a_length_is_not_negative = refl

a_filled_array_has_at_most_64_elements : fault_of (parsed (codes "format 2; query f(x: int): int = vfill[65](x);")) ≡ Some ((Lexical lexical.NumberRange), 1, 40)
a_filled_array_has_at_most_64_elements = refl

an_array_has_a_length : fault_of (parsed (codes "format 2; state vec int;")) ≡ Some (Expected, 1, 21)
an_array_has_a_length = refl

a_length_is_an_int : fault_of (parsed (codes "format 2; state vec[n] int;")) ≡ Some (Expected, 1, 21)
a_length_is_an_int = refl

vfill_has_one_operand : fault_of (parsed (codes "format 2; query f(x: int): int = vfill[2](x, x);")) ≡ Some (Expected, 1, 44)
vfill_has_one_operand = refl

vget_has_two_operands : fault_of (parsed (codes "format 2; query f(x: int): int = vget(x);")) ≡ Some (Expected, 1, 40)
vget_has_two_operands = refl

vput_has_no_fourth_operand : fault_of (parsed (codes "format 2; query f(x: int): int = vput(x, x, x, x);")) ≡ Some (Expected, 1, 46)
vput_has_no_fourth_operand = refl

their_words_are_names_in_the_first_format : is_tree (parsed (codes "type vec = A; fun vget(vput: vec, vfill: vec): vec = vput;")) ≡ true
their_words_are_names_in_the_first_format = refl

but_not_in_the_second : fault_of (parsed (codes "format 2; fun vget(x: int): int = x;")) ≡ Some (Expected, 1, 15)
but_not_in_the_second = refl

no_brackets_where_no_format_is_told : fault_of (parsed (codes "state vec[2] int;")) ≡ Some ((Lexical lexical.Char), 1, 10)
no_brackets_where_no_format_is_told = refl

no_brackets_in_the_first_format : fault_of (parsed (codes "format 1; state vec[2] int;")) ≡ Some ((Lexical lexical.Char), 1, 20)
no_brackets_in_the_first_format = refl

-- an authenticated search tree
abbrev search_tree : List (List ℕ)
search_tree =
    codes "type tree = Leaf | Node(int, int, auth tree, auth tree);"
    ∷ codes "type found = Missing | Found(int);"
    ∷ codes "state auth tree;"
    ∷ codes "fun look(t: auth tree, k: int): found = match unauth(t) with | Leaf -> Missing"
    ∷ codes "  | Node(a, v, l, r) -> if eq(k, a) then Found(v) else if lt(k, a) then look(l, k) else look(r, k) end;"
    ∷ codes "fun ins(t: auth tree, k: int, v: int): auth tree = match unauth(t) with"
    ∷ codes "  | Leaf -> auth(Node(k, v, auth(Leaf), auth(Leaf)))"
    ∷ codes "  | Node(a, w, l, r) -> if eq(k, a) then auth(Node(a, v, l, r))"
    ∷ codes "      else if lt(k, a) then auth(Node(a, w, ins(l, k, v), r)) else auth(Node(a, w, l, ins(r, k, v))) end;"
    ∷ codes "init empty(x: unit): auth tree = auth(Leaf);"
    ∷ codes "query get(s: auth tree, k: int): found = look(s, k);"
    ∷ codes "update put(s: auth tree, e: (int, int)): (auth tree, unit) = (ins(s, fst(e), snd(e)), ());"
    ∷ []

search_tree_is_a_program : is_tree (parsed (lines search_tree)) ≡ true
search_tree_is_a_program = refl

-- an authenticated list of 2^d ints
abbrev tree_of_ints : List (List ℕ)
tree_of_ints =
    codes "type tree = Tip(int) | Fork(auth tree, auth tree);"
    ∷ codes "type found = Missing | Found(int);"
    ∷ codes "state (int, auth tree);"
    ∷ codes "fun full(d: int): int = if le(d, 0) then 1 else mul(2, full(sub(d, 1)));"
    ∷ codes "fun fill(n: int, v: int): auth tree = if le(n, 1) then auth(Tip(v))"
    ∷ codes "  else let t = fill(div(n, 2), v) in auth(Fork(t, t));"
    ∷ codes "fun look(t: auth tree, n: int, i: int): found = match unauth(t) with | Tip(v) -> Found(v)"
    ∷ codes "  | Fork(l, r) -> let h = div(n, 2) in if lt(i, h) then look(l, h, i) else look(r, h, sub(i, h)) end;"
    ∷ codes "fun change(t: auth tree, n: int, i: int, v: int): auth tree = match unauth(t) with | Tip(w) -> auth(Tip(v))"
    ∷ codes "  | Fork(l, r) -> let h = div(n, 2) in if lt(i, h) then auth(Fork(change(l, h, i, v), r))"
    ∷ codes "      else auth(Fork(l, change(r, h, sub(i, h), v))) end;"
    ∷ codes "init make(x: (int, int)): (int, auth tree) ="
    ∷ codes "  let d = if lt(fst(x), 0) then 0 else if lt(30, fst(x)) then 30 else fst(x) in"
    ∷ codes "  let n = full(d) in (n, fill(n, snd(x)));"
    ∷ codes "query get(s: (int, auth tree), i: int): found = if lt(i, 0) then Missing"
    ∷ codes "  else if le(fst(s), i) then Missing else look(snd(s), fst(s), i);"
    ∷ codes "update put(s: (int, auth tree), e: (int, int)): ((int, auth tree), unit) = if lt(fst(e), 0) then (s, ())"
    ∷ codes "  else if le(fst(s), fst(e)) then (s, ()) else ((fst(s), change(snd(s), fst(s), fst(e), snd(e))), ());"
    ∷ []

tree_of_ints_is_a_program : is_tree (parsed (lines tree_of_ints)) ≡ true
tree_of_ints_is_a_program = refl
