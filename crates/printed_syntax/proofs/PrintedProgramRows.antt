-- The printed text of programs, computed.
use Rattle.std.proofs.Common.{◌≡◌, refl}
use Rattle.std.specs.Prelude.{ℕ, ℤ, pos, negsuc, List, [], ◌∷◌, ◌++◌, codes, true, false, Some, None}
use Rattle.std.specs.Fmt.{digits}
use Rattle.std.specs.Str.{is_utf8, chars}
use Rattle.hex.specs.Hex.{encode_with}
use lib.Utf8.{encode}
use Rattle.lexemes.specs.Places.{start}
use Rattle.core_terms.specs.declared.format.Format.TheVariants.{Second}
use Rattle.core_terms.specs.declared.term.BinaryOperator.TheVariants.{TextCompare}
use Rattle.core_terms.specs.declared.term.TextCompare.TheVariants.{Lt as TLt}
use Rattle.lexemes.specs.declared.token.Keyword.TheVariants as keyword
use Rattle.lexemes.specs.declared.token.Mark.TheVariants as mark
use Rattle.lexemes.specs.Tokens.{KeywordToken, MarkToken, LowerToken, UpperToken, IntToken}
use Rattle.auth_syntax.specs.Syntax.{NameSyntax, TypeSyntax, UnitTypeSyntax, AuthTypeSyntax, IntTypeSyntax, PairTypeSyntax, UnauthOperation, AuthOperation, IntSyntax, TextSyntax, LocalSyntax, UnarySyntax, InitSyntax, QuerySyntax, StateDeclaration, FunctionDeclaration}
use Rattle.auth_syntax.specs.Grammar.{expression_tokens, type_tokens}
use Rattle.auth_syntax.specs.Parsing.{Parsed, Tree, FirstFault, parsed}
use Rattle.printed_syntax.specs.PrintedPrograms.{are_apart, in_line, program_text}

-- a text as it is printed once it is parsed
abbrev printed_tree : Parsed → List ℕ
printed_tree (Tree program) = program_text program
printed_tree (FirstFault kind at) = codes "fault"

abbrev printed_again : List ℕ → List ℕ
printed_again text = printed_tree (parsed text)

abbrev lines : List (List ℕ) → List ℕ
lines [] = []
lines (line ∷ rest) = line ++ codes "\n" ++ lines rest

-- where blanks stand
words_apart : are_apart (KeywordToken keyword.State) (KeywordToken keyword.Auth) ≡ true
words_apart = refl

none_behind_left_parenthesis : are_apart (MarkToken mark.LeftParenthesis) (LowerToken (codes "x")) ≡ false
none_behind_left_parenthesis = refl

none_before_right_parenthesis : are_apart (LowerToken (codes "x")) (MarkToken mark.RightParenthesis) ≡ false
none_before_right_parenthesis = refl

none_behind_an_applied_name : are_apart (UpperToken (codes "Node")) (MarkToken mark.LeftParenthesis) ≡ false
none_behind_an_applied_name = refl

none_behind_an_operation : are_apart (KeywordToken (keyword.Binary (TextCompare TLt))) (MarkToken mark.LeftParenthesis) ≡ false
none_behind_an_operation = refl

one_behind_another_word : are_apart (KeywordToken keyword.In) (MarkToken mark.LeftParenthesis) ≡ true
one_behind_another_word = refl

one_behind_an_int : are_apart (IntToken (pos 1)) (MarkToken mark.LeftParenthesis) ≡ true
one_behind_an_int = refl

one_before_an_arrow : are_apart (MarkToken mark.RightParenthesis) (MarkToken mark.Arrow) ≡ true
one_before_an_arrow = refl

one_before_an_equals_sign : are_apart (LowerToken (codes "x")) (MarkToken mark.EqualsSign) ≡ true
one_before_an_equals_sign = refl

one_behind_a_comma : are_apart (MarkToken mark.Comma) (MarkToken mark.LeftParenthesis) ≡ true
one_behind_a_comma = refl

-- beside brackets
none_before_a_left_bracket : are_apart (KeywordToken keyword.Vec) (MarkToken mark.LeftBracket) ≡ false
none_before_a_left_bracket = refl

none_behind_a_left_bracket : are_apart (MarkToken mark.LeftBracket) (IntToken (pos 2)) ≡ false
none_behind_a_left_bracket = refl

none_before_a_right_bracket : are_apart (IntToken (pos 2)) (MarkToken mark.RightBracket) ≡ false
none_before_a_right_bracket = refl

one_behind_a_right_bracket : are_apart (MarkToken mark.RightBracket) (MarkToken mark.LeftParenthesis) ≡ true
one_behind_a_right_bracket = refl

one_behind_an_operation_on_arrays : are_apart (KeywordToken keyword.VecGet) (MarkToken mark.LeftParenthesis) ≡ true
one_behind_an_operation_on_arrays = refl

-- three declarations, by their tree
at_start : List ℕ → NameSyntax
at_start name = record { at = start; name = name }

auth_unit : TypeSyntax
auth_unit = AuthTypeSyntax start (UnitTypeSyntax start)

three_declarations : program_text (record {
  format = None;
  declarations =
      StateDeclaration start auth_unit
      ∷ FunctionDeclaration start (record {
        kind = InitSyntax;
        name = at_start (codes "make");
        parameters = record { name = at_start (codes "x"); of_type = UnitTypeSyntax start } ∷ [];
        result_type = auth_unit;
        body = UnarySyntax start AuthOperation (LocalSyntax start (codes "x"));
      })
      ∷ FunctionDeclaration start (record {
        kind = QuerySyntax;
        name = at_start (codes "open");
        parameters = record { name = at_start (codes "s"); of_type = auth_unit } ∷ record { name = at_start (codes "x"); of_type = UnitTypeSyntax start } ∷ [];
        result_type = UnitTypeSyntax start;
        body = UnarySyntax start UnauthOperation (LocalSyntax start (codes "s"));
      })
      ∷ [];
  end = start;
}) ≡ lines (
    codes "state auth unit;"
    ∷ codes "init make(x: unit): auth unit = auth(x);"
    ∷ codes "query open(s: auth unit, x: unit): unit = unauth(s);"
    ∷ [])
unfolding at_start auth_unit
three_declarations = refl

no_declarations : program_text (record { format = None; declarations = []; end = start }) ≡ []
no_declarations = refl

-- a format that is told
second_format : program_text (record { format = Some Second; declarations = StateDeclaration start auth_unit ∷ []; end = start })
    ≡ lines (codes "format 2;" ∷ codes "state auth unit;" ∷ [])
unfolding auth_unit digits
second_format = refl

-- ints
abbrev int_text : ℤ → List ℕ
int_text z = in_line None (expression_tokens (IntSyntax start z))

nought : int_text (pos 0) ≡ codes "0"
unfolding digits
nought = refl

one_less : int_text (negsuc 0) ≡ codes "-1"
unfolding digits
one_less = refl

least : int_text (negsuc 9223372036854775807) ≡ codes "-9223372036854775808"
unfolding digits
least = refl

-- a quote, a backslash, 0a, 09, 00, 1f, a blank, `~`, 7f, and the bytes of a letter beyond ASCII
escapes : in_line None (expression_tokens (TextSyntax start (0x22 ∷ 0x5C ∷ 0x0A ∷ 0x09 ∷ 0x00 ∷ 0x1F ∷ 0x20 ∷ 0x7E ∷ 0x7F ∷ 0xC3 ∷ 0xA9 ∷ []))) ≡ codes "\"\\\"\\\\\\n\\t\\x00\\x1f ~\\x7f" ++ 0xC3 ∷ 0xA9 ∷ codes "\""
unfolding encode_with
escapes = refl

-- the rule is on tokens, so a type is applied too
auth_of_a_pair : in_line None (type_tokens (AuthTypeSyntax start (PairTypeSyntax start (IntTypeSyntax start) auth_unit))) ≡ codes "auth(int, auth unit)"
unfolding auth_unit
auth_of_a_pair = refl

-- texts that are parsed
blanks_and_comments : printed_again (codes "state\tauth  unit ;# x\ninit f ( x : unit ) :auth unit=auth ( x ) ;") ≡ lines (
    codes "state auth unit;"
    ∷ codes "init f(x: unit): auth unit = auth(x);"
    ∷ [])
blanks_and_comments = refl

types : printed_again (codes "type t=A|B(int)|C(t,auth t,(text,bool));state(int,auth(int,t));") ≡ lines (
    codes "type t = A | B(int) | C(t, auth t, (text, bool));"
    ∷ codes "state (int, auth(int, t));"
    ∷ [])
types = refl

kinds : printed_again (codes "fun f(x:int):int=x;update g(x:int,y:(int,int)):(int,int)=y;") ≡ lines (
    codes "fun f(x: int): int = x;"
    ∷ codes "update g(x: int, y: (int, int)): (int, int) = y;"
    ∷ [])
kinds = refl

literals : printed_again (codes "query f(x:int):t=g((),true,false,0,-7,007,(1,-0));") ≡ lines (
    codes "query f(x: int): t = g((), true, false, 0, -7, 7, (1, 0));" ∷ [])
unfolding digits
literals = refl

text_literal : printed_again (codes "query f(x:text):text=cat(x,\"a\\x0a\\x41\");") ≡ lines (codes "query f(x: text): text = cat(x, \"a\\nA\");" ∷ [])
unfolding is_utf8 chars encode
text_literal = refl

calls_and_constructors : printed_again (codes "query f(x:int):t=A(B,C(x,f(x)),g(x,h(x)));") ≡ lines (codes "query f(x: int): t = A(B, C(x, f(x)), g(x, h(x)));" ∷ [])
calls_and_constructors = refl

operations : printed_again (codes "query f(x:int):t=add(fst (x),not(eq(len(x),unauth(snd(x)))));") ≡ lines (
    codes "query f(x: int): t = add(fst(x), not(eq(len(x), unauth(snd(x)))));" ∷ [])
operations = refl

lets_and_conditions : printed_again (codes "query f(x:int):t=let y=(x,x)in if x then(y,x)else let z=y in(z,z);") ≡ lines (
    codes "query f(x: int): t = let y = (x, x) in if x then (y, x) else let z = y in (z, z);" ∷ [])
lets_and_conditions = refl

matches : printed_again (codes "query f(x:int):t=match g(x)with|A->()|B(y,z)->match y with|C->z end end;") ≡ lines (
    codes "query f(x: int): t = match g(x) with | A -> () | B(y, z) -> match y with | C -> z end end;" ∷ [])
matches = refl

-- arrays, in the second format
arrays : printed_again (codes "format 2;type t=A(vec[2](int,int));state vec[ 3 ]auth int;fun f(x:int):vec[2]int=vfill[2](x);query g(s:vec[2]int,i:int):int=vget(vput(s,i,7),i);") ≡ lines (
    codes "format 2;"
    ∷ codes "type t = A(vec[2] (int, int));"
    ∷ codes "state vec[3] auth int;"
    ∷ codes "fun f(x: int): vec[2] int = vfill[2] (x);"
    ∷ codes "query g(s: vec[2] int, i: int): int = vget (vput (s, i, 7), i);"
    ∷ [])
unfolding digits
arrays = refl

-- the first format, told; its programs have other names than arrays' words
first_format : printed_again (codes "format 1;fun vget(vec:int):int=vget(vec);") ≡ lines (codes "format 1;" ∷ codes "fun vget(vec: int): int = vget(vec);" ∷ [])
unfolding digits
first_format = refl

format_is_a_name : printed_again (codes "fun format(format:int):int=format(format);") ≡ lines (codes "fun format(format: int): int = format(format);" ∷ [])
format_is_a_name = refl
