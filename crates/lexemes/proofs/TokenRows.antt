-- The tokens of some texts, computed.
use Rattle.std.proofs.Common.{◌≡◌, ℕ, [], ◌∷◌, ◌++◌, pos, negsuc, refl, replicate}
use Rattle.std.specs.Prelude.{codes}
use Rattle.std.specs.Str.{is_utf8, chars}
use lib.Utf8.{encode}
use Rattle.core_terms.specs.declared.format.Format.TheVariants.{First, Second}
use Rattle.lexemes.specs.Tokens.{Next, End, Faulty, KeywordToken, MarkToken, LowerToken, UpperToken, IntToken, TextToken, tokens}
use Rattle.lexemes.specs.declared.place.Place.{Place}
use Rattle.lexemes.specs.declared.token.Keyword.TheVariants as keyword
use Rattle.lexemes.specs.declared.token.Mark.TheVariants as mark
use Rattle.lexemes.specs.declared.fault.LexicalFault.TheVariants as fault

-- a place by its offset, line and column
abbrev place : ℕ → ℕ → ℕ → Place
place offset line column = record { offset = offset; line = line; column = column }

empty_text : tokens First [] ≡ End (place 0 1 1)
empty_text = refl

-- blanks, and a comment that the end of the text cuts
nothing_but_blanks : tokens First (codes " \t\r\n# x") ≡ End (place 7 2 4)
nothing_but_blanks = refl

words : tokens First (codes "fun\tFun funs _") ≡
    Next (place 0 1 1) (KeywordToken keyword.Fun)
    (Next (place 4 1 5) (UpperToken (codes "Fun"))
    (Next (place 8 1 9) (LowerToken (codes "funs"))
    (Faulty (place 13 1 14) fault.Char)))
words = refl

-- a line ends with its 0a, and a carriage return before it is a blank
line_ends : tokens First (codes "state\r\n;\n\n ,") ≡
    Next (place 0 1 1) (KeywordToken keyword.State)
    (Next (place 7 2 1) (MarkToken mark.Semicolon)
    (Next (place 11 4 2) (MarkToken mark.Comma)
    (End (place 12 4 3))))
line_ends = refl

-- a comment holds any bytes, and columns count them all
comment_of_any_bytes : tokens First (codes "x # " ++ 255 ∷ 0 ∷ 34 ∷ 10 ∷ codes "y") ≡
    Next (place 0 1 1) (LowerToken (codes "x")) (Next (place 8 2 1) (LowerToken (codes "y")) (End (place 9 2 2)))
comment_of_any_bytes = refl

vertical_tab_is_no_blank : tokens First (codes "x " ++ 11 ∷ []) ≡ Next (place 0 1 1) (LowerToken (codes "x")) (Faulty (place 2 1 3) fault.Char)
vertical_tab_is_no_blank = refl

arrow : tokens First (codes "|->") ≡ Next (place 0 1 1) (MarkToken mark.Bar) (Next (place 1 1 2) (MarkToken mark.Arrow) (End (place 3 1 4)))
arrow = refl

lone_minus : tokens First (codes ":- 1") ≡ Next (place 0 1 1) (MarkToken mark.Colon) (Faulty (place 1 1 2) fault.Char)
lone_minus = refl

minus_at_the_end : tokens First (codes "-") ≡ Faulty (place 0 1 1) fault.Char
minus_at_the_end = refl

-- names
name_of_64_bytes : tokens First (replicate 64 97) ≡ Next (place 0 1 1) (LowerToken (replicate 64 97)) (End (place 64 1 65))
name_of_64_bytes = refl

name_of_65_bytes : tokens First (codes "\n " ++ replicate 65 97) ≡ Faulty (place 2 2 2) fault.NameLong
name_of_65_bytes = refl

upper_name_of_65_bytes : tokens First (replicate 65 65) ≡ Faulty (place 0 1 1) fault.NameLong
upper_name_of_65_bytes = refl

-- ints
minus_zero : tokens First (codes "-0") ≡ Next (place 0 1 1) (IntToken (pos 0)) (End (place 2 1 3))
minus_zero = refl

leading_zeros : tokens First (codes "-000000000000000000000007") ≡ Next (place 0 1 1) (IntToken (negsuc 6)) (End (place 25 1 26))
leading_zeros = refl

greatest_int : tokens First (codes "9223372036854775807") ≡ Next (place 0 1 1) (IntToken (pos 9223372036854775807)) (End (place 19 1 20))
greatest_int = refl

one_too_great : tokens First (codes "(9223372036854775808") ≡ Next (place 0 1 1) (MarkToken mark.LeftParenthesis) (Faulty (place 1 1 2) fault.NumberRange)
one_too_great = refl

least_int : tokens First (codes "-9223372036854775808") ≡ Next (place 0 1 1) (IntToken (negsuc 9223372036854775807)) (End (place 20 1 21))
least_int = refl

one_too_small : tokens First (codes "(-9223372036854775809") ≡ Next (place 0 1 1) (MarkToken mark.LeftParenthesis) (Faulty (place 1 1 2) fault.NumberRange)
one_too_small = refl

-- a letter ends an int, and a digit doesn't end a name
digits_and_letters : tokens First (codes "7up up7") ≡
    Next (place 0 1 1) (IntToken (pos 7)) (Next (place 1 1 2) (LowerToken (codes "up")) (Next (place 4 1 5) (LowerToken (codes "up7")) (End (place 7 1 8))))
digits_and_letters = refl

-- texts
escapes : tokens First (codes "\"\\\"\\\\\\n\\t\\x41\\x7f#\"") ≡
    Next (place 0 1 1) (TextToken (34 ∷ 92 ∷ 10 ∷ 9 ∷ 65 ∷ 127 ∷ 35 ∷ [])) (End (place 19 1 20))
unfolding is_utf8 chars encode
escapes = refl

-- two bytes that are one character count as two in a column
text_of_two_bytes : tokens First (34 ∷ 195 ∷ 169 ∷ 34 ∷ codes ";") ≡
    Next (place 0 1 1) (TextToken (195 ∷ 169 ∷ [])) (Next (place 4 1 5) (MarkToken mark.Semicolon) (End (place 5 1 6)))
unfolding is_utf8 chars encode
text_of_two_bytes = refl

hex_80_is_refused : tokens First (codes "\"a\\x80\"") ≡ Faulty (place 2 1 3) fault.BadEscape
hex_80_is_refused = refl

hex_of_one_digit : tokens First (codes "\"\\x4\"") ≡ Faulty (place 1 1 2) fault.BadEscape
hex_of_one_digit = refl

unknown_escape : tokens First (codes "\n\"ab\\r\"") ≡ Faulty (place 4 2 4) fault.BadEscape
unknown_escape = refl

escape_cut_by_the_end : tokens First (codes "\"a\\") ≡ Faulty (place 2 1 3) fault.BadEscape
escape_cut_by_the_end = refl

hex_cut_by_the_end : tokens First (codes "\"a\\x7") ≡ Faulty (place 2 1 3) fault.BadEscape
hex_cut_by_the_end = refl

raw_tab_in_a_text : tokens First (codes "\"ab\t\"") ≡ Faulty (place 3 1 4) fault.Char
raw_tab_in_a_text = refl

raw_line_end_in_a_text : tokens First (codes "\"ab\n\"") ≡ Faulty (place 3 1 4) fault.Char
raw_line_end_in_a_text = refl

raw_7f_in_a_text : tokens First (34 ∷ 127 ∷ 34 ∷ []) ≡ Faulty (place 1 1 2) fault.Char
raw_7f_in_a_text = refl

unclosed_text : tokens First (codes "\n \"ab # ;") ≡ Faulty (place 2 2 2) fault.Unclosed
unclosed_text = refl

-- a fault inside comes before that the text isn't UTF-8
fault_before_utf8 : tokens First (34 ∷ 255 ∷ 1 ∷ 34 ∷ []) ≡ Faulty (place 2 1 3) fault.Char
fault_before_utf8 = refl

no_utf8 : tokens First (codes "; " ++ 34 ∷ 97 ∷ 255 ∷ 34 ∷ []) ≡ Next (place 0 1 1) (MarkToken mark.Semicolon) (Faulty (place 2 1 3) fault.Utf8)
unfolding is_utf8 chars encode
no_utf8 = refl

text_of_65532_bytes : tokens First (34 ∷ replicate 65532 97 ++ 34 ∷ []) ≡ Next (place 0 1 1) (TextToken (replicate 65532 97)) (End (place 65534 1 65535))
unfolding is_utf8 chars encode
text_of_65532_bytes = refl

text_of_65533_bytes : tokens First (34 ∷ replicate 65533 97 ++ 34 ∷ []) ≡ Faulty (place 0 1 1) fault.TextLong
unfolding is_utf8 chars encode
text_of_65533_bytes = refl

-- the words and marks of arrays, in either format
bracket_of_the_first : tokens First (codes "vec[2]") ≡ Next (place 0 1 1) (LowerToken (codes "vec")) (Faulty (place 3 1 4) fault.Char)
bracket_of_the_first = refl

brackets : tokens Second (codes "vec[2]") ≡
    Next (place 0 1 1) (KeywordToken keyword.Vec)
    (Next (place 3 1 4) (MarkToken mark.LeftBracket)
    (Next (place 4 1 5) (IntToken (pos 2))
    (Next (place 5 1 6) (MarkToken mark.RightBracket)
    (End (place 6 1 7)))))
brackets = refl

array_words : tokens Second (codes "vfill vget vput vecs") ≡
    Next (place 0 1 1) (KeywordToken keyword.VecFill)
    (Next (place 6 1 7) (KeywordToken keyword.VecGet)
    (Next (place 11 1 12) (KeywordToken keyword.VecPut)
    (Next (place 16 1 17) (LowerToken (codes "vecs"))
    (End (place 20 1 21)))))
array_words = refl

names_of_the_first : tokens First (codes "vfill vput") ≡
    Next (place 0 1 1) (LowerToken (codes "vfill")) (Next (place 6 1 7) (LowerToken (codes "vput")) (End (place 10 1 11)))
names_of_the_first = refl
