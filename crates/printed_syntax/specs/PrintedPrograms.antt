-- Programs as they are printed: a format that is told on a line of its own, and so each declaration, in the tokens with which the grammar
-- writes it.
use Rattle.std.specs.Prelude.{ℕ, Bool, true, false, not, ◌||◌, ◌&&◌, List, [], ◌∷◌, ◌++◌, Option, Some, None, is_some, if◌then◌else◌, codes}
use Rattle.std.specs.Fmt.{signed_decimal}
use Rattle.core_terms.specs.declared.format.Format.{Format}
use Rattle.lexemes.specs.declared.token.Mark.{Mark}
use Rattle.lexemes.specs.declared.token.Mark.TheVariants.{LeftParenthesis, RightParenthesis, Comma, Semicolon, Colon, EqualsSign, Bar, Arrow, LeftBracket, RightBracket}
use Rattle.lexemes.specs.Tokens.{Token, KeywordToken, MarkToken, LowerToken, UpperToken, IntToken, TextToken, keyword_text}
use Rattle.auth_syntax.specs.Syntax.{DeclarationSyntax, Program}
use Rattle.auth_syntax.specs.Grammar.{Written, declaration_tokens, format_tokens}
use Rattle.auth_syntax.specs.Parsing.{unary_of, binary_of}
use Rattle.printed_syntax.specs.PrintedValues.{quoted_text}

-- the text of a mark
abbrev pub mark_text : Mark → List ℕ
mark_text LeftParenthesis = codes "("
mark_text RightParenthesis = codes ")"
mark_text Comma = codes ","
mark_text Semicolon = codes ";"
mark_text Colon = codes ":"
mark_text EqualsSign = codes "="
mark_text Bar = codes "|"
mark_text Arrow = codes "->"
mark_text LeftBracket = codes "["
mark_text RightBracket = codes "]"

-- The text of a token. An int has no leading zeros, and 0 has no sign; the bytes of a text are escaped where they have to be.
abbrev pub token_text : Token → List ℕ
token_text (KeywordToken keyword) = keyword_text keyword
token_text (MarkToken mark) = mark_text mark
token_text (LowerToken name) = name
token_text (UpperToken name) = name
token_text (IntToken z) = signed_decimal z
token_text (TextToken bytes) = quoted_text bytes

-- a mark behind which no blank stands
abbrev pub is_opening : Token → Bool
is_opening (MarkToken LeftParenthesis) = true
is_opening (MarkToken LeftBracket) = true
is_opening token = false

-- a mark before which no blank stands
abbrev pub is_closing : Token → Bool
is_closing (MarkToken RightParenthesis) = true
is_closing (MarkToken Comma) = true
is_closing (MarkToken Semicolon) = true
is_closing (MarkToken Colon) = true
is_closing (MarkToken LeftBracket) = true
is_closing (MarkToken RightBracket) = true
is_closing token = false

-- what may be applied to what stands in parentheses: a name, or the word of an operation on one operand or two
abbrev pub is_applied : Token → Bool
is_applied (LowerToken name) = true
is_applied (UpperToken name) = true
is_applied (KeywordToken keyword) = is_some (unary_of keyword) || is_some (binary_of keyword)
is_applied token = false

-- Between two tokens of a line stands one blank, but none behind `(` `[`, none before `)` `,` `;` `:` `[` `]`, and none before a `(` behind
-- what may be applied.
abbrev pub are_apart : Token → Token → Bool
are_apart last next = not (is_opening last || is_closing next || (is_applied last && is_opening next))

-- what stands before a token, behind the last one of its line; nothing at the beginning of the line
abbrev pub blank_before : Option Token → Token → List ℕ
blank_before None next = []
blank_before (Some last) next = if are_apart last next then codes " " else []

-- tokens in a line, behind the last one that stands there before them
abbrev pub in_line : Option Token → List Written → List ℕ
in_line last [] = []
in_line last (written ∷ rest) = blank_before last written.token ++ token_text written.token ++ in_line (Some written.token) rest

-- tokens on a line of their own, which 0a ends
abbrev pub line_text : List Written → List ℕ
line_text written = in_line None written ++ codes "\n"

-- a declaration on its line, and declarations in order
abbrev pub declaration_text : DeclarationSyntax → List ℕ
declaration_text declaration = line_text (declaration_tokens declaration)

abbrev pub declarations_text : List DeclarationSyntax → List ℕ
declarations_text [] = []
declarations_text (declaration ∷ rest) = declaration_text declaration ++ declarations_text rest

-- a format on its line, where it is told
abbrev pub format_text : Option Format → List ℕ
format_text None = []
format_text (Some format) = line_text (format_tokens (Some format))

-- the text of a program
abbrev pub program_text : Program → List ℕ
program_text program = format_text program.format ++ declarations_text program.declarations
