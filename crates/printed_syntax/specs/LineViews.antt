-- What the printer of the code stands for: the lines that are printed so far, of which the last may go on.
use Rattle.std.specs.Prelude.{ℕ, ◌==◌, Bool, true, false, List, [], ◌∷◌, ◌++◌, if◌then◌else◌, codes}
use Rattle.lexemes.specs.Tokens.{Token, MarkToken}
use Rattle.lexemes.specs.declared.token.Mark.{Mark}
use Rattle.auth_syntax.specs.Grammar.{Written, arms_tokens}
use Rattle.auth_syntax.specs.Trees.{ArmSyntax, arms_in_a_row}
use Rattle.printed_syntax.specs.PrintedPrograms.{token_text, is_opening, is_closing, is_applied}
use Rattle.printed_syntax.specs.declared.printer.TokenKind.{TokenKind}
use Rattle.printed_syntax.specs.declared.printer.TokenKind.TheVariants.{Opening, Bracket, Closing, Applied, Other}
use Rattle.printed_syntax.specs.declared.printer.Printer.{Printer}

-- what a token is to those beside it
abbrev pub kind_of_token : Token → TokenKind
kind_of_token token =
    if is_opening token then (if is_closing token then Bracket else Opening) else
    if is_closing token then Closing else
    if is_applied token then Applied else
    Other

-- whether a blank stands between two tokens of these kinds
abbrev pub kinds_apart : TokenKind → TokenKind → Bool
kinds_apart Opening next = false
kinds_apart Bracket next = false
kinds_apart last Bracket = false
kinds_apart last Closing = false
kinds_apart Applied Opening = false
kinds_apart last next = true

-- the text so far, and the kind of the token that ends it; the beginning of a line is as a `(`
pub record Line : Type 0 where
  pub text : List ℕ
  pub last : TokenKind

abbrev pub line_of : Printer → Line
line_of printer = record { text = printer.text.items; last = printer.last }

-- at the beginning of a line, behind this text
abbrev pub at_line : List ℕ → Line
at_line text = record { text = text; last = Opening }

-- before a token of this kind
abbrev pub beside : Line → TokenKind → Line
beside line next = record { text = line.text ++ (if kinds_apart line.last next then codes " " else []); last = next }

-- with some bytes more of the last token
abbrev pub with_bytes : Line → List ℕ → Line
with_bytes line bytes = record { text = line.text ++ bytes; last = line.last }

-- with one token more, and with some
abbrev pub with_token : Line → Token → Line
with_token line token = with_bytes (beside line (kind_of_token token)) (token_text token)

abbrev pub with_tokens : Line → List Written → Line
with_tokens line [] = line
with_tokens line (written ∷ rest) = with_tokens (with_token line written.token) rest

-- with a mark before the thing with this index in a row, if it isn't the first
abbrev pub separated : ℕ → Mark → Line → Line
separated index mark line = if index == 0 then line else with_token line (MarkToken mark)

-- with the end of the line
abbrev pub with_end : Line → Line
with_end line = at_line (line.text ++ codes "\n")

-- the tokens of an arm of a match
abbrev pub arm_tokens : ArmSyntax → List Written
arm_tokens arm = arms_tokens (arms_in_a_row (arm ∷ []))
