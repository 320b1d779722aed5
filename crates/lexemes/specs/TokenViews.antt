-- What the tokens of the code stand for.
use Rattle.std.specs.Prelude.{◌≡◌}
use Rattle.core_terms.specs.Texts.{bytes_of, name_bytes}
use Rattle.lexemes.specs.Tokens.{Token, KeywordToken, MarkToken, LowerToken, UpperToken, IntToken, TextToken, Tokens, Next, End, Faulty, tokens_from}
use Rattle.lexemes.specs.declared.token.Token.{Token as TokenCode}
use Rattle.lexemes.specs.declared.token.Token.TheVariants as code
use Rattle.lexemes.specs.declared.lexer.Lexeme.{Lexeme}
use Rattle.lexemes.specs.declared.lexer.Lexeme.TheVariants as head
use Rattle.lexemes.specs.declared.lexer.Lexer.{Lexer}

-- a token
abbrev pub token_view : TokenCode → Token
token_view (code.Keyword keyword) = KeywordToken keyword
token_view (code.Mark mark) = MarkToken mark
token_view (code.Lower name) = LowerToken (name_bytes name)
token_view (code.Upper name) = UpperToken (name_bytes name)
token_view (code.Int z) = IntToken z
token_view (code.Text text) = TextToken (bytes_of text)

-- the tokens that a lexer has still to give
abbrev pub tokens_left : Lexer → Tokens
tokens_left lexer = tokens_from lexer.format lexer.at lexer.rest.now

-- these tokens begin with what was found, and behind it these remain; the end and a fault remain what they are
abbrev pub IsHead : Tokens → Lexeme → Tokens → Type 0
IsHead before (head.Token at token) after = before ≡ Next at (token_view token) after
IsHead before (head.End at) after = (before ≡ End at) × (after ≡ End at)
IsHead before (head.Fault at kind) after = (before ≡ Faulty at kind) × (after ≡ Faulty at kind)
