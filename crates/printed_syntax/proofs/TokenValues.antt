-- The tokens of a text have values: an int is one of 64 bits, and a text is UTF-8.
use Rattle.std.proofs.Common.{◌≡◌, ℕ, true, List, IsUtf8}
use Rattle.core_terms.specs.declared.format.Format.{Format}
use Rattle.core_terms.specs.Values.{int_fits}
use Rattle.lexemes.specs.declared.place.Place.{Place}
use Rattle.lexemes.specs.Tokens.{Token, IntToken, TextToken, Tokens, Next, End, Faulty, tokens_behind}
use Rattle.printed_syntax.specs.PrintedProgramLaws.{IsToken}
use Rattle.printed_syntax.proofs.TokensOfTexts.{AllTokens, tokens_all}

-- an int of 64 bits, or a text of UTF-8, where the token is an int or a text
abbrev pub HasValue : Token → Type 0
HasValue (IntToken z) = int_fits z ≡ true
HasValue (TextToken bytes) = IsUtf8 bytes
HasValue token = Unit {0}

abbrev pub HaveValues : Tokens → Type 0
HaveValues (Next at token rest) = HasValue token × HaveValues rest
HaveValues tokens = Unit {0}

value : (format : Format) (token : Token) → IsToken format token → HasValue token
value format (IntToken z) h = h
value format (TextToken bytes) h = h.0
value format token h = tt

values : (format : Format) (tokens : Tokens) → AllTokens format tokens → HaveValues tokens
values format (Next at token rest) h = (value format token h.0, values format rest h.1)
values format (End at) h = tt
values format (Faulty at kind) h = tt

pub tokens_values : (format : Format) (n : ℕ) (at : Place) (text : List ℕ) → HaveValues (tokens_behind format n at text)
tokens_values format n at text = values format (tokens_behind format n at text) (tokens_all format n at text)
