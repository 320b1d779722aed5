-- The tokens that a parser has still to read, and what its answers say of what a definition finds. Where memory ran out nothing is said.
use Rattle.std.specs.Prelude.{◌≡◌, Result, Ok, Err, ⊤}
use Rattle.lexemes.specs.Tokens.{Tokens, Next, End, Faulty}
use Rattle.lexemes.specs.TokenViews.{token_view, tokens_left}
use Rattle.lexemes.specs.Readings.{Reading, Found, FaultAt, SyntaxFault}
use Rattle.core_terms.specs.declared.fault.Fault.TheVariants.{At, NoMemory}
use Rattle.lexemes.specs.declared.fault.SyntaxKind.TheVariants.{Lexical, Expected, TooNested}
use Rattle.lexemes.specs.declared.parser.Parser.{Parser}
use Rattle.lexemes.specs.declared.parser.PlacedToken.{PlacedToken}

abbrev pub remaining : Parser → Tokens
remaining parser = tokens_left parser.lexer

-- The first token is taken and the others remain; or none stands there, and this is the fault.
abbrev pub TakesToken : Tokens → Result PlacedToken SyntaxFault → Tokens → Type 0
TakesToken before (Ok placed) after = before ≡ Next placed.at (token_view placed.token) after
TakesToken before (Err (At Expected at)) after = before ≡ End at
TakesToken before (Err (At (Lexical kind) at)) after = before ≡ Faulty at kind
TakesToken before (Err (At TooNested at)) after = ⊥
TakesToken before (Err NoMemory) after = ⊤

-- Ok gives what is read, as `view` shows it, and these tokens remain; a refusal gives the first fault
abbrev pub Reads : {A B : Type 0} → (A → B) → Reading B → Result A SyntaxFault → Tokens → Type 0
Reads view reading (Ok value) rest = reading ≡ Found (view value) rest
Reads view reading (Err (At kind at)) rest = reading ≡ FaultAt kind at
Reads view reading (Err NoMemory) rest = ⊤
