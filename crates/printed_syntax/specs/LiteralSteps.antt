-- What the code's answers on the way through a literal say of the definition. Where memory ran out nothing is said.
use Rattle.std.specs.Prelude.{◌≡◌, ◌++◌, true, false, List, length, nat_le, Result, Ok, Err, ⊤, ℕ, zero, suc, Vec}
use Rattle.std.specs.declared.alloc.Global.{Global}
use Rattle.core_terms.specs.Types.{Ty}
use Rattle.core_terms.specs.Values.{Value, Values, size}
use Rattle.core_terms.specs.Spelling.{spelling}
use Rattle.core_terms.specs.Terms as tree
use Rattle.core_terms.specs.Programs.{constructor_names, meaning}
use Rattle.core_terms.specs.declared.program.Program.{Program}
use Rattle.core_terms.specs.declared.byte_string.ByteString.{ByteString as Spelling}
use Rattle.lexemes.specs.declared.token.Mark.{Mark}
use Rattle.lexemes.specs.declared.token.Mark.TheVariants.{Comma}
use Rattle.lexemes.specs.Tokens.{Tokens}
use Rattle.printed_syntax.specs.Literals.{ConstructorNames, LiteralReading, Means, FaultAt, FirstFault, behind_mark, more_values, values_up_to, literal_in, literal_of, value_within}
use Rattle.lexemes.specs.declared.fault.SyntaxKind.{SyntaxKind}
use Rattle.lexemes.specs.declared.fault.SyntaxKind.TheVariants as syntax
use Rattle.lexemes.specs.Readings.{SyntaxFault}
use Rattle.core_terms.specs.declared.fault.Fault.TheVariants.{At, NoMemory}
use Rattle.printed_syntax.specs.declared.fault.LiteralKind.{LiteralKind}
use Rattle.printed_syntax.specs.declared.fault.LiteralKind.TheVariants.{Lexical, Mismatch, TooBig, TooDeep}
use Rattle.printed_syntax.specs.LiteralAnswers.{LiteralFault}
use Rattle.core_terms.specs.declared.fault.Fault.TheVariants as told

-- what a fault of the parser is in a literal
abbrev pub literal_kind : SyntaxKind → LiteralKind
literal_kind (syntax.Lexical kind) = Lexical kind
literal_kind syntax.Expected = Mismatch
literal_kind syntax.TooNested = TooDeep

abbrev pub told_of_literal : SyntaxFault → LiteralFault
told_of_literal (At kind at) = told.At (literal_kind kind) at.offset
told_of_literal NoMemory = told.NoMemory

-- Ok gives what is read, as `view` shows it, and these tokens remain; a refusal gives the first fault
abbrev pub ReadsPart : {A B : Type 0} → (A → B) → LiteralReading B → Result A SyntaxFault → Tokens → Type 0
ReadsPart view reading (Ok value) rest = reading ≡ Means (view value) rest
ReadsPart view reading (Err (At kind at)) rest = reading ≡ FaultAt (literal_kind kind) at.offset
ReadsPart view reading (Err NoMemory) rest = ⊤

-- what is read, spelled behind these bytes
abbrev pub spelled : {A : Type 0} → (A → List ℕ) → List ℕ → LiteralReading A → LiteralReading (List ℕ)
spelled spell before (Means value rest) = Means (before ++ spell value) rest
spelled spell before (FaultAt kind offset) = FaultAt kind offset

-- a literal of a type of a program of the code, on a level with so many levels from there on
abbrev pub literal_on : Program → ℕ → Ty → Tokens → LiteralReading Value
literal_on program = literal_of (meaning program).types (constructor_names program.types.named.items)

-- what stands before a value with a number in a row: a comma, where it isn't the first
abbrev pub behind_comma : ℕ → Tokens → LiteralReading (Unit {0})
behind_comma zero tokens = Means tt tokens
behind_comma (suc index) tokens = behind_mark Comma tokens

-- values in a row from this number on, and the mark that ends them
abbrev pub values_from : ℕ → Mark → (Ty → Tokens → LiteralReading Value) → List Ty → Tokens → LiteralReading Values
values_from zero ending one ts tokens = values_up_to ending one ts tokens
values_from (suc index) ending one ts tokens = more_values ending one ts tokens

-- Ok gives the spelling of the value of the whole text, which may still be too long; a refusal gives the first fault
abbrev pub ReadsWhole : tree.Program → ConstructorNames → Ty → List ℕ → Result (Vec ℕ Global) SyntaxFault → Type 0
ReadsWhole P names t text (Ok bytes) =
    (v : Value) × (literal_in P names t text ≡ value_within P.format.limit P.types t v) × (spelling v ≡ bytes.items) × (size P.types t v ≡ length bytes.items)
ReadsWhole P names t text (Err (At kind at)) = literal_in P names t text ≡ FirstFault (literal_kind kind) at.offset
ReadsWhole P names t text (Err NoMemory) = ⊤

-- Ok gives the bytes, which are within the limit; they aren't where it is refused
abbrev pub IsWithinLimit : ℕ → List ℕ → Result Spelling LiteralFault → Type 0
IsWithinLimit limit bytes (Ok spelling) = (nat_le (length bytes) limit ≡ true) × (spelling ≡ bytes)
IsWithinLimit limit bytes (Err (told.At kind offset)) = (nat_le (length bytes) limit ≡ false) × (kind ≡ TooBig) × (offset ≡ 0)
IsWithinLimit limit bytes (Err told.NoMemory) = ⊥
