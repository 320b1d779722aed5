-- What the answer of reading a literal says of the definition. Where memory ran out nothing is said.
use Rattle.std.specs.Prelude.{◌≡◌, ℕ, List, Result, Ok, Err, ⊤}
use Rattle.core_terms.specs.Values.{Value}
use Rattle.core_terms.specs.Spelling.{spelling}
use Rattle.core_terms.specs.declared.byte_string.ByteString.{ByteString as Spelling}
use Rattle.printed_syntax.specs.Literals.{Literal, IsValue, FirstFault}
use Rattle.core_terms.specs.declared.fault.Fault.{Fault}
use Rattle.printed_syntax.specs.declared.fault.LiteralKind.{LiteralKind}
use Rattle.core_terms.specs.declared.fault.Fault.TheVariants.{At, NoMemory}

-- a fault of a literal as the code tells it, by its offset, or want of memory
abbrev pub LiteralFault : Type 0
LiteralFault = Fault LiteralKind ℕ

-- the bytes are the spelling of the literal's value
abbrev pub SpellsLiteral : Literal → List ℕ → Type 0
SpellsLiteral literal bytes = (v : Value) × (literal ≡ IsValue v) × (spelling v ≡ bytes)

-- Ok gives the spelling of the literal's value, a refusal the first fault
abbrev pub ReadsLiteral : Literal → Result Spelling LiteralFault → Type 0
ReadsLiteral literal (Ok bytes) = SpellsLiteral literal bytes
ReadsLiteral literal (Err (At kind offset)) = literal ≡ FirstFault kind offset
ReadsLiteral literal (Err NoMemory) = ⊤
