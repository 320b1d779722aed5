-- The text of a literal as a whole: the literal, the end of the text behind it, and the spelling.
use Rattle.std.proofs.Common.{◌≡◌, ◌∙◌, ℕ, true, false, List, [], length, nat_le, refl, ap, ap₂, sym, Result, Ok, Err, Vec, Global, cond, if◌then◌else◌}
use Rattle.core_terms.specs.declared.byte_string.ByteString.{ByteString as Spelling}
use Rattle.core_terms.specs.Types.{Ty}
use Rattle.core_terms.specs.Values.{Value, size}
use Rattle.core_terms.specs.Spelling.{spelling}
use Rattle.core_terms.specs.Terms.{Program}
use Rattle.core_terms.specs.Formats.{depth_limit}
use Rattle.core_terms.specs.ProgramFormats.{arrays_of}
use Rattle.core_terms.specs.Programs.{meaning}
use Rattle.core_terms.specs.declared.program.Program.{Program as ProgramCode}
use Rattle.core_terms.specs.declared.format.Format.{Format}
use Rattle.core_terms.specs.declared.format.Format.TheVariants.{First, Second}
use Rattle.core_terms.proofs.Spelled.{length_spelling}
use Rattle.lexemes.specs.declared.place.Place.{Place}
use Rattle.lexemes.specs.declared.fault.SyntaxKind.{SyntaxKind}
use Rattle.lexemes.specs.Readings.{SyntaxFault, Reading, Found, read_end}
use Rattle.core_terms.specs.declared.fault.Fault.TheVariants.{At, NoMemory}
use Rattle.printed_syntax.specs.LiteralAnswers.{LiteralFault}
use Rattle.core_terms.specs.declared.fault.Fault.TheVariants as told
use Rattle.printed_syntax.specs.declared.fault.LiteralKind.TheVariants.{Mismatch, TooBig}
use Rattle.lexemes.specs.Tokens.{Tokens, Next, End, Faulty, tokens}
use Rattle.lexemes.specs.Readings as syntax
use Rattle.lexemes.specs.Remaining.{Reads}
use Rattle.printed_syntax.specs.Literals.{ConstructorNames, LiteralReading, Means, literal_of, Literal, IsValue, FirstFault, at_end, whole_literal, value_within, literal_in, written_in}
use Rattle.printed_syntax.specs.LiteralAnswers.{ReadsLiteral}
use Rattle.printed_syntax.specs.LiteralSteps.{IsWithinLimit, ReadsPart, ReadsWhole, literal_kind, spelled, told_of_literal}
use Rattle.printed_syntax.proofs.LiteralSpellings.{spelled_found, spelled_fault}
use Rattle.printed_syntax.proofs.LiteralsReadBack.{literal_is_shallow}

-- the end of the text behind a literal, and what else may stand there
end_found : (rest after : Tokens) → read_end rest ≡ Found tt after → (found : Literal) → at_end rest found ≡ found
end_found (End at) after e found = refl
end_found (Next at token rest) after e found = absurd (cc)
end_found (Faulty at kind) after e found = absurd (cc)

abbrev as_fault : Reading (Unit {0}) → Literal
as_fault (Found u rest) = FirstFault Mismatch 0
as_fault (syntax.FaultAt kind at) = FirstFault (literal_kind kind) at.offset

end_not_found : (rest : Tokens) (kind : SyntaxKind) (at : Place) → read_end rest ≡ syntax.FaultAt kind at
    → (found : Literal) → at_end rest found ≡ FirstFault (literal_kind kind) at.offset
end_not_found (End end) kind at e found = absurd (cc)
end_not_found (Next next token rest) kind at e found = ap as_fault e
end_not_found (Faulty next lexical) kind at e found = ap as_fault e

-- the tokens of a program's literals are those of the code's format
with_arrays : (format : Format) → (if arrays_of format then Second else First) ≡ format
with_arrays First = refl
with_arrays Second = refl

pub written_is : (program : ProgramCode) → written_in (meaning program).format ≡ program.types.table.format
written_is program = with_arrays program.types.table.format

module _ (P : Program) (names : ConstructorNames) (t : Ty) (text : List ℕ) (read : Tokens) (same : read ≡ tokens (written_in P.format) text) where
  -- the literal that these tokens begin with
  abbrev pub begun : LiteralReading Value
  begun = literal_of P.types names depth_limit t read

  as_a_whole : (reading : LiteralReading Value) → begun ≡ reading → literal_in P names t text ≡ whole_literal P.format.limit P.types t reading
  as_a_whole reading e =
      ap (λ ts. whole_literal P.format.limit P.types t (literal_of P.types names depth_limit t ts)) (sym same) ∙ ap (whole_literal P.format.limit P.types t) e

  -- a literal, and the end of the text
  pub whole-read : (bytes : Vec ℕ Global) (rest after : Tokens) → spelled spelling [] begun ≡ Means bytes.items rest → read_end rest ≡ Found tt after
      → ReadsWhole P names t text (Ok bytes)
  whole-read bytes rest after h e =
      let f = spelled_found [] bytes.items begun rest h in
      let v = f.0 in
      let shallow = literal_is_shallow (written_in P.format) P.types names t text v rest (ap (literal_of P.types names depth_limit t) (sym same) ∙ f.1) in
      (v, as_a_whole (Means v rest) f.1 ∙ end_found rest after e (value_within P.format.limit P.types t v), f.2, sym (length_spelling P.types t v shallow) ∙ ap length f.2)

  -- a fault in the literal, and one behind it
  pub begun-fault : (before bytes : List ℕ) (fault : SyntaxFault) (rest : Tokens) → ReadsPart (λ (_ : Unit {0}). bytes) (spelled spelling before begun) (Err fault) rest
      → ReadsWhole P names t text (Err fault)
  begun-fault before bytes (At kind at) rest h = as_a_whole _ (spelled_fault before begun (literal_kind kind) at.offset h)
  begun-fault before bytes NoMemory rest h = tt

  pub end-fault : (before bytes : List ℕ) (rest after : Tokens) (fault : SyntaxFault) → spelled spelling before begun ≡ Means bytes rest
      → Reads (λ (u : Unit {0}). u) (read_end rest) (Err fault) after → ReadsWhole P names t text (Err fault)
  end-fault before bytes rest after (At kind at) h e =
      let f = spelled_found before bytes begun rest h in
      as_a_whole (Means f.0 rest) f.1 ∙ end_not_found rest kind at e (value_within P.format.limit P.types t f.0)
  end-fault before bytes rest after NoMemory h e = tt

-- a fault, told by its offset
pub told-fault : (P : Program) (names : ConstructorNames) (t : Ty) (text : List ℕ) (fault : SyntaxFault) → ReadsWhole P names t text (Err fault)
    → ReadsLiteral (literal_in P names t text) (Err (told_of_literal fault))
told-fault P names t text (At kind at) h = h
told-fault P names t text NoMemory h = tt

-- the spelling, where it isn't too long
pub whole-spelled : (P : Program) (names : ConstructorNames) (t : Ty) (text : List ℕ) (bytes : Vec ℕ Global) (limit : ℕ) (result : Result Spelling LiteralFault)
    → ReadsWhole P names t text (Ok bytes) → limit ≡ P.format.limit → IsWithinLimit limit bytes.items result → ReadsLiteral (literal_in P names t text) result
whole-spelled P names t text bytes limit (Ok s) h same within =
    let fits : nat_le (size P.types t h.0) P.format.limit ≡ true = ap₂ nat_le h.3 (sym same) ∙ within.0 in
    (h.0, h.1 ∙ ap (λ test. cond test (IsValue h.0) (FirstFault TooBig 0)) fits, h.2 ∙ sym within.1)
whole-spelled P names t text bytes limit (Err (told.At kind offset)) h same within =
    let passes : nat_le (size P.types t h.0) P.format.limit ≡ false = ap₂ nat_le h.3 (sym same) ∙ within.0 in
    h.1 ∙ ap (λ test. cond test (IsValue h.0) (FirstFault TooBig 0)) passes ∙ ap₂ FirstFault (sym within.1) (sym within.2)
whole-spelled P names t text bytes limit (Err told.NoMemory) h same within = absurd within
