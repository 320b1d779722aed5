-- A text as a program.
use Rattle.std.specs.Prelude.{ℕ, List, [], slice_get, unwrap_or}
use Rattle.core_terms.specs.Terms.{Program}
use Rattle.printed_syntax.specs.Literals.{ConstructorNames}
use Rattle.auth_syntax.specs.Parsing.{Parsed, parsed}
use Rattle.auth_syntax.specs.Parsing as parsing
use Rattle.auth_types.specs.CheckedPrograms.{Checked, checked, constructors_in, declared_text_of}
use Rattle.auth_types.specs.CheckedPrograms as checking
use Rattle.printed_lines.specs.declared.refusal.ProgramKind.{ProgramKind}
use Rattle.printed_lines.specs.declared.refusal.ProgramKind.TheVariants.{Syntax, Typing}
use Rattle.printed_lines.specs.declared.refusal.Refusal.{Refusal}
use Rattle.printed_lines.specs.declared.refusal.Refusal.TheVariants as refusal

-- what the bytes of a file are: a program, or none, and then what is refused of them
pub data FileProgram : Type 0 where
  IsProgram : (P : Program) → FileProgram
  IsRefused : (what : Refusal) → FileProgram

-- a text is refused for its first fault, with the line and column of this, from 1 and by bytes
abbrev pub is_faulty : ProgramKind → (line column : ℕ) → FileProgram
is_faulty kind line column = IsRefused (refusal.Program kind line column)

abbrev pub of_checked : Checked → FileProgram
of_checked (checking.IsProgram P) = IsProgram P
of_checked (checking.FirstFault kind line column) = is_faulty (Typing kind) line column

abbrev pub of_parsed : Parsed → FileProgram
of_parsed (parsing.Tree program) = of_checked (checked program)
of_parsed (parsing.FirstFault kind at) = is_faulty (Syntax kind) at.line at.column

-- A text as a program. A fault of its syntax comes before all faults of its typing.
unfoldable pub program_of_text : List ℕ → FileProgram
program_of_text text = of_parsed (parsed text)

-- the names of the constructors of each type that a tree declares, in the order of its declarations
abbrev pub constructors_of_parsed : Parsed → List (List (List ℕ))
constructors_of_parsed (parsing.Tree program) = constructors_in program.declarations
constructors_of_parsed (parsing.FirstFault kind at) = []

-- the same of a text
unfoldable pub constructors_of_text : List ℕ → List (List (List ℕ))
constructors_of_text text = constructors_of_parsed (parsed text)

-- The names of the constructors of the n-th type that a text declares, from 0, in the order in which it declares them: by tag.
unfoldable pub constructor_names_of_text : List ℕ → ConstructorNames
constructor_names_of_text text n = unwrap_or (slice_get (constructors_of_parsed (parsed text)) n) []

-- the type declarations of a tree, printed
abbrev pub types_text_of_parsed : Parsed → List ℕ
types_text_of_parsed (parsing.Tree program) = declared_text_of program
types_text_of_parsed (parsing.FirstFault kind at) = []

-- The type declarations of a text, printed: each type with its name, its constructors with theirs and the types of their fields, in the order
-- in which the text declares them. So texts that differ in blanks, comments or functions alone have the same.
unfoldable pub types_text_of_text : List ℕ → List ℕ
types_text_of_text text = types_text_of_parsed (parsed text)
