-- What reading a program says of the program of its bytes. Where memory ran out nothing is said.
use Rattle.std.specs.Prelude.{◌≡◌, Result, Ok, Err, ⊤}
use Rattle.core_terms.specs.ProgramTypes.{text_of}
use Rattle.core_terms.specs.Programs.{constructor_names, meaning}
use Rattle.core_terms.specs.Terms as tree
use Rattle.core_terms.specs.declared.program.Program.{Program}
use Rattle.lexemes.specs.Readings.{SyntaxFault}
use Rattle.core_terms.specs.declared.fault.Fault.TheVariants as fault
use Rattle.auth_types.specs.Outcomes.{TypeFault}
use Rattle.core_terms.specs.TypeNames.{all_constructor_names}
use Rattle.code_check.specs.declared.fault.ObjectFault.{ObjectFault}
use Rattle.code_check.specs.declared.fault.ObjectFault.TheVariants as object_fault
use Rattle.printed_lines.specs.declared.refusal.ObjectKind.TheVariants as object_kind
use Rattle.printed_lines.specs.declared.refusal.ProgramKind.TheVariants.{Syntax, Typing}
use Rattle.printed_lines.specs.declared.refusal.Refusal.TheVariants as refusal
use Rattle.command_parts.specs.FueledRoles.{DeclaredProgram, DigestedProgram, ListedProgram, NamedProgram}
use Rattle.command_parts.specs.TextPrograms.{FileProgram, IsProgram, IsRefused}
use Rattle.command_parts.specs.declared.programs.ProgramFault.{ProgramFault}
use Rattle.command_parts.specs.declared.programs.ProgramFault.TheVariants.{At, Object, NoMemory}

-- Ok gives the program of the bytes, which is what p means; a refusal gives their first fault
abbrev pub ReadsProgram : {A : Type 0} → (A → tree.Program) → FileProgram → Result A ProgramFault → Type 0
ReadsProgram means found (Ok p) = found ≡ IsProgram (means p)
ReadsProgram means found (Err (At kind line column)) = found ≡ IsRefused (refusal.Program kind line column)
ReadsProgram means found (Err (Object kind)) = found ≡ IsRefused (refusal.Object kind)
ReadsProgram means found (Err NoMemory) = ⊤

-- why a text is no program, where it has no tree
abbrev pub of_syntax_fault : SyntaxFault → ProgramFault
of_syntax_fault (fault.At kind at) = At (Syntax kind) at.line at.column
of_syntax_fault fault.NoMemory = NoMemory

-- why a text is no program, where its tree gives none
abbrev pub of_type_fault : TypeFault → ProgramFault
of_type_fault (fault.At kind at) = At (Typing kind) at.line at.column
of_type_fault fault.NoMemory = NoMemory

-- why bytes that begin as an object are no program
abbrev pub of_object_fault : ObjectFault → ProgramFault
of_object_fault (object_fault.Cut bytes) = Object (object_kind.Cut bytes)
of_object_fault (object_fault.BadField offset) = Object (object_kind.BadField offset)
of_object_fault (object_fault.Leftover bytes) = Object (object_kind.Leftover bytes)
of_object_fault (object_fault.Shape function) = Object (object_kind.Shape function)
of_object_fault (object_fault.Kind function instruction) = Object (object_kind.Kind function instruction)
of_object_fault object_fault.NoMemory = NoMemory

-- a program with the digest that it holds
abbrev pub digested_of : Program → DigestedProgram
digested_of p = record { program = meaning p; digest = p.text_digest.0 }

-- the same with the names of its constructors
abbrev pub named_of : Program → NamedProgram
named_of p = record { digested = digested_of p; names = constructor_names p.types.named.items }

-- and with the names in lists
abbrev pub listed_of : Program → ListedProgram
listed_of p = record { program = meaning p; constructors = all_constructor_names p.types.named.items }

-- and with its type declarations, printed
abbrev pub declared_of : Program → DeclaredProgram
declared_of p = record { named = named_of p; types_text = text_of p.types }
