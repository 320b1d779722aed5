-- The four passes of the checker, on a syntax tree: the program that it gives, or the first fault of the first pass that has one.
use Rattle.std.specs.Prelude.{ℕ, List, None}
use Rattle.core_terms.specs.Terms as tree
use Rattle.core_terms.specs.Formats.{Format}
use Rattle.core_terms.specs.ProgramFormats.{format_with}
use Rattle.core_terms.specs.TypeDeclarations.{types_text}
use Rattle.auth_syntax.specs.Syntax as syntax
use Rattle.declared_types.specs.Checking.{Checking, Sound, FaultAt, then_checked}
use Rattle.declared_types.specs.Declarations.{first_pass}
use Rattle.declared_types.specs.WrittenTypes.{second_pass, functions_in}
pub use Rattle.declared_types.specs.DeclaredPrograms.{constructors_in, format_of, names_of, scope_of, state_of, table_of_program, third_pass}
use Rattle.auth_types.specs.Bodies.{checked_functions}
use Rattle.declared_types.specs.declared.fault.TypeKind.{TypeKind}

module _ (program : syntax.Program) where
  -- the type declarations, printed, and what the format of a program with these fixes
  abbrev pub declared_text_of : List ℕ
  declared_text_of = types_text (names_of program) (constructors_in program.declarations) (table_of_program program)

  abbrev pub program_format : Format
  program_format = format_with (format_of program) declared_text_of

  -- the fourth pass, which gives the functions
  abbrev pub fourth_pass : Checking (List tree.Function)
  fourth_pass = checked_functions (names_of program) (scope_of program) (functions_in program.declarations)

  -- one pass after another
  abbrev pub all_passes : Checking tree.Program
  all_passes =
      then_checked (first_pass program) (λ _.
      then_checked (second_pass program) (λ _.
      then_checked (third_pass program) (λ _.
      then_checked fourth_pass (λ functions.
      Sound (record { format = program_format; types = table_of_program program; state = state_of program; functions = functions; code = None })))))

-- what checking a tree gives: a program, or the first fault with the line and column of its place
pub data Checked : Type 0 where
  IsProgram : (P : tree.Program) → Checked
  FirstFault : (kind : TypeKind) (line column : ℕ) → Checked

abbrev pub as_checked : Checking tree.Program → Checked
as_checked (Sound P) = IsProgram P
as_checked (FaultAt kind at) = FirstFault kind at.line at.column

-- the program of a tree, or its first fault
unfoldable pub checked : syntax.Program → Checked
checked program = as_checked (all_passes program)
