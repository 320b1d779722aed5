-- What the type of the code's programs says of them: they are well-typed, and their format is one that the laws speak of.
use Rattle.std.proofs.Common.{◌≡◌, ℕ, ◌<◌, List, length, slice_get, Some, sym, ap, ◌∙◌}
use Rattle.std.proofs.lemmas.Option.{slice_get-get_or, unwrap_or-slice_get}
use Rattle.core_terms.specs.Formats.{IsFormat}
use Rattle.core_terms.specs.Programs.{meaning}
use Rattle.core_terms.specs.ProgramTypes.{program_with}
use Rattle.core_terms.specs.Terms as tree
use Rattle.core_terms.specs.Terms.{function_at, no_function}
use Rattle.core_terms.specs.TypingRules.{IsTyped}
use Rattle.core_terms.specs.declared.program.Program.{Program}
use Rattle.core_terms.specs.declared.program_types.Types.{Types}
use Rattle.core_terms.specs.declared.term.Function.{Function}
use Rattle.core_terms.specs.ProgramTypes.{text_of}
use Rattle.core_terms.proofs.LawProofs.{each_format_is_format, typing_test_is_exact}

-- of whatever types and functions
pub every_format : (types : Types) (functions : List Function) → IsFormat (program_with types functions).format
every_format types functions = each_format_is_format types.table.format (text_of types)

pub is_format : (p : Program) → IsFormat (meaning p).format
is_format p = every_format p.types p.functions.items

pub is_typed : (p : Program) → IsTyped (meaning p)
is_typed p = (typing_test_is_exact (meaning p)).0 p.typed

-- a function whose number is in range is there
pub there : (P : tree.Program) (f : ℕ) → f < length P.functions → slice_get P.functions f ≡ Some (function_at P f)
there P f h = slice_get-get_or P.functions f no_function h ∙ ap Some (sym (unwrap_or-slice_get P.functions f no_function))
