-- What the types of a program mean, with its functions and without them.
use Rattle.std.specs.Prelude.{ℕ, List, [], Option}
use Rattle.core_terms.specs.Types.{Ty, Table}
use Rattle.core_terms.specs.Terms as tree
use Rattle.core_terms.specs.Instructions.{Instruction}
use Rattle.core_terms.specs.TypeTables.{types_of_forms}
use Rattle.core_terms.specs.ProgramTrees.{declared_text, program_of, table_of}
use Rattle.core_terms.specs.declared.program_types.Types.{Types}
use Rattle.core_terms.specs.declared.term.Function.{Function}

-- the types by number
abbrev pub types_by_number : Types → List Ty
types_by_number t = types_of_forms t.table.forms.keys

-- the named types by number, and of each the field types of its constructors by tag
abbrev pub named_table : Types → Table
named_table t = table_of (types_by_number t) t.named.items

-- the declarations of the named types, printed
abbrev pub text_of : Types → List ℕ
text_of t = declared_text (types_by_number t) t.named.items

-- the program of the definitions that has these types and functions
abbrev pub program_with : Types → List Function → tree.Program
program_with t functions = program_of t.table.format t.table.forms.keys t.named.items t.state functions

-- this program, compiled to this code, where there is some
abbrev pub with_code : tree.Program → Option (List (List Instruction)) → tree.Program
with_code P code = record { format = P.format; types = P.types; state = P.state; functions = P.functions; code = code }

-- The program of the definitions that has these types and no function. Digests, projections, limits and readings are by a
-- program's format and types alone, so they are the same by it as by any program that has these types.
abbrev pub types_meaning : Types → tree.Program
types_meaning t = program_with t []
