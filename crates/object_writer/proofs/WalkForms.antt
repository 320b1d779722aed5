-- What the walks list, from a place on.
use Rattle.std.proofs.Common.{◌≤◌, List, length, map}
use Rattle.core_terms.specs.ProgramTrees.{function_of, types_at}
use Rattle.core_terms.specs.TypeTables.{type_at}
use Rattle.core_terms.specs.Types.{Ty, Table}
use Rattle.core_terms.specs.declared.term.Constructor.{Constructor}
use Rattle.core_terms.specs.declared.term.Function.{Function}
use Rattle.core_terms.specs.GeneratedCode.{function_code}
use Rattle.object_meaning.specs.WrittenObjects.{with_fields, with_functions, with_instructions, with_type, with_types}
use Rattle.object_writer.proofs.ListedParts.{functions_grow}

abbrev pub with_constructors : List Ty → List Ty → List Constructor → List Ty
with_constructors types listing cs = with_fields listing (map (λ (c : Constructor). types_at types c.fields.items) cs)

abbrev pub with_program_functions : Table → List Ty → List Ty → List Function → List Ty
with_program_functions table types listing functions = with_functions listing (map (function_code table) (map (function_of types) functions))

-- one function's types
abbrev pub with_function : Table → List Ty → List Ty → Function → List Ty
with_function table types listing f =
    with_instructions (with_type (with_types listing (types_at types f.parameters.items)) (type_at types f.result)) (function_code table (function_of types f)).code

pub functions_walk_grows : (table : Table) (types listing : List Ty) (functions : List Function) → length listing ≤ length (with_program_functions table types listing functions)
functions_walk_grows table types listing functions = functions_grow listing (map (function_code table) (map (function_of types) functions))
