-- What the parts of a program mean together.
use Rattle.std.specs.Prelude.{List, map, Option, Some, Vec}
use Rattle.std.specs.declared.alloc.Global.{Global}
use Rattle.core_terms.specs.Terms as tree
use Rattle.core_terms.specs.InstructionViews.{codes_meant, instructions_of}
use Rattle.core_terms.specs.ProgramTrees.{program_of}
use Rattle.core_terms.specs.TypeTables.{types_of_forms}
use Rattle.core_terms.specs.ProgramTypes.{program_with, types_by_number, with_code}
use Rattle.core_terms.specs.declared.instruction.Instruction.{Instruction}
use Rattle.core_terms.specs.declared.program_types.Types.{Types}
use Rattle.core_terms.specs.declared.term.Function.{Function}
use Rattle.core_terms.specs.declared.term.NamedType.{NamedType}
use Rattle.core_terms.specs.declared.types.TyId.{TyId}
use Rattle.core_terms.specs.declared.types.TyTable.{TyTable}

-- the functions of these types, compiled to this code
abbrev pub compiled_program : TyTable → List NamedType → TyId → List Function → List (Vec Instruction Global) → tree.Program
compiled_program types named state functions code =
    with_code (program_of types.format types.forms.keys named state functions) (Some (map (λ (code : Vec Instruction Global). instructions_of (types_of_forms types.forms.keys) code.items) code))

-- these types and functions, written, or compiled to this code
abbrev pub program_of_parts : Types → List Function → Option (Vec (Vec Instruction Global) Global) → tree.Program
program_of_parts types functions code = with_code (program_with types functions) (codes_meant (types_by_number types) code)
