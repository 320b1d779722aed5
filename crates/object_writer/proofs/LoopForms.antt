-- What the loops add, from a place on.
use Rattle.std.proofs.Common.{ℕ, List, map}
use Rattle.core_terms.specs.InstructionViews.{instructions_of}
use Rattle.core_terms.specs.ProgramTrees.{function_of, table_of, types_at}
use Rattle.core_terms.specs.ProgramTypes.{named_table, types_by_number}
use Rattle.core_terms.specs.TypeNames.{all_constructor_names}
use Rattle.core_terms.specs.Types.{Ty, Table}
use Rattle.core_terms.specs.declared.instruction.Instruction.{Instruction}
use Rattle.core_terms.specs.declared.program_types.Types.{Types}
use Rattle.core_terms.specs.declared.term.Constructor.{Constructor}
use Rattle.core_terms.specs.declared.term.Function.{Function}
use Rattle.core_terms.specs.declared.term.NamedType.{NamedType}
use Rattle.core_terms.specs.declared.types.TyId.{TyId}
use Rattle.object_meaning.specs.ObjectBytes.{bytes_of_all, constructor_bytes, function_bytes, instruction_bytes, type_bytes, words}
use Rattle.object_meaning.specs.WrittenObjects.{code_written, function_written, named_from, number_in, target_of, type_written}
use Rattle.object_writer.specs.WrittenTypes.{constructor_list}

-- over the listed types
module _ (listing : List Ty) where
  -- with the types by number
  module _ (types : List Ty) where
    abbrev pub number_words : List TyId → List ℕ
    number_words ids = words (map (number_in listing) (types_at types ids))

    abbrev pub constructor_parts : List Constructor → List ℕ
    constructor_parts cs = bytes_of_all constructor_bytes (constructor_list listing types cs)

    abbrev pub code_parts : ℕ → List Instruction → List ℕ
    code_parts i code = bytes_of_all instruction_bytes (code_written listing i (instructions_of types code))

    abbrev pub function_parts : Table → List Function → List ℕ
    function_parts table functions = bytes_of_all function_bytes (map (function_written listing table) (map (function_of types) functions))

  -- with the types of a program
  module _ (types : Types) where
    abbrev pub type_parts : List TyId → List ℕ
    type_parts ids = bytes_of_all type_bytes (map (type_written listing (named_table types) (all_constructor_names types.named.items)) (types_at (types_by_number types) ids))

    abbrev pub named_parts : ℕ → List NamedType → List ℕ
    named_parts n named =
        bytes_of_all type_bytes (map (type_written listing (named_table types) (all_constructor_names types.named.items)) (named_from n (table_of (types_by_number types) named)))

-- where a switch at this place leads to
abbrev pub target_words : ℕ → List ℕ → List ℕ
target_words place passed = words (map (target_of place) passed)
