-- What a program of the code means, and its names.
use Rattle.std.specs.Prelude.{ℕ, List, [], map, slice_get, option_map, unwrap_or}
use Rattle.core_terms.specs.Types.{Ty}
use Rattle.core_terms.specs.Terms as tree
use Rattle.core_terms.specs.TypeTables.{types_of_forms}
pub use Rattle.core_terms.specs.TypeNames.{type_names}
use Rattle.core_terms.specs.ProgramTypes.{types_by_number}
use Rattle.core_terms.specs.ProgramParts.{program_of_parts}
use Rattle.core_terms.specs.declared.term.Constructor.{Constructor}
use Rattle.core_terms.specs.declared.term.NamedType.{NamedType}
use Rattle.core_terms.specs.declared.types.TyTable.{TyTable}
use Rattle.core_terms.specs.declared.program.Program.{Program}

-- the types of a table, by number
abbrev pub types_in : TyTable → List Ty
types_in table = types_of_forms table.forms.keys

-- the types of a program, by number
abbrev pub types_of : Program → List Ty
types_of p = types_by_number p.types

-- the program of the definitions, written or compiled
abbrev pub meaning : Program → tree.Program
meaning p = program_of_parts p.types p.functions.items p.code

-- the names of the constructors of each named type, by number and by tag
abbrev pub constructor_names : List NamedType → ℕ → List (List ℕ)
constructor_names named number =
    unwrap_or (option_map (λ (declared : NamedType). map (λ (constructor : Constructor). constructor.name) declared.constructors.items) (slice_get named number)) []
