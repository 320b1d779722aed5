-- Nodes in the order of the authenticated parts of a value.
use Rattle.std.specs.Prelude.{◌≡◌, List, [], ◌∷◌}
use Rattle.core_terms.specs.ProgramTypes.{types_by_number, types_meaning}
use Rattle.core_terms.specs.TypeTables.{type_at}
use Rattle.core_terms.specs.declared.types.TyId.{TyId}
use Rattle.core_terms.specs.declared.program_types.Types.{Types}
use Rattle.value_store.specs.Nodes.{Node}
use Rattle.value_store.specs.Standing.{IdealNodes, StandsFor}
use Rattle.value_store.specs.declared.node.Ref.{Ref}
use Rattle.images.specs.Images.{Entry}

-- Each of these has the type, and the node that stands for the value, of the entry with its place; over ideal nodes too.
abbrev pub AreInOrder : Types → List Node → List Entry → List (TyId × Ref) → Type 0
AreInOrder types nodes [] [] = Unit {0}
AreInOrder types nodes (e ∷ entries) (o ∷ order) = (type_at (types_by_number types) o.0 ≡ e.of_type)
    × StandsFor IdealNodes (types_meaning types).types nodes o.1.0 e.of_type e.value × AreInOrder types nodes entries order
AreInOrder types nodes [] (o ∷ order) = ⊥
AreInOrder types nodes (e ∷ entries) [] = ⊥
