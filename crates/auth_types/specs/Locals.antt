-- The locals of a body, as the code holds them, in the words of the definitions.
use Rattle.std.specs.Prelude.{ℕ, ◌<◌, List, map, All}
use Rattle.core_terms.specs.Types.{Ty}
use Rattle.core_terms.specs.TypeTables.{type_at}
use Rattle.auth_types.specs.Bodies.{Local}
use Rattle.auth_types.specs.declared.bodies.elaborator.Local.{Local as CodeLocal}

-- the locals of the definitions, over these types
abbrev pub local_meant : List Ty → CodeLocal → Local
local_meant types local = record { name = local.name.now; of_type = type_at types local.ty }

abbrev pub locals_meant : List Ty → List CodeLocal → List Local
locals_meant types locals = map (local_meant types) locals

-- the number of each local's type is below this count
abbrev pub AreLocalsWithin : ℕ → List CodeLocal → Type 0
AreLocalsWithin count locals = All (λ (l : CodeLocal). l.ty.0 < count) locals

-- their names
abbrev pub names_of : List Local → List (List ℕ)
names_of locals = map (λ (l : Local). l.name) locals
