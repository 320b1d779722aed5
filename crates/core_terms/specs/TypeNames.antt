-- The names that stand in the named types of a program.
use Rattle.std.specs.Prelude.{ℕ, List, map, All}
use Rattle.core_terms.specs.ProgramLimits.{IsName}
use Rattle.core_terms.specs.declared.term.Constructor.{Constructor}
use Rattle.core_terms.specs.declared.term.NamedType.{NamedType}

-- the names of the named types, by number
abbrev pub type_names : List NamedType → List (List ℕ)
type_names named = map (λ (declared : NamedType). declared.name) named

-- and of each the names of its constructors, by tag
abbrev pub all_constructor_names : List NamedType → List (List (List ℕ))
all_constructor_names named = map (λ (declared : NamedType). map (λ (constructor : Constructor). constructor.name) declared.constructors.items) named

-- each of them has 1 to 64 bytes
pub record AreNamed (named : List NamedType) : Type 0 where
  pub types : All IsName (type_names named)
  pub constructors : All (All IsName) (all_constructor_names named)
