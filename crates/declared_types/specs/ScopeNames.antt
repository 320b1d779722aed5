-- The names that a program declares for its bodies, and the numbers that go with them.
use Rattle.std.specs.Prelude.{ℕ, ◌+◌, List, [], ◌∷◌, ◌++◌, map}
use Rattle.std.specs.Borrow.{Bor}
use Rattle.core_terms.specs.declared.term.Constructor.{Constructor}
use Rattle.core_terms.specs.declared.term.NamedType.{NamedType}
use Rattle.declared_types.specs.Signatures.{Numbered}
use Rattle.declared_types.specs.declared.scope.ConstructorId.{ConstructorId}

-- the names that a set holds, in their order
abbrev pub names_in : List (Bor (List ℕ)) → List (List ℕ)
names_in keys = map (λ k. k.now) keys

-- the names of the constructors of each named type
abbrev pub constructors_meant : List NamedType → List (List (List ℕ))
constructors_meant named = map (λ (declared : NamedType). map (λ (c : Constructor). c.name) declared.constructors.items) named

-- names of all types in one row
abbrev pub joined : List (List (List ℕ)) → List (List ℕ)
joined [] = []
joined (names ∷ others) = names ++ joined others

-- the type and the tag of each constructor in that row
abbrev pub tagged : ℕ → ℕ → List (List ℕ) → List (Numbered ℕ)
tagged number tag [] = []
tagged number tag (name ∷ names) = record { number = number; value = tag } ∷ tagged number (tag + 1) names

abbrev pub numbered : ℕ → List (List (List ℕ)) → List (Numbered ℕ)
numbered number [] = []
numbered number (names ∷ others) = tagged number 0 names ++ numbered (number + 1) others

abbrev pub constructor_meant : ConstructorId → Numbered ℕ
constructor_meant id = record { number = id.named.0; value = id.tag.0 }
