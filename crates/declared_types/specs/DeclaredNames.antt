-- What the first pass of the code has met so far, in the words of the definition.
use Rattle.std.specs.Prelude.{ℕ, List, reverse}
use Rattle.std.specs.Borrow.{Bor}
use Rattle.declared_types.specs.Declarations as spec
use Rattle.declared_types.specs.ScopeNames.{names_in}
use Rattle.declared_types.specs.declared.declarations.Declared.{Declared}

-- names in the order in which they were met, as the definition holds them: the last one first
abbrev pub names_met : List (Bor (List ℕ)) → List (List ℕ)
names_met keys = reverse (names_in keys)

abbrev pub declared_of : Declared → spec.Declared
declared_of declared = record {
  types = names_met declared.types.keys;
  constructors = names_met declared.constructors.keys;
  functions = names_met declared.functions.keys;
  state = declared.has_state;
}
