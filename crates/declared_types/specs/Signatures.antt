-- What a program declares for its bodies: functions with their types, constructors with their fields, and which of them a name names.
use Rattle.std.specs.Prelude.{ℕ, ◌+◌, List, [], ◌∷◌, Option, Some, None, bytes_eq, if◌then◌else◌}
use Rattle.core_terms.specs.Types.{Ty, Table}
use Rattle.core_terms.specs.declared.format.Format.{Format}
use Rattle.declared_types.specs.WrittenTypes.{number_of}

-- what a function is called with, and what it gives
pub record Signature : Type 0 where
  pub name : List ℕ
  pub parameters : List Ty
  pub result : Ty

-- what a program declares for its bodies: its format; the functions by number; the constructors of each named type, by number and tag, with their
-- names and the types of their fields
pub record Scope : Type 0 where
  pub format : Format
  pub functions : List Signature
  pub constructors : List (List (List ℕ))
  pub table : Table

-- the function of a name, with its number
pub record Numbered (A : Type 0) : Type 0 where
  pub number : ℕ
  pub value : A

abbrev pub function_named : ℕ → List Signature → List ℕ → Option (Numbered Signature)
function_named n [] name = None
function_named n (f ∷ fs) name = if bytes_eq f.name name then Some (record { number = n; value = f }) else function_named (n + 1) fs name

-- the constructor of a name: the number of its type, and its tag
abbrev pub tag_in : ℕ → Option ℕ → Option (Numbered ℕ) → Option (Numbered ℕ)
tag_in number (Some tag) others = Some (record { number = number; value = tag })
tag_in number None others = others

abbrev pub constructor_named : ℕ → List (List (List ℕ)) → List ℕ → Option (Numbered ℕ)
constructor_named number [] name = None
constructor_named number (names ∷ others) name = tag_in number (number_of names name) (constructor_named (number + 1) others name)
