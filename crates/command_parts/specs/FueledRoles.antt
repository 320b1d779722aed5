-- A program with the digest of its bytes, its names and its type declarations, and a role of it with the fuel that it is called with.
use Rattle.std.specs.Prelude.{ℕ, List}
use Rattle.core_terms.specs.Terms.{Program}
use Rattle.printed_syntax.specs.Literals.{ConstructorNames}

-- a program with the digest of its text, or of its object
pub record DigestedProgram : Type 0 where
  pub program : Program
  pub digest : List ℕ

-- the same with the names of the constructors that its text or its object has
pub record NamedProgram : Type 0 where
  pub digested : DigestedProgram
  pub names : ConstructorNames

-- the same with the type declarations of its text, printed
pub record DeclaredProgram : Type 0 where
  pub named : NamedProgram
  pub types_text : List ℕ

-- a program with the names of its constructors, of each named type and by tag, as its text lists them
pub record ListedProgram : Type 0 where
  pub program : Program
  pub constructors : List (List (List ℕ))

-- a role of a program, by the number of its function, with the fuel that it is called with
pub record FueledRole : Type 0 where
  pub program : NamedProgram
  pub role : ℕ
  pub fuel : ℕ
