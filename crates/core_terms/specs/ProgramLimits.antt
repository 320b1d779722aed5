-- The limits of a program: how many named types, constructors, fields, functions, parameters, locals and expressions it has, how
-- long its names are, and how far its types and expressions are nested.
use Rattle.std.specs.Prelude.{ℕ}
pub use Rattle.core_terms.specs.Names.{IsName, longest_name}

-- how many there may be: named types in a program, constructors of a type, fields of a constructor
abbrev pub most_types : ℕ
most_types = 256

abbrev pub most_constructors : ℕ
most_constructors = 255

abbrev pub most_fields : ℕ
most_fields = 8

-- functions in a program, parameters of a function, locals at one place, and expressions in a program
abbrev pub most_functions : ℕ
most_functions = 1024

abbrev pub most_parameters : ℕ
most_parameters = 8

abbrev pub most_locals : ℕ
most_locals = 255

abbrev pub most_expressions : ℕ
most_expressions = 262144

-- how many levels a type that is written has at most, and the body of a function
abbrev pub most_levels : ℕ
most_levels = 100

abbrev pub most_instructions : ℕ
most_instructions = 4194304
