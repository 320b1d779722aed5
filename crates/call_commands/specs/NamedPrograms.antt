-- The program in a file with its digest and the names of its constructors.
use Rattle.std.specs.Prelude.{ℕ, List}
use Rattle.sha2.specs.Sha256.{sha256}
use Rattle.core_terms.specs.Terms.{Program}
use Rattle.command_parts.specs.FilePrograms.{constructor_names_of_file}
use Rattle.command_parts.specs.FueledRoles.{NamedProgram}

-- a program with the digest of its bytes and the names of its constructors
abbrev pub named_program : List ℕ → Program → NamedProgram
named_program bytes P = record { digested = record { program = P; digest = sha256 bytes }; names = constructor_names_of_file bytes }
