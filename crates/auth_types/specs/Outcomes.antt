-- What an answer of the checker says of the program that a tree has. Where memory ran out nothing is said.
use Rattle.std.specs.Prelude.{◌≡◌, Result, Ok, Err, ⊤}
use Rattle.core_terms.specs.Programs.{meaning}
use Rattle.core_terms.specs.declared.fault.Fault.TheVariants.{At, NoMemory}
use Rattle.core_terms.specs.declared.program.Program.{Program}
use Rattle.auth_types.specs.CheckedPrograms.{Checked, IsProgram, FirstFault}
pub use Rattle.declared_types.specs.Findings.{Finds, TypeFault}

-- Ok gives the program of the tree, a refusal the tree's first fault
abbrev pub Checks : Checked → Result Program TypeFault → Type 0
Checks found (Ok p) = found ≡ IsProgram (meaning p)
Checks found (Err (At kind at)) = found ≡ FirstFault kind at.line at.column
Checks found (Err NoMemory) = ⊤
