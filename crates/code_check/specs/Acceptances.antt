-- What the check of bytes says of them.
use Rattle.std.specs.Prelude.{◌≡◌, ℕ, List, Result, Ok, Err}
use Rattle.core_terms.specs.Programs.{meaning}
use Rattle.core_terms.specs.TypeNames.{all_constructor_names}
use Rattle.core_terms.specs.declared.program.Program.{Program}
use Rattle.object_meaning.specs.Accepting as meant
use Rattle.object_meaning.specs.ObjectBodies.{constructor_names, program_in}
use Rattle.object_meaning.specs.Objects.{Object}
use Rattle.code_check.specs.Faults.{FaultsAs}
use Rattle.code_check.specs.ObjectParts.{parts_program}
use Rattle.code_check.specs.declared.fault.ObjectFault.{ObjectFault}
use Rattle.code_check.specs.declared.parts.Parts.{Parts}

-- the program is the object's, and its constructors have the names of the object's
pub record IsProgramOf (o : Object) (program : Program) : Type 0 where
  pub meaning : meaning program ≡ program_in o
  pub names : all_constructor_names program.types.named.items ≡ constructor_names o.types

-- Ok gives the program of the accepted object; a fault is the first one of the bytes.
abbrev pub AcceptsAs : meant.Acceptance → Result Program ObjectFault → Type 0
AcceptsAs told (Ok program) = (o : Object) × (told ≡ meant.Accepts o) × IsProgramOf o program
AcceptsAs told (Err fault) = FaultsAs told fault

-- The bytes are an object, whose shapes and kinds are still to be judged; and these are its parts.
pub record AreParts (bytes : List ℕ) (parts : Parts) : Type 0 where
  pub object : Object
  pub told : meant.accepting bytes ≡ meant.shapes_judged object (meant.shape_fault (program_in object))
  pub program : parts_program parts ≡ program_in object
  pub names : all_constructor_names parts.named.items ≡ constructor_names object.types

-- Ok accepts the object.
abbrev pub JudgesAs : Object → meant.Acceptance → Result (Unit {0}) ObjectFault → Type 0
JudgesAs o told (Ok passed) = told ≡ meant.Accepts o
JudgesAs o told (Err fault) = FaultsAs told fault
