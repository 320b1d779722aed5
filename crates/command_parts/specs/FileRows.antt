-- Rows for files as programs: which begin as an object, how long each may be, and what an object of 51 bytes is.
use Rattle.std.specs.Prelude.{◌≡◌, true, false, codes, refl}
use Rattle.core_terms.specs.Limits.{most_program_bytes}
use Rattle.object_meaning.specs.ObjectBodies.{program_in}
use Rattle.object_meaning.specs.ObjectRows.{open_loads, open_object}
use Rattle.printed_lines.specs.declared.refusal.ObjectKind.TheVariants.{Cut, Kind}
use Rattle.printed_lines.specs.declared.refusal.Refusal.TheVariants.{Object}
use Rattle.command_parts.specs.FilePrograms.{begins_as_object, longest_program, program_of_file, program_of_object}
use Rattle.command_parts.specs.TextPrograms.{IsProgram, IsRefused}

-- four bytes are enough, and each of them counts
pub begins : begins_as_object (codes "LAO1") ≡ true
unfolding begins_as_object
begins = refl

pub three_bytes : begins_as_object (codes "LAO") ≡ false
unfolding begins_as_object
three_bytes = refl

pub other_magic : begins_as_object (codes "LAO2 ..") ≡ false
unfolding begins_as_object
other_magic = refl

pub longest_text : most_program_bytes ≡ 262144
longest_text = refl

pub longest : (longest_program (codes "LAO1") ≡ 4194304) × (longest_program (codes "LAO2") ≡ 262144)
unfolding begins_as_object longest_program
longest = (refl, refl)

-- what begins as an object is none of a text
pub magic_alone : program_of_file (codes "LAO1") ≡ IsRefused (Object (Cut 4))
unfolding begins_as_object program_of_file program_of_object
magic_alone = refl

pub accepted : program_of_file (open_loads 0) ≡ IsProgram (program_in open_object)
unfolding begins_as_object program_of_file program_of_object
accepted = refl

pub at_fault : program_of_file (open_loads 1) ≡ IsRefused (Object (Kind 0 1))
unfolding begins_as_object program_of_file program_of_object
at_fault = refl
