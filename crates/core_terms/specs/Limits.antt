-- The limits that several crates hold to: of a call's fuel, of a file, and of a program's text.
use Rattle.std.specs.Prelude.{ℕ}

-- the most fuel of a call: 10^12 units
abbrev pub most_fuel : ℕ
most_fuel = 1000000000000

-- the greatest number of bytes of a file that is no program: of a state, an image, a script or a mirror
abbrev pub most_file_bytes : ℕ
most_file_bytes = 67108864

-- The greatest number of bytes of the text of a program. That of an object is `most_object_bytes`.
abbrev pub most_program_bytes : ℕ
most_program_bytes = 262144
