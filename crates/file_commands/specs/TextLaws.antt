-- The laws of texts and objects as programs.
use Rattle.std.specs.Prelude.{◌≡◌, ℕ, List, [], length, slice_get, unwrap_or}
use Rattle.core_terms.specs.Terms.{Program}
use Rattle.command_parts.specs.FilePrograms.{constructor_names_of_file, program_of_file}
use Rattle.command_parts.specs.TextPrograms.{IsProgram}

-- The program that bytes give, as a text or as an object, has for each of its named types as many constructors as the bytes have names for
-- them.
abbrev pub ConstructorsAreNamed : Type 0
ConstructorsAreNamed =
    (bytes : List ℕ) (P : Program) → program_of_file bytes ≡ IsProgram P
    → (n : ℕ) → length (constructor_names_of_file bytes n) ≡ length (unwrap_or (slice_get P.types n) [])
