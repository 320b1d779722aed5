-- The programs of texts, and those of accepted objects, are well-typed.
use Rattle.std.specs.Prelude.{◌≡◌, ℕ, true, List}
use Rattle.core_terms.specs.ProgramFormats.{format_with}
use Rattle.core_terms.specs.Formats as meant
use Rattle.core_terms.specs.Terms.{Program}
use Rattle.core_terms.specs.Typing.{is_typed, is_shaped}
use Rattle.core_terms.specs.declared.format.Format.{Format}
use Rattle.command_parts.specs.TextPrograms.{FileProgram, IsProgram, program_of_text, types_text_of_text}
use Rattle.command_parts.specs.declared.status.Status.{Status}
use Rattle.command_parts.specs.declared.status.Status.TheVariants.{Done, Trap, OutOfFuel}

-- the format is one of the two, with type declarations that are printed as some text
abbrev pub IsOneOfTwo : meant.Format → Type 0
IsOneOfTwo format = (one : Format) × (text : List ℕ) × (format ≡ format_with one text)

-- the program is well-typed, its roles have their shapes, and its format is one of the two
pub record IsSound (P : Program) : Type 0 where
  pub typed : is_typed P ≡ true
  pub shaped : is_shaped P ≡ true
  pub format : IsOneOfTwo P.format

-- the program is that of a text whose type declarations are printed as this one
abbrev pub IsOfDeclared : List ℕ → Program → Type 0
IsOfDeclared declared P = (text : List ℕ) × (program_of_text text ≡ IsProgram P) × (types_text_of_text text ≡ declared)

-- by a reading of bytes each program that they give is sound
abbrev pub GivesSound : (List ℕ → FileProgram) → Type 0
GivesSound reading = (bytes : List ℕ) (P : Program) → reading bytes ≡ IsProgram P → IsSound P

-- the status is that of an outcome, or of a command that was carried out
abbrev pub IsOutcome : Status → Type 0
IsOutcome Done = Unit {0}
IsOutcome Trap = Unit {0}
IsOutcome OutOfFuel = Unit {0}
IsOutcome other = ⊥
