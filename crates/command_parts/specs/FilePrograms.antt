-- A file as a program: an object where it begins as one, and else a text.
use Rattle.std.specs.Prelude.{ℕ, List, [], Bool, nat_eq, slice_get, unwrap_or, if◌then◌else◌, ◌≡◌, ◌≤◌, length}
use Rattle.std.specs.List.{starts_with}
use Rattle.printed_syntax.specs.Literals.{ConstructorNames}
use Rattle.object_meaning.specs.Accepting.{Acceptance, Accepts, FirstFault, ObjectFault, accepting}
use Rattle.object_meaning.specs.Accepting as object
use Rattle.object_meaning.specs.ObjectBodies.{constructor_names, program_in}
use Rattle.object_meaning.specs.ObjectBytes.{object_magic}
use Rattle.object_meaning.specs.Objects.{most_object_bytes}
use Rattle.printed_lines.specs.declared.refusal.ObjectKind.{ObjectKind}
use Rattle.printed_lines.specs.declared.refusal.ObjectKind.TheVariants as kind
use Rattle.printed_lines.specs.declared.refusal.Refusal.TheVariants as refusal
use Rattle.command_parts.specs.TextPrograms.{FileProgram, IsProgram, IsRefused, constructor_names_of_text, program_of_text}
use Rattle.core_terms.specs.Limits.{most_program_bytes}
use Rattle.core_terms.specs.Terms.{Program}

-- the bytes begin with the magic of objects
unfoldable pub begins_as_object : List ℕ → Bool
begins_as_object bytes = starts_with nat_eq bytes object_magic

-- how many bytes a program's file may have: an object has a limit of its own
unfoldable pub longest_program : List ℕ → ℕ
longest_program bytes = if begins_as_object bytes then most_object_bytes else most_program_bytes

-- why bytes are no object that is accepted
abbrev pub object_kind : ObjectFault → ObjectKind
object_kind (object.Cut bytes) = kind.Cut bytes
object_kind (object.BadField offset) = kind.BadField offset
object_kind (object.Leftover bytes) = kind.Leftover bytes
object_kind (object.BadShape function) = kind.Shape function
object_kind (object.BadKind function instruction) = kind.Kind function instruction

abbrev pub of_acceptance : Acceptance → FileProgram
of_acceptance (Accepts o) = IsProgram (program_in o)
of_acceptance (FirstFault fault) = IsRefused (refusal.Object (object_kind fault))

-- bytes as an object, and that as a program
unfoldable pub program_of_object : List ℕ → FileProgram
program_of_object bytes = of_acceptance (accepting bytes)

-- the names of the constructors of each named type that an object lists
abbrev pub constructors_of_acceptance : Acceptance → List (List (List ℕ))
constructors_of_acceptance (Accepts o) = constructor_names o.types
constructors_of_acceptance (FirstFault fault) = []

-- The names of the constructors of the n-th named type that an object lists, from 0, in the order in which it lists them: by tag.
unfoldable pub constructor_names_of_object : List ℕ → ConstructorNames
constructor_names_of_object bytes n = unwrap_or (slice_get (constructors_of_acceptance (accepting bytes)) n) []

-- The bytes of a file as a program, and the names of its constructors.
unfoldable pub program_of_file : List ℕ → FileProgram
program_of_file bytes = if begins_as_object bytes then program_of_object bytes else program_of_text bytes

unfoldable pub constructor_names_of_file : List ℕ → ConstructorNames
constructor_names_of_file bytes = if begins_as_object bytes then constructor_names_of_object bytes else constructor_names_of_text bytes

-- the program is that of a text, or of an accepted object, which is no longer than it may be
pub record IsOfTextOrObject (P : Program) : Type 0 where
  pub bytes : List ℕ
  pub fits : length bytes ≤ longest_program bytes
  pub program : program_of_file bytes ≡ IsProgram P
