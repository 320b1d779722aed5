-- The laws of what is emitted of a text.
use Rattle.std.specs.Prelude.{◌≡◌, ℕ, List, Some}
use Rattle.core_terms.specs.Terms as tree
use Rattle.auth_syntax.specs.Parsing.{parsed, Tree}
use Rattle.auth_syntax.specs.Syntax.{Program}
use Rattle.declared_types.specs.DeclaredPrograms.{constructors_in}
use Rattle.auth_types.specs.CheckedPrograms.{IsProgram, checked}
use Rattle.object_meaning.specs.Accepting.{Accepts, accepting}
use Rattle.object_meaning.specs.EmittablePrograms.{IsEmittable}
use Rattle.object_meaning.specs.ObjectBodies.{object_format}
use Rattle.object_meaning.specs.WrittenObjects.{object_of, written}

-- What is checked of a text in the first format may be emitted: each match has an arm, each named type a constructor and each function a
-- parameter, nothing goes beyond its limit, no type but those of the program is named, and no array stands anywhere; and its constructors
-- and roles go by the names that the text gives them.
abbrev pub TextsAreEmittable : Type 0
TextsAreEmittable =
    (text : List ℕ) (program : Program) (P : tree.Program) → parsed text ≡ Tree program → checked program ≡ IsProgram P → P.format ≡ object_format
    → IsEmittable P (constructors_in program.declarations)

-- So what is written of it, where that is not too long for an object, is accepted, as the object that it is.
abbrev pub EmittedIsAccepted : Type 0
EmittedIsAccepted =
    (text : List ℕ) (program : Program) (P : tree.Program) (bytes : List ℕ) → parsed text ≡ Tree program → checked program ≡ IsProgram P
    → P.format ≡ object_format → written P (constructors_in program.declarations) ≡ Some bytes
    → accepting bytes ≡ Accepts (object_of P (constructors_in program.declarations))
