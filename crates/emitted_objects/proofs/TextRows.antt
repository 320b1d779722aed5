-- What is emitted of texts, computed: the premises of the laws can be met.
use Rattle.std.proofs.Common.{◌≡◌, ℕ, List, Option, Some, None, refl}
use Rattle.std.specs.Prelude.{codes}
use Rattle.auth_syntax.specs.Parsing.{Parsed, Tree, parsed}
use Rattle.declared_types.specs.DeclaredPrograms.{constructors_in}
use Rattle.auth_types.specs.CheckedPrograms.{Checked, IsProgram, checked}
use Rattle.object_meaning.specs.ObjectRows.{open_loads}
use Rattle.object_meaning.specs.WrittenObjects.{written}

-- the bytes that are written of what a text is checked to
abbrev of_checked : List (List (List ℕ)) → Checked → Option (List ℕ)
of_checked names (IsProgram P) = written P names
of_checked names found = None

abbrev of_parsed : Parsed → Option (List ℕ)
of_parsed (Tree program) = of_checked (constructors_in program.declarations) (checked program)
of_parsed found = None

an_open : of_parsed (parsed (codes "state auth unit; query open(s: auth unit, x: unit): unit = unauth(s);")) ≡ Some (open_loads 0)
unfolding checked
an_open = refl
