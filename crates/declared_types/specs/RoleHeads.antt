-- What the third pass finds of a function of a scope.
use Rattle.std.specs.Prelude.{◌≡◌, ℕ, Bool, not, List, [], ◌∷◌, Result}
use Rattle.core_terms.specs.Types.{Ty, Table}
use Rattle.core_terms.specs.declared.format.Format.{Format}
use Rattle.auth_syntax.specs.Syntax.{FunctionSyntax, KindSyntax, ParameterSyntax, place_of_type}
use Rattle.auth_syntax.specs.Trees as written
use Rattle.lexemes.specs.declared.place.Place.{Place}
use Rattle.declared_types.specs.Checking.{Checking, Sound, unless_fault}
use Rattle.declared_types.specs.DeclaredPrograms.{signature_of}
use Rattle.declared_types.specs.Findings.{Finds, TypeFault}
use Rattle.declared_types.specs.RoleRules.{checked_role}
use Rattle.declared_types.specs.Scopes.{signature_meant}
use Rattle.declared_types.specs.declared.fault.TypeKind.TheVariants.{AuthInArgument, RoleShape}
use Rattle.declared_types.specs.declared.scope.Head.{Head}

-- the answer for the function as a role of this kind, where its types stand for those that are written
abbrev pub FindsRole : List Ty → Table → Ty → KindSyntax → Head → Result (Unit {0}) TypeFault → Type 0
FindsRole types table state kind head answer =
    (format : Format) (names : List (List ℕ)) → signature_meant types head ≡ signature_of format names (written.function_of head.function.now)
    → Finds (λ _. tt) (checked_role format names table state (written.function_of head.function.now) kind (written.parameters_of head.function.now.parameters)) answer

-- the place of the last parameter's type
abbrev pub last_place : Place → List ParameterSyntax → Place
last_place at [] = at
last_place at (parameter ∷ rest) = last_place (place_of_type parameter.of_type) rest

abbrev pub argument_place : FunctionSyntax → Place
argument_place function = last_place function.name.at function.parameters

-- a role at whose name this place is, whose shape fits or not, and in whose argument an `auth` stands or not
abbrev pub judged_role : Place → Bool → Bool → List ParameterSyntax → Checking (Unit {0})
judged_role at fits auth parameters = unless_fault fits RoleShape at (unless_fault (not auth) AuthInArgument (last_place at parameters) (Sound tt))
