-- The third pass: each role has the shape of its kind, and no `auth` stands in its argument.
use Rattle.std.specs.Prelude.{ℕ, Bool, false, not, ◌&&◌, List, [], ◌∷◌}
use Rattle.core_terms.specs.Types.{Ty, PairTy, Table, same_type}
use Rattle.core_terms.specs.declared.format.Format.{Format}
use Rattle.core_terms.specs.Roles.{has_auth}
use Rattle.auth_syntax.specs.Syntax.{TypeSyntax, place_of_type, ParameterSyntax, KindSyntax, InnerSyntax, InitSyntax, QuerySyntax, UpdateSyntax, FunctionSyntax}
use Rattle.declared_types.specs.Checking.{Checking, Sound, FaultAt, then_checked, unless_fault}
use Rattle.declared_types.specs.WrittenTypes.{type_meant}
use Rattle.declared_types.specs.declared.fault.TypeKind.TheVariants.{RoleShape, AuthInArgument}

-- the result of an update of this state: a pair of which the first is a new one
abbrev pub is_new_state : Ty → Ty → Bool
is_new_state state (PairTy new answer) = same_type state new
is_new_state state t = false

module _ (format : Format) (names : List (List ℕ)) (table : Table) where
  -- the argument of a role, where the rest of the role has its shape: no `auth` stands in its type
  abbrev pub plain_argument : FunctionSyntax → Bool → TypeSyntax → Checking (Unit {0})
  plain_argument function fits argument =
      unless_fault fits RoleShape function.name.at
      (unless_fault (not (has_auth table (type_meant format names argument))) AuthInArgument (place_of_type argument) (Sound tt))

  module _ (state : Ty) where
    -- init f(x: A): S; query f(s: S, x: A): R; update f(s: S, x: A): (S, R)
    abbrev pub checked_role : FunctionSyntax → KindSyntax → List ParameterSyntax → Checking (Unit {0})
    checked_role function InnerSyntax parameters = Sound tt
    checked_role function InitSyntax (argument ∷ []) =
        plain_argument function (same_type state (type_meant format names function.result_type)) argument.of_type
    checked_role function QuerySyntax (first ∷ argument ∷ []) =
        plain_argument function (same_type state (type_meant format names first.of_type)) argument.of_type
    checked_role function UpdateSyntax (first ∷ argument ∷ []) =
        plain_argument function (same_type state (type_meant format names first.of_type) && is_new_state state (type_meant format names function.result_type)) argument.of_type
    checked_role function kind parameters = FaultAt RoleShape function.name.at

    abbrev pub checked_roles : List FunctionSyntax → Checking (Unit {0})
    checked_roles [] = Sound tt
    checked_roles (function ∷ rest) = then_checked (checked_role function function.kind function.parameters) (λ _. checked_roles rest)
