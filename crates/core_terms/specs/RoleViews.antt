-- The roles of the definitions that those of the code stand for.
use Rattle.std.specs.Prelude.{◌≡◌, ◌<◌, ℕ, Bool, true, ◌&&◌, List, length, nat_lt, Some, slice_get}
use Rattle.core_terms.specs.Types.{Ty}
use Rattle.core_terms.specs.Terms as tree
use Rattle.core_terms.specs.Roles as definition
use Rattle.core_terms.specs.Roles.{argument_place}
use Rattle.core_terms.specs.TypeTables.{type_at}
use Rattle.core_terms.specs.ProgramTrees.{is_role, kind_of}
use Rattle.core_terms.specs.declared.roles.Role.{Role}
use Rattle.core_terms.specs.declared.roles.RoleKind.{RoleKind}
use Rattle.core_terms.specs.declared.roles.RoleKind.TheVariants.{Init, Query, Update}
use Rattle.core_terms.specs.declared.term.Function.{Function}

abbrev pub role_kind_of : RoleKind → tree.Kind
role_kind_of Init = tree.Init
role_kind_of Query = tree.Query
role_kind_of Update = tree.Update

-- a role of a program with these types
abbrev pub role_of : List Ty → Role → definition.Role
role_of types role = record {
  function = role.function.0;
  name = role.name;
  kind = role_kind_of role.kind;
  argument = type_at types role.argument;
  result = type_at types role.result;
}

-- the types of the role are among so many
abbrev pub has_role_below : ℕ → Role → Bool
has_role_below count role = nat_lt role.argument.0 count && nat_lt role.result.0 count

-- the function has the parameter that its caller passes
abbrev pub HasArgument : Function → Type 0
HasArgument f = argument_place (kind_of f.kind) < length f.parameters.items

-- each role among the functions has the parameter that its caller passes
abbrev pub HaveArguments : List Function → Type 0
HaveArguments functions = (i : ℕ) (f : Function) → slice_get functions i ≡ Some f → is_role f ≡ true → HasArgument f
