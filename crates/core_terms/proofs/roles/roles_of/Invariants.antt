use Rattle.std.proofs.Common.{◌≡◌, ℕ, true, List, map, take}
use Rattle.std.specs.List.{list_all}
use Rattle.core_terms.specs.ProgramTrees.{function_of, has_types_below}
use Rattle.core_terms.specs.RoleViews.{has_role_below, role_of}
use Rattle.core_terms.specs.Roles.{roles_among}
use Rattle.core_terms.specs.Types.{Ty}
use Rattle.core_terms.proofs.roles.roles_of.Given as goal

-- the roles among the functions so far, and their types are among so many wherever those of the functions are
abbrev pub invariant-loop-number : goal.invariant-loop-number
invariant-loop-number l =
    ((types : List Ty) → map (role_of types) l.roles.items ≡ roles_among 0 (map (function_of types) (take l.number l.functions)))
    × ((count : ℕ) → list_all (has_types_below count) l.functions ≡ true → list_all (has_role_below count) l.roles.items ≡ true)
