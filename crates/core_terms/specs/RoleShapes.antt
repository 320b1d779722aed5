-- The shapes of roles.
use Rattle.std.specs.Prelude.{Bool, true, false, not, ◌&&◌, List, [], ◌∷◌}
use Rattle.core_terms.specs.Types.{Ty, PairTy, same_type}
use Rattle.core_terms.specs.Terms.{Program, Kind, Inner, Init, Query, Update}
use Rattle.core_terms.specs.Roles.{has_auth}

-- the role's parameters and result have the shape that its kind asks for, and no `auth` stands in its argument
abbrev pub shape_test : Program → Kind → List Ty → Ty → Bool
shape_test P Inner parameters result = true
shape_test P Init (argument ∷ []) result = same_type P.state result && not (has_auth P.types argument)
shape_test P Query (state ∷ argument ∷ []) result = same_type P.state state && not (has_auth P.types argument)
shape_test P Update (state ∷ argument ∷ []) (PairTy new answer) = same_type P.state state && (same_type P.state new && not (has_auth P.types argument))
shape_test P kind parameters result = false
