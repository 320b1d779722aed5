-- Shapes of roles.
use Rattle.std.specs.Prelude.{Bool, false}
use Rattle.core_terms.specs.Types.{Ty, PairTy, same_type}

-- the type is a pair, of the state and of something
abbrev pub gives_state : (state : Ty) → Ty → Bool
gives_state state (PairTy new answer) = same_type state new
gives_state state t = false
