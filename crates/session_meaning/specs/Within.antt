-- States and calls of a server that are within the limits.
use Rattle.std.specs.Prelude.{◌<◌, ◌≤◌, ◌^◌}
use Rattle.core_terms.specs.Limits.{most_fuel}
use Rattle.core_terms.specs.Projection.{Fits}
use Rattle.core_terms.specs.Terms.{Program}
use Rattle.core_terms.specs.Values.{Value, IsIdeal, AuthWithin}
use Rattle.session_meaning.specs.Calls.{RoleCall, role_in}

-- It is a state of the program within the limits, and so is all that is authenticated in it.
pub record IsStateWithin (P : Program) (v : Value) : Type 0 where
  pub ideal : IsIdeal P.types P.state v
  pub fits : Fits P P.state v
  pub deep : AuthWithin P.format.limit P.types P.state v

-- It is a call that a message may ask for: the number of its role has two bytes, its fuel is within the limit, and its argument is a value of the
-- role's type within the limits.
pub record IsCallWithin (P : Program) (call : RoleCall) : Type 0 where
  pub role_fits : call.role < 2 ^ 16
  pub fuel_fits : call.fuel ≤ most_fuel
  pub ideal : IsIdeal P.types (role_in P call.role).argument call.argument
  pub fits : Fits P (role_in P call.role).argument call.argument
