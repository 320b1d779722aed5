-- Rows for what a server may begin with.
use Rattle.std.specs.Prelude.{◌≡◌, ◌≤◌, ◌<◌, ℕ, Bool, true, false, List, [], ◌∷◌, map, refl}
use Rattle.std.specs.List.{AllByRecursion}
use Rattle.std.proofs.Common.{arith, lit<, lit≤}
use Rattle.core_terms.specs.Values.{Value, UnitV, BoolV}
use Rattle.core_terms.proofs.LawProofs.{first_format_is_format, typing_test_is_exact}
use Rattle.ideal_meaning.specs.Examples.{toy, bool_program}
use Rattle.ideal_meaning.specs.ExampleProofs.{toy_gives_32_bytes}
use Rattle.session_meaning.specs.Begun.{IsBegun}
use Rattle.session_meaning.specs.ServerLaws.{ServersMayBegin}
use Rattle.session_meaning.specs.Calls.{RoleCall}
use Rattle.session_meaning.specs.HistoryRows.{flips, flipped, history}
use Rattle.session_meaning.specs.MessageRows.{text_digest}
use Rattle.session_meaning.specs.Messages.{Request, Hello, Call, Go}
use Rattle.session_meaning.specs.ReplyLaws.{IsHeard}
use Rattle.session_meaning.specs.Server.{Hears, Shared, begun_server, last_turn, new_server, server_after}
use Rattle.session_meaning.specs.Within.{IsCallWithin, IsStateWithin}

-- with one version and no commit it is the server at the start
pub new_is_begun : (v : Value) → begun_server (record { versions = v ∷ []; commits = [] }) ≡ new_server v
new_is_begun v = refl

-- a bool, and its opposite that an update made of it
pub bool_is_within : (b : Bool) → IsStateWithin bool_program (BoolV b)
bool_is_within b = record {
  ideal = tt;
  fits = record { size_fits = omega arith; depth_fits = omega arith };
  deep = (record { size_fits = omega arith; depth_fits = omega arith }, tt);
}

pub flip_is_within : IsCallWithin bool_program flips
flip_is_within = record { role_fits = lit< tt; fuel_fits = lit≤ tt; ideal = tt; fits = record { size_fits = omega arith; depth_fits = omega arith } }

pub flipped_is_begun : IsBegun bool_program flipped
flipped_is_begun = record { within = (bool_is_within true, (bool_is_within false, tt)); few = lit≤ tt; made = history; asked = (flip_is_within, tt) }

-- not without the commit, and not with a value that is no state
pub no_commit_is_missing : IsBegun bool_program (record { versions = BoolV true ∷ BoolV false ∷ []; commits = [] }) → ⊥
no_commit_is_missing is = is.made

pub each_is_a_state : IsBegun bool_program (record { versions = UnitV ∷ []; commits = [] }) → ⊥
each_is_a_state is = is.within.0.ideal

-- the most fuel that a call may have, and one more
abbrev pub flips_with : (role fuel : ℕ) → RoleCall
flips_with role fuel = record { role = role; argument = UnitV; fuel = fuel }

pub most_fuel : IsCallWithin bool_program (flips_with 2 1000000000000)
most_fuel = record { role_fits = lit< tt; fuel_fits = lit≤ tt; ideal = tt; fits = record { size_fits = omega arith; depth_fits = omega arith } }

pub no_fuel_more : IsCallWithin bool_program (flips_with 2 1000000000001) → ⊥
no_fuel_more is = let k : 1000000000001 ≤ 1000000000000 = is.fuel_fits in omega (arith, k)

pub no_role_more : IsCallWithin bool_program (flips_with 65536 1) → ⊥
no_role_more is = let k : 65536 < 65536 = is.role_fits in omega (arith, k)

pub no_other_argument : IsCallWithin bool_program (record { role = 2; argument = BoolV true; fuel = 1 }) → ⊥
no_other_argument is = is.ideal

-- THE LAW
-- A server that began so flips the bool once more, and with what it has then one may begin.
abbrev pub flipping_again : List Request
flipping_again = Hello 1 text_digest 0 (toy (0 ∷ [])) ∷ Call 1 2 1 [] ∷ Go 1 ∷ []

abbrev pub flipped_again : Shared
flipped_again = record { versions = BoolV true ∷ BoolV false ∷ BoolV true ∷ []; commits = flips ∷ flips ∷ [] }

pub it_flips : (server_after toy bool_program text_digest (last_turn 1) (begun_server flipped) (map Hears flipping_again)).shared ≡ flipped_again
it_flips = refl

pub begins_again : ServersMayBegin → IsBegun bool_program flipped_again
begins_again law =
    law toy toy_gives_32_bytes bool_program (first_format_is_format 1024 (lit< tt)) ((typing_test_is_exact bool_program).0 refl) refl text_digest (last_turn 1) flipped flipped_is_begun
    (map Hears flipping_again) are_heard
  where
    are_heard : AllByRecursion IsHeard (map Hears flipping_again)
    are_heard = (
      (record { fields = (record { least = lit≤ tt; fits = lit< tt }, refl, lit< tt); length_fits = lit≤ tt }, tt),
      (
        (record { fields = (record { least = lit≤ tt; fits = lit< tt }, lit< tt, lit< tt); length_fits = lit≤ tt }, tt),
        ((record { fields = lit< tt; length_fits = lit≤ tt }, tt), tt),
      ),
    )
