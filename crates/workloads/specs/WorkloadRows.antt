-- Worked workloads on the search tree of the library. Each equation holds by computing both sides.
use Rattle.std.specs.Prelude.{◌≡◌, ◌≤◌, ℕ, true, false, [], ◌∷◌, map, pos, refl}
use Rattle.std.proofs.Common.{arith, lit≤}
use Rattle.core_terms.specs.Formats.{Hash}
use Rattle.core_terms.specs.Projection.{projection}
use Rattle.core_terms.specs.Roles.{argument_type}
use Rattle.core_terms.specs.Spelling.{spelling}
use Rattle.core_terms.specs.Terms.{Program}
use Rattle.core_terms.specs.declared.byte_string.ByteString.{ByteString as Spelling}
use Rattle.core_terms.specs.declared.outcome.Outcome.TheVariants as told
use Rattle.core_terms.specs.declared.outcome.Trap.{Trap}
use Rattle.core_terms.specs.declared.program.FunctionId.{FunctionId}
use Rattle.core_terms.specs.Values.{Value, UnitV, IntV, PairV, ConV, NoV}
use Rattle.ideal_meaning.specs.Examples.{toy, values}
use Rattle.ideal_meaning.specs.Ideal.{Done, Trapped, Out}
use Rattle.ideal_meaning.specs.Library.{bst}
use Rattle.ideal_meaning.specs.Run.{Overflow}
use Rattle.workloads.specs.declared.tally.Tally.{Tally}
use Rattle.workloads.specs.declared.workload.Workload.{Workload}
use Rattle.workloads.specs.declared.calls.CheckedCall.{CheckedCall}
use Rattle.verified_calls.specs.Verified.{IsCallOf, IsVerified}
use Rattle.workloads.specs.Sums.{IsBounded, IsChecked, IsCounted, call_added, is_done, one_if}
use Rattle.workloads.specs.Workloads.{add_call, after_rounds, behind_round, call_fuel, done_in, file_of, key_in, no_calls, state_behind, value_in}

-- puts and gets on `bst`, whose proofs ask for so many pieces to be kept; an empty tree, and one of a single entry
abbrev pub workload : (keys kept : ℕ) → Workload
workload keys kept = record { put = record { 0 = 4 }; get = record { 0 = 3 }; keys = keys; kept = kept }

abbrev pub leaf : Value
leaf = ConV 0 NoV

abbrev pub node : (key value : ℕ) → Value
node key value = ConV 1 (values (IntV (pos key) ∷ IntV (pos value) ∷ leaf ∷ leaf ∷ []))

-- the sums and the state behind so many rounds from an empty tree, with a million keys and the seed 1
abbrev pub behind : (rounds keys kept : ℕ) → Tally × Value
behind rounds keys kept = after_rounds toy bst (workload keys kept) rounds 1 leaf no_calls

pub no_round : behind 0 1000000 0 ≡ (record { calls = 0; done = 0; fresh = 0; again = 0; bytes = 0 }, leaf)
no_round = refl

-- the put opens the empty tree, of one byte, and the get a node of 81 bytes
pub one_round : behind 1 1000000 0 ≡ (record { calls = 2; done = 2; fresh = 2; again = 0; bytes = 104 }, node (key_in 1000000 1) (value_in 1))
one_round = refl

-- with one key the second put opens the node of the first; no proof names a piece of another
pub two_rounds : behind 2 1 8 ≡ (record { calls = 4; done = 4; fresh = 4; again = 0; bytes = 288 }, node 0 (value_in (behind_round 1)))
two_rounds = refl

-- the numbers of the generator behind the seed 1: the upper 31 bits of its states
pub numbers : (key_in 1000000 1 ≡ 834774) × (value_in 1 ≡ 1093944153)
numbers = (refl, refl)

-- the state behind an update is the first component of its value; without a value it is the state as it was
pub states : (v : Value) → (state_behind v (Done (PairV leaf UnitV)) ≡ leaf) × (state_behind v (Trapped Overflow) ≡ v) × (state_behind v Out ≡ v)
states v = (refl, refl, refl)

pub done : (v : Value) → (done_in (Done v) ≡ 1) × (done_in (Trapped Overflow) ≡ 0) × (done_in Out ≡ 0)
done v = (refl, refl, refl)

-- ONE CALL
pub fuel_of_a_call : call_fuel ≡ 1000000
fuel_of_a_call = refl

pub counted_if : (one_if true ≡ 1) × (one_if false ≡ 0)
counted_if = (refl, refl)

pub has_value : (bytes : Spelling) (trap : Trap) → map is_done (told.Done bytes ∷ told.Trapped trap ∷ told.Out ∷ []) ≡ true ∷ false ∷ false ∷ []
has_value bytes trap = refl

-- every sum grows by a counted call
pub is_counted : (hash : Hash) (P : Program) (n f : ℕ) (s a : Value) (call : CheckedCall) → IsCounted hash P n f s a call → (t : Tally) → call_added t call ≡ add_call hash P n t f s a
is_counted hash P n f s a call is = is

-- a checked one was verified, and is the call that was to be made
pub is_checked : (hash : Hash) (P : Program) (n : ℕ) (role : FunctionId) (s a : Value) (call : CheckedCall) (c : IsChecked hash P n role s a call) → IsVerified hash P call.verified
    × IsCallOf role (spelling (projection hash P P.state s)) (spelling (projection hash P (argument_type P role.0) a)) call_fuel (file_of hash P n role.0 s a) call.verified
is_checked hash P n role s a call c = (c.verified, c.is_call)

-- BOUNDS
-- of one call at most one is done, and each other sum is at most 2^64
abbrev pub sums : (done fresh again bytes : ℕ) → Tally
sums done fresh again bytes = record { calls = 1; done = done; fresh = fresh; again = again; bytes = bytes }

pub greatest : IsBounded (sums 1 18446744073709551616 18446744073709551616 18446744073709551616)
greatest = record { done = lit≤ tt; fresh = lit≤ tt; again = lit≤ tt; bytes = lit≤ tt }

pub no_more_done : IsBounded (sums 2 0 0 0) → ⊥
no_more_done b = let k : 2 ≤ 1 = b.done in omega (arith, k)

pub no_more_fresh : IsBounded (sums 0 18446744073709551617 0 0) → ⊥
no_more_fresh b = let k : 18446744073709551617 ≤ 18446744073709551616 = b.fresh in omega (arith, k)

pub no_more_again : IsBounded (sums 0 0 18446744073709551617 0) → ⊥
no_more_again b = let k : 18446744073709551617 ≤ 18446744073709551616 = b.again in omega (arith, k)

pub no_more_bytes : IsBounded (sums 0 0 0 18446744073709551617) → ⊥
no_more_bytes b = let k : 18446744073709551617 ≤ 18446744073709551616 = b.bytes in omega (arith, k)
