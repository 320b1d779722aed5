-- How sums grow by a call, as the code tells it, and how far.
use Rattle.std.specs.Prelude.{ℕ, suc, ◌+◌, ◌*◌, ◌^◌, ◌≤◌, ◌≡◌, Bool, true, false, length}
use Rattle.core_terms.specs.Formats.{Hash}
use Rattle.core_terms.specs.Terms.{Program}
use Rattle.core_terms.specs.Values.{Value}
use Rattle.core_terms.specs.declared.byte_string.ByteString.{ByteString as Spelling}
use Rattle.core_terms.specs.declared.outcome.Outcome.{Outcome}
use Rattle.core_terms.specs.declared.outcome.Outcome.TheVariants.{Done}
use Rattle.core_terms.specs.Projection.{projection}
use Rattle.core_terms.specs.Roles.{argument_type}
use Rattle.core_terms.specs.Spelling.{spelling}
use Rattle.core_terms.specs.declared.program.FunctionId.{FunctionId}
use Rattle.verified_calls.specs.Verified.{IsCallOf, IsVerified}
use Rattle.workloads.specs.Workloads.{add_call, call_fuel, file_of}
use Rattle.workloads.specs.declared.tally.Tally.{Tally}
use Rattle.workloads.specs.declared.calls.CheckedCall.{CheckedCall}

-- 1 for a call that ended with a value
abbrev pub one_if : Bool → ℕ
one_if true = 1
one_if false = 0

-- the outcome has a value
abbrev pub is_done : Outcome Spelling → Bool
is_done (Done bytes) = true
is_done outcome = false

-- the sums with this call added
abbrev pub call_added : Tally → CheckedCall → Tally
call_added t call = record {
  calls = suc t.calls;
  done = t.done + one_if (is_done call.verified.outcome);
  fresh = t.fresh + call.fresh;
  again = t.again + call.again;
  bytes = t.bytes + length call.verified.file.items;
}

-- each call added at most 1 to `done`, and numbers below 2^64 to the others
pub record IsBounded (t : Tally) : Type 0 where
  pub done : t.done ≤ t.calls
  pub fresh : t.fresh ≤ t.calls * 2 ^ 64
  pub again : t.again ≤ t.calls * 2 ^ 64
  pub bytes : t.bytes ≤ t.calls * 2 ^ 64

-- the call is this one of function f, as every sum grows by it
abbrev pub IsCounted : Hash → Program → (n : ℕ) → (f : ℕ) → (state argument : Value) → CheckedCall → Type 0
IsCounted hash P n f s a call = (t : Tally) → call_added t call ≡ add_call hash P n t f s a

-- The call was verified, by itself: it is the call of this role on the state and the argument, as they are spelled, with its own proof file.
pub record IsChecked (hash : Hash) (P : Program) (n : ℕ) (role : FunctionId) (s a : Value) (call : CheckedCall) : Type 0 where
  pub verified : IsVerified hash P call.verified
  pub is_call : IsCallOf role (spelling (projection hash P P.state s)) (spelling (projection hash P (argument_type P role.0) a)) call_fuel (file_of hash P n role.0 s a) call.verified
