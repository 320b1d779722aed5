-- Sums that grow by a call whose numbers are those of the definitions.
use Rattle.std.proofs.Common.{◌≡◌, ◌+◌, ℕ, length, ap}
use Rattle.core_terms.specs.Formats.{Hash}
use Rattle.core_terms.specs.Terms.{Program}
use Rattle.core_terms.specs.Values.{Value}
use Rattle.core_terms.specs.declared.outcome.Outcome.{Outcome}
use Rattle.value_store.specs.declared.node.Ref.{Ref}
use Rattle.ideal_meaning.specs.RunFrames.{again_in, fresh_in}
use Rattle.workloads.specs.Sums.{call_added, is_done, one_if}
use Rattle.verified_calls.specs.declared.call.VerifiedCall.{VerifiedCall}
use Rattle.workloads.specs.Workloads.{add_call, done_in, file_of, frames_of, outcome_of}
use Rattle.workloads.specs.declared.calls.CheckedCall.{CheckedCall}
use Rattle.workloads.specs.declared.tally.Tally.{Tally}

same_tally : (calls done fresh again bytes done' fresh' again' bytes' : ℕ) → done ≡ done' → fresh ≡ fresh' → again ≡ again' → bytes ≡ bytes'
    → (let t : Tally = record { calls = calls; done = done; fresh = fresh; again = again; bytes = bytes } in t)
    ≡ record { calls = calls; done = done'; fresh = fresh'; again = again'; bytes = bytes' }
same_tally calls done fresh again bytes done' fresh' again' bytes' d f a b = cc (d, f, a, b)

pub same_sums : (hash : Hash) (P : Program) (n : ℕ) (t : Tally) (f : ℕ) (s a : Value) (value : Outcome Ref) (verified : VerifiedCall) (fresh again : ℕ)
    → one_if (is_done verified.outcome) ≡ done_in (outcome_of P f s a) → fresh ≡ fresh_in (frames_of hash P n f s a) → again ≡ again_in (frames_of hash P n f s a)
    → verified.file.items ≡ file_of hash P n f s a
    → (let call : CheckedCall = record { value = value; verified = verified; fresh = fresh; again = again } in call_added t call) ≡ add_call hash P n t f s a
same_sums hash P n t f s a value verified fresh again same_done same_fresh same_again same_file =
    same_tally _ _ _ _ _ _ _ _ _ (ap (λ m. t.done + m) same_done) (ap (λ m. t.fresh + m) same_fresh) (ap (λ m. t.again + m) same_again) (ap (λ file. t.bytes + length file) same_file)
