-- The verdict on a file that is accepted, as the verifier tells it.
use Rattle.std.proofs.Common.{◌≡◌, ◌∙◌, ℕ, List, Ok, Err, refl, sym, subst, arith}
use Rattle.core_terms.specs.Formats.{Hash}
use Rattle.core_terms.specs.Projection.{projection}
use Rattle.core_terms.specs.Roles.{argument_type}
use Rattle.core_terms.specs.Spelling.{spelling}
use Rattle.core_terms.specs.Terms.{Program, function_at}
use Rattle.core_terms.specs.Types.{Ty}
use Rattle.core_terms.specs.Values.{Value}
use Rattle.core_terms.specs.declared.byte_string.ByteString.{ByteString as Spelling}
use Rattle.core_terms.specs.declared.outcome.Outcome.{Outcome}
use Rattle.core_terms.specs.declared.outcome.Outcome.TheVariants as told
use Rattle.ideal_meaning.specs.Checked as checked
use Rattle.ideal_meaning.specs.Ideal as ideal
use Rattle.ideal_meaning.specs.SpelledOutcomes.{SpellsOutcome}
use Rattle.prover_mode.specs.Calls.{IsAccepted}
use Rattle.verifier_mode.specs.Verdicts.{Tells, VerdictCause}
use Rattle.verifier_mode.specs.declared.verdict.Verdict.{Verdict}
use Rattle.verifier_mode.specs.declared.verdict.Verdict.TheVariants.{Rejected, BadState, BadArgument, ReadFault, NoMemory}
use Rattle.core_terms.specs.declared.program.FunctionId.{FunctionId}
use Rattle.verified_calls.specs.Verified.{IsCallOf, IsVerified}
use Rattle.verified_calls.specs.declared.call.VerifiedCall.{VerifiedCall}
use Rattle.workloads.specs.Sums.{is_done, one_if}
use Rattle.workloads.specs.Workloads.{call_fuel, done_in, outcome_of}

-- the verdict on a file that is accepted, given these spellings
pub accepted_by : (hash : Hash) (P : Program) (f : ℕ) (s a : Value) (state argument file : List ℕ)
    → state ≡ spelling (projection hash P P.state s) → argument ≡ spelling (projection hash P (argument_type P f) a) → IsAccepted hash P f s a call_fuel file
    → checked.verdict hash P (argument_type P f) f state argument call_fuel file ≡ checked.Accepted (ideal.outcome_projection hash P (function_at P f).result (outcome_of P f s a))
accepted_by hash P f s a state argument file same_state same_argument accepted =
    let t = argument_type P f in
    let o = ideal.outcome_projection hash P (function_at P f).result (outcome_of P f s a) in
    subst (λ x. checked.verdict hash P t f x argument call_fuel file ≡ checked.Accepted o) (sym same_state)
    (subst (λ x. checked.verdict hash P t f (spelling (projection hash P P.state s)) x call_fuel file ≡ checked.Accepted o) (sym same_argument) accepted)

module _ (P : Program) (t : Ty) (verdict : checked.Verdict) (o : ideal.Outcome) (accepted : verdict ≡ checked.Accepted o) where
  same_outcome : (o' : ideal.Outcome) → verdict ≡ checked.Accepted o' → o' ≡ o
  same_outcome o' is = cc (accepted, is)

  -- what is told is the outcome
  pub tells_outcome : (outcome : Outcome Spelling) → Tells P t verdict (Ok outcome) → SpellsOutcome P t o outcome
  tells_outcome outcome h = subst (λ o. SpellsOutcome P t o outcome) (same_outcome h.0 h.1) h.2

  -- nothing but the want of memory is told in its place
  pub no_refusal : (refusal : Verdict) → Tells P t verdict (Err refusal) → VerdictCause {T = Outcome Spelling} 0 0 (Err refusal) → refusal ≡ NoMemory
  no_refusal (Rejected cause) h c = absurd (cc (accepted, h))
  no_refusal (BadState offset) h c = absurd (cc (accepted, h))
  no_refusal (BadArgument offset) h c = absurd (cc (accepted, h))
  no_refusal ReadFault h c = absurd (omega (arith, c))
  no_refusal NoMemory h c = refl

-- the verifier tells of an outcome whether it has a value
pub same_done : (hash : Hash) (P : Program) (t : Ty) (o : ideal.Outcome) (outcome : Outcome Spelling)
    → SpellsOutcome P t (ideal.outcome_projection hash P t o) outcome → one_if (is_done outcome) ≡ done_in o
same_done hash P t (ideal.Done v) (told.Done bytes) h = refl
same_done hash P t (ideal.Done v) (told.Trapped trap) h = absurd (cc (h))
same_done hash P t (ideal.Done v) told.Out h = absurd (cc (h))
same_done hash P t (ideal.Trapped cause) (told.Done bytes) h = let e = h.1 in absurd (cc (e))
same_done hash P t (ideal.Trapped cause) (told.Trapped trap) h = refl
same_done hash P t (ideal.Trapped cause) told.Out h = refl
same_done hash P t ideal.Out (told.Done bytes) h = let e = h.1 in absurd (cc (e))
same_done hash P t ideal.Out (told.Trapped trap) h = refl
same_done hash P t ideal.Out told.Out h = refl

-- A call that was verified, of a file that is accepted: its outcome has a value where the ideal one has.
pub verified_done : (hash : Hash) (P : Program) (role : FunctionId) (s a : Value) (file : List ℕ) (call : VerifiedCall) → IsVerified hash P call
    → IsCallOf role (spelling (projection hash P P.state s)) (spelling (projection hash P (argument_type P role.0) a)) call_fuel file call
    → IsAccepted hash P role.0 s a call_fuel file → one_if (is_done call.outcome) ≡ done_in (outcome_of P role.0 s a)
verified_done hash P role s a file call verified is accepted =
    let f = role.0 in
    let t = (function_at P f).result in
    let state = spelling (projection hash P P.state s) in
    let argument = spelling (projection hash P (argument_type P f) a) in
    let OfRole : FunctionId → Type 0 = λ r. Tells P (function_at P r.0).result (checked.verdict hash P (argument_type P r.0) r.0 call.state call.argument call.fuel call.file.items) (Ok call.outcome) in
    let OfState : List ℕ → Type 0 = λ x. Tells P t (checked.verdict hash P (argument_type P f) f x call.argument call.fuel call.file.items) (Ok call.outcome) in
    let OfArgument : List ℕ → Type 0 = λ x. Tells P t (checked.verdict hash P (argument_type P f) f state x call.fuel call.file.items) (Ok call.outcome) in
    let OfFuel : ℕ → Type 0 = λ k. Tells P t (checked.verdict hash P (argument_type P f) f state argument k call.file.items) (Ok call.outcome) in
    let OfFile : List ℕ → Type 0 = λ x. Tells P t (checked.verdict hash P (argument_type P f) f state argument call_fuel x) (Ok call.outcome) in
    let tells = subst OfFile is.of_file (subst OfFuel is.of_fuel (subst OfArgument is.of_argument (subst OfState is.of_state (subst OfRole is.of_role verified)))) in
    same_done hash P t (outcome_of P f s a) call.outcome
    (tells_outcome P t (checked.verdict hash P (argument_type P f) f state argument call_fuel file) (ideal.outcome_projection hash P t (outcome_of P f s a)) accepted call.outcome tells)

-- a call, on spellings that are these
pub called_as : (role : FunctionId) (state state' argument argument' : List ℕ) (k : ℕ) (file file' : List ℕ) (call : VerifiedCall) → state ≡ state' → argument ≡ argument' → file ≡ file'
    → IsCallOf role state argument k file call → IsCallOf role state' argument' k file' call
called_as role state state' argument argument' k file file' call same_state same_argument same_file is = record {
  of_role = is.of_role;
  of_state = is.of_state ∙ same_state;
  of_argument = is.of_argument ∙ same_argument;
  of_fuel = is.of_fuel;
  of_file = is.of_file ∙ same_file;
}
