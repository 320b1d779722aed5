-- How the answers of `verify` and `verify_on` tell a verdict.
use Rattle.std.specs.Prelude.{◌≡◌, ℕ, List, [], drop, Some, Result, Ok, Err, ⊤}
use Rattle.lam_outside.specs.Causes.{Rose}
use Rattle.core_terms.specs.Types.{Ty}
use Rattle.core_terms.specs.Formats.{Hash}
use Rattle.core_terms.specs.Values.{Value, IsIdeal}
use Rattle.core_terms.specs.Spelling.{spelling}
use Rattle.core_terms.specs.Terms.{Program, function_at}
use Rattle.core_terms.specs.Roles.{argument_type}
use Rattle.core_terms.specs.Projection.{projection}
use Rattle.core_terms.specs.declared.cause.Cause.TheVariants as cause
use Rattle.core_terms.specs.declared.outcome.Outcome.{Outcome}
use Rattle.core_terms.specs.declared.byte_string.ByteString.{ByteString as Spelling}
use Rattle.ideal_meaning.specs.Ideal as ideal
use Rattle.ideal_meaning.specs.Frames.{header, offered, offered_pieces}
use Rattle.ideal_meaning.specs.Checked as checked
use Rattle.ideal_meaning.specs.Headline.{TrueOrSplit, call_values}
use Rattle.ideal_meaning.specs.Told.{cause_told}
use Rattle.ideal_meaning.specs.SpelledOutcomes.{SpellsOutcome}
use Rattle.mode_vm.specs.declared.mode.Stop.{Stop}
use Rattle.mode_vm.specs.declared.mode.Stop.TheVariants as stop
use Rattle.proof_stream.specs.declared.frame.HeadEnd.{HeadEnd}
use Rattle.proof_stream.specs.declared.frame.HeadEnd.TheVariants as head_end
use Rattle.reuse_buffer.specs.Kept.{Kept}
use Rattle.verifier_mode.specs.declared.verifier.VerifierFault.{VerifierFault}
use Rattle.verifier_mode.specs.declared.verifier.VerifierFault.TheVariants as fault
use Rattle.verifier_mode.specs.declared.verdict.CallFault.{CallFault}
use Rattle.verifier_mode.specs.declared.verdict.CallFault.TheVariants as call
use Rattle.verifier_mode.specs.declared.verdict.Verdict.{Verdict}
use Rattle.verifier_mode.specs.declared.verdict.Verdict.TheVariants.{Rejected, BadState, BadArgument, ReadFault, NoMemory}

-- the verdict that a run comes to that is stopped, and that on a file without a header
abbrev pub verdict_of : Stop VerifierFault → Verdict
verdict_of (stop.Mode (fault.Rejected cause)) = Rejected cause
verdict_of (stop.Mode fault.ReadFault) = ReadFault
verdict_of stop.NoMemory = NoMemory

abbrev pub verdict_at : HeadEnd → Verdict
verdict_at head_end.Header = Rejected cause.Header
verdict_at head_end.ReadFault = ReadFault

-- that on a call whose state and argument aren't put into a store
abbrev pub call_verdict : CallFault → Verdict
call_verdict (call.BadState offset) = BadState offset
call_verdict (call.BadArgument offset) = BadArgument offset
call_verdict call.NoMemory = NoMemory

-- it tells some outcome
abbrev pub TellsSomeOutcome : Program → Ty → Outcome Spelling → Type 0
TellsSomeOutcome P t told = (o : ideal.Outcome) × SpellsOutcome P t o told

-- The verdict is told with the outcome, whose value has type t, or with its cause or its offset. Where the source failed or memory was
-- wanting nothing is told.
abbrev pub Tells : Program → Ty → checked.Verdict → Result (Outcome Spelling) Verdict → Type 0
Tells P t verdict (Ok told) = (o : ideal.Outcome) × (verdict ≡ checked.Accepted o) × SpellsOutcome P t o told
Tells P t verdict (Err (Rejected cause)) = verdict ≡ checked.Rejected (cause_told cause)
Tells P t verdict (Err (BadState offset)) = verdict ≡ checked.BadState offset
Tells P t verdict (Err (BadArgument offset)) = verdict ≡ checked.BadArgument offset
Tells P t verdict (Err ReadFault) = ⊤
Tells P t verdict (Err NoMemory) = ⊤

-- the call of function f answers the verdict
abbrev pub AnswersVerdict : Program → ℕ → checked.Verdict → Result (Outcome Spelling) Verdict → Type 0
AnswersVerdict P f = Tells P (function_at P f).result

-- the same, with the ring beside the outcome
abbrev pub AnswersWithRing : Program → ℕ → checked.Verdict → Result (Outcome Spelling × Kept) Verdict → Type 0
AnswersWithRing P f verdict (Ok r) = AnswersVerdict P f verdict (Ok r.0)
AnswersWithRing P f verdict (Err e) = AnswersVerdict P f verdict (Err e)

-- the count of faults rose where the source failed, and there alone
abbrev pub VerdictCause : {T : Type 0} → (before now : ℕ) → Result T Verdict → Type 0
VerdictCause before now (Ok told) = now ≡ before
VerdictCause before now (Err (Rejected cause)) = now ≡ before
VerdictCause before now (Err (BadState offset)) = now ≡ before
VerdictCause before now (Err (BadArgument offset)) = now ≡ before
VerdictCause before now (Err ReadFault) = Rose before now
VerdictCause before now (Err NoMemory) = now ≡ before

-- The headline of a call. Whatever ideal state and argument have these spellings in projection: an outcome that is accepted is
-- the projection of the ideal one, or the first offered piece that differs from the honest one has its digest. First of frames,
-- over whatever new pieces came before; then of the bytes of a proof file.
abbrev pub SaysTrueOn : Hash → Program → ℕ → (state argument : List ℕ) → ℕ → List ℕ → ℕ → List (List ℕ) → Result (Outcome Spelling × Kept) Verdict → Type 0
SaysTrueOn hash P f state argument k bytes n recent (Ok r) =
    (v a : Value) → IsIdeal P.types P.state v → IsIdeal P.types (argument_type P f) a
    → state ≡ spelling (projection hash P P.state v) → argument ≡ spelling (projection hash P (argument_type P f) a)
    → (o : ideal.Outcome) × SpellsOutcome P (function_at P f).result o r.0
    × TrueOrSplit hash P f (function_at P f).result (call_values v a) k (offered_pieces (offered P.format.limit bytes n recent)) o
SaysTrueOn hash P f state argument k bytes n recent (Err refusal) = ⊤

abbrev pub SaysTrue : Hash → Program → ℕ → (state argument : List ℕ) → ℕ → List ℕ → Result (Outcome Spelling) Verdict → Type 0
SaysTrue hash P f state argument k proof (Ok told) =
    (v a : Value) → IsIdeal P.types P.state v → IsIdeal P.types (argument_type P f) a
    → state ≡ spelling (projection hash P P.state v) → argument ≡ spelling (projection hash P (argument_type P f) a)
    → (o : ideal.Outcome) × SpellsOutcome P (function_at P f).result o told
    × ((n : ℕ) × (header P.format proof ≡ Some n)
    × TrueOrSplit hash P f (function_at P f).result (call_values v a) k (offered_pieces (offered P.format.limit (drop 6 proof) n [])) o)
SaysTrue hash P f state argument k proof (Err refusal) = ⊤
