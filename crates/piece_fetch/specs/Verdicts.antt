-- How the answer of `verify_from` tells the verdict over the answers that were given.
use Rattle.std.specs.Prelude.{◌≡◌, ◌⊎◌, ℕ, List, Result, Ok, Err, ⊤}
use Rattle.lam_outside.specs.Causes.{Rose}
use Rattle.core_terms.specs.Formats.{Hash}
use Rattle.core_terms.specs.Values.{Value, Values, IsIdeal}
use Rattle.core_terms.specs.Spelling.{spelling}
use Rattle.core_terms.specs.Terms.{Program, function_at}
use Rattle.core_terms.specs.Roles.{argument_type}
use Rattle.core_terms.specs.Projection.{projection}
use Rattle.core_terms.specs.declared.outcome.Outcome.{Outcome}
use Rattle.core_terms.specs.declared.byte_string.ByteString.{ByteString as Spelling}
use Rattle.ideal_meaning.specs.Ideal as ideal
use Rattle.ideal_meaning.specs.Frames.{offered_pieces}
use Rattle.ideal_meaning.specs.Checked as checked
use Rattle.ideal_meaning.specs.SplitPieces as split_pieces
use Rattle.ideal_meaning.specs.Fetched.{Got, Answered, answered, verdict_from, whole_pieces}
use Rattle.ideal_meaning.specs.Headline.{call_values}
use Rattle.ideal_meaning.specs.SpelledOutcomes.{SpellsOutcome}
use Rattle.mode_vm.specs.declared.mode.Stop.{Stop}
use Rattle.mode_vm.specs.declared.mode.Stop.TheVariants as stop
use Rattle.verifier_mode.specs.declared.verdict.CallFault.{CallFault}
use Rattle.verifier_mode.specs.declared.verdict.CallFault.TheVariants as call
use Rattle.wire_form.specs.Gots.{wire_meant}
use Rattle.piece_fetch.specs.declared.fetcher.FetcherFault.{FetcherFault}
use Rattle.piece_fetch.specs.declared.fetcher.FetcherFault.TheVariants as fault
use Rattle.piece_fetch.specs.declared.verdict.FetchCause.{FetchCause}
use Rattle.piece_fetch.specs.declared.verdict.FetchCause.TheVariants.{Missing, Broken, WrongPiece, BadPiece}
use Rattle.piece_fetch.specs.declared.verdict.FetchVerdict.{FetchVerdict}
use Rattle.piece_fetch.specs.declared.verdict.FetchVerdict.TheVariants.{Rejected, BadState, BadArgument, FetchFault, NoMemory}

-- the verdict that a run comes to that is stopped
abbrev pub verdict_of : Stop FetcherFault → FetchVerdict
verdict_of (stop.Mode (fault.Missing place want)) = Rejected (Missing place want)
verdict_of (stop.Mode (fault.Broken place want wire)) = Rejected (Broken place wire)
verdict_of (stop.Mode (fault.WrongPiece place want found)) = Rejected (WrongPiece place want found)
verdict_of (stop.Mode (fault.BadPiece place offset)) = Rejected (BadPiece place offset)
verdict_of (stop.Mode fault.Failed) = FetchFault
verdict_of stop.NoMemory = NoMemory

-- the verdict on a call whose state and argument aren't put into a store
abbrev pub call_verdict : CallFault → FetchVerdict
call_verdict (call.BadState offset) = BadState offset
call_verdict (call.BadArgument offset) = BadArgument offset
call_verdict call.NoMemory = NoMemory

-- the cause that is told; that of an answer which isn't read tells no digest
abbrev pub Tells : FetchCause → checked.Cause → Type 0
Tells (Missing place want) c = c ≡ checked.Missing place want.0
Tells (Broken place wire) c = (want : List ℕ) × (c ≡ checked.Broken place want (wire_meant wire))
Tells (WrongPiece place want found) c = c ≡ checked.WrongPiece place want.0 found.0
Tells (BadPiece place offset) c = c ≡ checked.BadPiece place offset

-- The pieces that were answered are the honest ones, as they are fetched, and the outcome is the projection of the ideal one; or the first
-- piece that differs from the honest one has its digest, and its place is named.
abbrev pub FetchedTrueOrSplit : Hash → Program → ℕ → Values → ℕ → List (List ℕ) → ideal.Outcome → Type 0
FetchedTrueOrSplit hash P f args k pieces o =
    ((pieces ≡ ideal.bytes_of (whole_pieces hash P f args k)) × (o ≡ ideal.outcome_projection hash P (function_at P f).result (ideal.outcome (ideal.ideal P f args k))))
    ⊎ ((i : ℕ) × split_pieces.IsSplitAt (λ t bytes. hash bytes) pieces (whole_pieces hash P f args k) i)

-- There are answers that were given one after another, each to the digest then held, and the verdict over them is told. Of an outcome:
-- whatever ideal state and argument have these spellings in projection, the pieces answered are the honest ones and the outcome is the
-- projection of the ideal one, or the first piece that differs from the honest one has its digest. Where who was asked failed or memory
-- was wanting nothing is told.
module _ {U : Type 0} (hash : Hash) (May : U → List ℕ → Got → U → Type 0) (P : Program) (f : ℕ) (state argument : List ℕ) (k : ℕ) (old new : U) where
  abbrev pub verdict : List Got → checked.Verdict
  verdict answers = verdict_from hash P (argument_type P f) f state argument k answers

  pub record Accepts (told : Outcome Spelling) : Type 0 where
    pub answers : List Got
    pub outcome : ideal.Outcome
    pub given : Answered hash May old answers (checked.Accepted outcome) new
    pub is : verdict_from hash P (argument_type P f) f state argument k answers ≡ checked.Accepted outcome
    pub spelled : SpellsOutcome P (function_at P f).result outcome told
    pub says : (v a : Value) → IsIdeal P.types P.state v → IsIdeal P.types (argument_type P f) a
        → state ≡ spelling (projection hash P P.state v) → argument ≡ spelling (projection hash P (argument_type P f) a)
        → FetchedTrueOrSplit hash P f (call_values v a) k (offered_pieces (answered answers)) outcome

  pub record Rejects (told : FetchCause) : Type 0 where
    pub answers : List Got
    pub cause : checked.Cause
    pub given : Answered hash May old answers (checked.Rejected cause) new
    pub is : verdict_from hash P (argument_type P f) f state argument k answers ≡ checked.Rejected cause
    pub tells : Tells told cause

  abbrev pub Judges : Result (Outcome Spelling) FetchVerdict → Type 0
  Judges (Ok told) = Accepts told
  Judges (Err (Rejected cause)) = Rejects cause
  Judges (Err (BadState offset)) = (old ≡ new) × ((answers : List Got) → verdict answers ≡ checked.BadState offset)
  Judges (Err (BadArgument offset)) = (old ≡ new) × ((answers : List Got) → verdict answers ≡ checked.BadArgument offset)
  Judges (Err FetchFault) = ⊤
  Judges (Err NoMemory) = ⊤

-- the count of faults rose where who was asked failed, and there alone
abbrev pub VerdictCause : {T : Type 0} → (before now : ℕ) → Result T FetchVerdict → Type 0
VerdictCause before now (Ok told) = now ≡ before
VerdictCause before now (Err (Rejected cause)) = now ≡ before
VerdictCause before now (Err (BadState offset)) = now ≡ before
VerdictCause before now (Err (BadArgument offset)) = now ≡ before
VerdictCause before now (Err FetchFault) = Rose before now
VerdictCause before now (Err NoMemory) = now ≡ before
