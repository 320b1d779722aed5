-- What comes of a call where whoever is asked holds every honest piece.
use Rattle.std.specs.Prelude.{◌≡◌, ◌⊎◌, ℕ, List, Result, Ok, Err, ⊤}
use Rattle.core_terms.specs.Formats.{Hash}
use Rattle.core_terms.specs.Values.{Value, IsIdeal}
use Rattle.core_terms.specs.Spelling.{spelling}
use Rattle.core_terms.specs.Terms.{Program, function_at}
use Rattle.core_terms.specs.Roles.{argument_type}
use Rattle.core_terms.specs.Projection.{projection, Fits}
use Rattle.core_terms.specs.declared.outcome.Outcome.{Outcome}
use Rattle.core_terms.specs.declared.byte_string.ByteString.{ByteString as Spelling}
use Rattle.ideal_meaning.specs.Run.{state_of}
use Rattle.ideal_meaning.specs.Ideal as ideal
use Rattle.ideal_meaning.specs.Agreement.{AllOpenedFit}
use Rattle.ideal_meaning.specs.Frames.{offered_pieces}
use Rattle.ideal_meaning.specs.Checked as checked
use Rattle.ideal_meaning.specs.SplitPieces as split_pieces
use Rattle.ideal_meaning.specs.Fetched.{Got, Answered, HoldsAll, answered, verdict_from, whole_pieces}
use Rattle.ideal_meaning.specs.FetchLaws.{IsStore}
use Rattle.ideal_meaning.specs.Headline.{call_values}
use Rattle.ideal_meaning.specs.SpelledOutcomes.{SpellsOutcome}
use Rattle.piece_fetch.specs.declared.verdict.FetchVerdict.{FetchVerdict}
use Rattle.piece_fetch.specs.declared.verdict.FetchVerdict.TheVariants.{Rejected, BadState, BadArgument, FetchFault, NoMemory}

-- In each state it answers by a function of the digest alone, and answers by the same one then.
abbrev pub AnswersBy : {U : Type 0} → (U → List ℕ → Got → U → Type 0) → (U → List ℕ → Got) → Type 0
AnswersBy {U = U} May get = (old : U) (d : List ℕ) (a : Got) (new : U) → May old d a new → (a ≡ get old d) × (get new ≡ get old)

module _ {U : Type 0} (hash : Hash) (May : U → List ℕ → Got → U → Type 0) (P : Program) (f : ℕ) (state argument : List ℕ) (k : ℕ) (v a : Value) (old new : U) where
  -- the projection of the ideal outcome
  abbrev pub true_outcome : ideal.Outcome
  true_outcome = ideal.outcome_projection hash P (function_at P f).result (ideal.outcome (ideal.ideal P f (call_values v a) k))

  abbrev pub verdict_over : List Got → checked.Verdict
  verdict_over answers = verdict_from hash P (argument_type P f) f state argument k answers

  -- the pieces answered and the honest ones first differ at a place where both have one digest
  abbrev pub SplitOver : List Got → Type 0
  SplitOver answers = (i : ℕ) × split_pieces.IsSplitAt (λ t bytes. hash bytes) (offered_pieces (answered answers)) (whole_pieces hash P f (call_values v a) k) i

  abbrev pub HasSplit : Type 0
  HasSplit = (answers : List Got) × Answered hash May old answers (verdict_over answers) new × SplitOver answers

  -- the projected ideal outcome, or a split, or memory was wanting, or who was asked failed
  abbrev pub Completes : Result (Outcome Spelling) FetchVerdict → Type 0
  Completes (Ok told) = SpellsOutcome P (function_at P f).result true_outcome told ⊎ HasSplit
  Completes (Err (Rejected cause)) = HasSplit
  Completes (Err (BadState offset)) = HasSplit
  Completes (Err (BadArgument offset)) = HasSplit
  Completes (Err FetchFault) = ⊤
  Completes (Err NoMemory) = ⊤

-- The companion: of whatever ideal state and argument these are the spellings in projection, if they and each value opened in the ideal
-- run are within the limits, and who is asked answers by a function that has a piece with the digest of each honest one.
abbrev pub IsComplete : {U : Type 0} → Hash → (U → List ℕ → Got → U → Type 0) → Program → ℕ → (state argument : List ℕ) → ℕ → (old new : U) → Result (Outcome Spelling) FetchVerdict → Type 0
IsComplete {U = U} hash May P f state argument k old new result = (v a : Value) → IsIdeal P.types P.state v → IsIdeal P.types (argument_type P f) a
    → state ≡ spelling (projection hash P P.state v) → argument ≡ spelling (projection hash P (argument_type P f) a)
    → Fits P P.state v → Fits P (argument_type P f) a → AllOpenedFit P (state_of (ideal.ideal P f (call_values v a) k))
    → (get : U → List ℕ → Got) → AnswersBy May get → IsStore hash (get old) → HoldsAll hash P (get old) (state_of (ideal.ideal P f (call_values v a) k))
    → Completes hash May P f state argument k v a old new result
