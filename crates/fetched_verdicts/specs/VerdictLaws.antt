-- The laws of the verdict over a store of pieces.
use Rattle.std.specs.Prelude.{◌≡◌, ◌⊎◌, ℕ, List, []}
use Rattle.core_terms.specs.Formats.{Hash, IsHash, IsFormat}
use Rattle.core_terms.specs.Projection.{projection, Fits}
use Rattle.core_terms.specs.RoleTypes.{IsRole, ReadsState, role_result}
use Rattle.core_terms.specs.Spelling.{spelling}
use Rattle.core_terms.specs.Terms.{Kind, Program}
use Rattle.core_terms.specs.TypingRules.{IsTyped}
use Rattle.core_terms.specs.Types.{Ty}
use Rattle.core_terms.specs.Values.{Value, IsIdeal}
use Rattle.ideal_meaning.specs.Agreement.{AllOpenedFit}
use Rattle.ideal_meaning.specs.Checked.{Accepted}
use Rattle.ideal_meaning.specs.SplitPieces.{IsSplitAt}
use Rattle.ideal_meaning.specs.Fetched.{Got, HoldsAll, TrueFromOrSplit, answered, verdict_from, whole_pieces}
use Rattle.ideal_meaning.specs.FetchLaws.{IsStore}
use Rattle.ideal_meaning.specs.Frames.{offered_pieces}
use Rattle.ideal_meaning.specs.Headline.{call_values}
use Rattle.ideal_meaning.specs.Ideal.{Outcome, ideal, outcome, outcome_projection}
use Rattle.ideal_meaning.specs.PieceForms.{IsOfWhole}
use Rattle.ideal_meaning.specs.Run.{state_of}
use Rattle.fetched_verdicts.specs.Verdicts.{AreAnswersOf, verdict_over}

-- The verdict over a store is the one over the answers that it gives in the run, each to the digest then held. And where each piece that
-- it gives has the digest, it is the one over whatever answers it gives so.
abbrev pub VerdictsAreOverAnswers : Type 0
VerdictsAreOverAnswers =
    (hash : Hash) (P : Program) (get : List ℕ → Got) (t : Ty) (f : ℕ) (state argument : List ℕ) (k : ℕ)
    → let verdict = verdict_over hash P get t f state argument k in
    ((answers : List Got) × AreAnswersOf hash get answers verdict × (verdict_from hash P t f state argument k answers ≡ verdict))
    × (IsStore hash get → (answers : List Got) → AreAnswersOf hash get answers (verdict_from hash P t f state argument k answers)
    → verdict_from hash P t f state argument k answers ≡ verdict)

-- Whatever the store answers: what is accepted is the projection of the ideal outcome, and the store's answers are the honest pieces; or the
-- first of its answers that differs from the honest piece has its digest.
abbrev pub TellsTheTruth : Type 0
TellsTheTruth = (hash : Hash) → IsHash hash → (P : Program) → IsFormat P.format → IsTyped P → IsOfWhole hash P
    → (f : ℕ) (kind : Kind) (t answer : Ty) → IsRole P f kind t answer → ReadsState kind
    → (state argument : Value) → IsIdeal P.types P.state state → IsIdeal P.types t argument
    → (k : ℕ) (get : List ℕ → Got) (o : Outcome)
    → verdict_over hash P get t f (spelling (projection hash P P.state state)) (spelling (projection hash P t argument)) k ≡ Accepted o
    → (answers : List Got) × AreAnswersOf hash get answers (Accepted o)
    × TrueFromOrSplit hash P f (role_result kind P.state answer) (call_values state argument) k (offered_pieces (answered answers)) [] o

-- The companion. Over a store that has a piece with the digest of each honest one, and gives by it: where the state, the argument and each value
-- that the ideal run opens are within the limits, the verdict accepts the projection of the ideal outcome; or of the answers that the store
-- gives the first piece that differs from the honest one has its digest.
abbrev pub AcceptsTheTruth : Type 0
AcceptsTheTruth = (hash : Hash) → IsHash hash → (P : Program) → IsFormat P.format → IsTyped P → IsOfWhole hash P
    → (f : ℕ) (kind : Kind) (t answer : Ty) → IsRole P f kind t answer → ReadsState kind
    → (state argument : Value) → IsIdeal P.types P.state state → IsIdeal P.types t argument → Fits P P.state state → Fits P t argument
    → (k : ℕ) → AllOpenedFit P (state_of (ideal P f (call_values state argument) k))
    → (get : List ℕ → Got) → IsStore hash get → HoldsAll hash P get (state_of (ideal P f (call_values state argument) k))
    → let verdict = verdict_over hash P get t f (spelling (projection hash P P.state state)) (spelling (projection hash P t argument)) k in
    (verdict ≡ Accepted (outcome_projection hash P (role_result kind P.state answer) (outcome (ideal P f (call_values state argument) k))))
    ⊎ ((answers : List Got) × AreAnswersOf hash get answers verdict
    × ((i : ℕ) × IsSplitAt (λ t bytes. hash bytes) (offered_pieces (answered answers)) (whole_pieces hash P f (call_values state argument) k) i))
