-- Laws of runs whose pieces are fetched.
use Rattle.std.specs.Prelude.{◌≡◌, ◌⊎◌, ℕ, List}
use Rattle.core_terms.specs.Types.{Ty}
use Rattle.core_terms.specs.Formats.{Hash, IsHash, IsFormat}
use Rattle.core_terms.specs.Values.{Value, IsIdeal}
use Rattle.core_terms.specs.Spelling.{spelling}
use Rattle.core_terms.specs.Terms.{Kind, Program}
use Rattle.core_terms.specs.TypingRules.{IsTyped}
use Rattle.core_terms.specs.RoleTypes.{IsRole, ReadsState, role_result}
use Rattle.core_terms.specs.Projection.{projection, Fits}
use Rattle.ideal_meaning.specs.Run.{state_of}
use Rattle.ideal_meaning.specs.Ideal.{Outcome, outcome, outcome_projection, ideal}
use Rattle.ideal_meaning.specs.PieceForms.{IsOfWhole}
use Rattle.ideal_meaning.specs.Frames.{offered_pieces}
use Rattle.ideal_meaning.specs.Checked.{Accepted}
use Rattle.ideal_meaning.specs.SplitPieces.{IsSplitAt}
use Rattle.ideal_meaning.specs.Agreement.{AllOpenedFit}
use Rattle.ideal_meaning.specs.Headline.{call_values}
use Rattle.ideal_meaning.specs.Fetched.{Answered, Got, HoldsAll, IsBroken, IsLack, IsPiece, TrueFromOrSplit, answered, asking, fetched, verdict_from, whole_pieces}

-- Whatever is answered: what is accepted is true, or there is a split.
abbrev pub FetchHeadline : Type 0
FetchHeadline = (hash : Hash) → IsHash hash → (P : Program) → IsFormat P.format → IsTyped P → IsOfWhole hash P
    → (f : ℕ) (kind : Kind) (t answer : Ty) → IsRole P f kind t answer → ReadsState kind
    → (state argument : Value) → IsIdeal P.types P.state state → IsIdeal P.types t argument
    → (k : ℕ) (answers : List Got) (o : Outcome)
    → verdict_from hash P t f (spelling (projection hash P P.state state)) (spelling (projection hash P t argument)) k answers ≡ Accepted o
    → TrueFromOrSplit hash P f (role_result kind P.state answer) (call_values state argument) k (offered_pieces (answered answers))
    (offered_pieces (state_of (fetched hash P f (call_values (projection hash P P.state state) (projection hash P t argument)) k (asking answers))).more) o

-- a piece with this digest
abbrev pub HasDigest : Hash → Got → List ℕ → Type 0
HasDigest hash (IsPiece b) d = hash b ≡ d
HasDigest hash IsLack d = Unit {0}
HasDigest hash (IsBroken wire) d = Unit {0}

-- whatever piece is given to a digest has it
abbrev pub IsStore : Hash → (List ℕ → Got) → Type 0
IsStore hash get = (d : List ℕ) → HasDigest hash (get d) d

-- The companion. Whoever has a piece with the digest of each honest piece, and answers by that: where the state, the argument and each
-- value that the ideal run opens are within the limits, the answer is the projection of the ideal outcome, or there is a split.
abbrev pub FetchCompanion : Type 0
FetchCompanion = (hash : Hash) → IsHash hash → (P : Program) → IsFormat P.format → IsTyped P → IsOfWhole hash P
    → (f : ℕ) (kind : Kind) (t answer : Ty) → IsRole P f kind t answer → ReadsState kind
    → (state argument : Value) → IsIdeal P.types P.state state → IsIdeal P.types t argument
    → Fits P P.state state → Fits P t argument
    → (k : ℕ) → AllOpenedFit P (state_of (ideal P f (call_values state argument) k))
    → (get : List ℕ → Got) → IsStore hash get → HoldsAll hash P get (state_of (ideal P f (call_values state argument) k))
    → (answers : List Got)
    → let verdict = verdict_from hash P t f (spelling (projection hash P P.state state)) (spelling (projection hash P t argument)) k answers in
    Answered {A = Unit {0}} hash (λ old d a new. a ≡ get d) tt answers verdict tt
    → (verdict ≡ Accepted (outcome_projection hash P (role_result kind P.state answer) (outcome (ideal P f (call_values state argument) k))))
    ⊎ ((i : ℕ) × IsSplitAt (λ t bytes. hash bytes) (offered_pieces (answered answers)) (whole_pieces hash P f (call_values state argument) k) i)
