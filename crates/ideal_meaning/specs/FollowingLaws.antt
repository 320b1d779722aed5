-- Laws of proofs that follow one another.
use Rattle.std.specs.Prelude.{◌≡◌, ℕ, ◌≤◌, List, [], length, drop, Some, All}
use Rattle.core_terms.specs.Types.{Ty}
use Rattle.core_terms.specs.Formats.{Hash, IsHash, Format, IsFormat}
use Rattle.core_terms.specs.Values.{Value, AuthWithin, IsIdeal}
use Rattle.core_terms.specs.Spelling.{spelling}
use Rattle.core_terms.specs.Terms.{Kind, Program}
use Rattle.core_terms.specs.TypingRules.{IsTyped}
use Rattle.core_terms.specs.RoleTypes.{IsRole, ReadsState, role_result}
use Rattle.core_terms.specs.Projection.{projection, Fits}
use Rattle.ideal_meaning.specs.Ideal.{outcome, outcome_projection, ideal, honest_pieces, bytes_of}
use Rattle.ideal_meaning.specs.Frames.{header, honest_frames, frame_bytes}
use Rattle.ideal_meaning.specs.Checked.{Accepted, verdict, verdict_on}
use Rattle.ideal_meaning.specs.Headline.{call_values}
use Rattle.ideal_meaning.specs.Following.{after_bytes, after_frames, after_within}

-- The frames of an honest prover for pieces within the limit, over whatever pieces came before, leave as bytes the new pieces
-- that they leave as frames.
abbrev pub NewPiecesAreReadBack : Type 0
NewPiecesAreReadBack = (format : Format) → IsFormat format → (n : ℕ) → n ≤ format.most_kept → (recent pieces : List (List ℕ)) → All (λ piece. length piece ≤ format.limit) pieces
    → let frames = honest_frames n recent pieces in after_bytes format.limit (frame_bytes frames) n recent ≡ after_frames frames recent

-- Any bound on the number of frames that isn't below the number of bytes leaves the same new pieces.
abbrev pub NewPieceBoundIsEnough : Type 0
NewPieceBoundIsEnough = (limit most n : ℕ) (recent : List (List ℕ)) (bytes : List ℕ) → length bytes ≤ most
    → after_within limit most n recent bytes ≡ after_bytes limit bytes n recent

-- The verdict on a file with a good header is that on its frames, before which nothing came.
abbrev pub VerdictIsOnFrames : Type 0
VerdictIsOnFrames = (hash : Hash) (P : Program) (t : Ty) (f : ℕ) (state argument : List ℕ) (k : ℕ) (bytes : List ℕ) (n : ℕ)
    → header P.format bytes ≡ Some n → verdict hash P t f state argument k bytes ≡ verdict_on hash P t f state argument k (drop 6 bytes) n []

-- The companion of frames alone. Over whatever pieces came before, the frames of the honest pieces, with whatever ring size the
-- format allows, are accepted with the projection of the ideal outcome, and leave as bytes the new pieces that they leave as
-- frames. The state and the argument are within the limits, and so is each authenticated value in the state.
abbrev pub CompanionOfFrames : Type 0
CompanionOfFrames = (hash : Hash) → IsHash hash → (P : Program) → IsFormat P.format → IsTyped P
    → (f : ℕ) (kind : Kind) (t answer : Ty) → IsRole P f kind t answer → ReadsState kind
    → (state argument : Value) → IsIdeal P.types P.state state → IsIdeal P.types t argument
    → Fits P P.state state → Fits P t argument
    → AuthWithin P.format.limit P.types P.state state
    → (k n : ℕ) → n ≤ P.format.most_kept → (recent : List (List ℕ))
    → let frames = honest_frames n recent (bytes_of (honest_pieces hash P f (call_values state argument) k)) in
    (verdict_on hash P t f (spelling (projection hash P P.state state)) (spelling (projection hash P t argument)) k (frame_bytes frames) n recent
    ≡ Accepted (outcome_projection hash P (role_result kind P.state answer) (outcome (ideal P f (call_values state argument) k))))
    × (after_bytes P.format.limit (frame_bytes frames) n recent ≡ after_frames frames recent)
