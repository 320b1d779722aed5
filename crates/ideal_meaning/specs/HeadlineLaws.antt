-- The laws of the headline and its companion.
use Rattle.std.specs.Prelude.{◌≡◌, ℕ, ◌≤◌, List, [], drop, Some}
use Rattle.core_terms.specs.Types.{Ty}
use Rattle.core_terms.specs.Formats.{Hash, IsHash, IsFormat}
use Rattle.core_terms.specs.Values.{Value, Values, IsIdeal, AreIdeal, AuthWithin}
use Rattle.core_terms.specs.Spelling.{spelling}
use Rattle.core_terms.specs.Terms.{Kind, Program, function_at}
use Rattle.core_terms.specs.TypingRules.{IsTyped}
use Rattle.core_terms.specs.RoleTypes.{IsRole, ReadsState, role_result}
use Rattle.core_terms.specs.Projection.{projection, projections, Fits, AllFit}
use Rattle.ideal_meaning.specs.Ideal.{Outcome, outcome, outcome_projection, ideal, honest_pieces, bytes_of}
use Rattle.ideal_meaning.specs.Frames.{offered, offered_pieces, header, proof_file}
use Rattle.ideal_meaning.specs.Checked.{Accepted, verdict, judge}
use Rattle.ideal_meaning.specs.Headline.{TrueOrSplit, call_values}

-- Of frames alone, over whatever pieces were kept before: what is accepted is true, or there is a split.
abbrev pub HeadlineOfFrames : Type 0
HeadlineOfFrames = (hash : Hash) → IsHash hash → (P : Program) → IsFormat P.format → IsTyped P
    → (f : ℕ) (args : Values) (k : ℕ) (bytes : List ℕ) (n : ℕ) (recent : List (List ℕ)) (o : Outcome)
    → AreIdeal P.types (function_at P f).parameters args → AllFit P (function_at P f).parameters args
    → judge hash P f (projections hash P (function_at P f).parameters args) k bytes n recent ≡ Accepted o
    → TrueOrSplit hash P f (function_at P f).result args k (offered_pieces (offered P.format.limit bytes n recent)) o

-- The headline. For each well-typed program, query or update, ideal state and argument, fuel and bytes of a proof file, made by
-- anybody: if the verdict, given the spellings of the projected state and argument alone, accepts an outcome, then the header
-- is good, and what is accepted is true, or there is a split. Of the hash nothing is asked but 32 bytes.
abbrev pub Headline : Type 0
Headline = (hash : Hash) → IsHash hash → (P : Program) → IsFormat P.format → IsTyped P
    → (f : ℕ) (kind : Kind) (t answer : Ty) → IsRole P f kind t answer → ReadsState kind
    → (state argument : Value) → IsIdeal P.types P.state state → IsIdeal P.types t argument
    → (k : ℕ) (bytes : List ℕ) (o : Outcome)
    → verdict hash P t f (spelling (projection hash P P.state state)) (spelling (projection hash P t argument)) k bytes ≡ Accepted o
    → (n : ℕ) × (header P.format bytes ≡ Some n)
    × TrueOrSplit hash P f (role_result kind P.state answer) (call_values state argument) k (offered_pieces (offered P.format.limit (drop 6 bytes) n [])) o

-- The companion. The proof file of the honest pieces, with whatever ring size the format allows, is accepted with the projection
-- of the ideal outcome. The state and the argument are within the limits, and so is each authenticated value in the state.
abbrev pub Companion : Type 0
Companion = (hash : Hash) → IsHash hash → (P : Program) → IsFormat P.format → IsTyped P
    → (f : ℕ) (kind : Kind) (t answer : Ty) → IsRole P f kind t answer → ReadsState kind
    → (state argument : Value) → IsIdeal P.types P.state state → IsIdeal P.types t argument
    → Fits P P.state state → Fits P t argument
    → AuthWithin P.format.limit P.types P.state state
    → (k n : ℕ) → n ≤ P.format.most_kept
    → verdict hash P t f (spelling (projection hash P P.state state)) (spelling (projection hash P t argument)) k
    (proof_file P.format n (bytes_of (honest_pieces hash P f (call_values state argument) k)))
    ≡ Accepted (outcome_projection hash P (role_result kind P.state answer) (outcome (ideal P f (call_values state argument) k)))
