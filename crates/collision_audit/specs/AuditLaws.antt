-- Laws of the audit, by which a reader can judge the definitions.
use Rattle.std.specs.Prelude.{◌≡◌, ◌≢◌, ◌⊎◌, ◌↔◌, ℕ, zero, suc, List, ◌∷◌, ◌++◌, length, Some, None}
use Rattle.core_terms.specs.Types.{Ty}
use Rattle.core_terms.specs.Formats.{Format, Hash, IsHash, IsFormat}
use Rattle.core_terms.specs.Projection.{Fits}
use Rattle.core_terms.specs.RoleTypes.{IsRole, ReadsState, role_result}
use Rattle.core_terms.specs.Terms.{Kind, Program}
use Rattle.core_terms.specs.TypingRules.{IsTyped}
use Rattle.core_terms.specs.Values.{Value, IsIdeal}
use Rattle.ideal_meaning.specs.Checked.{Accepted}
use Rattle.ideal_meaning.specs.SplitPieces.{IsSplitAt}
use Rattle.ideal_meaning.specs.Headline.{call_values}
use Rattle.ideal_meaning.specs.Ideal.{Outcome, Piece, bytes_of, honest_pieces, ideal, outcome, outcome_projection}
use Rattle.collision_audit.specs.Audits.{Collides, IsOnProof, Judges, audit_of, verdict_on_projections}
use Rattle.collision_audit.specs.Splits.{Split, IsSplit, first_split, offered_in, rest_behind}

-- A split that is found is one in the words of the headline, with its two pieces, and each such one is found.
abbrev pub SplitIsFound : Type 0
SplitIsFound = (hash : Hash) (format : Format) (offered : List (List ℕ)) (honest : List Piece) (s : Split)
    → (first_split hash format offered honest ≡ Some s) ↔ IsSplit hash format offered honest s

-- None is found exactly where the lists split at no place.
abbrev pub NoSplitIsFound : Type 0
NoSplitIsFound = (hash : Hash) (format : Format) (offered : List (List ℕ)) (honest : List Piece)
    → (first_split hash format offered honest ≡ None) ↔ ((i : ℕ) → IsSplitAt (format.digest hash) offered honest i → ⊥)

-- The offered pieces are the honest ones, and the outcome of a result of type t is the projection of the ideal one.
abbrev pub IsTrueOutcome : Hash → Program → ℕ → Ty → (state argument : Value) → ℕ → List ℕ → Outcome → Type 0
IsTrueOutcome hash P f t state argument k bytes o =
    (offered_in P.format bytes ≡ bytes_of (honest_pieces hash P f (call_values state argument) k))
    × (o ≡ outcome_projection hash P t (outcome (ideal P f (call_values state argument) k)))

-- The headline, whole. For each well-typed program, query or update, ideal state and argument, fuel and bytes of a proof file, made
-- by anybody: an outcome that the verifier accepts is the projection of the ideal one, or the audit of the same call shows a
-- collision: the first offered piece that differs from the honest one, which has its digest, and its place.
abbrev pub AuditShowsCollision : Type 0
AuditShowsCollision = (hash : Hash) → IsHash hash → (P : Program) → IsFormat P.format → IsTyped P
    → (f : ℕ) (kind : Kind) (t answer : Ty) → IsRole P f kind t answer → ReadsState kind
    → (state argument : Value) → IsIdeal P.types P.state state → IsIdeal P.types t argument
    → (k : ℕ) (bytes : List ℕ) (o : Outcome)
    → verdict_on_projections hash P t f state argument k bytes ≡ Accepted o
    → IsTrueOutcome hash P f (role_result kind P.state answer) state argument k bytes o
    ⊎ ((s : Split) × (audit_of hash P t f state argument k bytes ≡ Collides s)
    × IsSplit hash P.format (offered_in P.format bytes) (honest_pieces hash P f (call_values state argument) k) s)

-- An outcome on which the audit agrees is true.
abbrev pub AgreementIsTrue : Type 0
AgreementIsTrue = (hash : Hash) → IsHash hash → (P : Program) → IsFormat P.format → IsTyped P
    → (f : ℕ) (kind : Kind) (t answer : Ty) → IsRole P f kind t answer → ReadsState kind
    → (state argument : Value) → IsIdeal P.types P.state state → IsIdeal P.types t argument
    → (k : ℕ) (bytes : List ℕ) (o : Outcome)
    → audit_of hash P t f state argument k bytes ≡ Judges (Accepted o)
    → IsTrueOutcome hash P f (role_result kind P.state answer) state argument k bytes o

-- An audit comes to no verdict on its state or argument, which are ideal values within the limits.
abbrev pub VerdictIsOnProof : Type 0
VerdictIsOnProof = (hash : Hash) → IsHash hash → (P : Program) → IsFormat P.format
    → (t : Ty) (f : ℕ) (state argument : Value) → IsIdeal P.types P.state state → IsIdeal P.types t argument → Fits P P.state state → Fits P t argument
    → (k : ℕ) (bytes : List ℕ) → IsOnProof (verdict_on_projections hash P t f state argument k bytes)

-- A collision depends on no byte behind its frame. Where the frame of the first piece that differs ends with `front`, the audit of
-- every proof file that begins with `front` shows that collision, whatever follows.
abbrev pub EndsWithItsFrame : Type 0
EndsWithItsFrame = (hash : Hash) (P : Program) (t : Ty) (f : ℕ) (state argument : Value) (k : ℕ) (front more other : List ℕ) (s : Split)
    → audit_of hash P t f state argument k (front ++ more) ≡ Collides s
    → rest_behind P.format (front ++ more) s.place ≡ Some (length more)
    → audit_of hash P t f state argument k (front ++ other) ≡ Collides s

-- The lists first differ at place i: both have a piece there, the two differ, and all pieces before are equal.
abbrev pub FirstDifferAt : List (List ℕ) → List Piece → ℕ → Type 0
FirstDifferAt (a ∷ offered) (b ∷ honest) zero = a ≢ b.bytes
FirstDifferAt (a ∷ offered) (b ∷ honest) (suc i) = (a ≡ b.bytes) × FirstDifferAt offered honest i
FirstDifferAt offered honest i = ⊥

-- Nothing behind the first difference matters, whatever the digest of the piece there. Where the frame of the first offered piece
-- that differs from the honest one ends with `front`, the audit of every proof file that begins with `front` gives the same answer,
-- whatever follows.
abbrev pub EndsWithTheDifference : Type 0
EndsWithTheDifference = (hash : Hash) → IsHash hash → (P : Program) → IsFormat P.format → IsTyped P
    → (f : ℕ) (kind : Kind) (t answer : Ty) → IsRole P f kind t answer → ReadsState kind
    → (state argument : Value) → IsIdeal P.types P.state state → IsIdeal P.types t argument
    → (k : ℕ) (front more other : List ℕ) (i : ℕ)
    → FirstDifferAt (offered_in P.format (front ++ more)) (honest_pieces hash P f (call_values state argument) k) i
    → rest_behind P.format (front ++ more) i ≡ Some (length more)
    → audit_of hash P t f state argument k (front ++ other) ≡ audit_of hash P t f state argument k (front ++ more)
