-- The law of the audit piece by piece.
use Rattle.std.specs.Prelude.{◌≡◌, ℕ, List}
use Rattle.core_terms.specs.Types.{Ty}
use Rattle.core_terms.specs.Formats.{Hash, IsHash, IsFormat}
use Rattle.core_terms.specs.Projection.{Fits}
use Rattle.core_terms.specs.RoleTypes.{IsRole, ReadsState}
use Rattle.core_terms.specs.Terms.{Kind, Program}
use Rattle.core_terms.specs.TypingRules.{IsTyped}
use Rattle.core_terms.specs.Values.{Value, AuthWithin, IsIdeal}
use Rattle.collision_audit.specs.Audits.{audit_of}
use Rattle.collision_audit.specs.PieceAudits.{audit_by_pieces}

-- The audit, which is defined by the verifier's verdict, is that piece by piece: no verifier needs to run. The state and the argument
-- are within the limits, and so is each authenticated value in the state; then each honest piece is a spelling that is read.
abbrev pub AuditIsByPieces : Type 0
AuditIsByPieces = (hash : Hash) → IsHash hash → (P : Program) → IsFormat P.format → IsTyped P
    → (f : ℕ) (kind : Kind) (t answer : Ty) → IsRole P f kind t answer → ReadsState kind
    → (state argument : Value) → IsIdeal P.types P.state state → IsIdeal P.types t argument
    → Fits P P.state state → Fits P t argument
    → AuthWithin P.format.limit P.types P.state state
    → (k : ℕ) (bytes : List ℕ) → audit_of hash P t f state argument k bytes ≡ audit_by_pieces hash P f state argument k bytes
