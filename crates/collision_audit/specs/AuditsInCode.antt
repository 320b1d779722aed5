-- Audits, as their functions tell them.
use Rattle.std.specs.Prelude.{◌≡◌, ℕ, List, [], length, Option, Some, Result, Ok, Err, ⊤, option_map}
use Rattle.lam_outside.specs.Causes.{Rose}
use Rattle.core_terms.specs.Formats.{Hash}
use Rattle.core_terms.specs.Terms.{Program, function_at}
use Rattle.core_terms.specs.Values.{Value}
use Rattle.core_terms.specs.declared.cause.Cause.TheVariants as cause
use Rattle.ideal_meaning.specs.Headline.{call_values}
use Rattle.ideal_meaning.specs.Ideal.{bytes_of, honest_pieces, Outcome}
use Rattle.ideal_meaning.specs.SpelledOutcomes.{SpellsOutcome}
use Rattle.collision_audit.specs.Splits.{IsSplit, offered_in, rest_behind, Split, HasNoSplit}
use Rattle.collision_audit.specs.PieceAudits.{outcome_seen}
use Rattle.collision_audit.specs.declared.audited.AuditFault.{AuditFault}
use Rattle.collision_audit.specs.declared.audited.AuditFault.TheVariants.{ReadFault, NoMemory}
use Rattle.collision_audit.specs.declared.audited.Audited.{Audited}
use Rattle.collision_audit.specs.declared.audited.Audited.TheVariants.{Agrees, Collision, Rejected}
use Rattle.core_terms.specs.declared.digest.Digest.{Digest}
use Rattle.ideal_meaning.specs.Checked as checked
use Rattle.ideal_meaning.specs.Told.{cause_told}
use Rattle.collision_audit.specs.Audits.{Audit, Collides, Judges}
use Rattle.collision_audit.specs.declared.audited.Collision.{Collision as Shown}

-- the split that a collision of the code shows
abbrev pub split_told : Shown → Split
split_told c = record { place = c.place; offered = c.offered; honest = c.honest; print = option_map (λ (digest : Digest). digest.0) c.print }

-- The headline of an audit, with the ideal state and argument at hand. An outcome on which it agrees is the projection of the ideal one,
-- and all offered pieces are the honest ones. A collision is where the offered pieces split from the honest ones, and shows the two
-- pieces there. What is rejected has no split.
abbrev pub AuditsTruly : Hash → Program → ℕ → (state argument : Value) → ℕ → List ℕ → Result Audited AuditFault → Type 0
AuditsTruly hash P f state argument k proof (Ok (Agrees told)) =
    SpellsOutcome P (function_at P f).result (outcome_seen hash P f state argument k) told
    × (offered_in P.format proof ≡ bytes_of (honest_pieces hash P f (call_values state argument) k))
    × HasNoSplit hash P f state argument k proof
AuditsTruly hash P f state argument k proof (Ok (Collision c)) =
    IsSplit hash P.format (offered_in P.format proof) (honest_pieces hash P f (call_values state argument) k) (split_told c)
AuditsTruly hash P f state argument k proof (Ok (Rejected cause)) = HasNoSplit hash P f state argument k proof
AuditsTruly hash P f state argument k proof (Err e) = ⊤

-- As many bytes are left of the source as `left` says.
abbrev pub AreLeft : Option ℕ → Option (List ℕ) → Type 0
AreLeft left source = (rest : List ℕ) × (source ≡ Some rest) × (left ≡ Some (length rest))

-- What an answer leaves of the source, where `left` tells how many bytes stand behind the frame with the piece of a number: behind the
-- frame with the first piece that differs nothing was read.
abbrev pub StopsBehind : (ℕ → Option ℕ) → Option (List ℕ) → Audited → Type 0
StopsBehind left source (Agrees told) = source ≡ Some []
StopsBehind left source (Collision c) = AreLeft (left c.place) source
StopsBehind left source (Rejected (cause.WrongPiece place want found)) = AreLeft (left place) source
StopsBehind left source (Rejected other) = ⊤

-- the same of the bytes of a proof file
abbrev pub StopsAtDifference : Program → List ℕ → Option (List ℕ) → Result Audited AuditFault → Type 0
StopsAtDifference P proof source (Ok answer) = StopsBehind (rest_behind P.format proof) source answer
StopsAtDifference P proof source (Err e) = ⊤

-- the count of faults rose where the source failed, and there alone
abbrev pub AuditCause : {T : Type 0} → (before now : ℕ) → Result T AuditFault → Type 0
AuditCause before now (Ok told) = now ≡ before
AuditCause before now (Err ReadFault) = Rose before now
AuditCause before now (Err NoMemory) = now ≡ before

-- The answer tells the audit of a call of function f, with each field; where the source failed or memory was wanting it tells nothing.
abbrev pub TellsAudit : Program → ℕ → Audit → Result Audited AuditFault → Type 0
TellsAudit P f audit (Ok (Agrees told)) = (o : Outcome) × (audit ≡ Judges (checked.Accepted o)) × SpellsOutcome P (function_at P f).result o told
TellsAudit P f audit (Ok (Collision c)) = audit ≡ Collides (split_told c)
TellsAudit P f audit (Ok (Rejected cause)) = audit ≡ Judges (checked.Rejected (cause_told cause))
TellsAudit P f audit (Err e) = ⊤
