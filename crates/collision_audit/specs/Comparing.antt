-- What an offered piece is against an honest one.
use Rattle.std.specs.Prelude.{◌≡◌, ◌≢◌, ℕ, List, [], ◌∷◌, drop, length, Option, Some, None, slice_get, option_map, Result, Ok, Err, ⊤}
use Rattle.ideal_meaning.specs.Checked as checked
use Rattle.ideal_meaning.specs.Frames.{End, NoMore, Offer, offered}
use Rattle.ideal_meaning.specs.Frames as frames
use Rattle.ideal_meaning.specs.Ideal.{Outcome}
use Rattle.ideal_meaning.specs.Told.{cause_told}
use Rattle.proof_stream.specs.Readers.{limit_of}
use Rattle.proof_stream.specs.declared.frame.FrameEnd.{FrameEnd}
use Rattle.reuse_buffer.specs.Kept.{Kept, kept}
use Rattle.verifier_mode.specs.Faults.{end_told}
use Rattle.collision_audit.specs.Audits.{Audit, Collides, Judges}
use Rattle.collision_audit.specs.AuditsInCode.{split_told, AreLeft, StopsBehind}
use Rattle.collision_audit.specs.declared.audited.AuditFault.{AuditFault}
use Rattle.collision_audit.specs.declared.audited.Audited.{Audited}
use Rattle.collision_audit.specs.declared.audited.Audited.TheVariants as audited
use Rattle.collision_audit.specs.declared.offers.Offers.{Offers}
use Rattle.collision_audit.specs.declared.offers.Offered.{Offered}
use Rattle.collision_audit.specs.declared.offers.Offered.TheVariants.{Same, Other, Ended}

-- The source tells `count` bytes that are left, and from them on this is offered, over the ring.
pub record IsAhead (limit : ℕ) (ring : Kept) (left : Option (List ℕ)) (count : ℕ) (o : Offer) : Type 0 where
  pub bytes : List ℕ
  pub recent : List (List ℕ)
  pub told : left ≡ Some bytes
  pub holds : ring ≡ kept ring.size recent
  pub counted : count ≡ length bytes
  pub is : o ≡ offered limit bytes ring.size recent

-- A new piece against the honest one: the same, which the ring keeps from then on, or another.
abbrev pub ComparesNew : (piece honest : List ℕ) (ring ring' : Kept) → Offered → Type 0
ComparesNew piece honest ring ring' Same = (piece ≡ honest) × (ring' ≡ kept ring.size (piece ∷ ring.pieces))
    × ((recent : List (List ℕ)) → ring ≡ kept ring.size recent → ring' ≡ kept ring.size (piece ∷ recent))
ComparesNew piece honest ring ring' (Other other) = (other.items ≡ piece) × (piece ≢ honest)
ComparesNew piece honest ring ring' (Ended cause) = ⊥

-- The k-th kept piece against the honest one: the same, or another, or there is none.
abbrev pub ComparesKept : (place k : ℕ) (honest : List ℕ) (ring : Kept) → Result Offered AuditFault → Type 0
ComparesKept place k honest ring (Ok Same) = slice_get ring.pieces k ≡ Some honest
ComparesKept place k honest ring (Ok (Other other)) = (slice_get ring.pieces k ≡ Some other.items) × (other.items ≢ honest)
ComparesKept place k honest ring (Ok (Ended cause)) = (slice_get ring.pieces k ≡ None) × (cause_told cause ≡ checked.BadUse place k (length ring.pieces))
ComparesKept place k honest ring (Err e) = ⊤

-- the answer tells an audit, which shows a difference
abbrev pub TellsDifference : Audit → Audited → Type 0
TellsDifference audit (audited.Agrees told) = ⊥
TellsDifference audit (audited.Collision c) = audit ≡ Collides (split_told c)
TellsDifference audit (audited.Rejected cause) = audit ≡ Judges (checked.Rejected (cause_told cause))

-- why there is no piece with this number
abbrev pub EndsAs : FrameEnd → (place : ℕ) → Result Offered AuditFault → Type 0
EndsAs end place (Ok (Ended cause)) = (want : List ℕ) → option_map (λ e. checked.cause_of e place want) (end_told end) ≡ Some (cause_told cause)
EndsAs end place (Ok other) = ⊥
EndsAs end place (Err e) = ⊤

-- A header was taken, which asks for so many pieces to be kept, or there is no good one.
abbrev pub Opens : (limit : ℕ) → Option ℕ → List ℕ → Option (List ℕ) → Result (Option Offers) AuditFault → Type 0
Opens limit size bytes left (Ok (Some offers)) = (size ≡ Some offers.ring.size) × (offers.ring ≡ kept offers.ring.size []) × (limit_of offers.reader ≡ limit) × (left ≡ Some (drop 6 bytes))
Opens limit size bytes left (Ok None) = size ≡ None
Opens limit size bytes left (Err e) = ⊤

-- the bytes left were counted: there are none, or they are told
abbrev pub IsCounted : List ℕ → Option (List ℕ) → Result (Option Audited) AuditFault → Type 0
IsCounted bytes left (Ok None) = (bytes ≡ []) × (left ≡ Some [])
IsCounted bytes left (Ok (Some answer)) = ((o : Outcome) → TellsDifference (Judges (checked.with_rest o (length bytes))) answer) × ((behind : ℕ → Option ℕ) → StopsBehind behind left answer)
IsCounted bytes left (Err e) = ⊤

-- What is offered against the honest piece with this number: the same, another, or none.
abbrev pub TakesPiece : (place : ℕ) (honest : List ℕ) → Offer → (limit : ℕ) (ring : Kept) (left : Option (List ℕ)) → Result Offered AuditFault → Type 0
TakesPiece place honest o limit ring left (Ok Same) = (count : ℕ) × (more : Offer) × (o ≡ frames.Offers honest count more) × IsAhead limit ring left count more
TakesPiece place honest o limit ring left (Ok (Other other)) =
    (count : ℕ) × (more : Offer) × (o ≡ frames.Offers other.items count more) × (other.items ≢ honest) × AreLeft (Some count) left
TakesPiece place honest o limit ring left (Ok (Ended cause)) = (e : End) × (o ≡ NoMore e) × ((want : List ℕ) → cause_told cause ≡ checked.cause_of e place want)
TakesPiece place honest o limit ring left (Err e) = ⊤

-- What comparing comes to, where `audit` tells for an outcome what the audit comes to: a difference, with what is left of the source;
-- or there is none, and all depends on the bytes that are left.
abbrev pub Compares : (Outcome → Audit) → (ℕ → Option ℕ) → (left : Option (List ℕ)) → Result (Option Audited) AuditFault → Type 0
Compares audit behind left (Ok (Some answer)) = ((o : Outcome) → TellsDifference (audit o) answer) × StopsBehind behind left answer
Compares audit behind left (Ok None) = (rest : List ℕ) × (left ≡ Some rest) × ((o : Outcome) → audit o ≡ Judges (checked.with_rest o (length rest)))
Compares audit behind left (Err e) = ⊤

-- the same to the end of the source
abbrev pub ComparesAll : (Outcome → Audit) → (ℕ → Option ℕ) → (left : Option (List ℕ)) → Result (Option Audited) AuditFault → Type 0
ComparesAll audit behind left (Ok (Some answer)) = ((o : Outcome) → TellsDifference (audit o) answer) × StopsBehind behind left answer
ComparesAll audit behind left (Ok None) = (left ≡ Some []) × ((o : Outcome) → audit o ≡ Judges (checked.Accepted o))
ComparesAll audit behind left (Err e) = ⊤
