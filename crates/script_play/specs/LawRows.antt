-- Rows for what is said of a play's course: what each word takes, and what it refuses.
use Rattle.std.specs.Prelude.{◌≡◌, ◌<◌, ℕ, List, [], ◌∷◌, length, take, true, false, Option, Some, Result, Ok, Err, refl}
use Rattle.std.specs.Io.KnownBytes.{append_known}
use Rattle.std.proofs.Common.{arith, inl, inr}
use Rattle.core_terms.specs.Roles.{Role}
use Rattle.core_terms.specs.Terms.{Program}
use Rattle.printed_syntax.specs.Literals.{ConstructorNames}
use Rattle.session_meaning.specs.Client as meant
use Rattle.session_meaning.specs.Client.{Answer}
use Rattle.session_meaning.specs.Messages.{AtEnd, IsCut, TooLong, BadMessage, Request, request_bytes}
use Rattle.lam_outside.specs.Causes.{Rose}
use Rattle.script_play.specs.Halting.{IsUnmet}
use Rattle.script_play.specs.Playing.{BreaksOff, FailsAtLine, PlaysAs, World}
use Rattle.script_play.specs.PlayingInCode.{SendsRequest, IsCutShort, PlayCause}
use Rattle.script_play.specs.Plays.{Play, Sends, Tells, Stops}
use Rattle.script_play.specs.declared.play_stop.PlayStop.TheVariants.{Ended, LinkFault, WriteFault, NoMemory}

-- a link keeps from being done: a request that isn't sent whole, and a reply that hasn't come whole; nothing else
pub unmet : (r : Request) (n : ℕ) → n < length (request_bytes r) → IsUnmet (Sends r) n × IsUnmet (Stops AtEnd) n × IsUnmet (Stops IsCut) n
unmet r n fewer = (fewer, inl refl, inr refl)

pub met : (r : Request) (session n len kind offset : ℕ) (called : Role) (answer : Answer) → (IsUnmet (Sends r) (length (request_bytes r)) → ⊥) × (IsUnmet (Tells session called answer) n → ⊥)
met r session n len kind offset called answer = ((λ u. omega (arith, u)), (λ u. u))

-- only the link and the want of memory cut short what is found
pub cut_short : IsCutShort LinkFault × IsCutShort NoMemory × (IsCutShort Ended → ⊥) × (IsCutShort WriteFault → ⊥)
cut_short = (tt, tt, (λ c. c), (λ c. c))

-- a play that goes on has done all its deeds, and so has one that has ended; another has broken off, or failed to write
pub whole : (P : Program) (names : ConstructorNames) (Is : meant.Client → Type 0) (left : Option (List ℕ)) (w w' : World) (p : Play)
    → PlaysAs P names {T = Unit {0}} Is left w w' p (Ok tt) → p.goes_on ≡ true
whole P names Is left w w' p plays = plays.0

pub ended : (P : Program) (names : ConstructorNames) (Is : meant.Client → Type 0) (left : Option (List ℕ)) (w w' : World) (p : Play)
    → PlaysAs P names {T = Unit {0}} Is left w w' p (Err Ended) → p.goes_on ≡ false
ended P names Is left w w' p plays = plays.0

pub broken : (P : Program) (names : ConstructorNames) (Is : meant.Client → Type 0) (left : Option (List ℕ)) (w w' : World) (p : Play)
    → (PlaysAs P names {T = Unit {0}} Is left w w' p (Err NoMemory) → BreaksOff P names w w' p.deeds) × (PlaysAs P names {T = Unit {0}} Is left w w' p (Err LinkFault) → BreaksOff P names w w' p.deeds)
    × (PlaysAs P names {T = Unit {0}} Is left w w' p (Err WriteFault) → FailsAtLine P names w w' p.deeds)
broken P names Is left w w' p = ((λ b. b), (λ b. b), (λ f. f))

-- not all of a request was sent where the link failed
pub sent_in_part : (r : Request) (sent sent' : Option (List ℕ)) → SendsRequest r sent sent' (Err LinkFault)
    → (count : ℕ) × (count < length (request_bytes r)) × (sent' ≡ append_known sent (take count (request_bytes r)))
sent_in_part r sent sent' part = part

pub sends_nothing_else : (r : Request) (sent sent' : Option (List ℕ)) → (SendsRequest r sent sent' (Err Ended) → ⊥) × (SendsRequest r sent sent' (Err WriteFault) → ⊥)
sends_nothing_else r sent sent' = ((λ s. s), (λ s. s))

-- each count rose at its own fault alone
pub causes : (link link' sink sink' : ℕ) → (PlayCause {T = Unit {0}} link link' sink sink' (Err LinkFault) → Rose link link' × (sink' ≡ sink))
    × (PlayCause {T = Unit {0}} link link' sink sink' (Err WriteFault) → (link' ≡ link) × Rose sink sink')
    × (PlayCause {T = Unit {0}} link link' sink sink' (Err NoMemory) → (link' ≡ link) × (sink' ≡ sink))
causes link link' sink sink' = ((λ c. c), (λ c. c), (λ c. c))
