-- Rows for the premises and the conclusions of the laws: what each takes, and what each refuses. A premise that took less, or a conclusion that refused
-- less, would leave the proofs of the laws as they are.
use Rattle.std.specs.Prelude.{◌≡◌, ℕ, true, false, List, [], ◌∷◌, map, None, Some, refl}
use Rattle.std.proofs.Common.{arith}
use Rattle.core_terms.specs.Values.{UnitV}
use Rattle.ideal_meaning.specs.Checked.{Cause}
use Rattle.ideal_meaning.specs.Ideal.{Done}
use Rattle.ideal_meaning.specs.Examples.{toy, unit_program}
use Rattle.session_meaning.specs.Messages.{Request, Hello, Call, Go, Bye, Welcome, Proof, Stale, Refused, Closed}
use Rattle.session_meaning.specs.Server.{Step, Hears, HearsBad, HearsEnd, Heard, Server, last_turn, new_server}
use Rattle.session_meaning.specs.Client.{Known, Asked, Greeting, Idle, Leaving, Calling, FailedBy, BrokenBy, Hellos, Calls, Byes, Forgets, Hears as HearsReply, Sends, TellsWelcome, Tells, TellsStale, TellsRefused, TellsEnded, StateFault, ArgumentFault, OutOfTurn, WantsMemory, IsRejected, IsStranger, IsWrongReply, HasFailed, IsBroken, IsClosed}
use Rattle.session_meaning.specs.ClientLaws.{HasBytes}
use Rattle.session_meaning.specs.ToldCalls.{BeginsWith, lives}
use Rattle.session_meaning.specs.Exchange.{Greets, Asks, Leaves, Goes, Takes, IsRefusedReply, IsTold, IsWellAnswered, MoveHasBytes}
use Rattle.session_meaning.specs.Isolation.{IsQuietRun, StaysOpen, is_quiet}
use Rattle.session_meaning.specs.ReplyLaws.{HasArgumentBytes, IsWithinMessages, IsHeard}
use Rattle.session_meaning.specs.Stopped.{IsStopped}
use Rattle.session_meaning.specs.MessageRows.{text_digest}

-- ISOLATION
-- of all replies, STALE and the refusals 2, 8 and 9 tell of other sessions, and no others
pub quiet_replies : map is_quiet (Welcome 1 ∷ Proof 1 [] ∷ Stale 1 [] ∷ Closed 1 0 ∷ Closed 0 1 ∷ []) ≡ true ∷ true ∷ false ∷ true ∷ true ∷ []
quiet_replies = refl

pub quiet_refusals : map (λ cause. is_quiet (Refused 1 cause)) (1 ∷ 2 ∷ 3 ∷ 4 ∷ 5 ∷ 6 ∷ 7 ∷ 8 ∷ 9 ∷ 10 ∷ 11 ∷ 12 ∷ 13 ∷ [])
    ≡ true ∷ false ∷ true ∷ true ∷ true ∷ true ∷ true ∷ false ∷ false ∷ true ∷ true ∷ true ∷ true ∷ []
quiet_refusals = refl

-- a run of a session that is greeted, calls, is refused a second call, is sent its proof, and leaves
pub quiet_run : IsQuietRun toy unit_program text_digest (last_turn 1) 1 (new_server UnitV)
    (Hears (Hello 1 text_digest 0 (toy [])) ∷ Hears (Call 1 1 1 []) ∷ Hears (Call 1 1 1 []) ∷ Hears (Go 2) ∷ Hears (Bye 1) ∷ [])
quiet_run = (refl, (refl, tt), (refl, tt, (refl, (refl, tt), (refl, (refl, tt), (refl, (refl, tt), tt)))))

-- a message stays within its connection where the server doesn't close it, and an end never does
pub stays_open : (step : Step) → StaysOpen (Hears (Go 1)) step → step.closing ≡ false
stays_open step stays = stays

pub bad_stays_open : (step : Step) → step.closing ≡ false → StaysOpen HearsBad step
bad_stays_open step stays = stays

pub no_end_stays_open : (step : Step) → StaysOpen HearsEnd step → ⊥
no_end_stays_open step stays = stays

-- AN HONEST EXCHANGE
-- what a reply is to tell
pub told : (state : List ℕ) (cause : ℕ) → IsTold None × IsTold (Some TellsWelcome) × IsTold (Some (Tells (Done UnitV))) × IsTold (Some (TellsStale state))
    × IsTold (Some (TellsRefused cause)) × IsTold (Some TellsEnded) × IsTold (Some (IsClosed cause))
told state cause = (tt, tt, tt, tt, tt, tt, tt)

-- and what not
pub not_told : (session number : ℕ) (cause : Cause) (r : Request) → (IsTold (Some (IsRejected session cause)) → ⊥) × (IsTold (Some (IsStranger session)) → ⊥) × (IsTold (Some (IsWrongReply number)) → ⊥)
    × (IsTold (Some (HasFailed cause)) → ⊥) × (IsTold (Some (IsBroken number)) → ⊥) × (IsTold (Some (StateFault number)) → ⊥) × (IsTold (Some (ArgumentFault number)) → ⊥)
    × (IsTold (Some OutOfTurn) → ⊥) × (IsTold (Some WantsMemory) → ⊥) × (IsTold (Some (Sends r)) → ⊥)
not_told session number cause r = ((λ t. t), (λ t. t), (λ t. t), (λ t. t), (λ t. t), (λ t. t), (λ t. t), (λ t. t), (λ t. t), (λ t. t))

-- a reply is refused where it is rejected, a stranger's, or another than is waited for, and nowhere else
pub refused : (session number : ℕ) (cause : Cause) → IsRefusedReply (Some (IsRejected session cause)) × IsRefusedReply (Some (IsStranger session)) × IsRefusedReply (Some (IsWrongReply number))
refused session number cause = (tt, tt, tt)

pub not_refused : (r : Request) → (IsRefusedReply None → ⊥) × (IsRefusedReply (Some (Sends r)) → ⊥) × (IsRefusedReply (Some OutOfTurn) → ⊥) × (IsRefusedReply (Some TellsWelcome) → ⊥)
not_refused r = ((λ t. t), (λ t. t), (λ t. t), (λ t. t))

-- a reply that is taken is told; a line that is asked is no refused reply
pub well_answered : (session : ℕ) (cause : Cause) → (IsWellAnswered Takes (Some (IsRejected session cause)) → ⊥) × (IsWellAnswered Takes (Some OutOfTurn) → ⊥) × IsWellAnswered Takes (Some TellsWelcome)
    × IsWellAnswered (Leaves session) (Some OutOfTurn) × (IsWellAnswered (Leaves session) (Some (IsStranger session)) → ⊥)
well_answered session cause = ((λ t. t), (λ t. t), tt, (λ t. t), (λ none. none tt))

-- BYTES
-- the premises of bytes are met by all but a call, and by a call of bytes
pub moves_have_bytes : (session n role fuel : ℕ) (state : List ℕ) → MoveHasBytes (Greets session n state) × MoveHasBytes (Leaves session) × MoveHasBytes (Goes n) × MoveHasBytes Takes
    × MoveHasBytes (Asks session role fuel (255 ∷ [])) × (MoveHasBytes (Asks session role fuel (256 ∷ [])) → ⊥)
moves_have_bytes session n role fuel state = (tt, tt, tt, tt, (omega arith, tt), (λ has. omega (arith, has.0)))

pub events_have_bytes : (session n role fuel : ℕ) (state : List ℕ) → HasBytes (Hellos session n state) × HasBytes (Byes session) × HasBytes (Forgets session) × HasBytes (HearsReply (Welcome session))
    × HasBytes (Calls session role fuel (255 ∷ [])) × (HasBytes (Calls session role fuel (256 ∷ [])) → ⊥)
events_have_bytes session n role fuel state = (tt, tt, tt, tt, (omega arith, tt), (λ has. omega (arith, has.0)))

pub requests_have_bytes : (session n role fuel : ℕ) (state : List ℕ) → HasArgumentBytes (Hello session state n state) × HasArgumentBytes (Go n) × HasArgumentBytes (Bye session)
    × HasArgumentBytes (Call session role fuel (255 ∷ [])) × (HasArgumentBytes (Call session role fuel (256 ∷ [])) → ⊥)
requests_have_bytes session n role fuel state = (tt, tt, tt, (omega arith, tt), (λ has. omega (arith, has.0)))

-- what is no message, and an end, are heard too
pub others_are_heard : IsHeard HearsBad × IsHeard HearsEnd
others_are_heard = (tt, tt)

pub asks_of_others : (session : ℕ) → IsWithinMessages (Forgets session) × IsWithinMessages (HearsReply (Welcome session))
asks_of_others session = (tt, tt)

-- A SESSION OF A CLIENT
pub living : (known : Known) (asked : Asked) (cause : Cause) → map lives (None ∷ Some (Greeting known) ∷ Some (Idle known) ∷ Some (Calling known asked) ∷ Some (Leaving known) ∷ Some (FailedBy cause)
    ∷ Some (BrokenBy 131) ∷ []) ≡ false ∷ true ∷ true ∷ true ∷ true ∷ false ∷ false ∷ []
living known asked cause = refl

-- it begins as it greets, and whenever it is idle
pub begins : (known : Known) (asked : Asked) (cause : Cause) → BeginsWith known (Some (Greeting known)) × BeginsWith known (Some (Idle known)) × (BeginsWith known None → ⊥)
    × (BeginsWith known (Some (Calling known asked)) → ⊥) × (BeginsWith known (Some (Leaving known)) → ⊥) × (BeginsWith known (Some (FailedBy cause)) → ⊥)
begins known asked cause = (refl, refl, (λ b. b), (λ b. b), (λ b. b), (λ b. b))

-- WANT OF MEMORY
-- behind it there are no sessions, and the versions are those that a turn had reached
pub stopped : (server : Server) → IsStopped toy unit_program (last_turn 1) server HearsBad (record { shared = server.shared; heard = 0; sessions = [] })
stopped server = (refl, refl, refl)

pub stopped_sessions : (server behind : Server) (m : Heard) → IsStopped toy unit_program (last_turn 1) server m behind → behind.sessions ≡ []
stopped_sessions server behind m is = is.1
