-- What is in turn for a session, as the code tests it.
use Rattle.std.specs.Prelude.{◌≡◌, ℕ, Bool, true, false, List, [], Option, Some, None}
use Rattle.reuse_buffer.specs.Kept.{kept}
use Rattle.ask_core.specs.declared.standing.Known.{Known}
use Rattle.ask_core.specs.declared.standing.Standing.{Standing}
use Rattle.ask_core.specs.declared.standing.Standing.TheVariants.{Greeting, Idle, Calling, Leaving, FailedBy, BrokenBy}
use Rattle.ask_core.specs.declared.told.AskFault.{AskFault}
use Rattle.ask_core.specs.declared.told.AskFault.TheVariants.{OutOfTurn, Stranger, Failed, Broken, Closed}

-- it is greeted with this state, and with a ring of this size that holds nothing
abbrev pub IsGreeting : ℕ → List ℕ → Standing → Type 0
IsGreeting size state (Greeting known) = (known.state ≡ state) × (known.ring ≡ kept size [])
IsGreeting size state standing = ⊥

-- a reply is waited for; the spelling of the state of one that is idle or calls
abbrev pub standing_waits : Standing → Bool
standing_waits (Greeting known) = true
standing_waits (Calling known asked) = true
standing_waits (Leaving known) = true
standing_waits standing = false

abbrev pub standing_state : Standing → Option (List ℕ)
standing_state (Idle known) = Some known.state
standing_state (Calling known asked) = Some known.state
standing_state standing = None

-- the number of the role that is called, and whether one is
abbrev pub standing_called : Standing → Option ℕ
standing_called (Calling known asked) = Some asked.role
standing_called standing = None

abbrev pub standing_calls : Standing → Bool
standing_calls (Calling known asked) = true
standing_calls standing = false

-- why a greeting is refused
abbrev pub greeting_fault : Standing → AskFault
greeting_fault (FailedBy cause) = Failed cause
greeting_fault (BrokenBy kind) = Broken kind
greeting_fault standing = OutOfTurn

-- why a call or a leave is refused; none where the session is idle
abbrev pub idle_fault : Standing → Option AskFault
idle_fault (Idle known) = None
idle_fault (FailedBy cause) = Some (Failed cause)
idle_fault (BrokenBy kind) = Some (Broken kind)
idle_fault standing = Some OutOfTurn

abbrev pub idle_known : Standing → Option Known
idle_known (Idle known) = Some known
idle_known standing = None

-- why a reply to the session with this number isn't looked at; none where one is waited for
abbrev pub reply_fault : ℕ → Standing → Option AskFault
reply_fault number (Idle known) = Some (Stranger number)
reply_fault number (FailedBy cause) = Some (Failed cause)
reply_fault number (BrokenBy kind) = Some (Broken kind)
reply_fault number standing = None

-- the same of the session with a number, where an end for all sessions may have come, and where nothing may stand under it
abbrev pub waits_in : Option Standing → Bool
waits_in (Some standing) = standing_waits standing
waits_in None = false

abbrev pub state_in : Option Standing → Option (List ℕ)
state_in (Some standing) = standing_state standing
state_in None = None

abbrev pub greeting_refused : (closed : Option ℕ) → Option Standing → Option AskFault
greeting_refused (Some cause) found = Some (Closed cause)
greeting_refused None (Some standing) = Some (greeting_fault standing)
greeting_refused None None = None

abbrev pub idle_refused : (closed : Option ℕ) → Option Standing → Option AskFault
idle_refused (Some cause) found = Some (Closed cause)
idle_refused None (Some standing) = idle_fault standing
idle_refused None None = Some OutOfTurn

abbrev pub reply_refused : ℕ → Option Standing → Option AskFault
reply_refused number (Some standing) = reply_fault number standing
reply_refused number None = Some (Stranger number)
