-- A play as a run of the client: the events of which its deeds come, and what is true of what is told.
use Rattle.std.specs.Prelude.{◌≡◌, ◌⊎◌, ℕ, List, [], ◌∷◌, ◌++◌}
use Rattle.std.specs.List.{flat_map}
use Rattle.core_terms.specs.Formats.{Hash}
use Rattle.core_terms.specs.Projection.{projection}
use Rattle.core_terms.specs.Spelling.{spelling}
use Rattle.core_terms.specs.Terms.{Program}
use Rattle.core_terms.specs.Values.{IsIdeal, Value}
use Rattle.session_meaning.specs.Calls.{no_role}
use Rattle.session_meaning.specs.Client as client
use Rattle.session_meaning.specs.Client.{Answer, Client, Event, Hears, Known, new_client, take_event}
use Rattle.session_meaning.specs.ToldCalls.{BeginsWith, TrueUpToSplit, event_session, told_calls}
use Rattle.session_meaning.specs.Messages.{Go, Messages, Reply, Then, session_of}
use Rattle.session_meaning.specs.Tables.{find}
use Rattle.session_meaning.specs.Waiting.{called_in}
use Rattle.script_play.specs.Plays.{Deed, Sends, Tells, Stops}

-- What is done of a line of a session, where the client answers so: a request is sent, or it is told why none is. And what is done of an event:
-- of a reply it is told what it tells.
abbrev pub line_deed : (session : ℕ) → Answer → Deed
line_deed session (client.Sends request) = Sends request
line_deed session answer = Tells session no_role answer

abbrev pub deed_of : Program → Client → Event → Answer → Deed
deed_of P c (Hears reply) answer = Tells (session_of reply) (called_in P (find (session_of reply) c.sessions)) answer
deed_of P c e answer = line_deed (event_session e) answer

-- a deed that comes of no event: the calls are to run, or no more replies can be read
abbrev pub IsOfNone : Deed → Type 0
IsOfNone (Sends (Go rounds)) = Unit {0}
IsOfNone (Stops stop) = Unit {0}
IsOfNone deed = ⊥

-- the reply that an event hears, if it hears one, and those that events hear, in order
abbrev pub heard_by : Event → List Reply
heard_by (Hears reply) = reply ∷ []
heard_by e = []

abbrev pub replies_heard : List Event → List Reply
replies_heard events = flat_map heard_by events

-- messages that begin with these replies
abbrev pub begin_with : List Reply → Messages Reply → Messages Reply
begin_with [] ms = ms
begin_with (reply ∷ replies) ms = Then reply (begin_with replies ms)

module _ (hash : Hash) (P : Program) (own : List ℕ) where
  -- Such deeds come of these events, one by one and in order, but for those that come of none; and this client stands behind them.
  abbrev pub DeedsFollow : Client → List Deed → List Event → Client → Type 0
  DeedsFollow c [] events behind = (events ≡ []) × (behind ≡ c)
  DeedsFollow c (deed ∷ deeds) events behind = (IsOfNone deed × DeedsFollow c deeds events behind)
      ⊎ ((e : Event) × (later : List Event) × (events ≡ e ∷ later) × (deed ≡ deed_of P c e (take_event hash P own c e).answer)
      × DeedsFollow (take_event hash P own c e).client deeds later behind)

  -- the client behind events
  abbrev pub client_behind : Client → List Event → Client
  client_behind c [] = c
  client_behind c (e ∷ events) = client_behind (take_event hash P own c e).client events

  -- What is told by deeds of a client without sessions is true, where these replies came and those behind were not taken. The deeds come of events,
  -- which hear the replies that were taken, each as it came and no others; and wherever among these a session begins with the spelling
  -- of an ideal state's projection, the outcomes that it is told from there on are the projections of the ideal ones, each on the state that
  -- those before it leave, up to the first one at whose call there is a split.
  pub record TellsTruth (came coming : Messages Reply) (deeds : List Deed) : Type 0 where
    pub events : List Event
    pub heard : came ≡ begin_with (replies_heard events) coming
    pub client : Client
    pub follows : DeedsFollow new_client deeds events client
    pub truth : (before behind : List Event) → events ≡ before ++ behind → (session : ℕ) (known : Known)
        → BeginsWith known (find session (client_behind new_client before).sessions) → (v : Value) → IsIdeal P.types P.state v
        → known.state ≡ spelling (projection hash P P.state v) → TrueUpToSplit hash P v (told_calls hash P own session (client_behind new_client before) behind)
