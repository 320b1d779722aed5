-- What playing a user's script does: a list of deeds, a function of the replies that come.
use Rattle.std.specs.Prelude.{ℕ, Bool, true, false, List, [], ◌∷◌, ◌++◌, Option, None, option_map, unwrap_or}
use Rattle.std.specs.Option.{option_or}
use Rattle.core_terms.specs.Formats.{Hash}
use Rattle.core_terms.specs.Roles.{Role}
use Rattle.core_terms.specs.Spelling.{spelling}
use Rattle.core_terms.specs.Terms.{Program}
use Rattle.session_meaning.specs.Calls.{no_role, state_made}
use Rattle.session_meaning.specs.Client as client
use Rattle.session_meaning.specs.Client.{Answer, Client, Taken, take_event, waits}
use Rattle.session_meaning.specs.Messages.{Messages, NoMore, Then, Reply, Request, Go, Stop, session_of}
use Rattle.session_meaning.specs.Tables.{find}
use Rattle.session_meaning.specs.Waiting.{called_in, some_calls, some_waits}
use Rattle.ask_script.specs.Scripts.{UserStep, Opens, Calls, Goes, Closes}

-- What is done: a request is sent; what the client answers is told, with the session that it is for and the role that this session
-- called; or no more replies can be read, and it is told why.
pub data Deed : Type 0 where
  Sends : (request : Request) → Deed
  Tells : (session : ℕ) (called : Role) (answer : Answer) → Deed
  Stops : (stop : Stop) → Deed

-- A play: what was done, in order; the client behind it; the replies that weren't taken; and whether the script goes on.
pub record Play : Type 0 where
  pub deeds : List Deed
  pub client : Client
  pub coming : Messages Reply
  pub goes_on : Bool

-- WHAT ENDS A PLAY
-- The script goes on behind all that a good server may reply, and behind a line that is out of turn; a rejection, a reply that
-- isn't waited for, an end of all sessions and every other fault end it.
abbrev pub goes_behind : Answer → Bool
goes_behind client.TellsWelcome = true
goes_behind client.TellsEnded = true
goes_behind (client.Tells o) = true
goes_behind (client.TellsStale state) = true
goes_behind (client.TellsRefused cause) = true
goes_behind client.OutOfTurn = true
goes_behind answer = false

-- nothing is done, and the script goes on, or has ended
abbrev pub rests : Client → Messages Reply → Play
rests c ms = record { deeds = []; client = c; coming = ms; goes_on = true }

abbrev pub ends : Client → Messages Reply → Play
ends c ms = record { deeds = []; client = c; coming = ms; goes_on = false }

abbrev pub if_goes : (goes : Bool) → Client → Messages Reply → (Client → Messages Reply → Play) → Play
if_goes true c ms more = more c ms
if_goes false c ms more = ends c ms

-- deeds stand before a play
abbrev pub behind : List Deed → Play → Play
behind deeds p = record { deeds = deeds ++ p.deeds; client = p.client; coming = p.coming; goes_on = p.goes_on }

-- one play, and where the script goes on another
abbrev pub then_play : Play → (Client → Messages Reply → Play) → Play
then_play p more = behind p.deeds (if_goes p.goes_on p.client p.coming more)

-- REPLIES
-- a reply is read where one is waited for
abbrev pub if_waiting : (waiting : Bool) → Client → Messages Reply → (Client → Play) → Play
if_waiting true c ms reads = reads c
if_waiting false c ms reads = rests c ms

-- STEPS
-- What the client answers to a line of a session: it sends a request, and then replies may be read; or it is told why nothing is
-- sent.
abbrev pub asks : Answer → Client → ℕ → Messages Reply → (Client → Messages Reply → Play) → Play
asks (client.Sends request) c session ms more = behind (Sends request ∷ []) (more c ms)
asks answer c session ms more = behind (Tells session no_role answer ∷ []) (if_goes (goes_behind answer) c ms rests)

abbrev pub asked_play : Taken → ℕ → Messages Reply → (Client → Messages Reply → Play) → Play
asked_play t session ms more = asks t.answer t.client session ms more

-- as many rounds as can be asked for
abbrev pub most_rounds : ℕ
most_rounds = 4294967295

module _ (hash : Hash) (P : Program) (own : List ℕ) where
  -- what the client answers to a reply
  abbrev pub hears : Client → Reply → Taken
  hears c reply = take_event hash P own c (client.Hears reply)

  abbrev pub told_of : Client → Reply → Deed
  told_of c reply = Tells (session_of reply) (called_in P (find (session_of reply) c.sessions)) (hears c reply).answer

  -- Replies are read, and what they tell is told, for as long as the client waits so; where no more can be read the play ends.
  abbrev pub take_replies : (Client → Bool) → Client → Messages Reply → Play
  take_replies waiting c (NoMore stop) = if_waiting (waiting c) c (NoMore stop) (λ c. behind (Stops stop ∷ []) (ends c (NoMore stop)))
  take_replies waiting c (Then reply more) = if_waiting (waiting c) c (Then reply more)
      (λ c. behind (told_of c reply ∷ []) (if_goes (goes_behind (hears c reply).answer) (hears c reply).client more (λ c ms. take_replies waiting c more)))

  -- the calls of all sessions are to run, where one calls
  abbrev pub lets_run : (calls : Bool) → Client → Messages Reply → Play
  lets_run true c ms = behind (Sends (Go most_rounds) ∷ []) (take_replies some_waits c ms)
  lets_run false c ms = take_replies some_waits c ms

  -- a line of the script, where sessions are opened at the state with this spelling
  abbrev pub play_step : (state : List ℕ) → UserStep → Client → Messages Reply → Play
  play_step state (Opens session kept) c ms =
      asked_play (take_event hash P own c (client.Hellos session kept state)) session ms (take_replies (λ c. waits c session))
  play_step state (Calls session role fuel argument) c ms = asked_play (take_event hash P own c (client.Calls session role fuel argument)) session ms rests
  play_step state (Closes session) c ms =
      asked_play (take_event hash P own c (client.Byes session)) session ms (take_replies (λ c. waits c session))
  play_step state Goes c ms = lets_run (some_calls c) c ms

  -- the script, line by line
  abbrev pub play : (state : List ℕ) → List UserStep → Client → Messages Reply → Play
  play state [] c ms = rests c ms
  play state (step ∷ steps) c ms = then_play (play_step state step c ms) (play state steps)

-- THE STATE TOLD LAST
-- the spelling of the state that a told update makes
abbrev pub deed_made : Deed → Option (List ℕ)
deed_made (Tells session called (client.Tells o)) = option_map spelling (state_made called.kind o)
deed_made deed = None

-- the one made last, where `before` was made before these deeds
abbrev pub made_last : (before : Option (List ℕ)) → List Deed → Option (List ℕ)
made_last before [] = before
made_last before (deed ∷ deeds) = made_last (option_or (deed_made deed) before) deeds

-- else it is the state at which sessions are opened
abbrev pub last_state : (state : List ℕ) → List Deed → List ℕ
last_state state deeds = unwrap_or (made_last None deeds) state
