-- One message of a connection: what is heard of the link, what is sent, and which server is left.
use Rattle.std.specs.Prelude.{◌≡◌, ◌⊎◌, ℕ, ◌+◌, ◌<◌, ◌≤◌, Bool, true, false, List, [], ◌∷◌, ◌++◌, length, take, Option, Some, Result, Ok, Err, ⊤}
use Rattle.std.specs.Io.KnownBytes.{append_known}
use Rattle.core_terms.specs.Formats.{Hash}
use Rattle.session_meaning.specs.Calls.{RoleCall}
use Rattle.session_meaning.specs.Connections.{heard_stop}
use Rattle.session_meaning.specs.Messages.{Request, Stop, NoMore, Then, request_of, messages}
use Rattle.session_meaning.specs.Server as meant
use Rattle.session_meaning.specs.Server.{Server, server_after, messages_limit}
use Rattle.session_meaning.specs.Stopped.{IsStopped}
use Rattle.session_turns.specs.Keepers.{HasStayed, MayHaveFailed}
use Rattle.serve_core.specs.Serving.{Serves, heard_meant}
use Rattle.serve_core.specs.declared.server.ServeCore.{ServeCore}
use Rattle.serve_core.specs.declared.heard.Heard.{Heard}
use Rattle.link_ends.specs.MoreLinks.{TakesBytes}
use Rattle.link_ends.specs.declared.end.ConnectionEnd.{ConnectionEnd}
use Rattle.link_ends.specs.declared.end.ConnectionEnd.TheVariants.{Over, Stopped}
use Rattle.link_ends.specs.declared.link_stop.LinkStop.{LinkStop}
use Rattle.link_ends.specs.declared.link_stop.LinkStop.TheVariants as link_stop
use Rattle.serve_links.specs.Connections.{IsBrokenOff, IsCutAt, IsServed, bytes_of, heard_in}
use Rattle.serve_links.specs.HistoriesInCode.{HasServed, own_digest, program_served, step_of, turns_of}

-- it is a request
abbrev pub asks : meant.Heard → Bool
asks (meant.Hears request) = true
asks meant.HearsBad = false
asks meant.HearsEnd = false

-- the bytes are a message, which is read as this request, whatever stands behind it
abbrev pub IsReadAs : List ℕ → Request → Type 0
IsReadAs taken request = (more : List ℕ) → messages request_of (taken ++ more) ≡ Then request (messages request_of more)

-- This is heard of the bytes that were taken: a request, which they are; or that no more messages are read, of all the bytes that
-- come as of those that were taken.
abbrev pub IsHeardOf : (bytes taken : List ℕ) → meant.Heard → Type 0
IsHeardOf bytes taken (meant.Hears request) = IsReadAs taken request
IsHeardOf bytes taken m = (stop : Stop) × (messages request_of bytes ≡ NoMore stop) × (messages request_of taken ≡ NoMore stop) × (heard_stop stop ≡ m)

-- some of these bytes were taken, and that is heard of them
abbrev pub ComesNext : List ℕ → Option (List ℕ) → meant.Heard → Type 0
ComesNext bytes left' m = (taken : List ℕ) × TakesBytes bytes taken left' × IsHeardOf bytes taken m

-- This is heard next. Where the link failed, no message stands whole in the bytes that were taken.
abbrev pub HearsNext : List ℕ → Option (List ℕ) → Result Heard LinkStop → Type 0
HearsNext bytes left' (Ok heard) = ComesNext bytes left' (heard_meant heard)
HearsNext bytes left' (Err link_stop.LinkFault) = (taken : List ℕ) × TakesBytes bytes taken left' × (heard_in taken ≡ meant.HearsEnd ∷ [])
HearsNext bytes left' (Err link_stop.Stopped) = (taken : List ℕ) × TakesBytes bytes taken left'

-- The core goes on as a server with a history, unless it was stopped: then it is a server still.
abbrev pub StaysServing : {A G T : Type 0} → Hash → ServeCore A G → Result T LinkStop → Type 0
StaysServing hash core (Ok done) = HasServed hash core
StaysServing hash core (Err link_stop.LinkFault) = HasServed hash core
StaysServing hash core (Err link_stop.Stopped) = (server : Server) × Serves hash core server

-- a message that goes on is counted, and is within the limit
abbrev pub CountsMessage : ℕ → ℕ → Result Bool LinkStop → Type 0
CountsMessage before now (Ok true) = (now ≡ before + 1) × (before < messages_limit)
CountsMessage before now (Ok false) = ⊤
CountsMessage before now (Err stop) = ⊤

-- what is kept at the end of a message, unless it was stopped
abbrev pub StillKeeps : {T : Type 0} → Type 0 → Result T LinkStop → Type 0
StillKeeps Kept (Ok done) = Kept
StillKeeps Kept (Err link_stop.LinkFault) = Kept
StillKeeps Kept (Err link_stop.Stopped) = ⊤

-- a keeper fails only where serving is stopped
abbrev pub StopCause : {T : Type 0} → (faults faults' : ℕ) → (faulted faulted' : Bool) → Result T LinkStop → Type 0
StopCause faults faults' faulted faulted' (Ok done) = HasStayed faults faults' faulted faulted'
StopCause faults faults' faulted faulted' (Err link_stop.LinkFault) = HasStayed faults faults' faulted faulted'
StopCause faults faults' faulted faulted' (Err link_stop.Stopped) = MayHaveFailed faults faults' faulted faulted'

-- A core served this server, its commits were kept so where it was stopped, and what was sent grew.
module _ (hash : Hash) (Kept : (told made : List RoleCall) → Type 0) {A G : Type 0} (old new : ServeCore A G) (server : Server) (sent sent' : Option (List ℕ)) where
  -- The message was handled, and a front of the replies to it was sent.
  abbrev pub AnswersPart : meant.Heard → Type 0
  AnswersPart m =
      let step = step_of hash old server m in
      (n : ℕ) × (n ≤ length (bytes_of step.replies)) × (sent' ≡ append_known sent (take n (bytes_of step.replies))) × Serves hash new step.server

  -- The same, and all commits are kept.
  abbrev pub AnswersKept : meant.Heard → Type 0
  AnswersKept m = let step = step_of hash old server m in AnswersPart m × Kept step.server.shared.commits step.server.shared.commits

  -- The server was stopped at it: memory was wanting to handle it, or its commits were not kept. Nothing was sent of it.
  abbrev pub IsStoppedAt : meant.Heard → Type 0
  IsStoppedAt m =
      (sent' ≡ sent)
      × ((stopped : Server) × IsStopped hash (program_served old) (turns_of old) server m stopped × Serves hash new stopped
      × Kept server.shared.commits stopped.shared.commits)

  -- It was handled, and all its replies were sent, with the answer whether the server closes the connection; or a part of that.
  abbrev pub ServerAnswers : meant.Heard → Result Bool LinkStop → Type 0
  ServerAnswers m (Ok closing) =
      let step = step_of hash old server m in
      (sent' ≡ append_known sent (bytes_of step.replies)) × (closing ≡ step.closing) × Serves hash new step.server
  ServerAnswers m (Err link_stop.LinkFault) = AnswersPart m
  ServerAnswers m (Err link_stop.Stopped) = AnswersKept m ⊎ IsStoppedAt m

  -- a request was heard of these bytes and answered, the connection goes on, and these bytes are left
  pub record ServingGoesOn (bytes : List ℕ) (left' : Option (List ℕ)) : Type 0 where
    pub request : Request
    pub taken : List ℕ
    pub rest : List ℕ
    pub all : bytes ≡ taken ++ rest
    pub came : IsReadAs taken request
    pub told : left' ≡ Some rest
    pub stays_open : (step_of hash old server (meant.Hears request)).closing ≡ false
    pub sends : sent' ≡ append_known sent (bytes_of (step_of hash old server (meant.Hears request)).replies)
    pub serves : Serves hash new (step_of hash old server (meant.Hears request)).server

  -- the connection on which these bytes come has ended, when some of them were taken
  pub record Ends (bytes : List ℕ) (left' : Option (List ℕ)) (end : ConnectionEnd) : Type 0 where
    pub taken : List ℕ
    pub out : List ℕ
    pub behind : Server
    pub takes : TakesBytes bytes taken left'
    pub sends : sent' ≡ append_known sent out
    pub served : IsServed hash (program_served old) (own_digest old) (turns_of old) Kept server bytes taken out end behind
    pub serves : Serves hash new behind

  -- it broke off at a link fault, and the end is still to be heard
  pub record BreaksOff (bytes : List ℕ) (left' : Option (List ℕ)) : Type 0 where
    pub heard : List meant.Heard
    pub taken : List ℕ
    pub out : List ℕ
    pub takes : TakesBytes bytes taken left'
    pub sends : sent' ≡ append_known sent out
    pub cut : IsCutAt hash (program_served old) (own_digest old) (turns_of old) server taken heard out
    pub broken : IsBrokenOff hash (program_served old) (own_digest old) (turns_of old) server bytes heard out
    pub serves : Serves hash new (server_after hash (program_served old) (own_digest old) (turns_of old) server heard)

  -- A message of the connection was served: it goes on, or not.
  abbrev pub ServesMessage : List ℕ → Option (List ℕ) → Result Bool LinkStop → Type 0
  ServesMessage bytes left' (Ok true) = ServingGoesOn bytes left'
  ServesMessage bytes left' (Ok false) = Ends bytes left' Over
  ServesMessage bytes left' (Err link_stop.LinkFault) = BreaksOff bytes left'
  ServesMessage bytes left' (Err link_stop.Stopped) = Ends bytes left' Stopped
