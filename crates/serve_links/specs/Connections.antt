-- A connection of a server, also one that breaks off: what was sent on it, and which server it leaves.
use Rattle.std.specs.Prelude.{◌≡◌, ◌⊎◌, ℕ, ◌≤◌, false, List, [], ◌∷◌, ◌++◌, length, take}
use Rattle.std.specs.List.{flat_map}
use Rattle.core_terms.specs.Formats.{Hash}
use Rattle.core_terms.specs.Terms.{Program}
use Rattle.session_meaning.specs.Calls.{RoleCall}
use Rattle.session_meaning.specs.Connections.{heard_stop, served, bytes_sent}
use Rattle.session_meaning.specs.Messages.{Request, Reply, reply_bytes, Messages, NoMore, Then, request_of, messages}
use Rattle.session_meaning.specs.Server.{Server, Heard, Hears, HearsEnd, handle, server_after, replies_of}
use Rattle.session_meaning.specs.Stopped.{IsStopped}
use Rattle.link_ends.specs.MoreLinks.{but_last}
use Rattle.link_ends.specs.declared.end.ConnectionEnd.{ConnectionEnd}
use Rattle.link_ends.specs.declared.end.ConnectionEnd.TheVariants.{Over, LinkFault, Stopped}

-- what a server hears of messages: each request, and then what it hears of their end
abbrev pub heard_on : Messages Request → List Heard
heard_on (NoMore stop) = heard_stop stop ∷ []
heard_on (Then request more) = Hears request ∷ heard_on more

-- what it hears of the messages of bytes
abbrev pub heard_in : List ℕ → List Heard
heard_in bytes = heard_on (messages request_of bytes)

-- the bytes of replies
abbrev pub bytes_of : List Reply → List ℕ
bytes_of replies = flat_map reply_bytes replies

module _ (hash : Hash) (P : Program) (own : List ℕ) (ending : ℕ → ℕ) where
  -- the bytes of what is replied to heard messages
  abbrev pub replied : Server → List Heard → List ℕ
  replied server heard = bytes_of (replies_of hash P own ending server heard)

  -- none of the messages but the last closes the connection
  abbrev pub GoOn : Server → List Heard → Type 0
  GoOn server [] = Unit {0}
  GoOn server (m ∷ []) = Unit {0}
  GoOn server (m ∷ next ∷ more) = let step = handle hash P own ending server m in (step.closing ≡ false) × GoOn step.server (next ∷ more)

  -- This was sent: all that is replied to the messages but the last, and of what is replied to the last a front.
  abbrev pub IsSentPart : Server → List Heard → List ℕ → Type 0
  IsSentPart server heard sent =
      (n : ℕ) × (length (replied server (but_last heard)) ≤ n) × (n ≤ length (replied server heard)) × (sent ≡ take n (replied server heard))

  -- The server heard these messages, the first of those of the bytes, before the connection broke off, and this was sent.
  pub record IsBrokenOff (server : Server) (bytes : List ℕ) (heard : List Heard) (sent : List ℕ) : Type 0 where
    pub others : List Heard
    pub came : heard_in bytes ≡ heard ++ others
    pub go_on : GoOn server heard
    pub part : IsSentPart server heard sent

  -- The link failed when these bytes had been taken from it. The server heard all messages of them, and nothing of a message that
  -- they end inside of; to the messages before the last all replies were sent, and of the last one's a front.
  pub record IsCutAt (server : Server) (taken : List ℕ) (heard : List Heard) (sent : List ℕ) : Type 0 where
    pub came : (heard_in taken ≡ heard) ⊎ (heard_in taken ≡ heard ++ HearsEnd ∷ [])
    pub go_on : GoOn server heard
    pub part : IsSentPart server heard sent

  -- The server was stopped at the message behind those that were heard, to which all is replied. It was not behind one that closes
  -- the connection.
  pub record IsStoppedOn (server : Server) (bytes : List ℕ) (heard : List Heard) (sent : List ℕ) (behind : Server) : Type 0 where
    pub next : Heard
    pub others : List Heard
    pub came : heard_in bytes ≡ heard ++ next ∷ others
    pub go_on : GoOn server (heard ++ next ∷ [])
    pub whole : sent ≡ replied server heard
    pub stopped : IsStopped hash P ending (server_after hash P own ending server heard) next behind

  -- the server that hears the end of the connection behind these messages
  abbrev pub left_by_end : Server → List Heard → Server
  left_by_end server heard = (handle hash P own ending (server_after hash P own ending server heard) HearsEnd).server

  -- It was stopped: as it read, or at a reply to what was heard; or at the end that is heard at a link fault; or at the next message.
  abbrev pub LeavesStopped : Server → List ℕ → List Heard → List ℕ → Server → Type 0
  LeavesStopped server bytes heard sent behind =
      (behind ≡ server_after hash P own ending server heard) ⊎ (behind ≡ left_by_end server heard) ⊎ IsStoppedOn server bytes heard sent behind

  -- `Kept told made` says how the commits are kept, where `told` are all that were made by messages to which something was sent, and `made` are all that
  -- the server has.
  module _ (Kept : (told made : List RoleCall) → Type 0) where
    -- On a link on which these bytes come a server took a front of them and sent this, and the connection ended so, with a server
    -- behind it. Where it is over, all was sent. A link fault ends it behind all messages of the bytes that were taken, of which the
    -- last one's replies may be sent in part, and the server hears an end. Where it was stopped, some of the messages were heard, the same was sent,
    -- and the commits are kept so.
    abbrev pub IsServed : Server → (bytes taken sent : List ℕ) → ConnectionEnd → (behind : Server) → Type 0
    IsServed server bytes taken sent Over behind =
        (sent ≡ bytes_sent hash P own ending server bytes) × (behind ≡ (served hash P own ending server (messages request_of bytes)).server)
    IsServed server bytes taken sent LinkFault behind = (heard : List Heard) × IsCutAt server taken heard sent × (behind ≡ left_by_end server heard)
    IsServed server bytes taken sent Stopped behind =
        (heard : List Heard) × IsBrokenOff server bytes heard sent × LeavesStopped server bytes heard sent behind
        × Kept (server_after hash P own ending server heard).shared.commits behind.shared.commits

-- no more is said of how commits are kept
abbrev pub AnyKept : (told made : List RoleCall) → Type 0
AnyKept told made = Unit {0}
