-- Which requests and replies have fields that a message can hold.
use Rattle.std.specs.Prelude.{◌≡◌, ℕ, ◌<◌, ◌≤◌, ◌^◌, List, length}
use Rattle.core_terms.specs.Formats.{message_limit}
use Rattle.session_meaning.specs.Messages.{Bye, Call, Closed, Go, Hello, Proof, Read, Refused, Reply, Request, Stale, Welcome, read_message, reply_body, reply_of, request_body, request_of}

-- the number of a session: 1 to 65,535
pub record IsSession (session : ℕ) : Type 0 where
  pub least : 1 ≤ session
  pub fits : session < 2 ^ 16

-- The fields of a request are within their ranges. GO has session 0, and says so by its kind alone.
abbrev pub HasFields : Request → Type 0
HasFields (Hello session program n state) = IsSession session × (length program ≡ 32) × (n < 2 ^ 16)
HasFields (Call session role fuel argument) = IsSession session × (role < 2 ^ 16) × (fuel < 2 ^ 64)
HasFields (Go rounds) = rounds < 2 ^ 32
HasFields (Bye session) = IsSession session

-- The same of a reply. REFUSED and CLOSED may have session 0; a cause is a byte.
abbrev pub HasReplyFields : Reply → Type 0
HasReplyFields (Welcome session) = IsSession session
HasReplyFields (Proof session frames) = IsSession session
HasReplyFields (Stale session state) = IsSession session
HasReplyFields (Refused session cause) = (session < 2 ^ 16) × (cause < 256)
HasReplyFields (Closed session cause) = (session < 2 ^ 16) × (cause < 256)

-- it is a message: its fields are within their ranges, and it isn't too long
pub record IsRequest (r : Request) : Type 0 where
  pub fields : HasFields r
  pub length_fits : length (request_body r) ≤ message_limit

pub record IsReply (r : Reply) : Type 0 where
  pub fields : HasReplyFields r
  pub length_fits : length (reply_body r) ≤ message_limit

abbrev pub read_request : List ℕ → Read Request
read_request bytes = read_message request_of bytes

abbrev pub read_reply : List ℕ → Read Reply
read_reply bytes = read_message reply_of bytes
