-- What steps leave alone, and a connection as a list of heard messages.
use Rattle.std.proofs.Common.{◌≡◌, ℕ, suc, Bool, true, false, List, [], ◌∷◌, ◌++◌, Option, Some, None, Result, Ok, Err, nat_lt, refl, sym, ap, ◌∙◌, append-nil}
use Rattle.core_terms.specs.Formats.{Hash}
use Rattle.core_terms.specs.Terms.{Program}
use Rattle.session_meaning.specs.Messages.{Request, Hello, Call, Go, Bye, Refused, Stop, AtEnd, IsCut, TooLong, BadMessage, Messages, NoMore, Then}
use Rattle.session_meaning.specs.Causes.{Refusal, NoMessage, refusal_cause}
use Rattle.session_meaning.specs.Tables.{find}
use Rattle.session_meaning.specs.Server
use Rattle.session_meaning.specs.Server.{Session, Admitted, Server as TheServer, Step, Heard, Hears, HearsBad, HearsEnd, handle, server_after, replies_of}
use Rattle.session_meaning.specs.ServerLaws.{OnlyGoCommits, ConnectionsAreHeard}
use Rattle.session_meaning.specs.Connections.{Served, heard_stop, if_closing, served}

module _ (hash : Hash) (P : Program) (own : List ℕ) (ending : ℕ → ℕ) where
  -- a request but GO changes nothing that is shared, and no request closes the connection
  request_shared : (server : TheServer) (r : Request) → ((n : ℕ) → Hears r ≡ Hears (Go n) → ⊥)
      → (Server.request_step hash P own ending server r).server.shared ≡ server.shared
  request_shared server (Hello number program n state) other = by (Server.hello_test hash P own ending server number program n state)
    where
      by : (t : Result ℕ Refusal) → (Server.hello_step t server number n).server.shared ≡ server.shared
      by (Ok j) = refl
      by (Err refusal) = refl
  request_shared server (Call number role fuel argument) other = by (Server.call_test hash P own ending server number role fuel argument)
    where
      by : (t : Result Admitted Refusal) → (Server.call_step t server number).server.shared ≡ server.shared
      by (Ok a) = refl
      by (Err refusal) = refl
  request_shared server (Go n) other = absurd (other n refl)
  request_shared server (Bye number) other = by (find number server.sessions)
    where
      by : (o : Option Session) → (Server.bye_step o server number).server.shared ≡ server.shared
      by None = refl
      by (Some s) = refl

  request_open : (server : TheServer) (r : Request) → (Server.request_step hash P own ending server r).closing ≡ false
  request_open server (Hello number program n state) = by (Server.hello_test hash P own ending server number program n state)
    where
      by : (t : Result ℕ Refusal) → (Server.hello_step t server number n).closing ≡ false
      by (Ok j) = refl
      by (Err refusal) = refl
  request_open server (Call number role fuel argument) = by (Server.call_test hash P own ending server number role fuel argument)
    where
      by : (t : Result Admitted Refusal) → (Server.call_step t server number).closing ≡ false
      by (Ok a) = refl
      by (Err refusal) = refl
  request_open server (Go n) = refl
  request_open server (Bye number) = by (find number server.sessions)
    where
      by : (o : Option Session) → (Server.bye_step o server number).closing ≡ false
      by None = refl
      by (Some s) = refl

  pub handle_shared : (server : TheServer) (m : Heard) → ((n : ℕ) → m ≡ Hears (Go n) → ⊥) → (handle hash P own ending server m).server.shared ≡ server.shared
  handle_shared server (Hears r) other = by (nat_lt server.heard Server.messages_limit)
    where
      by : (b : Bool) → (Server.counted_step b (λ server. Server.request_step hash P own ending server r) server).server.shared ≡ server.shared
      by true = request_shared (record server { heard = suc server.heard }) r other
      by false = refl
  handle_shared server HearsBad other = by (nat_lt server.heard Server.messages_limit)
    where
      by : (b : Bool) → (Server.counted_step b (λ server. Server.end_step server (Refused 0 (refusal_cause NoMessage) ∷ []) true) server).server.shared
          ≡ server.shared
      by true = refl
      by false = refl
  handle_shared server HearsEnd other = refl

  -- no session is left, and no message counted
  abbrev IsEmpty : TheServer → Type 0
  IsEmpty server = (server.sessions ≡ []) × (server.heard ≡ 0)

  closing_ends : (server : TheServer) (r : Request) → (handle hash P own ending server (Hears r)).closing ≡ true
      → IsEmpty (handle hash P own ending server (Hears r)).server
  closing_ends server r = by (nat_lt server.heard Server.messages_limit)
    where
      by : (b : Bool) → let step =
          Server.counted_step b (λ server. Server.request_step hash P own ending server r) server in step.closing ≡ true → IsEmpty step.server
      by true e = let o : true ≡ false = sym e ∙ request_open (record server { heard = suc server.heard }) r in absurd (cc (o))
      by false e = (refl, refl)

  stop_ends : (server : TheServer) (stop : Stop) → IsEmpty (handle hash P own ending server (heard_stop stop)).server
  stop_ends server stop = on stop
    where
      by : (b : Bool) → IsEmpty (Server.counted_step b (λ server. Server.end_step server (Refused 0 (refusal_cause NoMessage) ∷ []) true) server).server
      by true = (refl, refl)
      by false = (refl, refl)

      on : (stop : Stop) → IsEmpty (handle hash P own ending server (heard_stop stop)).server
      on AtEnd = (refl, refl)
      on IsCut = (refl, refl)
      on (TooLong len) = by (nat_lt server.heard Server.messages_limit)
      on (BadMessage kind offset) = by (nat_lt server.heard Server.messages_limit)

  abbrev IsHeardAs : TheServer → Served → Type 0
  IsHeardAs server s =
      ((heard : List Heard) × (s.server ≡ server_after hash P own ending server heard) × (s.replies ≡ replies_of hash P own ending server heard))
      × (s.server.sessions ≡ []) × (s.server.heard ≡ 0)

  pub connection : (server : TheServer) (ms : Messages Request) → IsHeardAs server (served hash P own ending server ms)
  connection server (NoMore stop) =
      let e = stop_ends server stop in
      ((heard_stop stop ∷ [], refl, sym (append-nil (handle hash P own ending server (heard_stop stop)).replies)), e.0, e.1)
  connection server (Then r more) = by step.closing (closing_ends server r) (connection step.server more)
    where
      step : Step
      step = handle hash P own ending server (Hears r)

      by : (b : Bool) → (b ≡ true → IsEmpty step.server) → IsHeardAs step.server (served hash P own ending step.server more)
          → IsHeardAs server (if_closing hash P own ending b step.replies step.server (λ server. served hash P own ending server more))
      by true ends later = let e = ends refl in ((Hears r ∷ [], refl, sym (append-nil step.replies)), e.0, e.1)
      by false ends later = ((Hears r ∷ later.0.0, later.0.1, ap (λ l. step.replies ++ l) later.0.2), later.1, later.2)

pub only_go_commits : OnlyGoCommits
only_go_commits hash P own ending server m other = handle_shared hash P own ending server m other

pub connections_are_heard : ConnectionsAreHeard
connections_are_heard hash P own ending server ms = connection hash P own ending server ms
