-- A step that was taken whole has reached what it shares: so a server whose sessions are ended behind it is one that was stopped at its message.
use Rattle.std.proofs.Common.{inl, inr, ◌≡◌, ◌⊎◌, ℕ, zero, suc, Bool, true, false, List, [], ◌∷◌, nat_lt, if◌then◌else◌, Option, Some, None, Result, Ok, Err, refl}
use Rattle.core_terms.specs.Formats.{Hash}
use Rattle.core_terms.specs.Terms.{Program}
use Rattle.session_meaning.specs.Causes.{Refusal, NoMessage, refusal_cause}
use Rattle.session_meaning.specs.Messages.{Request, Hello, Call, Go, Bye, Refused}
use Rattle.session_meaning.specs.Stopped.{IsStopped, Reaches, RoundReaches, RoundsReach}
use Rattle.session_meaning.specs.Tables.{Numbered, find}
use Rattle.session_meaning.specs.Server
use Rattle.session_meaning.specs.Server.{Session, Shared, Server as TheServer, Step, Heard, Hears, HearsBad, HearsEnd, Admitted, messages_limit}

module _ (hash : Hash) (P : Program) (ending : ℕ → ℕ) where
  round_none : (ss : List (Numbered Session)) (shared : Shared) → RoundReaches hash P ending ss shared shared
  round_none [] shared = refl
  round_none (s ∷ ss) shared = inl refl

  rounds_whole : (n : ℕ) (ss : List (Numbered Session)) (shared : Shared) → RoundsReach hash P ending n ss shared (Server.rounds hash P ending n ss shared).shared
  rounds_whole zero ss shared = refl
  rounds_whole (suc n) ss shared =
      by (Server.any_runs ss) refl (rounds_whole n (Server.round hash P ending ss shared).sessions (Server.round hash P ending ss shared).shared)
    where
      by : (b : Bool) → Server.any_runs ss ≡ b
          → RoundsReach hash P ending n (Server.round hash P ending ss shared).sessions (Server.round hash P ending ss shared).shared
          (Server.rounds hash P ending n (Server.round hash P ending ss shared).sessions (Server.round hash P ending ss shared).shared).shared
          → RoundReaches hash P ending ss shared (Server.round_then hash P ending b (Server.rounds hash P ending n) ss shared).shared
          ⊎ ((Server.any_runs ss ≡ true) × RoundsReach hash P ending n (Server.round hash P ending ss shared).sessions (Server.round hash P ending ss shared).shared
          (Server.round_then hash P ending b (Server.rounds hash P ending n) ss shared).shared)
      by true e others = inr (e, others)
      by false e others = inl (round_none ss shared)

  module _ (own : List ℕ) where
    -- what the server shares stays
    abbrev Stays : TheServer → Step → Type 0
    Stays server step = step.server.shared ≡ server.shared

    counted_stays : (answer : TheServer → Step) → ((s : TheServer) → Stays s (answer s)) → (b : Bool) (server : TheServer) → Stays server (Server.counted_step b answer server)
    counted_stays answer stays true server = stays (record server { heard = suc server.heard })
    counted_stays answer stays false server = refl

    -- what is shared behind a request
    request_whole : (server : TheServer) (r : Request) → Reaches hash P ending server (Hears r) (Server.handle hash P own ending server (Hears r)).server.shared
    request_whole server (Go n) = by (nat_lt server.heard messages_limit)
      where
        by : (b : Bool) → RoundsReach hash P ending (if b then n else 0) server.sessions server.shared
            (Server.counted_step b (λ server. Server.request_step hash P own ending server (Go n)) server).server.shared
        by true = rounds_whole n server.sessions server.shared
        by false = refl
    request_whole server (Hello number program n state) =
        counted_stays (λ s. Server.request_step hash P own ending s (Hello number program n state)) (λ s. tested (Server.hello_test hash P own ending s number program n state) s)
        (nat_lt server.heard messages_limit) server
      where
        tested : (t : Result ℕ Refusal) (s : TheServer) → Stays s (Server.hello_step t s number n)
        tested (Ok v) s = refl
        tested (Err e) s = refl
    request_whole server (Call number role fuel argument) =
        counted_stays (λ s. Server.request_step hash P own ending s (Call number role fuel argument)) (λ s. tested (Server.call_test hash P own ending s number role fuel argument) s)
        (nat_lt server.heard messages_limit) server
      where
        tested : (t : Result Admitted Refusal) (s : TheServer) → Stays s (Server.call_step t s number)
        tested (Ok a) s = refl
        tested (Err e) s = refl
    request_whole server (Bye number) =
        counted_stays (λ s. Server.request_step hash P own ending s (Bye number)) (λ s. tested (find number s.sessions) s) (nat_lt server.heard messages_limit) server
      where
        tested : (t : Option Session) (s : TheServer) → Stays s (Server.bye_step t s number)
        tested (Some a) s = refl
        tested None s = refl

    pub reaches_whole : (server : TheServer) (m : Heard) → Reaches hash P ending server m (Server.handle hash P own ending server m).server.shared
    reaches_whole server (Hears r) = request_whole server r
    reaches_whole server HearsBad =
        counted_stays (λ s. Server.end_step s (Refused 0 (refusal_cause NoMessage) ∷ []) true) (λ s. refl) (nat_lt server.heard messages_limit) server
    reaches_whole server HearsEnd = refl

    -- The server that hears a message, and whose sessions are then ended, is one that was stopped at the message.
    pub stopped_behind : (server : TheServer) (m : Heard)
        → IsStopped hash P ending server m (record { shared = (Server.handle hash P own ending server m).server.shared; heard = 0; sessions = [] })
    stopped_behind server m = (reaches_whole server m, refl, refl)
