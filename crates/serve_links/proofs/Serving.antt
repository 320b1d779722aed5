-- A core that goes on as a server with a history: for answer, serve_message and end_at_fault.
use Rattle.std.proofs.Common.{◌≡◌, ℕ, suc, ◌+◌, ◌<◌, Bool, true, false, List, [], ◌∷◌, ◌++◌, nat_lt, Option, Some, None, Result, Ok, Err, refl, sym, ap, subst, ◌∙◌, arith, ltb-true}
use Rattle.std.specs.List.{AllByRecursion}
use Rattle.core_terms.specs.Formats.{Hash, IsHash}
use Rattle.core_terms.specs.Terms.{Program}
use Rattle.core_terms.proofs.CodePrograms.{is_format, is_typed}
use Rattle.code_gen.specs.declared.code.Code.{Code}
use Rattle.code_gen.specs.Programs.{program_in}
use Rattle.mode_vm.specs.Meanings.{program_of}
use Rattle.session_meaning.specs.Begun.{IsBegun}
use Rattle.session_meaning.specs.Messages.{Hello, Call, Go, Bye, Request}
use Rattle.session_meaning.specs.MessageFields.{IsReply}
use Rattle.session_meaning.specs.Causes.{Refusal}
use Rattle.session_meaning.specs.Tables.{find}
use Rattle.session_meaning.specs.ReplyLaws.{IsHeard}
use Rattle.session_meaning.specs.Server as meant
use Rattle.session_meaning.specs.Server.{Server, Session, Admitted, Heard, Hears, HearsBad, HearsEnd, begun_server, handle, server_after, last_turn, messages_limit}
use Rattle.session_meaning.proofs.Begins.{servers_may_begin}
use Rattle.session_meaning.proofs.RepliesFit.{replies_are_messages}
use Rattle.serve_core.specs.Serving.{Serves}
use Rattle.serve_core.specs.declared.server.ServeCore.{ServeCore}
use Rattle.serve_links.specs.Histories.{HasHistory}
use Rattle.serve_links.specs.HistoriesInCode.{HasServed, HasSameCode, own_digest, program_served, step_of, turns_of}

module _ (hash : Hash) (P : Program) (own : List ℕ) (ending : ℕ → ℕ) where
  after_more : (ms : List Heard) (m : Heard) (server : Server)
      → server_after hash P own ending server (ms ++ m ∷ []) ≡ (handle hash P own ending (server_after hash P own ending server ms) m).server
  after_more [] m server = refl
  after_more (n ∷ ms) m server = after_more ms m (handle hash P own ending server n).server

  heard_more : (ms : List Heard) (m : Heard) → AllByRecursion IsHeard ms → IsHeard m → AllByRecursion IsHeard (ms ++ m ∷ [])
  heard_more [] m all is = (is, tt)
  heard_more (n ∷ ms) m all is = (all.0, heard_more ms m all.1 is)

  -- a server with a history has one behind a message too
  pub history_more : (server : Server) (m : Heard) → HasHistory hash P own ending server → IsHeard m → HasHistory hash P own ending (handle hash P own ending server m).server
  history_more server m h is = record {
    begun = h.begun;
    before = h.before ++ m ∷ [];
    begins = h.begins;
    messages = heard_more h.before m h.messages is;
    is = ap (λ s. (handle hash P own ending s m).server) h.is ∙ sym (after_more h.before m (begun_server h.begun));
  }

  request_counts : (server : Server) (r : Request) → (meant.request_step hash P own ending server r).server.heard ≡ server.heard
  request_counts server (Hello number program n state) = by (meant.hello_test hash P own ending server number program n state)
    where
      by : (t : Result ℕ Refusal) → (meant.hello_step t server number n).server.heard ≡ server.heard
      by (Ok j) = refl
      by (Err refusal) = refl
  request_counts server (Call number role fuel argument) = by (meant.call_test hash P own ending server number role fuel argument)
    where
      by : (t : Result Admitted Refusal) → (meant.call_step t server number).server.heard ≡ server.heard
      by (Ok a) = refl
      by (Err refusal) = refl
  request_counts server (Go n) = refl
  request_counts server (Bye number) = by (find number server.sessions)
    where
      by : (o : Option Session) → (meant.bye_step o server number).server.heard ≡ server.heard
      by None = refl
      by (Some s) = refl

  -- A request that doesn't close the connection is counted, and is one of the most that there may be. So the server closes at the
  -- one behind these.
  pub open_counts : (server : Server) (r : Request) → (handle hash P own ending server (Hears r)).closing ≡ false
      → ((handle hash P own ending server (Hears r)).server.heard ≡ server.heard + 1) × (server.heard < messages_limit)
  open_counts server r = by (nat_lt server.heard messages_limit) refl
    where
      by : (b : Bool) → nat_lt server.heard messages_limit ≡ b
          → let step = meant.counted_step b (λ server. meant.request_step hash P own ending server r) server in
          step.closing ≡ false → (step.server.heard ≡ server.heard + 1) × (server.heard < messages_limit)
      by true is stays = (request_counts (record server { heard = suc server.heard }) r ∙ (omega arith), ltb-true server.heard messages_limit is)
      by false is stays = let clash : true ≡ false = stays in absurd (cc (clash))

-- each reply of a server with a history is a message
pub replies_fit : (hash : Hash) → IsHash hash → (code : Code) (own : List ℕ) (ending : ℕ → ℕ) (server : Server) (m : Heard)
    → HasHistory hash (program_of code) own ending server → IsHeard m → AllByRecursion IsReply (handle hash (program_of code) own ending server m).replies
replies_fit hash is_hash code own ending server m h is =
    let p = program_in code in
    let Fit : Server → Type 0 = λ s. AllByRecursion IsReply (handle hash (program_of code) own ending s m).replies in
    subst Fit (sym h.is)
    (replies_are_messages hash is_hash (program_of code) (is_format p) (is_typed p) p.shaped own ending h.begun h.begins.within h.before h.messages m is)

-- with what it has one may begin
pub begun_now : (hash : Hash) → IsHash hash → (code : Code) (own : List ℕ) (ending : ℕ → ℕ) (server : Server)
    → HasHistory hash (program_of code) own ending server → IsBegun (program_of code) server.shared
begun_now hash is_hash code own ending server h =
    let p = program_in code in
    subst (λ (s : Server). IsBegun (program_of code) s.shared) (sym h.is)
    (servers_may_begin hash is_hash (program_of code) (is_format p) (is_typed p) p.shaped own ending h.begun h.begins h.before h.messages)

module _ (hash : Hash) {A G : Type 0} where
  -- a core of the same code serves a server with a history
  pub has_served : (old new : ServeCore A G) → HasSameCode old new → (server : Server)
      → HasHistory hash (program_served old) (own_digest old) (turns_of old) server → Serves hash new server → HasServed hash new
  has_served old new same server h serves =
      let OfCode : Code → Type 0 = λ code. HasHistory hash (program_of code) (program_in code).text_digest.0 (last_turn old.slice) server in
      let OfSlice : ℕ → Type 0 = λ slice. HasHistory hash (program_served new) (own_digest new) (last_turn slice) server in
      record { server = server; history = subst OfSlice (sym same.slice) (subst OfCode (sym same.code) h); serves = serves }

  -- it does so behind a message that it heard
  pub served_more : (old new : ServeCore A G) → HasSameCode old new → (server : Server) (m : Heard)
      → HasHistory hash (program_served old) (own_digest old) (turns_of old) server → IsHeard m → Serves hash new (step_of hash old server m).server → HasServed hash new
  served_more old new same server m h is serves =
      has_served old new same (step_of hash old server m).server (history_more hash (program_served old) (own_digest old) (turns_of old) server m h is) serves
