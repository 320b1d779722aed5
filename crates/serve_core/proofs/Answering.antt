-- What the requests come to.
use Rattle.std.proofs.Common.{◌≡◌, ℕ, true, false, nat_lt, if◌then◌else◌, List, [], ◌∷◌, ◌++◌, map, Some, None, Ok, refl, sym, ap, ◌∙◌, subst}
use Rattle.core_terms.specs.Formats.{Hash}
use Rattle.core_terms.specs.Terms.{Program}
use Rattle.mode_vm.specs.Meanings.{program_of}
use Rattle.reuse_buffer.specs.Kept.{kept}
use Rattle.session_meaning.specs.Messages as message
use Rattle.session_meaning.specs.Server as meant
use Rattle.session_meaning.specs.Stopped.{Reaches, RoundsReach}
use Rattle.session_meaning.specs.Tables.{Ascend, find, put, remove}
use Rattle.session_meaning.proofs.Orderly.{hello_ok, newest_below}
use Rattle.session_meaning.proofs.Rounds.{rounds_in_order}
use Rattle.session_tables.specs.Related.{AreRows}
use Rattle.session_tables.specs.Rows.{rows_in}
use Rattle.session_tables.specs.Tables.{rows_of}
use Rattle.session_tables.specs.declared.table.Entry.{Entry}
use Rattle.session_tables.proofs.Related.{put_related, remove_related}
use Rattle.session_turns.specs.Rounds.{AreSessions, IsRound}
use Rattle.session_turns.specs.Sessions.{IsSession, Runs}
use Rattle.session_turns.specs.Sharing.{Shares}
use Rattle.session_turns.specs.declared.refusal.Denial.TheVariants.{Refused}
use Rattle.session_turns.specs.declared.refusal.Refusal.TheVariants.{NoSession}
use Rattle.session_turns.specs.declared.session.Session.{Session}
use Rattle.session_turns.specs.declared.shared.Shared.{Shared}
use Rattle.session_turns.proofs.SessionRows.{rows_of_sessions, sessions_of_rows}
use Rattle.value_store.specs.Stores.{nodes_in}
use Rattle.wire_form.specs.MessageViews.{reply_meant}
use Rattle.wire_form.specs.declared.message.Reply.{Reply}
use Rattle.wire_form.specs.declared.message.Reply.TheVariants as reply
use Rattle.serve_core.specs.Requests.{IsRefusal, RequestReaches}
use Rattle.serve_core.specs.Serving.{HandlesAs, Serves}
use Rattle.serve_core.specs.declared.heard.Replies.{Replies}
use Rattle.serve_core.specs.declared.server.ServeCore.{ServeCore}
use Rattle.serve_core.proofs.Steps.{IsBeside, ascend_rows, none_also, none_removed, refused_step, rows_ascend, with_sessions}

module _ (hash : Hash) {A G : Type 0} (core : ServeCore A G) (server : meant.Server) (h : Serves hash core server) where
  abbrev P : Program
  P = program_of core.code

  abbrev ending : ℕ → ℕ
  ending = meant.last_turn core.slice

  abbrev Is : Session A → meant.Session → Type 0
  Is = IsSession hash core.code core.slice (nodes_in core.shared.store) server.shared.versions

  -- one session is put or taken, and a reply is told
  pub one_put : (new : ServeCore A G) (number : ℕ) (session : Session A) (s : meant.Session) → IsBeside hash core new
      → rows_of new.sessions ≡ put number session (rows_of core.sessions) → Is session s
      → Serves hash new (record server { sessions = put number s server.sessions })
  one_put new number session s same rows is =
      with_sessions hash core new server (put number s server.sessions) same h
      (subst (λ xs. AreRows Is xs (put number s server.sessions)) (sym rows) (put_related Is number session s (rows_of core.sessions) server.sessions is h.sessions))

  pub one_taken : (new : ServeCore A G) (number : ℕ) → IsBeside hash core new → rows_of new.sessions ≡ remove number (rows_of core.sessions)
      → Serves hash new (record server { sessions = remove number server.sessions })
  one_taken new number same rows =
      with_sessions hash core new server (remove number server.sessions) same h
      (subst (λ xs. AreRows Is xs (remove number server.sessions)) (sym rows) (remove_related Is number (rows_of core.sessions) server.sessions h.sessions))

  -- a greeting is welcomed
  pub welcomed : (own : List ℕ) (new : ServeCore A G) (number n version : ℕ) (program state : List ℕ) (session : Session A) (replies : Replies) → IsBeside hash core new
      → meant.hello_test hash P own ending server number program n state ≡ Ok version → rows_of new.sessions ≡ put number session (rows_of core.sessions)
      → session.version ≡ version → session.ring ≡ kept n [] → session.running ≡ None → replies.list.items ≡ reply.Welcome number ∷ [] → replies.closing ≡ false
      → HandlesAs hash new replies (meant.hello_step (meant.hello_test hash P own ending server number program n state) server number n)
  welcomed own new number n version program state session replies same passes rows at ring idle told stays =
      let greets = hello_ok hash P own ending server number program n state version passes in
      let below = newest_below hash P state server.shared.versions version greets.newest in
      let is : Is session (meant.new_session version n) = record {
        at_version = at;
        there = below;
        holds = ring;
        runs = subst (λ o. Runs hash core.code core.slice (nodes_in core.shared.store) (meant.version_at server.shared.versions version) o None) (sym idle) tt;
      } in
      subst (λ t. HandlesAs hash new replies (meant.hello_step t server number n)) (sym passes)
      (record { serves = one_put new number session (meant.new_session version n) same rows is; list = ap (map reply_meant) told; closing = stays })

  -- a session has left
  pub left : (new : ServeCore A G) (number : ℕ) (s : meant.Session) (replies : Replies) → IsBeside hash core new → find number server.sessions ≡ Some s
      → rows_of new.sessions ≡ remove number (rows_of core.sessions) → replies.list.items ≡ reply.Closed number 0 ∷ [] → replies.closing ≡ false
      → HandlesAs hash new replies (meant.bye_step (find number server.sessions) server number)
  left new number s replies same found rows told stays =
      subst (λ o. HandlesAs hash new replies (meant.bye_step o server number)) (sym found)
      (record { serves = one_taken new number same rows; list = ap (map reply_meant) told; closing = stays })

  -- there is none
  pub not_there : (new : ServeCore A G) (number : ℕ) (replies : Replies) → IsBeside hash core new → rows_of new.sessions ≡ remove number (rows_of core.sessions)
      → find number (rows_of core.sessions) ≡ None → IsRefusal number (Refused NoSession) replies
      → HandlesAs hash new replies (meant.bye_step (find number server.sessions) server number)
  not_there new number replies same rows none told =
      subst (λ o. HandlesAs hash new replies (meant.bye_step o server number)) (sym (none_also Is number (rows_of core.sessions) server.sessions h.sessions none))
      (refused_step hash core new server number replies NoSession same (rows ∙ none_removed number (rows_of core.sessions) none) h told)

  -- the entries of the sessions stand for those of the server
  pub all_sessions : (entries : List (Entry (Session A))) → rows_in entries ≡ rows_of core.sessions
      → AreSessions hash core.code core.slice core.shared server.shared.versions entries server.sessions
  all_sessions entries same =
      sessions_of_rows hash core.code core.slice core.shared server.shared.versions entries server.sessions
      (subst (λ xs. AreRows Is xs server.sessions) (sym same) h.sessions)

  pub in_order : (entries : List (Entry (Session A))) → rows_in entries ≡ rows_of core.sessions → Ascend 0 (rows_in entries) → Ascend 0 server.sessions
  in_order entries same up = ascend_rows Is 0 (rows_of core.sessions) server.sessions h.sessions (subst (Ascend 0) same up)

  abbrev turned : ℕ → meant.Turned
  turned n = meant.rounds hash P ending n server.sessions server.shared

  module _ (shared : Shared) (n : ℕ) (entries : List (Entry (Session A))) (before behind : List Reply)
      (round : IsRound hash core.code core.slice shared entries before behind (turned n)) where
    abbrev Left : Session A → meant.Session → Type 0
    Left = IsSession hash core.code core.slice (nodes_in shared.store) (turned n).shared.versions

    are : AreRows Left (rows_in entries) (turned n).sessions
    are = rows_of_sessions hash core.code core.slice shared (turned n).shared.versions entries (turned n).sessions round.left

    -- the numbers of those that rounds leave ascend
    pub still_in_order : Ascend 0 server.sessions → Ascend 0 (rows_in entries)
    still_in_order up = rows_ascend Left 0 (rows_in entries) (turned n).sessions are (rounds_in_order hash P ending 0 n server.sessions server.shared up)

    pub gone_on : (new : ServeCore A G) (replies : Replies) → new.shared ≡ shared → new.code ≡ core.code → new.slice ≡ core.slice → new.heard ≡ core.heard
        → rows_of new.sessions ≡ rows_in entries → before ≡ [] → replies.list.items ≡ behind → replies.closing ≡ false
        → HandlesAs hash new replies (meant.go_step server (turned n))
    gone_on new replies same code slice heard rows none told stays =
        record {
          serves = record {
            shares =
                subst (λ code. Shares hash (program_of code) new.shared (turned n).shared) (sym code)
                (subst (λ shared. Shares hash P shared (turned n).shared) (sym same) round.shares);
            heard = heard ∙ h.heard;
            sessions =
                subst (λ code. AreRows (IsSession hash code new.slice (nodes_in new.shared.store) (turned n).shared.versions) (rows_of new.sessions) (turned n).sessions) (sym code)
                (subst (λ slice. AreRows (IsSession hash core.code slice (nodes_in new.shared.store) (turned n).shared.versions) (rows_of new.sessions) (turned n).sessions) (sym slice)
                (subst (λ (s : Shared). AreRows (IsSession hash core.code core.slice (nodes_in s.store) (turned n).shared.versions) (rows_of new.sessions) (turned n).sessions) (sym same)
                (subst (λ xs. AreRows Left xs (turned n).sessions) (sym rows) are)));
          };
          list = ap (map reply_meant) told ∙ round.replies ∙ nothing_before before none;
          closing = stays;
        }
      where
        nothing_before : (before : List Reply) → before ≡ [] → map reply_meant before ++ (turned n).replies ≡ (turned n).replies
        nothing_before [] e = refl
        nothing_before (r ∷ rs) e = absurd (cc (e))

-- STOPS
-- what is shared after some of the turns of a request, where it counts
pub counted_reaches : (hash : Hash) (P : Program) (ending : ℕ → ℕ) (server : meant.Server) (n : ℕ) (request : message.Request) (reached : meant.Shared)
    → nat_lt server.heard meant.messages_limit ≡ true → RequestReaches hash P ending (record server { heard = n }) request reached
    → Reaches hash P ending server (meant.Hears request) reached
counted_reaches hash P ending server n (message.Hello number program kept state) reached e h = h
counted_reaches hash P ending server n (message.Call number role fuel argument) reached e h = h
counted_reaches hash P ending server n (message.Go rounds) reached e h =
    subst (λ b. RoundsReach hash P ending (if b then rounds else 0) server.sessions server.shared reached) (sym e) h
counted_reaches hash P ending server n (message.Bye number) reached e h = h
