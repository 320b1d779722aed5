-- Rows for one message of a connection: what is heard of bytes, and what is answered. What each word takes, and what it refuses.
use Rattle.std.specs.Prelude.{◌≡◌, ◌≤◌, ◌<◌, ℕ, Bool, true, false, List, [], ◌∷◌, ◌++◌, length, take, Option, Some, Ok, Err, refl}
use Rattle.std.specs.Io.KnownBytes.{append_known}
use Rattle.std.specs.List.{AllByRecursion}
use Rattle.std.proofs.Common.{arith, inl, inr, lit<}
use Rattle.core_terms.specs.Formats.{Hash}
use Rattle.core_terms.specs.Terms.{Program}
use Rattle.ideal_meaning.specs.Examples.{bool_program}
use Rattle.session_meaning.specs.Begun.{IsBegun}
use Rattle.session_meaning.specs.BegunRows.{flipped_is_begun}
use Rattle.session_meaning.specs.Calls.{RoleCall}
use Rattle.session_meaning.specs.HistoryRows.{flipped}
use Rattle.session_meaning.specs.MessageRows.{bye_bytes, hello_bytes}
use Rattle.session_meaning.specs.Messages.{AtEnd, IsCut, BadMessage, Request, Bye, Then, messages, request_of}
use Rattle.session_meaning.specs.ReplyLaws.{IsHeard}
use Rattle.session_meaning.specs.Server as meant
use Rattle.session_meaning.specs.Server.{Server, HearsBad, HearsEnd, Hears, begun_server, server_after}
use Rattle.session_meaning.specs.Stopped.{IsStopped}
use Rattle.serve_core.specs.Serving.{Serves}
use Rattle.serve_core.specs.declared.heard.Heard.TheVariants as heard
use Rattle.serve_core.specs.declared.server.ServeCore.{ServeCore}
use Rattle.link_ends.specs.declared.end.ConnectionEnd.TheVariants.{Over, Stopped}
use Rattle.link_ends.specs.declared.link_stop.LinkStop.TheVariants as link_stop
use Rattle.serve_links.specs.Connections.{IsBrokenOff, IsCutAt, bytes_of}
use Rattle.serve_links.specs.Histories.{HasHistory}
use Rattle.serve_links.specs.HistoriesInCode.{HasSameCode, HasServed, own_digest, program_served, step_of, turns_of}
use Rattle.serve_links.specs.Messages.{ServerAnswers, AnswersKept, AnswersPart, BreaksOff, ComesNext, CountsMessage, Ends, ServingGoesOn, HearsNext, IsHeardOf, IsReadAs, IsStoppedAt, ServesMessage, StaysServing}
use Rattle.serve_links.specs.Prompt.{WaitsForOne}

-- BYTES
-- what is read as a request is so whatever stands behind it
pub read_as : IsReadAs bye_bytes (Bye 1) → messages request_of (bye_bytes ++ hello_bytes) ≡ Then (Bye 1) (messages request_of hello_bytes)
read_as reads = reads hello_bytes

pub heard_request : (bytes taken : List ℕ) (r : Request) → IsReadAs taken r → IsHeardOf bytes taken (Hears r)
heard_request bytes taken r reads = reads

-- an end, an end inside a message, and bytes that are none, whatever comes behind them
pub ends_heard : IsHeardOf [] [] HearsEnd × IsHeardOf (0 ∷ []) (0 ∷ []) HearsEnd × IsHeardOf (0 ∷ 0 ∷ 0 ∷ 1 ∷ 9 ∷ bye_bytes) (0 ∷ 0 ∷ 0 ∷ 1 ∷ 9 ∷ []) HearsBad
ends_heard = ((AtEnd, refl, refl, refl), (IsCut, refl, refl, refl), (BadMessage 9 0, refl, refl, refl))

pub comes_next : ComesNext (0 ∷ 0 ∷ 0 ∷ 1 ∷ 9 ∷ bye_bytes) (Some bye_bytes) HearsBad
comes_next = (0 ∷ 0 ∷ 0 ∷ 1 ∷ 9 ∷ [], (bye_bytes, refl, refl), (BadMessage 9 0, refl, refl, refl))

-- Where the link failed no message stood whole in what was taken; where it was stopped any front may have been.
pub heard_next : HearsNext (0 ∷ 0 ∷ 0 ∷ 1 ∷ 9 ∷ bye_bytes) (Some bye_bytes) (Ok heard.Bad)
    × HearsNext (0 ∷ 0 ∷ bye_bytes) (Some bye_bytes) (Err link_stop.LinkFault) × HearsNext (hello_bytes ++ bye_bytes) (Some bye_bytes) (Err link_stop.Stopped)
heard_next = (comes_next, (0 ∷ 0 ∷ [], (bye_bytes, refl, refl), refl), (hello_bytes, (bye_bytes, refl, refl)))

-- A message is waited for where none can be read of what was taken.
pub waits : WaitsForOne bye_bytes (Some []) (record { left = Some (4 ∷ 0 ∷ 1 ∷ []); sent = Some [] })
waits = (refl, (0 ∷ 0 ∷ 0 ∷ 3 ∷ [], (4 ∷ 0 ∷ 1 ∷ [], refl, refl), refl))

pub waits_unsent : (taken : Option (List ℕ)) → WaitsForOne bye_bytes (Some (9 ∷ [])) (record { left = taken; sent = Some [] }) → ⊥
waits_unsent taken waits = let e : Some [] ≡ Some (9 ∷ []) = waits.0 in cc (e)

-- COUNTS
-- the 1,000,000th message goes on, and none behind it
pub last_counted : CountsMessage 999999 1000000 (Ok true)
last_counted = (refl, lit< tt)

pub one_too_many : CountsMessage 1000000 1000001 (Ok true) → ⊥
one_too_many counts = let k : 1000000 < 1000000 = counts.1 in omega (arith, k)

pub others_uncounted : CountsMessage 9 9 (Ok false) × CountsMessage 9 9 (Err link_stop.LinkFault)
others_uncounted = (tt, tt)

-- ANSWERS
-- A core that served a server, and serves the one behind a message.
module _ (hash : Hash) (Kept : (told made : List RoleCall) → Type 0) {A G : Type 0} (old new : ServeCore A G) (server : Server) (m : meant.Heard) where
  abbrev pub told : List ℕ
  told = bytes_of (step_of hash old server m).replies

  -- its replies were sent whole, or a front of them
  pub answers : Serves hash new (step_of hash old server m).server → ServerAnswers hash Kept old new server (Some []) (Some told) m (Ok (step_of hash old server m).closing)
  answers serves = (refl, refl, serves)

  pub answers_part : Serves hash new (step_of hash old server m).server → (n : ℕ) → n ≤ length told → AnswersPart hash Kept old new server (Some []) (Some (take n told)) m
  answers_part serves n within = (n, within, refl, serves)

  pub answers_whole : Serves hash new (step_of hash old server m).server → AnswersPart hash Kept old new server (Some []) (Some (take (length told) told)) m
  answers_whole serves = (length told, omega arith, refl, serves)

  pub answers_fault : (sent sent' : Option (List ℕ)) → AnswersPart hash Kept old new server sent sent' m → ServerAnswers hash Kept old new server sent sent' m (Err link_stop.LinkFault)
  answers_fault sent sent' part = part

  -- where it was stopped then, all commits are kept
  pub answers_kept : (sent sent' : Option (List ℕ)) → AnswersPart hash Kept old new server sent sent' m
      → Kept (step_of hash old server m).server.shared.commits (step_of hash old server m).server.shared.commits
      → AnswersKept hash Kept old new server sent sent' m × ServerAnswers hash Kept old new server sent sent' m (Err link_stop.Stopped)
  answers_kept sent sent' part kept = ((part, kept), inl (part, kept))

  -- or it was stopped at it, and nothing was sent
  pub stopped : (sent : Option (List ℕ)) (behind : Server) → IsStopped hash (program_served old) (turns_of old) server m behind → Serves hash new behind
      → Kept server.shared.commits behind.shared.commits → IsStoppedAt hash Kept old new server sent sent m × ServerAnswers hash Kept old new server sent sent m (Err link_stop.Stopped)
  stopped sent behind is serves kept = ((refl, (behind, is, serves, kept)), inr (refl, (behind, is, serves, kept)))

-- it isn't stopped with commits that aren't kept so
pub kept_where_stopped : (hash : Hash) {A G : Type 0} (old new : ServeCore A G) (server : Server) (m : meant.Heard) (sent sent' : Option (List ℕ))
    → ServerAnswers hash (λ told made. ⊥) old new server sent sent' m (Err link_stop.Stopped) → ⊥
kept_where_stopped hash old new server m sent sent' (inl answers) = answers.1
kept_where_stopped hash old new server m sent sent' (inr stopped) = stopped.1.3

module _ (hash : Hash) (Kept : (told made : List RoleCall) → Type 0) {A G : Type 0} (old new : ServeCore A G) (server : Server) (sent sent' : Option (List ℕ)) where
  -- a leave was answered, and the connection goes on behind it
  pub goes_on : IsReadAs bye_bytes (Bye 1) → (step_of hash old server (Hears (Bye 1))).closing ≡ false
      → sent' ≡ append_known sent (bytes_of (step_of hash old server (Hears (Bye 1))).replies) → Serves hash new (step_of hash old server (Hears (Bye 1))).server
      → ServingGoesOn hash Kept old new server sent sent' (bye_bytes ++ hello_bytes) (Some hello_bytes)
  goes_on came stays sends serves =
      record { request = Bye 1; taken = bye_bytes; rest = hello_bytes; all = refl; came = came; told = refl; stays_open = stays; sends = sends; serves = serves }

  -- it broke off behind bytes that were taken
  pub broke_off : (heard : List meant.Heard) (out : List ℕ) → sent' ≡ append_known sent out
      → IsCutAt hash (program_served old) (own_digest old) (turns_of old) server hello_bytes heard out
      → IsBrokenOff hash (program_served old) (own_digest old) (turns_of old) server (hello_bytes ++ bye_bytes) heard out
      → Serves hash new (server_after hash (program_served old) (own_digest old) (turns_of old) server heard)
      → BreaksOff hash Kept old new server sent sent' (hello_bytes ++ bye_bytes) (Some bye_bytes)
  broke_off heard out sends cut broken serves = record { heard = heard; taken = hello_bytes; out = out; takes = (bye_bytes, refl, refl); sends = sends; cut = cut; broken = broken; serves = serves }

  -- what a message comes to, by its answer
  pub went_on : (bytes : List ℕ) (left : Option (List ℕ)) → ServingGoesOn hash Kept old new server sent sent' bytes left → ServesMessage hash Kept old new server sent sent' bytes left (Ok true)
  went_on bytes left goes = goes

  pub ended : (bytes : List ℕ) (left : Option (List ℕ)) → Ends hash Kept old new server sent sent' bytes left Over → ServesMessage hash Kept old new server sent sent' bytes left (Ok false)
  ended bytes left ends = ends

  pub broken : (bytes : List ℕ) (left : Option (List ℕ)) → BreaksOff hash Kept old new server sent sent' bytes left
      → ServesMessage hash Kept old new server sent sent' bytes left (Err link_stop.LinkFault)
  broken bytes left breaks = breaks

  pub lacking : (bytes : List ℕ) (left : Option (List ℕ)) → Ends hash Kept old new server sent sent' bytes left Stopped
      → ServesMessage hash Kept old new server sent sent' bytes left (Err link_stop.Stopped)
  lacking bytes left ends = ends

-- HISTORIES
-- a core that goes on has a history; one that was stopped is a server still
pub goes_on_serving : (hash : Hash) {A G : Type 0} (core : ServeCore A G) → HasServed hash core
    → StaysServing {T = Bool} hash core (Ok true) × StaysServing {T = Bool} hash core (Err link_stop.LinkFault)
goes_on_serving hash core served = (served, served)

pub stays_serving : (hash : Hash) {A G : Type 0} (core : ServeCore A G) (server : Server) → Serves hash core server → StaysServing {T = Bool} hash core (Err link_stop.Stopped)
stays_serving hash core server serves = (server, serves)

-- such a server began as it may, and heard messages
pub begins_so : (hash : Hash) (P : Program) (own : List ℕ) (ending : ℕ → ℕ) (server : Server) (h : HasHistory hash P own ending server)
    → IsBegun P h.begun × AllByRecursion IsHeard h.before
begins_so hash P own ending server h = (h.begins, h.messages)

pub went_so : (hash : Hash) (P : Program) (own : List ℕ) (ending : ℕ → ℕ) (server : Server) (h : HasHistory hash P own ending server)
    → server ≡ server_after hash P own ending (begun_server h.begun) h.before
went_so hash P own ending server h = h.is

-- as one that flipped a bool before, and heard nothing yet
pub begins_flipped : (hash : Hash) (own : List ℕ) (ending : ℕ → ℕ) → HasHistory hash bool_program own ending (begun_server flipped)
begins_flipped hash own ending = record { begun = flipped; before = []; begins = flipped_is_begun; messages = tt; is = refl }

pub has_served : (hash : Hash) {A G : Type 0} (core : ServeCore A G) (h : HasServed hash core)
    → HasHistory hash (program_served core) (own_digest core) (turns_of core) h.server × Serves hash core h.server
has_served hash core h = (h.history, h.serves)

-- and goes on with the same code and turns
pub same_code : {A G : Type 0} (old new : ServeCore A G) (same : HasSameCode old new) → (new.code ≡ old.code) × (new.slice ≡ old.slice)
same_code old new same = (same.code, same.slice)
