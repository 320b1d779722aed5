-- What a server has behind whatever it heard is what one may begin with: each commit is a call that a message asked for.
use Rattle.std.proofs.Common.{◌≡◌, ℕ, zero, suc, Bool, true, false, List, [], ◌∷◌, length, Option, Some, None, Result, Ok, Err, nat_eq, nat_le, nat_lt, refl, sym, subst}
use Rattle.std.specs.List.{AllByRecursion}
use Rattle.core_terms.specs.Formats.{Hash, IsHash, IsFormat}
use Rattle.core_terms.specs.Values.{Value}
use Rattle.core_terms.specs.Terms.{Program}
use Rattle.core_terms.specs.TypingRules.{IsTyped}
use Rattle.core_terms.specs.Typing.{is_shaped}
use Rattle.ideal_meaning.specs.Frames.{Frame}
use Rattle.session_meaning.specs.Causes.{Refusal}
use Rattle.session_meaning.specs.Messages.{Request, Hello, Call, Go, Bye, Refused}
use Rattle.session_meaning.specs.Tables.{Numbered, find}
use Rattle.session_meaning.specs.Calls.{calls_of, outcome_of, new_state, frames_of}
use Rattle.session_meaning.specs.Server
use Rattle.session_meaning.specs.Server.{Running, Session, Shared, Admitted, Server as TheServer, Step, Turned, Heard, Hears, HearsBad, HearsEnd, version_at, fits_message}
use Rattle.session_meaning.specs.Within.{IsStateWithin, IsCallWithin}
use Rattle.session_meaning.specs.ReplyLaws.{IsHeard}
use Rattle.session_meaning.specs.ServerLaws.{ServersMayBegin}
use Rattle.session_meaning.proofs.TableFacts.{all_put, all_remove}
use Rattle.session_meaning.proofs.Orderly.{call_ok}
use Rattle.session_meaning.proofs.GoodCalls.{IsGood, IsCall, state_within}
use Rattle.session_meaning.proofs.FineServer.{IsWell, all_more, all_weaker}
use Rattle.session_meaning.proofs.HonestAnswers.{good_call}
use Rattle.session_meaning.proofs.Limits.{limits_hold}
use Rattle.session_meaning.proofs.StoppedHistory.{history_goes_on}
use Rattle.session_meaning.proofs.RepliesFit.{IsSane, after_sane, begun_sane}

-- a call that runs was asked for, and so was each that made a version
module _ (P : Program) where
  abbrev OnAsked : Option Running → Type 0
  OnAsked None = Unit {0}
  OnAsked (Some r) = IsCallWithin P r.call

  abbrev IsAsked : Numbered Session → Type 0
  IsAsked x = OnAsked x.value.running

  abbrev AreAsked : List (Numbered Session) → Shared → Type 0
  AreAsked ss shared = AllByRecursion IsAsked ss × AllByRecursion (IsCallWithin P) shared.commits

  abbrev Asked : Turned → Type 0
  Asked t = AreAsked t.sessions t.shared

module _ (hash : Hash) (P : Program) (ending : ℕ → ℕ) where
  turn_asked : (number : ℕ) (s : Session) (shared : Shared) → OnAsked P s.running → AllByRecursion (IsCallWithin P) shared.commits
      → Asked P (Server.turn hash P ending number s shared)
  turn_asked number s shared may h = by s.running refl
    where
      state : Value
      state = version_at shared.versions s.version

      last : (b : Bool) (r : Running) (frames : List Frame) (w : Value) → s.running ≡ Some r
          → Asked P (Server.commit_turn hash P b number s r.call frames w shared)
      last true r frames w f = ((tt, tt), all_more (IsCallWithin P) shared.commits (r.call ∷ []) h (subst (OnAsked P) f may, tt))
      last false r frames w f = (tt, h)

      fits : (b : Bool) (o : Option Value) (r : Running) (frames : List Frame) → s.running ≡ Some r
          → Asked P (Server.frames_turn hash P b o number s r.call frames shared)
      fits false o r frames f = (tt, h)
      fits true None r frames f = ((tt, tt), h)
      fits true (Some w) r frames f = last (nat_eq (suc s.version) (length shared.versions)) r frames w f

      ends : (b : Bool) (r : Running) → s.running ≡ Some r → Asked P (Server.run_turn hash P ending b number s r state shared)
      ends false r f = ((subst (OnAsked P) f may, tt), h)
      ends true r f =
          let frames = frames_of hash P s.kept s.recent state r.call in
          fits (fits_message frames) (new_state P r.call (outcome_of P state r.call)) r frames f

      by : (o : Option Running) → s.running ≡ o → Asked P (Server.turn_of hash P ending o number s shared)
      by None f = ((may, tt), h)
      by (Some r) f = ends (nat_le (ending (calls_of P state r.call)) (suc r.turns)) r f

  round_asked : (ss : List (Numbered Session)) (shared : Shared) → AreAsked P ss shared → Asked P (Server.round hash P ending ss shared)
  round_asked [] shared h = h
  round_asked (s ∷ ss) shared h =
      let first = turn_asked s.number s.value shared h.0.0 h.1 in
      let others = round_asked ss (Server.turn hash P ending s.number s.value shared).shared (h.0.1, first.1) in
      (all_more (IsAsked P) _ _ first.0 others.0, others.1)

  rounds_asked : (n : ℕ) (ss : List (Numbered Session)) (shared : Shared) → AreAsked P ss shared → Asked P (Server.rounds hash P ending n ss shared)
  rounds_asked zero ss shared h = h
  rounds_asked (suc n) ss shared h = by (Server.any_runs ss) (rounds_asked n _ _ (round_asked ss shared h))
    where
      by : (b : Bool) → Asked P (Server.round_then hash P ending true (Server.rounds hash P ending n) ss shared)
          → Asked P (Server.round_then hash P ending b (Server.rounds hash P ending n) ss shared)
      by false e = h
      by true e = e

module _ (hash : Hash) (is_hash : IsHash hash) (P : Program) (format : IsFormat P.format) (typed : IsTyped P) (shaped : is_shaped P ≡ true) (own : List ℕ)
    (ending : ℕ → ℕ) where
  abbrev Keeps : Step → Type 0
  Keeps step = AreAsked P step.server.sessions step.server.shared

  -- a call that is admitted was asked for by a message
  admitted : (server : TheServer) (n role fuel : ℕ) (argument : List ℕ) (a : Admitted)
      → IsWell hash is_hash P format typed shaped server.sessions server.shared → IsHeard (Hears (Call n role fuel argument))
      → Server.call_test hash P own ending server n role fuel argument ≡ Ok a → IsCallWithin P a.call
  admitted server n role fuel argument a w m e =
      let k = call_ok hash P own ending server n role fuel argument a e in
      let fine = good_call hash is_hash P format typed shaped own ending server n role fuel argument a w m.1 e in
      let call : IsCall P (record { role = role; argument = a.call.argument; fuel = fuel }) = subst (IsCall P) k.is fine.call in
      subst (IsCallWithin P) (sym k.is) (record { role_fits = m.0.fields.1; fuel_fits = k.fuelled; ideal = call.ideal; fits = call.fits })

  request_asked : (server : TheServer) (r : Request) → IsWell hash is_hash P format typed shaped server.sessions server.shared
      → AreAsked P server.sessions server.shared → IsHeard (Hears r) → Keeps (Server.request_step hash P own ending server r)
  request_asked server (Hello n program size state) w h m = by (Server.hello_test hash P own ending server n program size state)
    where
      by : (t : Result ℕ Refusal) → Keeps (Server.hello_step t server n size)
      by (Ok j) = (all_put (IsAsked P) n (Server.new_session j size) server.sessions tt h.0, h.1)
      by (Err refusal) = h
  request_asked server (Call n role fuel argument) w h m = by (Server.call_test hash P own ending server n role fuel argument) refl
    where
      by : (t : Result Admitted Refusal) → Server.call_test hash P own ending server n role fuel argument ≡ t → Keeps (Server.call_step t server n)
      by (Ok a) e =
          (all_put (IsAsked P) n (Server.with_run a.session a.call 0) server.sessions (admitted server n role fuel argument a w m e) h.0, h.1)
      by (Err refusal) e = h
  request_asked server (Go n) w h m = rounds_asked hash P ending n server.sessions server.shared h
  request_asked server (Bye n) w h m = by (find n server.sessions)
    where
      by : (t : Option Session) → Keeps (Server.bye_step t server n)
      by None = h
      by (Some s) = (all_remove (IsAsked P) n server.sessions h.0, h.1)

  handle_asked : (server : TheServer) (m : Heard) → IsWell hash is_hash P format typed shaped server.sessions server.shared
      → AreAsked P server.sessions server.shared → IsHeard m → Keeps (Server.handle hash P own ending server m)
  handle_asked server (Hears r) w h m = by (nat_lt server.heard Server.messages_limit)
    where
      by : (b : Bool) → Keeps (Server.counted_step b (λ server. Server.request_step hash P own ending server r) server)
      by true = request_asked (record { shared = server.shared; heard = suc server.heard; sessions = server.sessions }) r w h m
      by false = (tt, h.1)
  handle_asked server HearsBad w h m = by (nat_lt server.heard Server.messages_limit)
    where
      by : (b : Bool) → Keeps (Server.counted_step b (λ server. Server.end_step server (Refused 0 11 ∷ []) true) server)
      by true = (tt, h.1)
      by false = (tt, h.1)
  handle_asked server HearsEnd w h m = (tt, h.1)

  after_asked : (heard : List Heard) (server : TheServer) → IsSane hash is_hash P format typed shaped ending server
      → AreAsked P server.sessions server.shared → AllByRecursion IsHeard heard
      → let behind = Server.server_after hash P own ending server heard in AreAsked P behind.sessions behind.shared
  after_asked [] server sane h all = h
  after_asked (m ∷ ms) server sane h all =
      after_asked ms _ (after_sane hash is_hash P format typed shaped ending own (m ∷ []) server sane (all.0, tt))
      (handle_asked server m sane.well h all.0) all.1

pub servers_may_begin : ServersMayBegin
servers_may_begin hash is_hash P format typed shaped own ending begun is heard all =
    let sane = begun_sane hash is_hash P format typed shaped ending begun is.within in
    let behind = after_sane hash is_hash P format typed shaped ending own heard (Server.begun_server begun) sane all in
    record {
      within = all_weaker (IsGood P) (IsStateWithin P) _ (state_within P) behind.well.0;
      few = (limits_hold hash P own ending begun heard is.few).versions;
      made = history_goes_on hash P own ending (Server.begun_server begun) heard is.made;
      asked = (after_asked hash is_hash P format typed shaped own ending heard (Server.begun_server begun) sane (tt, is.asked) all).1;
    }
