-- The limits of a server hold: of the number of its messages, of its sessions and of its versions.
use Rattle.std.proofs.Common.{◌≡◌, ℕ, zero, suc, ◌+◌, ◌<◌, ◌≤◌, Bool, true, false, List, [], ◌∷◌, length, Option, Some, None, Result, Ok, Err, nat_eq, nat_le, nat_lt, if◌then◌else◌, refl, sym, ap, ◌∙◌, subst, arith, length-append, eqb-true, ltb-true}
use Rattle.std.specs.List.{AllByRecursion}
use Rattle.core_terms.specs.Formats.{Hash}
use Rattle.core_terms.specs.Values.{Value}
use Rattle.core_terms.specs.Terms.{Program}
use Rattle.ideal_meaning.specs.Frames.{Frame}
use Rattle.session_meaning.specs.Messages.{Request, Hello, Call, Go, Bye, Refused}
use Rattle.session_meaning.specs.Causes.{Refusal, NoMessage, refusal_cause}
use Rattle.session_meaning.specs.Tables.{Numbered, find, put, remove, Ascend}
use Rattle.session_meaning.specs.Calls.{changes_state, role_in, RoleCall, calls_of, outcome_of, new_state, frames_of}
use Rattle.session_meaning.specs.Server
use Rattle.session_meaning.specs.Server.{Running, Session, Shared, Admitted, Server as TheServer, Step, Turned, Heard, Hears, HearsBad, HearsEnd, version_at, fits_message}
use Rattle.session_meaning.specs.ServerLaws.{IsLimited, LimitsHold}
use Rattle.session_meaning.proofs.TableFacts.{same_or_not, less_or_not, find_there, ascend_none, all_put, all_remove}
use Rattle.session_meaning.proofs.History.{made_of}
use Rattle.session_meaning.proofs.Orderly.{Orderly, handle_orderly, hello_ok, call_ok, version_of}
use Rattle.session_meaning.proofs.FineServer.{all_more}

-- the length of a table behind a change
module _ {A : Type 0} where
  abbrev new : ℕ → A → Numbered A
  new n a = record { number = n; value = a }

  put_new : (n : ℕ) (a : A) (xs : List (Numbered A)) → length (put n a xs) ≤ suc (length xs)
  put_new n a [] = omega arith
  put_new n a (x ∷ xs) =
      less_or_not (λ t. length (if t then new n a ∷ x ∷ xs else (if nat_eq x.number n then new n a ∷ xs else x ∷ put n a xs)) ≤ suc
      (length (x ∷ xs))) n x.number
      (λ l. omega arith)
      (λ l. same_or_not (λ t. length (if t then new n a ∷ xs else x ∷ put n a xs) ≤ suc (length (x ∷ xs))) x.number n
      (λ e. omega arith) (λ e. omega (arith, put_new n a xs)))

  put_there : (least n : ℕ) (a b : A) (xs : List (Numbered A)) → Ascend least xs → find n xs ≡ Some b → length (put n a xs) ≤ length xs
  put_there least n a b [] h f = absurd (cc)
  put_there least n a b (x ∷ xs) h f =
      less_or_not (λ t. length (if t then new n a ∷ x ∷ xs else (if nat_eq x.number n then new n a ∷ xs else x ∷ put n a xs)) ≤ length (x ∷ xs)) n x.number
      (λ l. let e : None ≡ Some b = sym (ascend_none x.number n (x ∷ xs) l (omega arith, h.1)) ∙ f in absurd (cc (e)))
      (λ l. same_or_not (λ t. length (if t then new n a ∷ xs else x ∷ put n a xs) ≤ length (x ∷ xs)) x.number n
      (λ e. omega arith) (λ e. omega (arith, put_there (1 + x.number) n a b xs h.1 (sym (find_there n x.number x.value xs e) ∙ f))))

  remove_fewer : (n : ℕ) (xs : List (Numbered A)) → length (remove n xs) ≤ length xs
  remove_fewer n [] = omega arith
  remove_fewer n (x ∷ xs) =
      same_or_not (λ t. length (if t then remove n xs else x ∷ remove n xs) ≤ length (x ∷ xs)) x.number n
      (λ e. omega (arith, remove_fewer n xs)) (λ e. omega (arith, remove_fewer n xs))

module _ (hash : Hash) (P : Program) (ending : ℕ → ℕ) where
  -- a session whose call may make a version stands below the last that there may be
  abbrev MayCommit : Option Running → ℕ → Type 0
  MayCommit None version = Unit {0}
  MayCommit (Some r) version = changes_state (role_in P r.call.role).kind ≡ true → suc version < Server.versions_limit

  abbrev IsBelow : Numbered Session → Type 0
  IsBelow x = MayCommit x.value.running x.value.version

  -- turns of these sessions
  record StaysBelow (ss : List (Numbered Session)) (t : Turned) : Type 0 where
    versions : length t.shared.versions ≤ Server.versions_limit
    below : AllByRecursion IsBelow t.sessions
    fewer : length t.sessions ≤ length ss

  turn_below : (number : ℕ) (s : Session) (shared : Shared) → length shared.versions ≤ Server.versions_limit → MayCommit s.running s.version
      → StaysBelow (Server.one_session number s) (Server.turn hash P ending number s shared)
  turn_below number s shared h may = by s.running refl
    where
      state : Value
      state = version_at shared.versions s.version

      Goal : Turned → Type 0
      Goal t = StaysBelow (Server.one_session number s) t

      last : (b : Bool) (r : Running) (frames : List Frame) (w : Value) → s.running ≡ Some r → nat_eq (suc s.version) (length shared.versions) ≡ b
          → new_state P r.call (outcome_of P state r.call) ≡ Some w → Goal (Server.commit_turn hash P b number s r.call frames w shared)
      last true r frames w f e m =
          let k = made_of (role_in P r.call.role).kind (outcome_of P state r.call) w m in
          let less : suc s.version < Server.versions_limit = subst (λ o. MayCommit o s.version) f may (ap changes_state k.0) in
          record { versions = omega (arith, less, eqb-true _ _ e, length-append shared.versions (w ∷ [])); below = (tt, tt); fewer = omega arith }
      last false r frames w f e m = record { versions = h; below = tt; fewer = omega arith }

      fits : (b : Bool) (o : Option Value) (r : Running) (frames : List Frame) → s.running ≡ Some r → new_state P r.call (outcome_of P state r.call) ≡ o
          → Goal (Server.frames_turn hash P b o number s r.call frames shared)
      fits false o r frames f m = record { versions = h; below = tt; fewer = omega arith }
      fits true None r frames f m = record { versions = h; below = (tt, tt); fewer = omega arith }
      fits true (Some w) r frames f m = last (nat_eq (suc s.version) (length shared.versions)) r frames w f refl m

      ends : (b : Bool) (r : Running) → s.running ≡ Some r → Goal (Server.run_turn hash P ending b number s r state shared)
      ends false r f = record { versions = h; below = (subst (λ o. MayCommit o s.version) f may, tt); fewer = omega arith }
      ends true r f =
          let frames = frames_of hash P s.kept s.recent state r.call in
          fits (fits_message frames) (new_state P r.call (outcome_of P state r.call)) r frames f refl

      by : (o : Option Running) → s.running ≡ o → Goal (Server.turn_of hash P ending o number s shared)
      by None f = record { versions = h; below = (may, tt); fewer = omega arith }
      by (Some r) f = ends (nat_le (ending (calls_of P state r.call)) (suc r.turns)) r f

  round_below : (ss : List (Numbered Session)) (shared : Shared) → length shared.versions ≤ Server.versions_limit → AllByRecursion IsBelow ss
      → StaysBelow ss (Server.round hash P ending ss shared)
  round_below [] shared h below = record { versions = h; below = tt; fewer = omega arith }
  round_below (s ∷ ss) shared h below =
      let first = turn_below s.number s.value shared h below.0 in
      let others = round_below ss (Server.turn hash P ending s.number s.value shared).shared first.versions below.1 in
      record {
        versions = others.versions;
        below = all_more IsBelow _ _ first.below others.below;
        fewer = omega (
          arith,
          first.fewer,
          others.fewer,
          length-append (Server.turn hash P ending s.number s.value shared).sessions
              (Server.round hash P ending ss (Server.turn hash P ending s.number s.value shared).shared).sessions,
        );
      }

  rounds_below : (n : ℕ) (ss : List (Numbered Session)) (shared : Shared) → length shared.versions ≤ Server.versions_limit → AllByRecursion IsBelow ss
      → StaysBelow ss (Server.rounds hash P ending n ss shared)
  rounds_below zero ss shared h below = record { versions = h; below = below; fewer = omega arith }
  rounds_below (suc n) ss shared h below =
      let first = round_below ss shared h below in
      by (Server.any_runs ss) first (rounds_below n (Server.round hash P ending ss shared).sessions
      (Server.round hash P ending ss shared).shared first.versions first.below)
    where
      by : (b : Bool) → StaysBelow ss (Server.round hash P ending ss shared)
          → (let t = Server.round hash P ending ss shared in StaysBelow t.sessions (Server.rounds hash P ending n t.sessions t.shared))
          → StaysBelow ss (Server.round_then hash P ending b (Server.rounds hash P ending n) ss shared)
      by false first others = record { versions = h; below = below; fewer = omega arith }
      by true first others = record { versions = others.versions; below = others.below; fewer = omega (arith, first.fewer, others.fewer) }

module _ (hash : Hash) (P : Program) (own : List ℕ) (ending : ℕ → ℕ) where
  abbrev AreBelow : TheServer → Type 0
  AreBelow server = AllByRecursion (IsBelow hash P ending) server.sessions

  abbrev StepIsLimited : Step → Type 0
  StepIsLimited step = IsLimited step.server × AreBelow step.server

  request_limited : (server : TheServer) (r : Request) → IsLimited server → Orderly server → AreBelow server
      → StepIsLimited (Server.request_step hash P own ending server r)
  request_limited server (Hello n program size state) h o below = by (Server.hello_test hash P own ending server n program size state) refl
    where
      by : (t : Result ℕ Refusal) → Server.hello_test hash P own ending server n program size state ≡ t → StepIsLimited (Server.hello_step t server n size)
      by (Ok j) e =
          let few = (hello_ok hash P own ending server n program size state j e).few in (
            record { messages = h.messages; sessions = omega (arith, few, put_new n (Server.new_session j size) server.sessions); versions = h.versions },
            all_put (IsBelow hash P ending) n (Server.new_session j size) server.sessions tt below,
          )
      by (Err refusal) e = (record { messages = h.messages; sessions = h.sessions; versions = h.versions }, below)
  request_limited server (Call n role fuel argument) h o below = by (Server.call_test hash P own ending server n role fuel argument) refl
    where
      by : (t : Result Admitted Refusal) → Server.call_test hash P own ending server n role fuel argument ≡ t → StepIsLimited (Server.call_step t server n)
      by (Ok a) e =
          let k = call_ok hash P own ending server n role fuel argument a e in
          let there = version_of hash P own ending server n a.session o k.there in
          let may : MayCommit hash P ending (Some (record { call = a.call; turns = 0 })) a.session.version =
          λ c. omega (arith, there, k.few (sym (ap (λ (c : RoleCall). changes_state (role_in P c.role).kind) k.is) ∙ c)) in (
            record {
              messages = h.messages;
              sessions = omega (
                arith,
                h.sessions,
                put_there 0 n
                    (Server.with_run a.session a.call 0) a.session server.sessions o.in_order k.there,
              );
              versions = h.versions;
            },
            all_put (IsBelow hash P ending) n (Server.with_run a.session a.call 0) server.sessions may below,
          )
      by (Err refusal) e = (record { messages = h.messages; sessions = h.sessions; versions = h.versions }, below)
  request_limited server (Go n) h o below =
      let t = rounds_below hash P ending n server.sessions server.shared h.versions below in
      (record { messages = h.messages; sessions = omega (arith, h.sessions, t.fewer); versions = t.versions }, t.below)
  request_limited server (Bye n) h o below = by (find n server.sessions)
    where
      by : (t : Option Session) → StepIsLimited (Server.bye_step t server n)
      by None = (record { messages = h.messages; sessions = h.sessions; versions = h.versions }, below)
      by (Some s) = (
        record { messages = h.messages; sessions = omega (arith, h.sessions, remove_fewer n server.sessions); versions = h.versions },
        all_remove (IsBelow hash P ending) n server.sessions below,
      )

  ended : (server : TheServer) → IsLimited server → IsLimited (record { shared = server.shared; heard = 0; sessions = [] })
  ended server h = record { messages = omega arith; sessions = omega arith; versions = h.versions }

  handle_limited : (server : TheServer) (m : Heard) → IsLimited server → Orderly server → AreBelow server
      → StepIsLimited (Server.handle hash P own ending server m)
  handle_limited server (Hears r) h o below = by (nat_lt server.heard Server.messages_limit) refl
    where
      by : (b : Bool) → nat_lt server.heard Server.messages_limit ≡ b
          → StepIsLimited (Server.counted_step b (λ server. Server.request_step hash P own ending server r) server)
      by true e =
          request_limited (record server { heard = suc server.heard }) r
          (record { messages = omega (arith, ltb-true _ _ e); sessions = h.sessions; versions = h.versions })
          (record { in_order = o.in_order; in_range = o.in_range }) below
      by false e = (ended server h, tt)
  handle_limited server HearsBad h o below = by (nat_lt server.heard Server.messages_limit)
    where
      by : (b : Bool) → StepIsLimited (Server.counted_step b (λ server. Server.end_step server (Refused 0 (refusal_cause NoMessage) ∷ []) true) server)
      by true = (ended server h, tt)
      by false = (ended server h, tt)
  handle_limited server HearsEnd h o below = (ended server h, tt)

  after_limited : (heard : List Heard) (server : TheServer) → IsLimited server → Orderly server → AreBelow server
      → IsLimited (Server.server_after hash P own ending server heard)
  after_limited [] server h o below = h
  after_limited (m ∷ ms) server h o below =
      let k = handle_limited server m h o below in after_limited ms _ k.0 (handle_orderly hash P own ending server m o) k.1

pub limits_hold : LimitsHold
limits_hold hash P own ending begun heard few =
    after_limited hash P own ending heard (Server.begun_server begun) (record { messages = omega arith; sessions = omega arith; versions = few })
    (record { in_order = tt; in_range = λ n. tt }) tt
