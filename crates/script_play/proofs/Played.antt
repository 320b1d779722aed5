-- What a line of a script does, and the lines behind it: for `ask_and_wait`, `let_run`, `play_step`, `play`.
use Rattle.std.proofs.Common.{◌≡◌, ℕ, ◌<◌, ◌+◌, Bool, true, false, List, [], ◌∷◌, length, drop, get_or, map, Option, Some, None, Result, Ok, Err, IfOk, refl, sym, ap, ◌∙◌, subst}
use Rattle.std.proofs.lemmas.List.{drop_more}
use Rattle.std.specs.Io.KnownBytes.{append_known, prepend_known}
use Rattle.core_terms.specs.Formats.{Hash, IsFormat}
use Rattle.core_terms.specs.Terms.{Program}
use Rattle.mode_vm.specs.Meanings.{program_of}
use Rattle.printed_syntax.specs.Literals.{ConstructorNames}
use Rattle.session_meaning.specs.Client as meant
use Rattle.session_meaning.specs.Messages.{Messages, Reply, Go, request_bytes}
use Rattle.session_meaning.specs.MessageFields.{IsRequest}
use Rattle.session_meaning.specs.ReplyLaws.{IsWithinMessages}
use Rattle.session_meaning.proofs.RequestsFit.{requests_are_sent}
use Rattle.session_tables.specs.Tables.{rows_of}
use Rattle.wire_form.specs.MessageViews.{request_meant}
use Rattle.wire_form.specs.MovedBytes.{Moves}
use Rattle.wire_form.specs.declared.message.Request.{Request as AskedRequest}
use Rattle.ask_core.specs.Answers.{Asks}
use Rattle.ask_core.specs.Clients.{IsClient}
use Rattle.ask_core.specs.Sessions.{StandsFor, StandsForSome}
use Rattle.session_meaning.specs.Waiting.{some_waits}
use Rattle.ask_core.specs.declared.client.AskCore.{AskCore}
use Rattle.ask_core.specs.declared.told.AskFault.{AskFault}
use Rattle.ask_script.specs.ScriptAnswers.{step_meant}
use Rattle.ask_script.specs.declared.step.Step.{Step}
use Rattle.script_play.specs.Plays.{Sends, Play, asked_play, asks, behind, lets_run, most_rounds, play, play_step, rests, take_replies, then_play}
use Rattle.script_play.specs.Playing.{PlaysAs, World, done, world}
use Rattle.script_play.specs.PlayingInCode.{SendsRequest, ClientAnswers, is_sending}
use Rattle.script_play.specs.declared.play_stop.PlayStop.{PlayStop}
use Rattle.script_play.proofs.Asked.{asks_answers, plays_err, sent_world, unsent_plays}
use Rattle.lam_outside.proofs.Moved.{append_none}
use Rattle.script_play.proofs.Worlds.{plays_behind, plays_cut}

-- NO BYTE MOVED
prepend_none : (x : Option (List ℕ)) → x ≡ prepend_known [] x
prepend_none None = refl
prepend_none (Some xs) = refl

pub none_moved : (given left : Option (List ℕ)) → Moves given left given left
none_moved given left = ([], prepend_none left, sym (append_none given))

pub same_moved : (given left given' left' : Option (List ℕ)) → given' ≡ given → left' ≡ left → Moves given left given' left'
same_moved given left given' left' e f =
    subst (λ g. Moves given left g left') (sym e) (subst (λ l. Moves given left given l) (sym f) (none_moved given left))

-- WHAT IS ASKED
-- it is sent, and more is played; or it isn't, and nothing more is
asks_more : (answer : meant.Answer) (c : meant.Client) (session : ℕ) (ms : Messages Reply) (more : meant.Client → Messages Reply → Play)
    → is_sending answer ≡ true → asks answer c session ms more ≡ behind (asks answer c session ms rests).deeds (more c ms)
asks_more (meant.Sends request) c session ms more e = refl
asks_more answer c session ms more e = absurd (cc)

asks_then : (answer : meant.Answer) (c : meant.Client) (session : ℕ) (ms : Messages Reply) (more : meant.Client → Messages Reply → Play)
    → is_sending answer ≡ true → asks answer c session ms more ≡ then_play (asks answer c session ms rests) more
asks_then (meant.Sends request) c session ms more e = refl
asks_then answer c session ms more e = absurd (cc)

asks_alone : (answer : meant.Answer) (c : meant.Client) (session : ℕ) (ms : Messages Reply) (more : meant.Client → Messages Reply → Play)
    → is_sending answer ≡ false → asks answer c session ms more ≡ asks answer c session ms rests
asks_alone (meant.Sends request) c session ms more e = absurd (cc)
asks_alone answer c session ms more e = refl

module _ (P : Program) (names : ConstructorNames) (t : meant.Taken) (session : ℕ) (ms : Messages Reply) (more : meant.Client → Messages Reply → Play) where
  -- what was sent, and what is played behind it
  pub more_plays : (w w1 w2 : World) → is_sending t.answer ≡ true → w1 ≡ done P names w (asked_play t session ms rests).deeds
      → (Is : meant.Client → Type 0) (left' : Option (List ℕ)) (r : Result (Unit {0}) PlayStop)
      → PlaysAs P names Is left' w1 w2 (more t.client ms) r → PlaysAs P names Is left' w w2 (asked_play t session ms more) r
  more_plays w w1 w2 sends is Is left' r plays =
      subst (λ p. PlaysAs P names Is left' w w2 p r) (sym (asks_more t.answer t.client session ms more sends))
      (plays_behind P names w w1 w2 (asked_play t session ms rests).deeds is Is left' (more t.client ms) r plays)

  -- nothing was sent, and it is told why
  pub told_alone : {T : Type 0} (u : T) (w w1 : World) → is_sending t.answer ≡ false → (Is : meant.Client → Type 0) (left' : Option (List ℕ)) → Is t.client
      → PlaysAs P names {T = Bool} (λ c. c ≡ t.client) left' w w1 (asked_play t session ms rests) (Ok false)
      → PlaysAs P names Is left' w w1 (asked_play t session ms more) (Ok u)
  told_alone u w w1 none Is left' stands plays =
      subst (λ p. PlaysAs P names Is left' w w1 p (Ok u)) (sym (asks_alone t.answer t.client session ms more none))
      (plays.0, plays.1, subst Is (sym plays.2) stands, plays.3)

  -- a line behind which no replies are read
  pub asked_stands : {T : Type 0} (u : T) (b : Bool) (w w1 : World) (Is : meant.Client → Type 0) (left' : Option (List ℕ)) → Is t.client
      → PlaysAs P names {T = Bool} (λ c. c ≡ t.client) left' w w1 (asked_play t session ms rests) (Ok b)
      → PlaysAs P names Is left' w w1 (asked_play t session ms rests) (Ok u)
  asked_stands u b w w1 Is left' stands plays = (plays.0, plays.1, subst Is (sym plays.2) stands, plays.3)

  -- the play of what is asked is broken off, or ends
  pub asked_halts : (w w1 : World) (Is Is' : meant.Client → Type 0) (left' left'' : Option (List ℕ)) (h : PlayStop)
      → PlaysAs P names {T = Bool} Is left' w w1 (asked_play t session ms rests) (Err h)
      → PlaysAs P names {T = Unit {0}} Is' left'' w w1 (asked_play t session ms more) (Err h)
  asked_halts w w1 Is Is' left' left'' h plays = by (is_sending t.answer) refl
    where
      same : PlaysAs P names {T = Unit {0}} Is left' w w1 (asked_play t session ms rests) (Err h)
      same = plays_err P names Bool (Unit {0}) Is Is left' left' w w1 (asked_play t session ms rests) h plays

      by : (b : Bool) → is_sending t.answer ≡ b → PlaysAs P names {T = Unit {0}} Is' left'' w w1 (asked_play t session ms more) (Err h)
      by true e =
          subst (λ p. PlaysAs P names {T = Unit {0}} Is' left'' w w1 p (Err h)) (sym (asks_then t.answer t.client session ms more e))
          (plays_cut P names w w1 Is Is' left' left'' (asked_play t session ms rests) more h same)
      by false e =
          subst (λ p. PlaysAs P names {T = Unit {0}} Is' left'' w w1 p (Err h)) (sym (asks_alone t.answer t.client session ms more e))
          (plays_err P names (Unit {0}) (Unit {0}) Is Is' left' left'' w w1 (asked_play t session ms rests) h same)

-- THE CALLS RUN
module _ (hash : Hash) (P : Program) (names : ConstructorNames) (own : List ℕ) (calls : Bool) (c : meant.Client) (ms : Messages Reply) (some : calls ≡ true) where
  run_is : lets_run hash P own calls c ms ≡ behind (Sends (Go most_rounds) ∷ []) (take_replies hash P own some_waits c ms)
  run_is = ap (λ b. lets_run hash P own b c ms) some

  -- it is asked, and replies are taken
  pub run_plays : (sent sent' written last : Option (List ℕ)) → sent' ≡ append_known sent (request_bytes (Go most_rounds))
      → (Is : meant.Client → Type 0) (left' : Option (List ℕ)) (w2 : World) (r : Result (Unit {0}) PlayStop)
      → PlaysAs P names Is left' (world sent' written last) w2 (take_replies hash P own some_waits c ms) r
      → PlaysAs P names Is left' (world sent written last) w2 (lets_run hash P own calls c ms) r
  run_plays sent sent' written last is Is left' w2 r plays =
      subst (λ p. PlaysAs P names Is left' (world sent written last) w2 p r) (sym run_is)
      (plays_behind P names (world sent written last) (world sent' written last) w2 (Sends (Go most_rounds) ∷ [])
      (sent_world P names (Go most_rounds) sent sent' written last is) Is left' (take_replies hash P own some_waits c ms) r plays)

  -- what asks it wasn't sent whole
  pub run_unsent : (Is : meant.Client → Type 0) (left' : Option (List ℕ)) (sent sent' written last : Option (List ℕ)) (h : PlayStop) → SendsRequest (Go most_rounds) sent sent' (Err h)
      → PlaysAs P names {T = Unit {0}} Is left' (world sent written last) (world sent' written last) (lets_run hash P own calls c ms) (Err h)
  run_unsent Is left' sent sent' written last h is =
      subst (λ p. PlaysAs P names {T = Unit {0}} Is left' (world sent written last) (world sent' written last) p (Err h)) (sym run_is)
      (unsent_plays P names (Unit {0}) (Go most_rounds) (take_replies hash P own some_waits c ms) Is left' sent sent' written last h is)

-- WHAT THE CORE ANSWERS
-- each request that it gives is a message
pub asked_fits : (hash : Hash) (P : Program) → IsFormat P.format → (own : List ℕ) → length own ≡ 32 → (c : meant.Client) (e : meant.Event) → IsWithinMessages e
    → (Is : meant.Client → Type 0) (r : Result AskedRequest AskFault) → Asks Is c (meant.take_event hash P own c e) r → IfOk r (λ request. IsRequest (request_meant request))
asked_fits hash P format own long c e asks Is (Ok request) h = requests_are_sent hash P format own long c e (request_meant request) asks h.0
asked_fits hash P format own long c e asks Is (Err fault) h = tt

-- the core behind it, whose code is the same
module _ {A : Type 0} (old new : AskCore A) (same : new.code ≡ old.code) (c : meant.Client) (t : meant.Taken) (r : Result AskedRequest AskFault)
    (asked : Asks (IsClient (program_of old.code) new.closed (rows_of new.sessions)) c t r) where
  pub core_answers : ClientAnswers (StandsFor new) t r
  core_answers =
      subst (λ k. ClientAnswers (IsClient (program_of k) new.closed (rows_of new.sessions)) t r) (sym same)
      (asks_answers (IsClient (program_of old.code) new.closed (rows_of new.sessions)) c t r asked)

  pub core_stands : StandsForSome new
  core_stands = subst (λ k. (m : meant.Client) × IsClient (program_of k) new.closed (rows_of new.sessions) m) (sym same) (by r asked)
    where
      by : (r : Result AskedRequest AskFault) → Asks (IsClient (program_of old.code) new.closed (rows_of new.sessions)) c t r
          → (m : meant.Client) × IsClient (program_of old.code) new.closed (rows_of new.sessions) m
      by (Ok request) h = (t.client, h.1)
      by (Err fault) h = (c, h.1)

-- LINE BY LINE
-- the next line is played, and those behind it
pub line_next : (hash : Hash) (P : Program) (own state : List ℕ) (steps : List Step) (i : ℕ) (step : Step) → i < length steps → step ≡ get_or steps i step
    → (c : meant.Client) (ms : Messages Reply)
    → play hash P own state (map step_meant (drop i steps)) c ms
    ≡ then_play (play_step hash P own state (step_meant step) c ms) (play hash P own state (map step_meant (drop (i + 1) steps)))
line_next hash P own state steps i step within is c ms =
    ap (λ ss. play hash P own state (map step_meant ss) c ms) (drop_more steps i step within ∙ ap (λ s. s ∷ drop (i + 1) steps) (sym is))
