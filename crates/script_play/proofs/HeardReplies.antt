-- What is told of a reply, and of none: for `hear`, `next_telling`.
use Rattle.std.proofs.Common.{◌≡◌, ℕ, ◌<◌, true, false, List, Option, Some, Result, Ok, Err, IfOk, IsSome, refl, sym, ap, ◌∙◌, subst}
use Rattle.core_terms.specs.Formats.{Hash}
use Rattle.core_terms.specs.Terms.{Program}
use Rattle.core_terms.specs.Types.{Ty}
use Rattle.mode_vm.specs.Meanings.{program_of}
use Rattle.printed_syntax.specs.Literals.{ConstructorNames}
use Rattle.session_meaning.specs.Client as meant
use Rattle.session_meaning.specs.Messages as message
use Rattle.session_meaning.specs.MessageFields as message_fields
use Rattle.session_meaning.specs.Messages.{Messages, NoMore, Then, Reply, Stop, Got, messages, reply_of, session_of}
use Rattle.session_meaning.specs.MessageFields.{read_reply}
use Rattle.session_meaning.specs.Tables.{find}
use Rattle.session_meaning.proofs.OnlyMessages.{messages_go_on}
use Rattle.session_tables.specs.Tables.{rows_of}
use Rattle.wire_form.specs.MessageViews.{reply_meant}
use Rattle.wire_form.specs.ReadMessages.{ReadsMessage}
use Rattle.wire_form.specs.declared.message.ReadStop.{ReadStop}
use Rattle.wire_form.specs.declared.message.ReadStop.TheVariants as stop
use Rattle.ask_core.proofs.Seeing.{waits_seen}
use Rattle.ask_core.specs.Replies.{IsAnswer, ClientTakes, called_type, step_taken}
use Rattle.ask_core.specs.Sessions.{IsCalledRole, StandsFor, sessions_waiting}
use Rattle.ask_core.specs.Turns.{waits_in}
use Rattle.ask_core.specs.declared.client.AskCore.{AskCore}
use Rattle.ask_core.specs.declared.seen.CalledRole.{CalledRole}
use Rattle.ask_core.specs.declared.told.AskFault.{AskFault}
use Rattle.ask_core.specs.declared.told.Told.{Told}
use Rattle.script_play.specs.DeedLines.{answer_line}
use Rattle.script_play.specs.Plays.{Stops, goes_behind, hears, told_of}
use Rattle.script_play.specs.PlayingInCode.{IsTelling, take_one}
use Rattle.script_play.specs.Tellings.{IsNext, IsStop, IsStopTold, OfAnswer, is_outcome, makes_state, state_if}
use Rattle.script_play.specs.declared.play_stop.PlayStop.{PlayStop}
use Rattle.script_play.specs.declared.telling.Telling.{Telling}
use Rattle.script_play.proofs.Heard.{count_fewer, heard_calls, heard_makes}
use Rattle.script_play.proofs.Told.{outcome_called}

-- an outcome is no want of memory
outcome_hears : (told : Result Told AskFault) → is_outcome told ≡ true → (h f : meant.Taken) → step_taken h f told ≡ h
outcome_hears (Ok told) e h f = refl
outcome_hears (Err fault) e h f = absurd (cc)

module _ (hash : Hash) (P : Program) (own : List ℕ) (m : meant.Client) (r : Reply) (Is : meant.Client → Type 0) (told : Result Told AskFault)
    (takes : ClientTakes Is P m r (hears hash P own m r) (meant.take_event hash P own m (meant.Forgets (session_of r))) told) where
  -- the client that the core stands for then
  pub heard_known : (c : meant.Client) × Is c
  heard_known = ((step_taken (hears hash P own m r) (meant.take_event hash P own m (meant.Forgets (session_of r))) told).client, takes.1)

  module _ (memory : (h f : meant.Taken) → step_taken h f told ≡ h) where
    heard_step : step_taken (hears hash P own m r) (meant.take_event hash P own m (meant.Forgets (session_of r))) told ≡ hears hash P own m r
    heard_step = memory (hears hash P own m r) (meant.take_event hash P own m (meant.Forgets (session_of r)))

    pub heard_answer : IsAnswer P (called_type P (find (session_of r) m.sessions)) (hears hash P own m r).answer told
    heard_answer = subst (λ (u : meant.Taken). IsAnswer P (called_type P (find (session_of r) m.sessions)) u.answer told) heard_step takes.0

    pub heard_stands : Is (hears hash P own m r).client
    heard_stands = subst (λ (u : meant.Taken). Is u.client) heard_step takes.1

    module _ (names : ConstructorNames) (types : List Ty) (called : Option CalledRole) (telling : Telling) where
      told_so : IsCalledRole types P (find (session_of r) m.sessions) called
          → OfAnswer types P called told (λ role answer. telling.line.items ≡ answer_line P names (session_of r) role answer)
          → OfAnswer types P called told (λ role answer. (c : meant.Client) → Is c → telling.made ≡ state_if (makes_state role answer) (meant.state_of c (session_of r)))
          → OfAnswer types P called told (λ role answer. telling.goes_on ≡ goes_behind answer)
          → IsTelling P names (told_of hash P own m r) (goes_behind (hears hash P own m r).answer) telling
      told_so is line made goes =
          let found = find (session_of r) m.sessions in
          let answer = (hears hash P own m r).answer in
          record {
            line = line found answer is heard_answer;
            made = made found answer is heard_answer (hears hash P own m r).client heard_stands ∙ sym (heard_makes hash P own m r);
            goes_on = goes found answer is heard_answer;
          }

      pub heard_telling : (n : ℕ) → n ≡ session_of r → IsCalledRole types P (find n m.sessions) called
          → OfAnswer types P called told (λ role answer. telling.line.items ≡ answer_line P names n role answer)
          → OfAnswer types P called told (λ role answer. (c : meant.Client) → Is c → telling.made ≡ state_if (makes_state role answer) (meant.state_of c n))
          → OfAnswer types P called told (λ role answer. telling.goes_on ≡ goes_behind answer)
          → IsTelling P names (told_of hash P own m r) (goes_behind (hears hash P own m r).answer) telling
      heard_telling n e =
          subst (λ n. IsCalledRole types P (find n m.sessions) called
          → OfAnswer types P called told (λ role answer. telling.line.items ≡ answer_line P names n role answer)
          → OfAnswer types P called told (λ role answer. (c : meant.Client) → Is c → telling.made ≡ state_if (makes_state role answer) (meant.state_of c n))
          → OfAnswer types P called told (λ role answer. telling.goes_on ≡ goes_behind answer)
          → IsTelling P names (told_of hash P own m r) (goes_behind (hears hash P own m r).answer) telling) (sym e) told_so

  pub heard_called : (types : List Ty) (called : Option CalledRole) (n : ℕ) → n ≡ session_of r → IsCalledRole types P (find n m.sessions) called
      → is_outcome told ≡ true → IsSome called
  heard_called types called n e is outcome =
      let memory = outcome_hears told outcome in
      outcome_called P types (find (session_of r) m.sessions) called (called_type P (find (session_of r) m.sessions)) (hears hash P own m r).answer told
      (subst (λ n. IsCalledRole types P (find n m.sessions) called) e is) (heard_answer memory) (heard_calls hash P own m r) outcome

-- fewer sessions wait where one waits no longer, and the others stand as before
pub fewer_wait : {A : Type 0} (old new : AskCore A) (m m' : meant.Client) → StandsFor old m → StandsFor new m' → (n : ℕ) → n < 65536
    → meant.waits m n ≡ true → meant.waits m' n ≡ false → ((k : ℕ) → (n ≡ k → ⊥) → find k m'.sessions ≡ find k m.sessions)
    → sessions_waiting new < sessions_waiting old
unfolding sessions_waiting
fewer_wait old new m m' is is' n l e f others =
    let seen : (k : ℕ) → waits_in (find k (rows_of old.sessions)) ≡ meant.waits m k = λ k. waits_seen (program_of old.code) old.closed (rows_of old.sessions) m is k in
    let seen' : (k : ℕ) → waits_in (find k (rows_of new.sessions)) ≡ meant.waits m' k = λ k. waits_seen (program_of new.code) new.closed (rows_of new.sessions) m' is' k in
    count_fewer 65536 (λ k. waits_in (find k (rows_of old.sessions))) (λ k. waits_in (find k (rows_of new.sessions))) n l (seen n ∙ e) (seen' n ∙ f)
    (λ k d. seen' k ∙ ap meant.is_waiting (others k d) ∙ sym (seen k))

-- the number of a reply's session
pub session_fits : (r : Reply) → message_fields.HasReplyFields r → session_of r < 65536
session_fits (message.Welcome session) h = h.fits
session_fits (message.Proof session frames) h = h.fits
session_fits (message.Stale session state) h = h.fits
session_fits (message.Refused session cause) h = h.0
session_fits (message.Closed session cause) h = h.0

-- WHAT COMES NEXT
module _ (hash : Hash) (P : Program) (names : ConstructorNames) (own : List ℕ) (Is : meant.Client → Type 0) (left' : Option (List ℕ)) (m : meant.Client)
    (ms : Messages Reply) (bytes : List ℕ) (are : ms ≡ messages reply_of bytes) where
  pub next_reply : (r : Reply) (rest : List ℕ) (telling : Telling) → read_reply bytes ≡ Got r rest → left' ≡ Some rest
      → IsTelling P names (told_of hash P own m r) (goes_behind (hears hash P own m r).answer) telling → Is (hears hash P own m r).client
      → IsNext hash P names own Is left' m ms telling
  next_reply r rest telling read left tells stands = record {
    deed = told_of hash P own m r;
    goes = goes_behind (hears hash P own m r).answer;
    later = (hears hash P own m r).client;
    coming = messages reply_of rest;
    takes = ap (take_one hash P own m) (are ∙ (messages_go_on bytes).1 ∙ ap (λ x. message.goes_on x (messages reply_of)) read);
    silent = refl;
    tells = tells;
    stands = λ e. stands;
    comes = λ e. record { bytes = rest; told = left; are = refl };
  }

  stops_so : (s : ReadStop) (st : Stop) → IsStop s st → ReadsMessage reply_meant read_reply bytes left' (Err s) → read_reply bytes ≡ message.Stops st
  stops_so stop.End st e h = h.0 ∙ ap (λ (x : Stop). let y : message.Read Reply = message.Stops x in y) (sym e)
  stops_so stop.Cut st e h = h.0 ∙ ap (λ (x : Stop). let y : message.Read Reply = message.Stops x in y) (sym e)
  stops_so (stop.TooLong len) st e h = h.0 ∙ ap (λ (x : Stop). let y : message.Read Reply = message.Stops x in y) (sym e)
  stops_so (stop.BadMessage kind offset) st e h = h.0 ∙ ap (λ (x : Stop). let y : message.Read Reply = message.Stops x in y) (sym e)
  stops_so stop.LinkFault st e h = absurd e
  stops_so stop.NoMemory st e h = absurd e

  pub next_stop : (s : ReadStop) (result : Result Telling PlayStop) → IsStopTold s result → ReadsMessage reply_meant read_reply bytes left' (Err s)
      → IfOk result (IsNext hash P names own Is left' m ms)
  next_stop s (Err h) told reads = tt
  next_stop s (Ok telling) told reads = record {
    deed = Stops told.0;
    goes = false;
    later = m;
    coming = NoMore told.0;
    takes = ap (take_one hash P own m) (are ∙ (messages_go_on bytes).1 ∙ ap (λ x. message.goes_on x (messages reply_of)) (stops_so s told.0 told.1 reads));
    silent = refl;
    tells = record { line = told.2; made = told.3; goes_on = told.4 };
    stands = λ e. absurd (cc);
    comes = λ e. absurd (cc);
  }
