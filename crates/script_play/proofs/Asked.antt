-- What a line that asks does: for `ask`.
use Rattle.std.proofs.Common.{◌≡◌, ℕ, false, List, [], ◌∷◌, take, Option, Result, Ok, Err, refl, sym, ap, ◌∙◌, subst}
use Rattle.std.proofs.lemmas.List.{append-nil}
use Rattle.std.specs.Io.KnownBytes.{append_known}
use Rattle.core_terms.specs.Terms.{Program}
use Rattle.printed_syntax.specs.Literals.{ConstructorNames}
use Rattle.session_meaning.specs.Calls.{no_role}
use Rattle.session_meaning.specs.Client as meant
use Rattle.session_meaning.specs.Messages.{Messages, Reply, Request, request_bytes}
use Rattle.wire_form.specs.declared.message.Request.{Request as AskedRequest}
use Rattle.ask_core.specs.Answers.{Asks, fault_told}
use Rattle.ask_core.specs.Replies.{step_taken}
use Rattle.ask_core.specs.declared.told.AskFault.{AskFault}
use Rattle.ask_core.specs.declared.told.AskFault.TheVariants.{BadState, BadArgument, OutOfTurn, Rejected, Stranger, WrongReply, Failed, Broken, Closed, NoMemory as NoAskMemory}
use Rattle.script_play.specs.Plays.{Deed, Sends, Tells, Play, asked_play, asks, behind, goes_behind, if_goes, rests}
use Rattle.script_play.specs.Playing.{AreComing, BreaksOff, PlaysAs, World, done, world}
use Rattle.script_play.specs.PlayingInCode.{SendsRequest, ClientAnswers, IsAnswered, IsTelling, TellingIsTold, is_sending}
use Rattle.script_play.specs.declared.play_stop.PlayStop.{PlayStop}
use Rattle.script_play.specs.declared.play_stop.PlayStop.TheVariants.{Ended, LinkFault, WriteFault, NoMemory}
use Rattle.script_play.specs.declared.telling.Telling.{Telling}
use Rattle.lam_outside.proofs.Moved.{append_none}
use Rattle.script_play.proofs.Steps.{told_plays}
use Rattle.script_play.proofs.Worlds.{worlds_same}

module _ (P : Program) (names : ConstructorNames) where
  -- ONE REQUEST
  pub sent_world : (request : Request) (sent sent' written last : Option (List ℕ)) → sent' ≡ append_known sent (request_bytes request)
      → world sent' written last ≡ done P names (world sent written last) (Sends request ∷ [])
  sent_world request sent sent' written last e =
      worlds_same _ _ _ _ _ _ (e ∙ ap (append_known sent) (sym (append-nil (request_bytes request)))) (sym (append_none written)) refl

  pub sent_part : (request : Request) (more : List Deed) (sent sent' written last : Option (List ℕ)) (count : ℕ) → sent' ≡ append_known sent (take count (request_bytes request))
      → BreaksOff P names (world sent written last) (world sent' written last) (Sends request ∷ more)
  sent_part request more sent sent' written last count e = record {
    front = [];
    left = Sends request ∷ more;
    parted = refl;
    count = count;
    sent = e ∙ ap (λ (x : Option (List ℕ)). append_known x (take count (request_bytes request))) (sym (append_none sent));
    written = sym (append_none written);
    last = refl;
  }

  -- a request wasn't sent whole
  pub unsent_plays : (T : Type 0) (request : Request) (p : Play) (Is : meant.Client → Type 0) (left' : Option (List ℕ)) (sent sent' written last : Option (List ℕ)) (h : PlayStop)
      → SendsRequest request sent sent' (Err h)
      → PlaysAs P names {T = T} Is left' (world sent written last) (world sent' written last) (behind (Sends request ∷ []) p) (Err h)
  unsent_plays T request p Is left' sent sent' written last LinkFault s = sent_part request p.deeds sent sent' written last s.0 s.2
  unsent_plays T request p Is left' sent sent' written last NoMemory s = sent_part request p.deeds sent sent' written last s.0 s.1
  unsent_plays T request p Is left' sent sent' written last Ended s = absurd s
  unsent_plays T request p Is left' sent sent' written last WriteFault s = absurd s

  pub plays_err : (T U : Type 0) (Is Is' : meant.Client → Type 0) (left' left'' : Option (List ℕ)) (w w' : World) (p : Play) (h : PlayStop)
      → PlaysAs P names {T = T} Is left' w w' p (Err h) → PlaysAs P names {T = U} Is' left'' w w' p (Err h)
  plays_err T U Is Is' left' left'' w w' p Ended k = k
  plays_err T U Is Is' left' left'' w w' p LinkFault k = k
  plays_err T U Is Is' left' left'' w w' p NoMemory k = k
  plays_err T U Is Is' left' left'' w w' p WriteFault k = k

-- A LINE THAT ASKS
-- the answer to what is asked is a request, or none
pub asks_one : (answer : meant.Answer) (request : Request) (c : meant.Client) (session : ℕ) (ms : Messages Reply) (more : meant.Client → Messages Reply → Play)
    → answer ≡ meant.Sends request → asks answer c session ms more ≡ behind (Sends request ∷ []) (more c ms)
asks_one answer request c session ms more e = ap (λ a. asks a c session ms more) e

pub asks_none : (fault : AskFault) (answer : meant.Answer) (c : meant.Client) (session : ℕ) (ms : Messages Reply) (more : meant.Client → Messages Reply → Play)
    → answer ≡ fault_told fault
    → asks answer c session ms more ≡ behind (Tells session no_role (fault_told fault) ∷ []) (if_goes (goes_behind (fault_told fault)) c ms rests)
asks_none fault answer c session ms more e = ap (λ a. asks a c session ms more) e ∙ by fault
  where
    by : (f : AskFault) → asks (fault_told f) c session ms more ≡ behind (Tells session no_role (fault_told f) ∷ []) (if_goes (goes_behind (fault_told f)) c ms rests)
    by (BadState offset) = refl
    by (BadArgument offset) = refl
    by OutOfTurn = refl
    by (Rejected number cause) = refl
    by (Stranger number) = refl
    by (WrongReply kind) = refl
    by (Failed cause) = refl
    by (Broken kind) = refl
    by (Closed cause) = refl
    by NoAskMemory = refl

module _ (P : Program) (names : ConstructorNames) (session : ℕ) (t : meant.Taken) (ms : Messages Reply) (left' : Option (List ℕ)) (sent sent' : Option (List ℕ)) where
  pub asked_unsent : (T : Type 0) (written last : Option (List ℕ)) (request : Request) (h : PlayStop) → t.answer ≡ meant.Sends request → SendsRequest request sent sent' (Err h)
      → PlaysAs P names {T = T} (λ c. c ≡ t.client) left' (world sent written last) (world sent' written last) (asked_play t session ms rests) (Err h)
  asked_unsent T written last request h e is =
      subst (λ q. PlaysAs P names {T = T} (λ c. c ≡ t.client) left' (world sent written last) (world sent' written last) q (Err h))
      (sym (asks_one t.answer request t.client session ms rests e))
      (unsent_plays P names T request (rests t.client ms) (λ c. c ≡ t.client) left' sent sent' written last h is)

  pub asked_told : (written written' last last' : Option (List ℕ)) (fault : AskFault) (telling : Telling) → t.answer ≡ fault_told fault
      → IsTelling P names (Tells session no_role (fault_told fault)) (goes_behind (fault_told fault)) telling → AreComing left' ms
      → (r : Result (Unit {0}) PlayStop) → TellingIsTold telling written written' last last' r
      → PlaysAs P names (λ c. c ≡ t.client) left' (world sent written last) (world sent written' last') (asked_play t session ms rests) r
  asked_told written written' last last' fault telling e tells comes r told =
      subst (λ q. PlaysAs P names (λ c. c ≡ t.client) left' (world sent written last) (world sent written' last') q r)
      (sym (asks_none fault t.answer t.client session ms rests e))
      (told_plays P names (Tells session no_role (fault_told fault)) (goes_behind (fault_told fault)) telling refl tells sent written written' last last'
      (λ c. c ≡ t.client) left' t.client ms (λ g. refl) (λ g. comes) r told)

-- what the client of the core answers
module _ (Is : meant.Client → Type 0) (c : meant.Client) (t : meant.Taken) where
  refused_so : (fault : AskFault) → t ≡ meant.same_step c (fault_told fault) → Is c → (t.answer ≡ fault_told fault) × Is t.client
  refused_so fault e is = subst (λ u. (u.answer ≡ fault_told fault) × Is u.client) (sym e) (refl, is)

  pub asks_answers : (r : Result AskedRequest AskFault) → Asks Is c t r → ClientAnswers Is t r
  asks_answers (Ok request) h = h
  asks_answers (Err NoAskMemory) h = tt
  asks_answers (Err (BadState offset)) h = refused_so (BadState offset) h.0 h.1
  asks_answers (Err (BadArgument offset)) h = refused_so (BadArgument offset) h.0 h.1
  asks_answers (Err OutOfTurn) h = refused_so OutOfTurn h.0 h.1
  asks_answers (Err (Rejected session cause)) h = refused_so (Rejected session cause) h.0 h.1
  asks_answers (Err (Stranger session)) h = refused_so (Stranger session) h.0 h.1
  asks_answers (Err (WrongReply kind)) h = refused_so (WrongReply kind) h.0 h.1
  asks_answers (Err (Failed cause)) h = refused_so (Failed cause) h.0 h.1
  asks_answers (Err (Broken kind)) h = refused_so (Broken kind) h.0 h.1
  asks_answers (Err (Closed cause)) h = refused_so (Closed cause) h.0 h.1

  pub answers_any : (r : Result AskedRequest AskFault) → ClientAnswers Is t r → ClientAnswers (λ c. Unit {0}) t r
  answers_any (Ok request) h = (h.0, tt)
  answers_any (Err NoAskMemory) h = tt
  answers_any (Err (BadState offset)) h = (h.0, tt)
  answers_any (Err (BadArgument offset)) h = (h.0, tt)
  answers_any (Err OutOfTurn) h = (h.0, tt)
  answers_any (Err (Rejected session cause)) h = (h.0, tt)
  answers_any (Err (Stranger session)) h = (h.0, tt)
  answers_any (Err (WrongReply kind)) h = (h.0, tt)
  answers_any (Err (Failed cause)) h = (h.0, tt)
  answers_any (Err (Broken kind)) h = (h.0, tt)
  answers_any (Err (Closed cause)) h = (h.0, tt)

  -- what is answered, but want of memory, leaves a client
  pub answered_stands : (r : Result AskedRequest AskFault) → IsAnswered r → ClientAnswers Is t r → Is t.client
  answered_stands (Ok request) k h = h.1
  answered_stands (Err NoAskMemory) k h = absurd k
  answered_stands (Err (BadState offset)) k h = h.1
  answered_stands (Err (BadArgument offset)) k h = h.1
  answered_stands (Err OutOfTurn) k h = h.1
  answered_stands (Err (Rejected session cause)) k h = h.1
  answered_stands (Err (Stranger session)) k h = h.1
  answered_stands (Err (WrongReply kind)) k h = h.1
  answered_stands (Err (Failed cause)) k h = h.1
  answered_stands (Err (Broken kind)) k h = h.1
  answered_stands (Err (Closed cause)) k h = h.1

  pub is_answered : (fault : AskFault) → ((hears forgets : meant.Taken) → step_taken hears forgets (Err fault) ≡ hears) → IsAnswered (Err fault)
  is_answered NoAskMemory other =
      let e : meant.OutOfTurn ≡ meant.WantsMemory = ap (λ (u : meant.Taken). u.answer) (other (meant.same_step c meant.WantsMemory) (meant.same_step c meant.OutOfTurn)) in
      absurd (cc)
  is_answered (BadState offset) other = tt
  is_answered (BadArgument offset) other = tt
  is_answered OutOfTurn other = tt
  is_answered (Rejected session cause) other = tt
  is_answered (Stranger session) other = tt
  is_answered (WrongReply kind) other = tt
  is_answered (Failed cause) other = tt
  is_answered (Broken kind) other = tt
  is_answered (Closed cause) other = tt

  -- a fault is answered so, but want of memory
  pub fault_answered : (fault : AskFault) → ((hears forgets : meant.Taken) → step_taken hears forgets (Err fault) ≡ hears) → ClientAnswers Is t (Err fault) → (t.answer ≡ fault_told fault) × Is t.client
  fault_answered NoAskMemory other h =
      let e : meant.OutOfTurn ≡ meant.WantsMemory = ap (λ (u : meant.Taken). u.answer) (other (meant.same_step c meant.WantsMemory) (meant.same_step c meant.OutOfTurn)) in
      absurd (cc)
  fault_answered (BadState offset) other h = h
  fault_answered (BadArgument offset) other h = h
  fault_answered OutOfTurn other h = h
  fault_answered (Rejected session cause) other h = h
  fault_answered (Stranger session) other h = h
  fault_answered (WrongReply kind) other h = h
  fault_answered (Failed cause) other h = h
  fault_answered (Broken kind) other h = h
  fault_answered (Closed cause) other h = h

-- what is coming on a link that moved nothing
pub still_coming : (left left' : Option (List ℕ)) (ms : Messages Reply) → left' ≡ left → AreComing left ms → AreComing left' ms
still_coming left left' ms e comes = record { bytes = comes.bytes; told = e ∙ comes.told; are = comes.are }

-- a fault's answer sends nothing
pub fault_sends : (fault : AskFault) → is_sending (fault_told fault) ≡ false
fault_sends (BadState offset) = refl
fault_sends (BadArgument offset) = refl
fault_sends OutOfTurn = refl
fault_sends (Rejected session cause) = refl
fault_sends (Stranger session) = refl
fault_sends (WrongReply kind) = refl
fault_sends (Failed cause) = refl
fault_sends (Broken kind) = refl
fault_sends (Closed cause) = refl
fault_sends NoAskMemory = refl
