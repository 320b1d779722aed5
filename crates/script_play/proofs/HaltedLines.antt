-- What a line that asks does on the bytes that came, and where the link kept its request from being sent: for the clauses `halts` and `prompt` of
-- `ask`, `ask_and_wait`, `let_run`, `play_step`.
use Rattle.std.proofs.Common.{◌≡◌, ℕ, Bool, true, false, List, [], ◌∷◌, ◌++◌, take, Option, Some, Result, Ok, Err, refl, sym, ap, ◌∙◌, subst}
use Rattle.std.specs.Io.KnownBytes.{append_known}
use Rattle.lam_outside.proofs.Moved.{append_none}
use Rattle.lam_outside.specs.Moments.{Moment}
use Rattle.lam_outside.specs.LinkSteps.{AtEachRead}
use Rattle.core_terms.specs.Formats.{Hash}
use Rattle.core_terms.specs.Terms.{Program}
use Rattle.printed_syntax.specs.Literals.{ConstructorNames}
use Rattle.session_meaning.specs.Calls.{no_role}
use Rattle.session_meaning.specs.Client as meant
use Rattle.session_meaning.specs.Messages.{Go, Messages, Reply, Request, messages, reply_of, request_bytes}
use Rattle.session_meaning.specs.Waiting.{some_waits}
use Rattle.script_play.specs.Halting.{HaltsAt}
use Rattle.script_play.specs.HaltingInCode.{OnLinkFault, PlaysTo, TakesSoFar}
use Rattle.script_play.specs.Playing.{FailsAtLine, PlaysAs, World, done, world}
use Rattle.script_play.specs.PlayingInCode.{SendsRequest, is_sending}
use Rattle.script_play.specs.Plays.{Deed, Play, Sends, Tells, asked_play, asks, behind, goes_behind, if_goes, lets_run, most_rounds, rests, take_replies, then_play}
use Rattle.script_play.specs.Prompt.{IsPromptOn}
use Rattle.script_play.specs.declared.play_stop.PlayStop.{PlayStop}
use Rattle.script_play.specs.declared.play_stop.PlayStop.TheVariants.{LinkFault, WriteFault}
use Rattle.script_play.proofs.Awaited.{reads_behind}
use Rattle.script_play.proofs.Halted.{halts_before, plays_to_behind}
use Rattle.script_play.proofs.LeastTaken.{no_last}
use Rattle.script_play.proofs.Worlds.{fails_as, fails_before}

-- WHAT IS ASKED, WHATEVER COMES
module _ (answer : meant.Answer) (c : meant.Client) (session : ℕ) (ms ms' : Messages Reply) (more : meant.Client → Messages Reply → Play) where
  asks_any : is_sending answer ≡ true → asks answer c session ms' more ≡ behind (asks answer c session ms rests).deeds (more c ms')
  asks_any e = by answer e
    where
      by : (answer : meant.Answer) → is_sending answer ≡ true → asks answer c session ms' more ≡ behind (asks answer c session ms rests).deeds (more c ms')
      by (meant.Sends request) e = refl
      by answer e = absurd (cc)

  asks_not : is_sending answer ≡ false → (asks answer c session ms rests).goes_on ≡ true → asks answer c session ms' more ≡ behind (asks answer c session ms rests).deeds (rests c ms')
  asks_not e on = by answer e on
    where
      goes : (d : Deed) (b : Bool) → (if_goes b c ms rests).goes_on ≡ true → behind (d ∷ []) (if_goes b c ms' rests) ≡ behind (d ∷ (if_goes b c ms rests).deeds) (rests c ms')
      goes d true on = refl
      goes d false on = absurd (cc)

      by : (answer : meant.Answer) → is_sending answer ≡ false → (asks answer c session ms rests).goes_on ≡ true
          → asks answer c session ms' more ≡ behind (asks answer c session ms rests).deeds (rests c ms')
      by (meant.Sends request) e on = absurd (cc)
      by answer e on = goes (Tells session no_role answer) (goes_behind answer) on

asks_goes : (answer : meant.Answer) (c : meant.Client) (session : ℕ) (ms ms' : Messages Reply) → (asks answer c session ms rests).goes_on ≡ true
    → asks answer c session ms' rests ≡ behind (asks answer c session ms rests).deeds (rests c ms')
asks_goes answer c session ms ms' on = by (is_sending answer) refl
  where
    by : (b : Bool) → is_sending answer ≡ b → asks answer c session ms' rests ≡ behind (asks answer c session ms rests).deeds (rests c ms')
    by true e = asks_any answer c session ms ms' rests e
    by false e = asks_not answer c session ms ms' rests e on

-- what is told in a request's place, whatever comes
asks_deeds : (answer : meant.Answer) (c : meant.Client) (session : ℕ) (ms ms' : Messages Reply) → (asks answer c session ms rests).deeds ≡ (asks answer c session ms' rests).deeds
asks_deeds answer c session ms ms' = by answer
  where
    goes : (d : Deed) (b : Bool) → d ∷ (if_goes b c ms rests).deeds ≡ d ∷ (if_goes b c ms' rests).deeds
    goes d true = refl
    goes d false = refl

    by : (answer : meant.Answer) → (asks answer c session ms rests).deeds ≡ (asks answer c session ms' rests).deeds
    by (meant.Sends request) = refl
    by answer = goes (Tells session no_role answer) (goes_behind answer)

-- what is so of what is told in a request's place, or of the request, is so with replies behind it
line_before : (answer : meant.Answer) (c : meant.Client) (session : ℕ) (more : meant.Client → Messages Reply → Play) (Q : List Deed → Type 0)
    → ((deeds more : List Deed) → Q deeds → Q (deeds ++ more)) → Q (asks answer c session (messages reply_of []) rests).deeds → Q (asks answer c session (messages reply_of []) more).deeds
line_before answer c session more Q before = by answer
  where
    none : Messages Reply
    none = messages reply_of []

    by : (answer : meant.Answer) → Q (asks answer c session none rests).deeds → Q (asks answer c session none more).deeds
    by (meant.Sends request) h = before (Sends request ∷ []) (more c none).deeds h
    by answer h = h

module _ (P : Program) (names : ConstructorNames) where
  -- A REQUEST THAT WASN'T SENT WHOLE
  unsent_halts : (request : Request) (more : List Deed) (sent sent' written last : Option (List ℕ)) → SendsRequest request sent sent' (Err LinkFault)
      → HaltsAt P names (world sent written last) (world sent' written last) (Sends request ∷ more)
  unsent_halts request more sent sent' written last s = record {
    front = [];
    next = Sends request;
    left = more;
    parted = refl;
    count = s.0;
    unmet = s.1;
    sent = s.2 ∙ ap (λ (x : Option (List ℕ)). append_known x (take s.0 (request_bytes request))) (sym (append_none sent));
    written = sym (append_none written);
    last = refl;
  }

  pub request_halts : (T : Type 0) (answer : meant.Answer) (c : meant.Client) (session : ℕ) (ms : Messages Reply) (request : Request) (sent sent' written last : Option (List ℕ)) (halt : PlayStop)
      → answer ≡ meant.Sends request → SendsRequest request sent sent' (Err halt)
      → OnLinkFault {T = T} (Err halt) (HaltsAt P names (world sent written last) (world sent' written last) (asks answer c session ms rests).deeds)
  request_halts T answer c session ms request sent sent' written last LinkFault is s =
      subst (λ answer. HaltsAt P names (world sent written last) (world sent' written last) (asks answer c session ms rests).deeds) (sym is)
      (unsent_halts request [] sent sent' written last s)
  request_halts T answer c session ms request sent sent' written last halt is s = tt

  -- A LINE
  module _ (t : meant.Taken) (session : ℕ) (bytes : List ℕ) (left' : Option (List ℕ)) (told : left' ≡ Some bytes) (Is : meant.Client → Type 0) where
    -- its request, or what is told in its place, and the replies behind it, are broken off
    pub line_halts : (more : meant.Client → Messages Reply → Play) (w w1 : World) (halt : PlayStop)
        → OnLinkFault {T = Bool} (Err halt) (HaltsAt P names w w1 (asked_play t session (messages reply_of []) rests).deeds)
        → PlaysAs P names {T = Bool} (λ c. c ≡ t.client) left' w w1 (asked_play t session (messages reply_of bytes) rests) (Err halt)
        → PlaysTo P names {T = Unit {0}} Is bytes left' w w1 (λ ms. asked_play t session ms more) (Err halt)
    line_halts more w w1 LinkFault h plays = record {
      taken = [];
      rest = bytes;
      parted = refl;
      left = told;
      halts = line_before t.answer t.client session more (HaltsAt P names w w1) (halts_before P names w w1) h;
    }
    line_halts more w w1 WriteFault h fails = record {
      taken = [];
      rest = bytes;
      parted = refl;
      left = told;
      fails = record {
        fails = line_before t.answer t.client session more (FailsAtLine P names w w1) (fails_before P names w w1)
            (fails_as P names w w1 (asked_play t session (messages reply_of bytes) rests).deeds (asked_play t session (messages reply_of []) rests).deeds
            (asks_deeds t.answer t.client session (messages reply_of []) (messages reply_of bytes)) fails);
        least = λ before last is. absurd (no_last before last is);
      };
    }
    line_halts more w w1 halt h plays = tt

    -- nothing is sent, or no reply is waited for, and the script goes on
    module _ (w w1 : World) (ms : Messages Reply) (goes : (asked_play t session ms rests).goes_on ≡ true) (worlds : w1 ≡ done P names w (asked_play t session ms rests).deeds) (stands : Is t.client) where
      line_done : (plays : Messages Reply → Play) → ((ms' : Messages Reply) → plays ms' ≡ behind (asked_play t session ms rests).deeds (rests t.client ms'))
          → TakesSoFar P names Is bytes left' w w1 plays rests
      line_done plays e = record {
        taken = [];
        rest = bytes;
        parted = refl;
        left = told;
        deeds = (asked_play t session ms rests).deeds;
        client = t.client;
        stands = stands;
        worlds = worlds;
        plays_on = λ x. e (messages reply_of x);
        least = λ before last is. absurd (no_last before last is);
      }

      pub line_alone : TakesSoFar P names Is bytes left' w w1 (λ ms. asked_play t session ms rests) rests
      line_alone = line_done (λ ms. asked_play t session ms rests) (λ ms'. asks_goes t.answer t.client session ms ms' goes)

      pub line_told : (more : meant.Client → Messages Reply → Play) → is_sending t.answer ≡ false → TakesSoFar P names Is bytes left' w w1 (λ ms. asked_play t session ms more) rests
      line_told more e = line_done (λ ms. asked_play t session ms more) (λ ms'. asks_not t.answer t.client session ms ms' more e goes)

  -- its request was sent, and more is played behind it
  pub line_more : (t : meant.Taken) (session : ℕ) (ms : Messages Reply) (more : meant.Client → Messages Reply → Play) (w w1 w2 : World) → is_sending t.answer ≡ true
      → w1 ≡ done P names w (asked_play t session ms rests).deeds → (Is : meant.Client → Type 0) (bytes : List ℕ) (left' : Option (List ℕ)) (r : Result (Unit {0}) PlayStop)
      → PlaysTo P names Is bytes left' w1 w2 (more t.client) r → PlaysTo P names Is bytes left' w w2 (λ ms. asked_play t session ms more) r
  line_more t session ms more w w1 w2 sends first Is bytes left' r plays =
      plays_to_behind P names w w1 w2 (asked_play t session ms rests).deeds first (λ ms. asked_play t session ms more) (more t.client)
      (λ ms'. asks_any t.answer t.client session ms ms' more sends) Is bytes left' r plays

  pub line_prompt : (t : meant.Taken) (session : ℕ) (ms : Messages Reply) (more : meant.Client → Messages Reply → Play) (w w1 : World) → is_sending t.answer ≡ true
      → w1 ≡ done P names w (asked_play t session ms rests).deeds → (bytes : List ℕ) (reads reads1 reads2 : Option (List Moment)) → reads1 ≡ reads
      → AtEachRead (IsPromptOn bytes w1.sent (more t.client)) reads1 reads2 → AtEachRead (IsPromptOn bytes w.sent (λ ms. asked_play t session ms more)) reads reads2
  line_prompt t session ms more w w1 sends first bytes reads reads1 reads2 same prompt =
      reads_behind P names w w1 (asked_play t session ms rests).deeds first (λ ms. asked_play t session ms more) (more t.client)
      (λ ms'. asks_any t.answer t.client session ms ms' more sends) bytes reads reads1 reads2 same prompt

  -- THE CALLS RUN
  module _ (hash : Hash) (own : List ℕ) (c : meant.Client) (calls : Bool) (some : calls ≡ true) (sent sent' written last : Option (List ℕ)) (Is : meant.Client → Type 0)
      (bytes : List ℕ) (left' : Option (List ℕ)) where
    run_is : (ms : Messages Reply) → lets_run hash P own calls c ms ≡ behind (Sends (Go most_rounds) ∷ []) (take_replies hash P own some_waits c ms)
    run_is ms = ap (λ b. lets_run hash P own b c ms) some

    pub run_halts : left' ≡ Some bytes → (halt : PlayStop) → SendsRequest (Go most_rounds) sent sent' (Err halt)
        → PlaysTo P names {T = Unit {0}} Is bytes left' (world sent written last) (world sent' written last) (lets_run hash P own calls c) (Err halt)
    run_halts told LinkFault s = record {
      taken = [];
      rest = bytes;
      parted = refl;
      left = told;
      halts = subst (λ (p : Play). HaltsAt P names (world sent written last) (world sent' written last) p.deeds) (sym (run_is (messages reply_of [])))
          (unsent_halts (Go most_rounds) (take_replies hash P own some_waits c (messages reply_of [])).deeds sent sent' written last s);
    }
    run_halts told WriteFault s = absurd s
    run_halts told halt s = tt

    pub run_more : world sent' written last ≡ done P names (world sent written last) (Sends (Go most_rounds) ∷ []) → (w2 : World) (r : Result (Unit {0}) PlayStop)
        → PlaysTo P names Is bytes left' (world sent' written last) w2 (take_replies hash P own some_waits c) r
        → PlaysTo P names Is bytes left' (world sent written last) w2 (lets_run hash P own calls c) r
    run_more first w2 r plays =
        plays_to_behind P names (world sent written last) (world sent' written last) w2 (Sends (Go most_rounds) ∷ []) first (lets_run hash P own calls c)
        (take_replies hash P own some_waits c) run_is Is bytes left' r plays

    pub run_prompt : world sent' written last ≡ done P names (world sent written last) (Sends (Go most_rounds) ∷ []) → (reads reads1 reads2 : Option (List Moment)) → reads1 ≡ reads
        → AtEachRead (IsPromptOn bytes sent' (take_replies hash P own some_waits c)) reads1 reads2 → AtEachRead (IsPromptOn bytes sent (lets_run hash P own calls c)) reads reads2
    run_prompt first reads reads1 reads2 same prompt =
        reads_behind P names (world sent written last) (world sent' written last) (Sends (Go most_rounds) ∷ []) first (lets_run hash P own calls c)
        (take_replies hash P own some_waits c) run_is bytes reads reads1 reads2 same prompt
