-- A play comes of events of the client: for the law `plays_tell_truth`.
use Rattle.std.proofs.Common.{◌≡◌, ◌⊎◌, inl, inr, ℕ, Bool, true, false, List, [], ◌∷◌, ◌++◌, refl, sym, ap, ◌∙◌, subst, append_assoc}
use Rattle.std.specs.List.{All, AllByRecursion}
use Rattle.std.proofs.lemmas.List.Elements.{All-head, All-tail}
use Rattle.core_terms.specs.Formats.{Hash}
use Rattle.core_terms.specs.Terms.{Program}
use Rattle.session_meaning.specs.Client as client
use Rattle.session_meaning.specs.Client.{Answer, Client, Event, Taken, new_client, take_event, waits}
use Rattle.session_meaning.specs.ClientLaws.{HasBytes, ToldIsTrue}
use Rattle.session_meaning.specs.Messages.{Go, Messages, NoMore, Then, Reply}
use Rattle.session_meaning.proofs.FineServer.{all_more}
use Rattle.session_meaning.specs.Waiting.{some_calls, some_waits}
use Rattle.ask_script.specs.Scripts.{HasByteArgument, UserStep, Opens, Calls, Goes, Closes}
use Rattle.script_play.specs.PlayRuns.{DeedsFollow, IsOfNone, begin_with, client_behind, deed_of, heard_by, line_deed, replies_heard}
use Rattle.script_play.specs.PlayLaws.{PlaysTellTruth}
use Rattle.script_play.specs.Plays.{Deed, Sends, Stops, Play, asked_play, asks, behind, ends, goes_behind, hears, if_goes, if_waiting, lets_run, most_rounds, play, play_step, rests, take_replies, then_play, told_of}

-- what holds of all, holds of those behind some
all_behind : {A : Type 0} (Q : A → Type 0) (before behind : List A) → AllByRecursion Q (before ++ behind) → AllByRecursion Q behind
all_behind Q [] behind all = all
all_behind Q (x ∷ before) behind all = all_behind Q before behind all.1

-- messages that begin with replies, and then with others
begin_twice : (xs ys : List Reply) (ms : Messages Reply) → begin_with xs (begin_with ys ms) ≡ begin_with (xs ++ ys) ms
begin_twice [] ys ms = refl
begin_twice (x ∷ xs) ys ms = ap (λ more. Then x more) (begin_twice xs ys ms)

heard_more : (es fs : List Event) → replies_heard (es ++ fs) ≡ replies_heard es ++ replies_heard fs
heard_more [] fs = refl
heard_more (e ∷ es) fs = ap (λ more. heard_by e ++ more) (heard_more es fs) ∙ sym (append_assoc (heard_by e) (replies_heard es) (replies_heard fs))

module _ (hash : Hash) (P : Program) (own : List ℕ) where
  -- The deeds of a play come of events, which hear the replies that it takes and leave its client, and whose arguments are of bytes.
  record IsRun (c : Client) (came : Messages Reply) (p : Play) : Type 0 where
    events : List Event
    heard : came ≡ begin_with (replies_heard events) p.coming
    follows : DeedsFollow hash P own c p.deeds events p.client
    bytes : AllByRecursion HasBytes events

  -- deeds behind others
  follows_more : (c : Client) (a b : List Deed) (es fs : List Event) (mid last : Client) → DeedsFollow hash P own c a es mid → DeedsFollow hash P own mid b fs last
      → DeedsFollow hash P own c (a ++ b) (es ++ fs) last
  follows_more c [] b es fs mid last first then =
      subst (λ es. DeedsFollow hash P own c b (es ++ fs) last) (sym first.0) (subst (λ c. DeedsFollow hash P own c b fs last) first.1 then)
  follows_more c (d ∷ a) b es fs mid last (inl none) then = inl (none.0, follows_more c a b es fs mid last none.1 then)
  follows_more c (d ∷ a) b es fs mid last (inr one) then = inr (
    one.0,
    one.1 ++ fs,
    ap (λ es. es ++ fs) one.2,
    one.3,
    follows_more (take_event hash P own c one.0).client a b one.1 fs mid last one.4 then,
  )

  -- nothing is done
  rests_run : (c : Client) (ms : Messages Reply) → IsRun c ms (rests c ms)
  rests_run c ms = record { events = []; heard = refl; follows = (refl, refl); bytes = tt }

  ends_run : (c : Client) (ms : Messages Reply) → IsRun c ms (ends c ms)
  ends_run c ms = record { events = []; heard = refl; follows = (refl, refl); bytes = tt }

  goes_run : (goes : Bool) (c : Client) (ms : Messages Reply) (more : Client → Messages Reply → Play) → IsRun c ms (more c ms) → IsRun c ms (if_goes goes c ms more)
  goes_run true c ms more run = run
  goes_run false c ms more run = ends_run c ms

  -- a deed that comes of no event, and one that comes of an event, before a play
  none_run : (c : Client) (ms : Messages Reply) (d : Deed) (p : Play) → IsOfNone d → IsRun c ms p → IsRun c ms (behind (d ∷ []) p)
  none_run c ms d p none run = record { events = run.events; heard = run.heard; follows = inl (none, run.follows); bytes = run.bytes }

  event_run : (c : Client) (came ms : Messages Reply) (e : Event) (d : Deed) (p : Play) → came ≡ begin_with (heard_by e) ms → HasBytes e
      → d ≡ deed_of P c e (take_event hash P own c e).answer → IsRun (take_event hash P own c e).client ms p → IsRun c came (behind (d ∷ []) p)
  event_run c came ms e d p comes has is run = record {
    events = e ∷ run.events;
    heard = comes ∙ ap (begin_with (heard_by e)) run.heard ∙ begin_twice (heard_by e) (replies_heard run.events) p.coming;
    follows = inr (e, run.events, refl, is, run.follows);
    bytes = (has, run.bytes);
  }

  -- REPLIES

  replies_run : (waiting : Client → Bool) (ms : Messages Reply) (c : Client) → IsRun c ms (take_replies hash P own waiting c ms)
  replies_run waiting (NoMore stop) c = by (waiting c)
    where
      by : (w : Bool) → IsRun c (NoMore stop) (if_waiting w c (NoMore stop) (λ c. behind (Stops stop ∷ []) (ends c (NoMore stop))))
      by true = none_run c (NoMore stop) (Stops stop) (ends c (NoMore stop)) tt (ends_run c (NoMore stop))
      by false = rests_run c (NoMore stop)
  replies_run waiting (Then reply more) c = by (waiting c) (λ c. replies_run waiting more c)
    where
      heard : Taken
      heard = hears hash P own c reply

      by : (w : Bool) → ((c : Client) → IsRun c more (take_replies hash P own waiting c more)) → IsRun c (Then reply more) (if_waiting w c (Then reply more) (λ c. behind (told_of hash P own c reply ∷ [])
          (if_goes (goes_behind (hears hash P own c reply).answer) (hears hash P own c reply).client more (λ c ms. take_replies hash P own waiting c more))))
      by true later = event_run c (Then reply more) more (client.Hears reply) (told_of hash P own c reply) (if_goes (goes_behind heard.answer) heard.client more (λ c ms. take_replies hash P own waiting c more)) refl tt refl
          (goes_run (goes_behind heard.answer) heard.client more (λ c ms. take_replies hash P own waiting c more) (later heard.client))
      by false later = rests_run c (Then reply more)

  -- LINES

  -- what the client answers to a line is sent or told
  asks_run : (c : Client) (e : Event) (session : ℕ) (ms : Messages Reply) (more : Client → Messages Reply → Play) → begin_with (heard_by e) ms ≡ ms → HasBytes e
      → line_deed session (take_event hash P own c e).answer ≡ deed_of P c e (take_event hash P own c e).answer
      → IsRun (take_event hash P own c e).client ms (more (take_event hash P own c e).client ms)
      → IsRun c ms (asked_play (take_event hash P own c e) session ms more)
  asks_run c e session ms more hears has is run = by (take_event hash P own c e).answer is
    where
      later : Client
      later = (take_event hash P own c e).client

      told : (answer : Answer) → line_deed session answer ≡ deed_of P c e (take_event hash P own c e).answer
          → IsRun c ms (behind (line_deed session answer ∷ []) (if_goes (goes_behind answer) later ms rests))
      told answer is = event_run c ms ms e (line_deed session answer) (if_goes (goes_behind answer) later ms rests) (sym hears) has is (goes_run (goes_behind answer) later ms rests (rests_run later ms))

      by : (answer : Answer) → line_deed session answer ≡ deed_of P c e (take_event hash P own c e).answer → IsRun c ms (asks answer later session ms more)
      by (client.Sends request) is = event_run c ms ms e (Sends request) (more later ms) (sym hears) has is run
      by client.TellsWelcome is = told client.TellsWelcome is
      by client.TellsEnded is = told client.TellsEnded is
      by (client.Tells o) is = told (client.Tells o) is
      by (client.TellsStale state) is = told (client.TellsStale state) is
      by (client.TellsRefused cause) is = told (client.TellsRefused cause) is
      by (client.StateFault offset) is = told (client.StateFault offset) is
      by (client.ArgumentFault offset) is = told (client.ArgumentFault offset) is
      by client.OutOfTurn is = told client.OutOfTurn is
      by client.WantsMemory is = told client.WantsMemory is
      by (client.IsRejected number cause) is = told (client.IsRejected number cause) is
      by (client.IsStranger number) is = told (client.IsStranger number) is
      by (client.IsWrongReply kind) is = told (client.IsWrongReply kind) is
      by (client.HasFailed cause) is = told (client.HasFailed cause) is
      by (client.IsBroken kind) is = told (client.IsBroken kind) is
      by (client.IsClosed cause) is = told (client.IsClosed cause) is

  lets_run_so : (calls : Bool) (c : Client) (ms : Messages Reply) → IsRun c ms (lets_run hash P own calls c ms)
  lets_run_so true c ms = none_run c ms (Sends (Go most_rounds)) (take_replies hash P own some_waits c ms) tt (replies_run some_waits ms c)
  lets_run_so false c ms = replies_run some_waits ms c

  step_run : (state : List ℕ) (step : UserStep) (c : Client) (ms : Messages Reply) → HasByteArgument step → IsRun c ms (play_step hash P own state step c ms)
  step_run state (Opens session kept) c ms has =
      asks_run c (client.Hellos session kept state) session ms (take_replies hash P own (λ c. waits c session)) refl tt refl
      (replies_run (λ c. waits c session) ms (take_event hash P own c (client.Hellos session kept state)).client)
  step_run state (Calls session role fuel argument) c ms has =
      asks_run c (client.Calls session role fuel argument) session ms rests refl has refl (rests_run (take_event hash P own c (client.Calls session role fuel argument)).client ms)
  step_run state (Closes session) c ms has =
      asks_run c (client.Byes session) session ms (take_replies hash P own (λ c. waits c session)) refl tt refl
      (replies_run (λ c. waits c session) ms (take_event hash P own c (client.Byes session)).client)
  step_run state Goes c ms has = lets_run_so (some_calls c) c ms

  -- one play behind another
  then_run : (c : Client) (ms : Messages Reply) (p : Play) (more : Client → Messages Reply → Play) → IsRun c ms p → ((c : Client) (ms : Messages Reply) → IsRun c ms (more c ms))
      → IsRun c ms (then_play p more)
  then_run c ms p more first then =
      let next = if_goes p.goes_on p.client p.coming more in
      let run = goes_run p.goes_on p.client p.coming more (then p.client p.coming) in
      record {
        events = first.events ++ run.events;
        heard = first.heard ∙ ap (begin_with (replies_heard first.events)) run.heard ∙ begin_twice (replies_heard first.events) (replies_heard run.events) next.coming
            ∙ ap (λ replies. begin_with replies next.coming) (sym (heard_more first.events run.events));
        follows = follows_more c p.deeds next.deeds first.events run.events p.client next.client first.follows run.follows;
        bytes = all_more HasBytes first.events run.events first.bytes run.bytes;
      }

  play_run : (state : List ℕ) (steps : List UserStep) → All HasByteArgument steps → (c : Client) (ms : Messages Reply) → IsRun c ms (play hash P own state steps c ms)
  play_run state [] have c ms = rests_run c ms
  play_run state (step ∷ steps) have c ms =
      then_run c ms (play_step hash P own state step c ms) (play hash P own state steps) (step_run state step c ms (All-head HasByteArgument step steps have))
      (play_run state steps (All-tail HasByteArgument step steps have))

-- what the client of any events is told is true
pub plays_tell_truth : ToldIsTrue → PlaysTellTruth
plays_tell_truth told hash is_hash P format typed shaped own state steps have ms =
    let run = play_run hash P own state steps have new_client ms in
    record {
      events = run.events;
      heard = run.heard;
      client = (play hash P own state steps new_client ms).client;
      follows = run.follows;
      truth = λ before later is session known begins v ideal spelled.
          told hash is_hash P format typed shaped own (client_behind hash P own new_client before) session known begins v ideal spelled later
          (all_behind HasBytes before later (subst (AllByRecursion HasBytes) is run.bytes));
    }
