-- What a core makes of a reply is what the client of the definitions makes of it: `take_reply`
use Rattle.std.proofs.Common.{◌≡◌, ℕ, List, Option, Some, None, Result, Err, refl, sym, ap, ◌∙◌, subst}
use Rattle.core_terms.specs.Formats.{Hash}
use Rattle.core_terms.specs.Terms.{Program}
use Rattle.session_meaning.specs.Client as meant
use Rattle.session_meaning.specs.Messages as message
use Rattle.session_meaning.specs.Tables.{Numbered, find, put, remove}
use Rattle.session_tables.specs.Related.{AreRows, AreSame}
use Rattle.session_tables.proofs.Related.{find_related, put_related, remove_related}
use Rattle.ask_core.specs.Answers.{fault_told}
use Rattle.ask_core.specs.Clients.{IsClient, Stands}
use Rattle.ask_core.specs.Replies.{StepFollows, IsAnswer, IsReplied, ClientTakes, called_type, step_taken, step_to}
use Rattle.ask_core.specs.Turns.{reply_refused}
use Rattle.ask_core.specs.declared.replied.Replied.{Replied}
use Rattle.ask_core.specs.declared.standing.Standing.{Standing}
use Rattle.ask_core.specs.declared.standing.Standing.TheVariants.{Greeting, Idle, Calling, Leaving, FailedBy, BrokenBy}
use Rattle.ask_core.specs.declared.told.AskFault.{AskFault}
use Rattle.ask_core.specs.declared.told.AskFault.TheVariants.{Stranger, Failed, Broken, NoMemory}
use Rattle.ask_core.specs.declared.told.Told.{Told}

some_of : {A : Type 0} (a b : A) → Some a ≡ Some b → a ≡ b
some_of a b e = cc

-- the rows behind a session that stands so, or is absent
abbrev pub rows_to : ℕ → Option Standing → List (Numbered Standing) → List (Numbered Standing)
rows_to n (Some standing) rows = put n standing rows
rows_to n None rows = remove n rows

module _ (hash : Hash) (P : Program) (own : List ℕ) (closed : Option ℕ) (rows : List (Numbered Standing)) (c : meant.Client) (is : IsClient P closed rows c) (reply : message.Reply) where
  abbrev n : ℕ
  n = message.session_of reply

  abbrev hears : meant.Taken
  hears = meant.take_event hash P own c (meant.Hears reply)

  abbrev forgets : meant.Taken
  forgets = meant.take_event hash P own c (meant.Forgets n)

  abbrev TakesTo : Option ℕ → List (Numbered Standing) → Result Told AskFault → Type 0
  TakesTo closed later told = ClientTakes (IsClient P closed later) P c reply hears forgets told

  -- memory is wanted for no reply for all sessions
  abbrev WantsForOne : Result Told AskFault → Type 0
  WantsForOne told = told ≡ Err NoMemory → meant.cause_for_all reply ≡ None

  -- an answer that is no want of memory
  answered : (closed : Option ℕ) (later : List (Numbered Standing)) (told : Result Told AskFault) (t : meant.Taken) → hears ≡ t
      → ((hears forgets : meant.Taken) → step_taken hears forgets told ≡ hears) → IsAnswer P (called_type P (find n c.sessions)) t.answer told
      → IsClient P closed later t.client → WantsForOne told → TakesTo closed later told
  answered closed later told t e memory tells client wants =
      subst (λ (t : meant.Taken). IsAnswer P (called_type P (find n c.sessions)) t.answer told × IsClient P closed later t.client × WantsForOne told)
      (sym (memory hears forgets ∙ e)) (tells, client, wants)

  open_step : closed ≡ None → (event : meant.Event) → meant.take_event hash P own c event ≡ meant.event_step hash P own c event
  open_step open_now event = ap (λ o. meant.closed_step hash P own o c event) (is.closed_is ∙ open_now)

  -- A REPLY TO A SESSION
  module _ (open_now : closed ≡ None) (to_one : meant.cause_for_all reply ≡ None) where
    hears_is : hears ≡ meant.reply_step hash P (find n c.sessions) c n reply
    hears_is = open_step open_now (meant.Hears reply) ∙ ap (λ o. meant.heard_step hash P o c reply) to_one

    found : AreSame (Stands P) (find n rows) (find n c.sessions)
    found = find_related (Stands P) n rows c.sessions is.sessions

    -- none is waited for
    same : (fault : AskFault) → hears ≡ meant.same_step c (fault_told fault)
        → ((hears forgets : meant.Taken) → step_taken hears forgets (Err fault) ≡ hears) → TakesTo closed rows (Err fault)
    same fault e memory = answered closed rows (Err fault) (meant.same_step c (fault_told fault)) e memory refl is (λ wants. to_one)

    refused_here : (fault : AskFault) → reply_refused n (find n rows) ≡ Some fault → TakesTo closed rows (Err fault)
    refused_here fault q = by (find n rows) (find n c.sessions) found hears_is q
      where
        by : (s : Option Standing) (m : Option meant.Standing) → AreSame (Stands P) s m → hears ≡ meant.reply_step hash P m c n reply → reply_refused n s ≡ Some fault
            → TakesTo closed rows (Err fault)
        by None None r e q =
            subst (λ fault. TakesTo closed rows (Err fault)) (some_of (Stranger n) fault q) (same (Stranger n) e (λ h f. refl))
        by (Some (Idle known)) (Some (meant.Idle k)) r e q =
            subst (λ fault. TakesTo closed rows (Err fault)) (some_of (Stranger n) fault q) (same (Stranger n) e (λ h f. refl))
        by (Some (FailedBy cause)) (Some (meant.FailedBy d)) r e q =
            subst (λ fault. TakesTo closed rows (Err fault)) (some_of (Failed cause) fault q)
            (same (Failed cause) (e ∙ ap (λ x. meant.same_step c (meant.HasFailed x)) r) (λ h f. refl))
        by (Some (BrokenBy kind)) (Some (meant.BrokenBy k)) r e q =
            subst (λ fault. TakesTo closed rows (Err fault)) (some_of (Broken kind) fault q)
            (same (Broken kind) (e ∙ ap (λ x. meant.same_step c (meant.IsBroken x)) r) (λ h f. refl))
        by (Some (Greeting known)) m r e q = absurd (cc)
        by (Some (Calling known asked)) m r e q = absurd (cc)
        by (Some (Leaving known)) m r e q = absurd (cc)
        by s m r e q = elim r [ ]

    pub refused : (session : ℕ) → session ≡ n → (later : List (Numbered Standing)) → later ≡ rows → (fault : AskFault)
        → reply_refused session (find session rows) ≡ Some fault → TakesTo closed later (Err fault)
    refused session is_session later e fault q =
        subst (λ rows. TakesTo closed rows (Err fault)) (sym e)
        (refused_here fault (subst (λ n. reply_refused n (find n rows) ≡ Some fault) is_session q))

    -- for want of memory the session is forgotten
    pub forgotten : (session : ℕ) → session ≡ n → (later : List (Numbered Standing)) → later ≡ remove session rows → TakesTo closed later (Err NoMemory)
    forgotten session is_session later removed =
        let e = removed ∙ ap (λ n. remove n rows) is_session in
        subst (λ (t : meant.Taken). IsAnswer P (called_type P (find n c.sessions)) t.answer (Err NoMemory) × IsClient P closed later t.client × WantsForOne (Err NoMemory))
        (sym (open_step open_now (meant.Forgets n))) (
          refl,
          record {
            closed_is = is.closed_is;
            sessions = subst (λ r. AreRows (Stands P) r (remove n c.sessions)) (sym e) (remove_related (Stands P) n rows c.sessions is.sessions);
          },
          (λ wants. to_one),
        )

    -- the session that waits, in the definitions
    waits_as : (standing : Standing) → find n rows ≡ Some standing → (m : meant.Standing) × (find n c.sessions ≡ Some m) × Stands P standing m
    waits_as standing e = by (find n c.sessions) refl (subst (λ s. AreSame (Stands P) s (find n c.sessions)) e found)
      where
        by : (m : Option meant.Standing) → find n c.sessions ≡ m → AreSame (Stands P) (Some standing) m → (m : meant.Standing) × (find n c.sessions ≡ Some m) × Stands P standing m
        by (Some m) e r = (m, e, r)
        by None e r = absurd r

    client_to : (s : Option Standing) (m : Option meant.Standing) (answer : meant.Answer) (later : List (Numbered Standing)) → AreSame (Stands P) s m → later ≡ rows_to n s rows
        → IsClient P closed later (step_to c n m answer).client
    client_to (Some s) (Some m) answer later r e = record {
      closed_is = is.closed_is;
      sessions = subst (λ rs. AreRows (Stands P) rs (put n m c.sessions)) (sym e) (put_related (Stands P) n s m rows c.sessions r is.sessions);
    }
    client_to None None answer later r e = record {
      closed_is = is.closed_is;
      sessions = subst (λ rs. AreRows (Stands P) rs (remove n c.sessions)) (sym e) (remove_related (Stands P) n rows c.sessions is.sessions);
    }
    client_to (Some s) None answer later r e = absurd r
    client_to None (Some m) answer later r e = absurd r

    answer_of : (m : Option meant.Standing) (answer : meant.Answer) → (step_to c n m answer).answer ≡ answer
    answer_of (Some m) answer = refl
    answer_of None answer = refl

    -- what follows for a session that waits
    taken : (standing : Standing) (replied : Replied) (later : List (Numbered Standing)) → find n rows ≡ Some standing → IsReplied hash P standing reply replied
        → later ≡ rows_to n replied.standing rows → TakesTo closed later replied.told
    taken standing replied later e follows later_is =
        let m = waits_as standing e in
        let f : StepFollows hash P m.0 c reply replied = follows c m.0 m.2 in
        answered closed later replied.told (step_to c n f.standing f.answer)
        (hears_is ∙ ap (λ o. meant.reply_step hash P o c n reply) m.1 ∙ f.step) f.has_memory
        (subst (λ a. IsAnswer P (called_type P (find n c.sessions)) a replied.told) (sym (answer_of f.standing f.answer))
        (subst (λ o. IsAnswer P (called_type P o) f.answer replied.told) (sym m.1) f.tells))
        (client_to replied.standing f.standing f.answer later f.stands later_is) (λ wants. to_one)

    module _ (session : ℕ) (is_session : session ≡ n) (standing : Standing) (there : find session rows ≡ Some standing) (replied : Replied)
        (follows : IsReplied hash P standing reply replied) (later : List (Numbered Standing)) where
      found_here : find n rows ≡ Some standing
      found_here = subst (λ n. find n rows ≡ Some standing) is_session there

      pub goes_on : (s : Standing) → replied.standing ≡ Some s → later ≡ put session s rows → TakesTo closed later replied.told
      goes_on s is_some e =
          taken standing replied later found_here follows (e ∙ ap (λ n. put n s rows) is_session ∙ ap (λ o. rows_to n o rows) (sym is_some))

      pub ends : replied.standing ≡ None → later ≡ remove session rows → TakesTo closed later replied.told
      ends is_none e =
          taken standing replied later found_here follows (e ∙ ap (λ n. remove n rows) is_session ∙ ap (λ o. rows_to n o rows) (sym is_none))
