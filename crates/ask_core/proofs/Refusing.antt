-- What the code refuses, the client of the definitions refuses with the same answer, and stays as it is.
use Rattle.std.proofs.Common.{◌≡◌, ℕ, List, Option, Some, None, refl, sym, ap, ◌∙◌, subst}
use Rattle.core_terms.specs.Projection.{read_at}
use Rattle.core_terms.specs.Formats.{Hash}
use Rattle.core_terms.specs.Terms.{Program}
use Rattle.ideal_meaning.specs.Checked.{Cause}
use Rattle.session_meaning.specs.Client as meant
use Rattle.session_meaning.specs.Tables.{Numbered, find}
use Rattle.session_tables.specs.Related.{AreSame}
use Rattle.session_tables.proofs.Related.{find_related}
use Rattle.ask_core.specs.Answers.{Refuses, fault_told}
use Rattle.ask_core.specs.Clients.{IsClient, IsKnown, Stands}
use Rattle.ask_core.specs.Turns.{greeting_refused, idle_refused}
use Rattle.ask_core.specs.declared.standing.Known.{Known}
use Rattle.ask_core.specs.declared.standing.Standing.{Standing}
use Rattle.ask_core.specs.declared.standing.Standing.TheVariants.{Greeting, Idle, Calling, Leaving, FailedBy, BrokenBy}
use Rattle.ask_core.specs.declared.told.AskFault.{AskFault}
use Rattle.ask_core.specs.declared.told.AskFault.TheVariants.{BadState, BadArgument, OutOfTurn, Rejected, Stranger, WrongReply, Failed, Broken, Closed, NoMemory}

some_of : {A : Type 0} (a b : A) → Some a ≡ Some b → a ≡ b
some_of a b e = cc

-- the answer of a fault, by the fault that the code gives
by_fault : (f fault : AskFault) → Some f ≡ Some fault → fault_told f ≡ fault_told fault
by_fault f fault e = ap fault_told (some_of f fault e)

-- a step that leaves the client with the answer of a fault is refused so
pub refuses : (c : meant.Client) (t : meant.Taken) (fault : AskFault) → t ≡ meant.same_step c (fault_told fault) → Refuses c t fault
refuses c t NoMemory e = tt
refuses c t (BadState offset) e = e
refuses c t (BadArgument offset) e = e
refuses c t OutOfTurn e = e
refuses c t (Rejected session cause) e = e
refuses c t (Stranger session) e = e
refuses c t (WrongReply kind) e = e
refuses c t (Failed cause) e = e
refuses c t (Broken kind) e = e
refuses c t (Closed cause) e = e

module _ (hash : Hash) (P : Program) (own : List ℕ) (closed : Option ℕ) (rows : List (Numbered Standing)) (c : meant.Client) (is : IsClient P closed rows c) (n : ℕ) where
  found : AreSame (Stands P) (find n rows) (find n c.sessions)
  found = find_related (Stands P) n rows c.sessions is.sessions

  -- what a call or a leave of a session that isn't idle answers
  module _ (at : Option meant.Standing → meant.Taken)
      (absent : at None ≡ meant.same_step c meant.OutOfTurn)
      (greets : (k : meant.Known) → at (Some (meant.Greeting k)) ≡ meant.same_step c meant.OutOfTurn)
      (calls : (k : meant.Known) (a : meant.Asked) → at (Some (meant.Calling k a)) ≡ meant.same_step c meant.OutOfTurn)
      (leaves : (k : meant.Known) → at (Some (meant.Leaving k)) ≡ meant.same_step c meant.OutOfTurn)
      (failed : (cause : Cause) → at (Some (meant.FailedBy cause)) ≡ meant.same_step c (meant.HasFailed cause))
      (broken : (kind : ℕ) → at (Some (meant.BrokenBy kind)) ≡ meant.same_step c (meant.IsBroken kind)) where
    not_idle : (s : Option Standing) (m : Option meant.Standing) (fault : AskFault) → AreSame (Stands P) s m → idle_refused None s ≡ Some fault
        → at m ≡ meant.same_step c (fault_told fault)
    not_idle None None fault r e = absent ∙ ap (meant.same_step c) (by_fault OutOfTurn fault e)
    not_idle (Some (Greeting known)) (Some (meant.Greeting k)) fault r e = greets k ∙ ap (meant.same_step c) (by_fault OutOfTurn fault e)
    not_idle (Some (Idle known)) (Some (meant.Idle k)) fault r e = absurd (cc)
    not_idle (Some (Calling known asked)) (Some (meant.Calling k a)) fault r e = calls k a ∙ ap (meant.same_step c) (by_fault OutOfTurn fault e)
    not_idle (Some (Leaving known)) (Some (meant.Leaving k)) fault r e = leaves k ∙ ap (meant.same_step c) (by_fault OutOfTurn fault e)
    not_idle (Some (FailedBy cause)) (Some (meant.FailedBy d)) fault r e =
        failed d ∙ ap (λ x. meant.same_step c (meant.HasFailed x)) r ∙ ap (meant.same_step c) (by_fault (Failed cause) fault e)
    not_idle (Some (BrokenBy kind)) (Some (meant.BrokenBy k)) fault r e =
        broken k ∙ ap (λ x. meant.same_step c (meant.IsBroken x)) r ∙ ap (meant.same_step c) (by_fault (Broken kind) fault e)
    not_idle s m fault r e = elim r [ ]

  -- an end for all sessions comes before all else
  ended : (e : meant.Event) (k : Option ℕ) (fault : AskFault) (refused : Option AskFault) → (refused ≡ Some fault)
      → (k ≡ None → meant.event_step hash P own c e ≡ meant.same_step c (fault_told fault))
      → ((cause : ℕ) → k ≡ Some cause → refused ≡ Some (Closed cause))
      → meant.closed_step hash P own k c e ≡ meant.same_step c (fault_told fault)
  ended e (Some cause) fault refused q whole all = ap (meant.same_step c) (by_fault (Closed cause) fault (sym (all cause refl) ∙ q))
  ended e None fault refused q whole all = whole refl

  all_idle : (k : Option ℕ) (s : Option Standing) (cause : ℕ) → k ≡ Some cause → idle_refused k s ≡ Some (Closed cause)
  all_idle (Some d) s cause e = ap (λ d. Some (Closed d)) (some_of d cause e)
  all_idle None s cause e = absurd (cc)

  all_greeting : (k : Option ℕ) (s : Option Standing) (cause : ℕ) → k ≡ Some cause → greeting_refused k s ≡ Some (Closed cause)
  all_greeting (Some d) s cause e = ap (λ d. Some (Closed d)) (some_of d cause e)
  all_greeting None s cause e = absurd (cc)

  closed_now : (e : meant.Event) (fault : AskFault) → meant.closed_step hash P own closed c e ≡ meant.same_step c (fault_told fault)
      → meant.take_event hash P own c e ≡ meant.same_step c (fault_told fault)
  closed_now e fault h = ap (λ k. meant.closed_step hash P own k c e) is.closed_is ∙ h

  pub bye_refused : (fault : AskFault) → idle_refused closed (find n rows) ≡ Some fault
      → meant.take_event hash P own c (meant.Byes n) ≡ meant.same_step c (fault_told fault)
  bye_refused fault q =
      closed_now (meant.Byes n) fault (ended (meant.Byes n) closed fault (idle_refused closed (find n rows)) q
      (λ none. not_idle (λ m. meant.bye_step m c n) refl (λ k. refl) (λ k a. refl) (λ k. refl) (λ cause. refl) (λ kind. refl) (find n rows) (find n c.sessions)
      fault found (ap (λ k. idle_refused k (find n rows)) (sym none) ∙ q)) (all_idle closed (find n rows)))

  pub call_refused : (role fuel : ℕ) (argument : List ℕ) (fault : AskFault) → idle_refused closed (find n rows) ≡ Some fault
      → meant.take_event hash P own c (meant.Calls n role fuel argument) ≡ meant.same_step c (fault_told fault)
  call_refused role fuel argument fault q =
      let asked : meant.Asked = record { role = role; argument = argument; fuel = fuel } in
      closed_now (meant.Calls n role fuel argument) fault (ended (meant.Calls n role fuel argument) closed fault (idle_refused closed (find n rows)) q
      (λ none. not_idle (λ m. meant.call_step P m c n asked) refl (λ k. refl) (λ k a. refl) (λ k. refl) (λ cause. refl) (λ kind. refl) (find n rows)
      (find n c.sessions) fault found (ap (λ k. idle_refused k (find n rows)) (sym none) ∙ q)) (all_idle closed (find n rows)))

  not_absent : (size : ℕ) (state : List ℕ) (s : Option Standing) (m : Option meant.Standing) (fault : AskFault) → AreSame (Stands P) s m
      → greeting_refused None s ≡ Some fault → meant.hello_step P own m c n size state ≡ meant.same_step c (fault_told fault)
  not_absent size state None None fault r e = absurd (cc)
  not_absent size state (Some (Greeting known)) (Some (meant.Greeting k)) fault r e = ap (meant.same_step c) (by_fault OutOfTurn fault e)
  not_absent size state (Some (Idle known)) (Some (meant.Idle k)) fault r e = ap (meant.same_step c) (by_fault OutOfTurn fault e)
  not_absent size state (Some (Calling known asked)) (Some (meant.Calling k a)) fault r e = ap (meant.same_step c) (by_fault OutOfTurn fault e)
  not_absent size state (Some (Leaving known)) (Some (meant.Leaving k)) fault r e = ap (meant.same_step c) (by_fault OutOfTurn fault e)
  not_absent size state (Some (FailedBy cause)) (Some (meant.FailedBy d)) fault r e =
      ap (λ x. meant.same_step c (meant.HasFailed x)) r ∙ ap (meant.same_step c) (by_fault (Failed cause) fault e)
  not_absent size state (Some (BrokenBy kind)) (Some (meant.BrokenBy k)) fault r e =
      ap (λ x. meant.same_step c (meant.IsBroken x)) r ∙ ap (meant.same_step c) (by_fault (Broken kind) fault e)
  not_absent size state s m fault r e = elim r [ ]

  pub hello_refused : (size : ℕ) (state : List ℕ) (fault : AskFault) → greeting_refused closed (find n rows) ≡ Some fault
      → meant.take_event hash P own c (meant.Hellos n size state) ≡ meant.same_step c (fault_told fault)
  hello_refused size state fault q =
      closed_now (meant.Hellos n size state) fault (ended (meant.Hellos n size state) closed fault (greeting_refused closed (find n rows)) q
      (λ none. not_absent size state (find n rows) (find n c.sessions) fault found (ap (λ k. greeting_refused k (find n rows)) (sym none) ∙ q))
      (all_greeting closed (find n rows)))

  -- WHAT ISN'T REFUSED
  -- no end for all sessions came
  idle_open : (k : Option ℕ) (s : Option Standing) → idle_refused k s ≡ None → k ≡ None
  idle_open (Some d) s e = absurd (cc)
  idle_open None s e = refl

  greeting_open : (k : Option ℕ) (s : Option Standing) → greeting_refused k s ≡ None → k ≡ None
  greeting_open (Some d) s e = absurd (cc)
  greeting_open None s e = refl

  greeting_absent : (k : Option ℕ) (s : Option Standing) → greeting_refused k s ≡ None → s ≡ None
  greeting_absent (Some d) s e = absurd (cc)
  greeting_absent None (Some standing) e = absurd (cc)
  greeting_absent None None e = refl

  is_absent : (m : Option meant.Standing) → AreSame (Stands P) None m → m ≡ None
  is_absent None r = refl
  is_absent (Some s) r = elim r [ ]

  -- the session is idle, with what is known of it
  is_idle : (known : Known) (m : Option meant.Standing) → AreSame (Stands P) (Some (Idle known)) m → (k : meant.Known) × (m ≡ Some (meant.Idle k)) × IsKnown known k
  is_idle known (Some (meant.Idle k)) r = (k, refl, r)
  is_idle known m r = elim r [ ]

  pub idle_found : (known : Known) → find n rows ≡ Some (Idle known) → (k : meant.Known) × (find n c.sessions ≡ Some (meant.Idle k)) × IsKnown known k
  idle_found known e = is_idle known (find n c.sessions) (subst (λ s. AreSame (Stands P) s (find n c.sessions)) e found)

  pub idle_in_turn : idle_refused closed (find n rows) ≡ None → (e : meant.Event) → meant.take_event hash P own c e ≡ meant.event_step hash P own c e
  idle_in_turn q e = ap (λ k. meant.closed_step hash P own k c e) (is.closed_is ∙ idle_open closed (find n rows) q)

  pub greeting_in_turn : greeting_refused closed (find n rows) ≡ None → (size : ℕ) (state : List ℕ)
      → meant.take_event hash P own c (meant.Hellos n size state) ≡ meant.state_step P own (read_at P P.state state) c n size state
  greeting_in_turn q size state =
      let none : find n c.sessions ≡ None = is_absent (find n c.sessions)
      (subst (λ s. AreSame (Stands P) s (find n c.sessions)) (greeting_absent closed (find n rows) q) found) in
      ap (λ k. meant.closed_step hash P own k c (meant.Hellos n size state)) (is.closed_is ∙ greeting_open closed (find n rows) q)
      ∙ ap (λ m. meant.hello_step P own m c n size state) none

-- WHAT IS TAKEN OUT IS IDLE
pub idle_there : (closed : Option ℕ) (s : Option Standing) → idle_refused closed s ≡ None → (k : Known) × (s ≡ Some (Idle k))
idle_there (Some cause) s e = absurd (cc)
idle_there None None e = absurd (cc)
idle_there None (Some (Idle k)) e = (k, refl)
idle_there None (Some (Greeting k)) e = absurd (cc)
idle_there None (Some (Calling k asked)) e = absurd (cc)
idle_there None (Some (Leaving k)) e = absurd (cc)
idle_there None (Some (FailedBy cause)) e = absurd (cc)
idle_there None (Some (BrokenBy kind)) e = absurd (cc)

-- what isn't refused
pub none_there : {A : Type 0} (o : Option A) → ((x : A) → o ≡ Some x → ⊥) → o ≡ None
none_there None other = refl
none_there (Some x) other = absurd (other x refl)
