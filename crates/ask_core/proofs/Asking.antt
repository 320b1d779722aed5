-- What is sent, and how the session stands then.
use Rattle.std.proofs.Common.{◌≡◌, ℕ, List, [], Option, Some, None, Ok, Err, refl, sym, ap, ◌∙◌, subst}
use Rattle.core_terms.specs.Formats.{Hash}
use Rattle.core_terms.specs.declared.digest.Digest.{Digest}
use Rattle.core_terms.specs.Projection.{read_at}
use Rattle.core_terms.specs.Terms.{Program}
use Rattle.reuse_buffer.specs.Kept.{Kept}
use Rattle.session_meaning.specs.Calls.{reads_state, role_in}
use Rattle.session_meaning.specs.Client as meant
use Rattle.session_meaning.specs.Messages as message
use Rattle.session_meaning.specs.Tables.{Numbered, find, put}
use Rattle.session_tables.specs.Related.{AreRows}
use Rattle.session_tables.proofs.Related.{put_related}
use Rattle.wire_form.specs.MessageViews.{request_meant}
use Rattle.wire_form.specs.declared.message.Request.{Request}
use Rattle.wire_form.specs.declared.message.Request.TheVariants.{Hello, Call, Bye}
use Rattle.ask_core.specs.Answers.{Asks, fault_told}
use Rattle.ask_core.specs.Checks.{CallRead, IsGood, StateRead}
use Rattle.ask_core.specs.Clients.{IsClient, IsKnown, Stands}
use Rattle.ask_core.specs.Turns.{IsGreeting, greeting_refused, idle_refused}
use Rattle.ask_core.specs.declared.asked.Asked.{Asked}
use Rattle.ask_core.specs.declared.standing.Known.{Known}
use Rattle.ask_core.specs.declared.standing.Standing.{Standing}
use Rattle.ask_core.specs.declared.standing.Standing.TheVariants.{Greeting, Idle, Calling, Leaving}
use Rattle.ask_core.specs.declared.told.AskFault.{AskFault}
use Rattle.ask_core.specs.declared.told.AskFault.TheVariants.{BadState, BadArgument, OutOfTurn, NoMemory}
use Rattle.ask_core.proofs.Refusing.{greeting_in_turn, idle_found, idle_in_turn, refuses}

module _ (P : Program) (closed : Option ℕ) (rows later : List (Numbered Standing)) (c : meant.Client) (is : IsClient P closed rows c) where
  -- the session stands so, and the request is sent
  pub sends : (n : ℕ) (standing : Standing) (s : meant.Standing) (request : Request) (t : meant.Taken) → later ≡ put n standing rows → Stands P standing s
      → t ≡ meant.standing_step c n s (meant.Sends (request_meant request)) → Asks (IsClient P closed later) c t (Ok request)
  sends n standing s request t e stands q =
      subst (λ t. Asks (IsClient P closed later) c t (Ok request)) (sym q) (
        refl,
        record {
          closed_is = is.closed_is;
          sessions = subst (λ r. AreRows (Stands P) r (put n s c.sessions)) (sym e) (put_related (Stands P) n standing s rows c.sessions stands is.sessions);
        },
      )

  -- nothing changes
  pub stays : later ≡ rows → IsClient P closed later c
  stays e = record { closed_is = is.closed_is; sessions = subst (λ r. AreRows (Stands P) r c.sessions) (sym e) is.sessions }

  pub refused_so : (t : meant.Taken) (fault : AskFault) → later ≡ rows → t ≡ meant.same_step c (fault_told fault) → Asks (IsClient P closed later) c t (Err fault)
  refused_so t fault e q = (refuses c t fault q, stays e)

  pub wants : (t : meant.Taken) → later ≡ rows → Asks (IsClient P closed later) c t (Err NoMemory)
  wants t e = (tt, stays e)

module _ (hash : Hash) (P : Program) (own : List ℕ) (closed : Option ℕ) (rows later : List (Numbered Standing)) (c : meant.Client) (is : IsClient P closed rows c) (n : ℕ) where
  -- a leave
  pub leaves : (known : Known) → idle_refused closed (find n rows) ≡ None → find n rows ≡ Some (Idle known) → later ≡ put n (Leaving known) rows
      → Asks (IsClient P closed later) c (meant.take_event hash P own c (meant.Byes n)) (Ok (Bye n))
  leaves known q f e =
      let k = idle_found hash P own closed rows c is n known f in
      sends P closed rows later c is n (Leaving known) (meant.Leaving k.0) (Bye n) (meant.take_event hash P own c (meant.Byes n)) e k.2
      (idle_in_turn hash P own closed rows c is n q (meant.Byes n) ∙ ap (λ m. meant.bye_step m c n) k.1)

  -- a call
  module _ (role fuel : ℕ) (argument : List ℕ) where
    abbrev asked : meant.Asked
    asked = record { role = role; argument = argument; fuel = fuel }

    abbrev called : meant.Taken
    called = meant.take_event hash P own c (meant.Calls n role fuel argument)

    at_idle : (known : Known) → idle_refused closed (find n rows) ≡ None → find n rows ≡ Some (Idle known)
        → (k : meant.Known) × (called ≡ meant.role_step P (reads_state (role_in P role).kind) c n k asked) × IsKnown known k
    at_idle known q f =
        let k = idle_found hash P own closed rows c is n known f in (
          k.0,
          idle_in_turn hash P own closed rows c is n q (meant.Calls n role fuel argument) ∙ ap (λ m. meant.call_step P m c n asked) k.1,
          k.2,
        )

    pub calls : (known : Known) (sent : Asked) → idle_refused closed (find n rows) ≡ None → find n rows ≡ Some (Idle known)
        → CallRead P role fuel argument (Ok sent) → (bytes : List ℕ) → bytes ≡ argument → later ≡ put n (Calling known sent) rows
        → Asks (IsClient P closed later) c called (Ok (Call n role fuel bytes))
    calls known sent q f read bytes copied e =
        let k = at_idle known q f in
        let good = read.4 in
        sends P closed rows later c is n (Calling known sent) (meant.Calling k.0 asked) (Call n role fuel bytes) called e
        (k.2, record { role = sym read.0; argument = sym read.1; fuel = sym read.2; reads = read.3 })
        (k.1 ∙ ap (λ r. meant.role_step P r c n k.0 asked) read.3 ∙ ap (λ r. meant.argument_step P r c n k.0 asked) good.3
        ∙ ap (λ (b : List ℕ). meant.standing_step c n (meant.Calling k.0 asked) (meant.Sends (message.Call n role fuel b))) (sym copied))

    -- the role or the argument is refused
    pub call_faulty : (known : Known) (fault : AskFault) → idle_refused closed (find n rows) ≡ None → find n rows ≡ Some (Idle known)
        → CallRead P role fuel argument (Err fault) → later ≡ rows → Asks (IsClient P closed later) c called (Err fault)
    call_faulty known NoMemory q f read e = wants P closed rows later c is called e
    call_faulty known OutOfTurn q f read e =
        let k = at_idle known q f in
        refused_so P closed rows later c is called OutOfTurn e (k.1 ∙ ap (λ r. meant.role_step P r c n k.0 asked) read)
    call_faulty known (BadArgument offset) q f read e =
        let k = at_idle known q f in
        refused_so P closed rows later c is called (BadArgument offset) e
        (k.1 ∙ ap (λ r. meant.role_step P r c n k.0 asked) read.0 ∙ ap (λ r. meant.argument_step P r c n k.0 asked) read.1)
    call_faulty known fault q f read e = elim read [ ]

  -- a greeting
  module _ (size : ℕ) (state : List ℕ) where
    abbrev greeted : meant.Taken
    greeted = meant.take_event hash P own c (meant.Hellos n size state)

    pub greets : (standing : Standing) → greeting_refused closed (find n rows) ≡ None → IsGood (read_at P P.state state) → IsGreeting size state standing
        → (program : Digest) → program.0 ≡ own → (sent : List ℕ) → sent ≡ state → later ≡ put n standing rows
        → Asks (IsClient P closed later) c greeted (Ok (Hello n program size sent))
    greets (Greeting known) q good g program same sent copied e =
        let begun : meant.Standing = meant.Greeting (record { state = state; kept = size; recent = [] }) in
        sends P closed rows later c is n (Greeting known) begun (Hello n program size sent) greeted e
        (record { state = sym g.0; size = sym (ap (λ (r : Kept). r.size) g.1); ring = g.1 })
        (greeting_in_turn hash P own closed rows c is n q size state ∙ ap (λ r. meant.state_step P own r c n size state) good.3
        ∙ ap (λ (p : List ℕ). meant.standing_step c n begun (meant.Sends (message.Hello n p size state))) (sym same)
        ∙ ap (λ (b : List ℕ). meant.standing_step c n begun (meant.Sends (message.Hello n program.0 size b))) (sym copied))
    greets standing q good g program same sent copied e = elim g [ ]

    pub hello_faulty : (A : Type 0) (fault : AskFault) → greeting_refused closed (find n rows) ≡ None → StateRead {A = A} P state (Err fault) → later ≡ rows
        → Asks (IsClient P closed later) c greeted (Err fault)
    hello_faulty A NoMemory q read e = wants P closed rows later c is greeted e
    hello_faulty A (BadState offset) q read e =
        refused_so P closed rows later c is greeted (BadState offset) e
        (greeting_in_turn hash P own closed rows c is n q size state ∙ ap (λ r. meant.state_step P own r c n size state) read)
    hello_faulty A fault q read e = elim read [ ]
