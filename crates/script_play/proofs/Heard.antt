-- What a reply that is heard changes: for `hear`.
use Rattle.std.proofs.Common.{◌≡◌, ℕ, zero, suc, ◌+◌, ◌<◌, Bool, true, false, if◌then◌else◌, List, Option, Some, None, option_map, nat_eq, refl, sym, ap, ◌∙◌, subst, arith, eqb-true}
use Rattle.std.proofs.lemmas.Bool.{eqb-false}
use Rattle.core_terms.specs.Formats.{Hash}
use Rattle.core_terms.specs.Spelling.{spelling}
use Rattle.core_terms.specs.Terms.{Kind, Inner, Init, Query, Update, Program}
use Rattle.ideal_meaning.specs.Checked.{Verdict, Accepted, Rejected, BadState, BadArgument}
use Rattle.ideal_meaning.specs.Ideal.{Outcome, Done, Trapped, Out}
use Rattle.session_meaning.specs.Calls.{changes_state, role_in, state_made}
use Rattle.session_meaning.specs.Client as meant
use Rattle.session_meaning.specs.Client.{Answer, Asked, Known, Standing, Greeting, Idle, Leaving, Calling, FailedBy, BrokenBy}
use Rattle.session_meaning.specs.Messages.{Reply, Welcome, Proof, Stale, Refused, Closed, session_of}
use Rattle.session_meaning.specs.Tables.{find}
use Rattle.session_meaning.proofs.TableFacts.{find_put, find_remove}
use Rattle.ask_core.specs.Sessions.{count_below}
use Rattle.session_meaning.specs.Waiting.{called_in, is_calling}
use Rattle.script_play.specs.Plays.{deed_made, Tells, goes_behind, hears}
use Rattle.script_play.specs.Tellings.{makes, makes_state, state_if}

-- What is so of a step behind which the script goes on: its session waited, and waits no longer.
record Waited (o : Option Standing) (n : ℕ) (t : meant.Taken) : Type 0 where
  before : meant.is_waiting o ≡ true
  behind : meant.is_waiting (find n t.client.sessions) ≡ false

stands_idle : (o : Option Standing) → meant.is_waiting o ≡ true → (c : meant.Client) (n : ℕ) (k : Known) (a : Answer) → Waited o n (meant.standing_step c n (Idle k) a)
stands_idle o e c n k a = record { before = e; behind = ap meant.is_waiting (find_put n (Idle k) c.sessions) }

is_gone : (o : Option Standing) → meant.is_waiting o ≡ true → (c : meant.Client) (n : ℕ) (a : Answer) → Waited o n (meant.absent_step c n a)
is_gone o e c n a = record { before = e; behind = ap meant.is_waiting (find_remove n c.sessions) }

module _ (hash : Hash) (P : Program) (own : List ℕ) where
  judged : (d : Verdict) (c : meant.Client) (n : ℕ) (k : Known) (a : Asked) (frames : List ℕ)
      → goes_behind (meant.verdict_step hash P d c n k a frames).answer ≡ true → Waited (Some (Calling k a)) n (meant.verdict_step hash P d c n k a frames)
  judged (Accepted o) c n k a frames e = stands_idle (Some (Calling k a)) refl c n _ _
  judged (Rejected cause) c n k a frames e = absurd (cc)
  judged (BadState offset) c n k a frames e = absurd (cc)
  judged (BadArgument offset) c n k a frames e = absurd (cc)

  staled : (b : Bool) (c : meant.Client) (n : ℕ) (k : Known) (a : Asked) (state : List ℕ)
      → goes_behind (meant.stale_step b c n state).answer ≡ true → Waited (Some (Calling k a)) n (meant.stale_step b c n state)
  staled true c n k a state e = is_gone (Some (Calling k a)) refl c n _
  staled false c n k a state e = absurd (cc)

  refused : (b : Bool) (c : meant.Client) (n : ℕ) (k : Known) (a : Asked) (cause : ℕ) → Waited (Some (Calling k a)) n (meant.refused_step b c n k cause)
  refused true c n k a cause = is_gone (Some (Calling k a)) refl c n _
  refused false c n k a cause = stands_idle (Some (Calling k a)) refl c n k _

  replied : (o : Option Standing) (c : meant.Client) (n : ℕ) (r : Reply) → goes_behind (meant.reply_step hash P o c n r).answer ≡ true
      → Waited o n (meant.reply_step hash P o c n r)
  replied (Some (Greeting k)) c n (Welcome session) e = stands_idle (Some (Greeting k)) refl c n k _
  replied (Some (Greeting k)) c n (Refused session cause) e = is_gone (Some (Greeting k)) refl c n _
  replied (Some (Greeting k)) c n (Proof session frames) e = absurd (cc)
  replied (Some (Greeting k)) c n (Stale session state) e = absurd (cc)
  replied (Some (Greeting k)) c n (Closed session cause) e = absurd (cc)
  replied (Some (Calling k a)) c n (Proof session frames) e = judged (meant.verdict_of hash P k a frames) c n k a frames e
  replied (Some (Calling k a)) c n (Stale session state) e = staled (changes_state (role_in P a.role).kind) c n k a state e
  replied (Some (Calling k a)) c n (Refused session cause) e = refused (meant.ends_session cause) c n k a cause
  replied (Some (Calling k a)) c n (Welcome session) e = absurd (cc)
  replied (Some (Calling k a)) c n (Closed session cause) e = absurd (cc)
  replied (Some (Leaving k)) c n (Closed session cause) e = is_gone (Some (Leaving k)) refl c n _
  replied (Some (Leaving k)) c n (Welcome session) e = absurd (cc)
  replied (Some (Leaving k)) c n (Proof session frames) e = absurd (cc)
  replied (Some (Leaving k)) c n (Stale session state) e = absurd (cc)
  replied (Some (Leaving k)) c n (Refused session cause) e = absurd (cc)
  replied (Some (Idle k)) c n r e = absurd (cc)
  replied (Some (FailedBy cause)) c n r e = absurd (cc)
  replied (Some (BrokenBy kind)) c n r e = absurd (cc)
  replied None c n r e = absurd (cc)

  module _ (c : meant.Client) (r : Reply) where
    -- a reply behind which the script goes on was to a session that waited for it, and waits no longer
    pub waited : goes_behind (hears hash P own c r).answer ≡ true
        → (meant.waits c (session_of r) ≡ true) × (meant.waits (hears hash P own c r).client (session_of r) ≡ false)
    waited e = by c.closed e
      where
        by_all : (k : Option ℕ) → goes_behind (meant.heard_step hash P k c r).answer ≡ true
            → (meant.waits c (session_of r) ≡ true) × (meant.waits (meant.heard_step hash P k c r).client (session_of r) ≡ false)
        by_all (Some cause) e = absurd (cc)
        by_all None e =
            let w = replied (find (session_of r) c.sessions) c (session_of r) r e in (w.before, w.behind)

        by : (k : Option ℕ) → goes_behind (meant.closed_step hash P own k c (meant.Hears r)).answer ≡ true
            → (meant.waits c (session_of r) ≡ true) × (meant.waits (meant.closed_step hash P own k c (meant.Hears r)).client (session_of r) ≡ false)
        by (Some cause) e = absurd (cc)
        by None e = by_all (meant.cause_for_all r) e

  -- WHAT AN OUTCOME IS TOLD OF
  -- an outcome is told of a call, and the state that it makes is that of its session
  abbrev Makes : Option Standing → ℕ → meant.Taken → Type 0
  Makes o n t = deed_made (Tells n (called_in P o) t.answer) ≡ state_if (makes_state (called_in P o) t.answer) (meant.known_state (find n t.client.sessions))

  abbrev Called : Option Standing → meant.Taken → Type 0
  Called o t = (x : Outcome) → t.answer ≡ meant.Tells x → is_calling o ≡ true

  made_by_kind : (kind : Kind) (o : Outcome) (state : List ℕ) (s : Option Standing)
      → meant.known_state s ≡ Some (meant.state_behind (state_made kind o) state)
      → option_map spelling (state_made kind o) ≡ state_if (makes kind o) (meant.known_state s)
  made_by_kind Update (Done v) state s e = sym e
  made_by_kind Update (Trapped trap) state s e = refl
  made_by_kind Update Out state s e = refl
  made_by_kind Inner o state s e = refl
  made_by_kind Init o state s e = refl
  made_by_kind Query o state s e = refl

  judged_makes : (d : Verdict) (c : meant.Client) (n : ℕ) (k : Known) (a : Asked) (frames : List ℕ)
      → Makes (Some (Calling k a)) n (meant.verdict_step hash P d c n k a frames)
  judged_makes (Accepted o) c n k a frames =
      made_by_kind (role_in P a.role).kind o k.state _ (ap meant.known_state (find_put n (Idle (meant.known_behind hash P k a frames o)) c.sessions))
  judged_makes (Rejected cause) c n k a frames = refl
  judged_makes (BadState offset) c n k a frames = refl
  judged_makes (BadArgument offset) c n k a frames = refl

  staled_makes : (b : Bool) (c : meant.Client) (n : ℕ) (k : Known) (a : Asked) (state : List ℕ) → Makes (Some (Calling k a)) n (meant.stale_step b c n state)
  staled_makes true c n k a state = refl
  staled_makes false c n k a state = refl

  refused_makes : (b : Bool) (c : meant.Client) (n : ℕ) (k : Known) (a : Asked) (cause : ℕ) → Makes (Some (Calling k a)) n (meant.refused_step b c n k cause)
  refused_makes true c n k a cause = refl
  refused_makes false c n k a cause = refl

  replied_makes : (o : Option Standing) (c : meant.Client) (n : ℕ) (r : Reply) → Makes o n (meant.reply_step hash P o c n r)
  replied_makes (Some (Greeting k)) c n (Welcome session) = refl
  replied_makes (Some (Greeting k)) c n (Refused session cause) = refl
  replied_makes (Some (Greeting k)) c n (Proof session frames) = refl
  replied_makes (Some (Greeting k)) c n (Stale session state) = refl
  replied_makes (Some (Greeting k)) c n (Closed session cause) = refl
  replied_makes (Some (Calling k a)) c n (Proof session frames) = judged_makes (meant.verdict_of hash P k a frames) c n k a frames
  replied_makes (Some (Calling k a)) c n (Stale session state) = staled_makes (changes_state (role_in P a.role).kind) c n k a state
  replied_makes (Some (Calling k a)) c n (Refused session cause) = refused_makes (meant.ends_session cause) c n k a cause
  replied_makes (Some (Calling k a)) c n (Welcome session) = refl
  replied_makes (Some (Calling k a)) c n (Closed session cause) = refl
  replied_makes (Some (Leaving k)) c n (Closed session cause) = refl
  replied_makes (Some (Leaving k)) c n (Welcome session) = refl
  replied_makes (Some (Leaving k)) c n (Proof session frames) = refl
  replied_makes (Some (Leaving k)) c n (Stale session state) = refl
  replied_makes (Some (Leaving k)) c n (Refused session cause) = refl
  replied_makes (Some (Idle k)) c n r = refl
  replied_makes (Some (FailedBy cause)) c n r = refl
  replied_makes (Some (BrokenBy kind)) c n r = refl
  replied_makes None c n r = refl

  replied_calls : (o : Option Standing) (c : meant.Client) (n : ℕ) (r : Reply) → Called o (meant.reply_step hash P o c n r)
  replied_calls (Some (Calling k a)) c n r x e = refl
  replied_calls (Some (Greeting k)) c n (Welcome session) x e = absurd (cc)
  replied_calls (Some (Greeting k)) c n (Refused session cause) x e = absurd (cc)
  replied_calls (Some (Greeting k)) c n (Proof session frames) x e = absurd (cc)
  replied_calls (Some (Greeting k)) c n (Stale session state) x e = absurd (cc)
  replied_calls (Some (Greeting k)) c n (Closed session cause) x e = absurd (cc)
  replied_calls (Some (Leaving k)) c n (Closed session cause) x e = absurd (cc)
  replied_calls (Some (Leaving k)) c n (Welcome session) x e = absurd (cc)
  replied_calls (Some (Leaving k)) c n (Proof session frames) x e = absurd (cc)
  replied_calls (Some (Leaving k)) c n (Stale session state) x e = absurd (cc)
  replied_calls (Some (Leaving k)) c n (Refused session cause) x e = absurd (cc)
  replied_calls (Some (Idle k)) c n r x e = absurd (cc)
  replied_calls (Some (FailedBy cause)) c n r x e = absurd (cc)
  replied_calls (Some (BrokenBy kind)) c n r x e = absurd (cc)
  replied_calls None c n r x e = absurd (cc)

  module _ (c : meant.Client) (r : Reply) where
    pub heard_makes : Makes (find (session_of r) c.sessions) (session_of r) (hears hash P own c r)
    heard_makes = by c.closed
      where
        by_all : (k : Option ℕ) → Makes (find (session_of r) c.sessions) (session_of r) (meant.heard_step hash P k c r)
        by_all (Some cause) = refl
        by_all None = replied_makes (find (session_of r) c.sessions) c (session_of r) r

        by : (k : Option ℕ) → Makes (find (session_of r) c.sessions) (session_of r) (meant.closed_step hash P own k c (meant.Hears r))
        by (Some cause) = refl
        by None = by_all (meant.cause_for_all r)

    pub heard_calls : Called (find (session_of r) c.sessions) (hears hash P own c r)
    heard_calls = by c.closed
      where
        by_all : (k : Option ℕ) → Called (find (session_of r) c.sessions) (meant.heard_step hash P k c r)
        by_all (Some cause) x e = absurd (cc)
        by_all None x e = replied_calls (find (session_of r) c.sessions) c (session_of r) r x e

        by : (k : Option ℕ) → Called (find (session_of r) c.sessions) (meant.closed_step hash P own k c (meant.Hears r))
        by (Some cause) x e = absurd (cc)
        by None x e = by_all (meant.cause_for_all r) x e

-- HOW MANY WAIT
-- one test fewer passes, and all others as before
pub count_same : (most : ℕ) (f g : ℕ → Bool) → ((m : ℕ) → m < most → g m ≡ f m) → count_below most g ≡ count_below most f
count_same zero f g same = refl
count_same (suc most) f g same =
    ap (λ b. (if b then 1 else 0) + count_below most g) (same most (omega arith))
    ∙ ap (λ k. (if f most then 1 else 0) + k) (count_same most f g (λ m l. same m (omega (arith, l))))

pub count_fewer : (most : ℕ) (f g : ℕ → Bool) (n : ℕ) → n < most → f n ≡ true → g n ≡ false → ((m : ℕ) → (n ≡ m → ⊥) → g m ≡ f m)
    → count_below most g < count_below most f
count_fewer zero f g n l e h same = absurd (omega (arith, l))
count_fewer (suc most) f g n l e h same = by (nat_eq n most) refl (λ less. count_fewer most f g n less e h same)
  where
    by : (t : Bool) → nat_eq n most ≡ t → (n < most → count_below most g < count_below most f) → count_below (suc most) g < count_below (suc most) f
    by true t fewer =
        let is : n ≡ most = eqb-true n most t in
        let rest : count_below most g ≡ count_below most f = count_same most f g (λ m k. same m (λ x. omega (arith, x, is, k))) in
        let none : ℕ = 0 in
        let one : ℕ = 1 in
        let here : (if g most then one else none) ≡ none = ap (λ b. if b then one else none) (subst (λ k. g k ≡ false) is h) in
        let there : (if f most then one else none) ≡ one = ap (λ b. if b then one else none) (subst (λ k. f k ≡ true) is e) in
        omega (arith, rest, here, there)
    by false t fewer =
        let other : n ≡ most → ⊥ = eqb-false n most t in
        let less : n < most = omega (arith, l, other) in
        let rest : count_below most g < count_below most f = fewer less in
        let none : ℕ = 0 in
        let one : ℕ = 1 in
        let here : (if g most then one else none) ≡ (if f most then one else none) = ap (λ b. if b then one else none) (same most other) in
        omega (arith, rest, here)
