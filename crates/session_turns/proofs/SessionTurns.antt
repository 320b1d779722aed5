-- Turns of one session.
use Rattle.std.proofs.Common.{◌≡◌, ℕ, suc, ◌<◌, ◌+◌, ◌*◌, List, [], ◌∷◌, ◌++◌, length, refl, sym, ap, ◌∙◌, subst, arith, length-append}
use Rattle.std.proofs.lemmas.Result.{IfOk-weaker}
use Rattle.std.proofs.Common.{Option, Some, None, Ok, IfOk, Bool, true, false, not, is_some, nat_eq, nat_le}
use Rattle.core_terms.specs.Formats.{Hash}
use Rattle.core_terms.specs.Terms.{Program}
use Rattle.core_terms.specs.Values.{Value}
use Rattle.core_terms.specs.declared.outcome.Outcome.{Outcome}
use Rattle.code_gen.specs.declared.code.Code.{Code}
use Rattle.ideal_meaning.specs.Following.{after_frames}
use Rattle.ideal_meaning.specs.Frames.{Frame, frame_bytes}
use Rattle.ideal_meaning.specs.Headline.{call_values}
use Rattle.mode_vm.specs.Meanings.{program_of}
use Rattle.reuse_buffer.specs.Kept.{kept}
use Rattle.session_meaning.specs.Calls.{RoleCall, calls_of, role_in}
use Rattle.session_meaning.proofs.Turns.{extends_at}
use Rattle.session_meaning.specs.Causes.{LongProof, refusal_cause}
use Rattle.session_meaning.specs.Messages as message
use Rattle.session_meaning.specs.Server as meant
use Rattle.session_meaning.specs.Tables.{Numbered}
use Rattle.value_store.specs.Nodes.{Node}
use Rattle.value_store.specs.Standing.{Grows}
use Rattle.value_store.specs.Stores.{nodes_in}
use Rattle.value_store.specs.declared.node.Ref.{Ref}
use Rattle.session_turns.proofs.Turns.{running_stays}
use Rattle.wire_form.specs.declared.message.Reply.TheVariants as reply
use Rattle.session_turns.specs.Ahead.{IsAhead, RunsAhead}
use Rattle.session_turns.specs.RoleRuns.{IsRunOf}
use Rattle.session_turns.specs.Sessions.{IsLeft, IsSession, IsTurned, Runs}
use Rattle.session_turns.specs.Settling.{IsSettled}
use Rattle.session_turns.specs.Sharing.{Shares}
use Rattle.session_turns.specs.declared.session.Session.{Session}
use Rattle.session_turns.specs.declared.session.SessionCall.{SessionCall}
use Rattle.session_turns.specs.declared.settling.Settled.TheVariants.{Proved, Stale}
use Rattle.session_turns.specs.declared.shared.Shared.{Shared}

-- the version of the first of them
abbrev version_in : List (Numbered meant.Session) → ℕ
version_in [] = 0
version_in (x ∷ xs) = x.value.version

-- A session that is left at the end of a run stands at a version that is there.
module _ (hash : Hash) (P : Program) (number : ℕ) (s : meant.Session) (call : RoleCall) (frames : List Frame) (m : meant.Shared) (there : s.version < length m.versions) (left : meant.Session) where
  abbrev IsBelow : meant.Turned → Type 0
  IsBelow t = t.sessions ≡ meant.one_session number left → left.version < length t.shared.versions

  committed_below : (v : Value) (last : Bool) → IsBelow (meant.commit_turn hash P last number s call frames v m)
  committed_below v false e = absurd (cc (e))
  committed_below v true e = let is = ap version_in e in let more = length-append m.versions (v ∷ []) in omega (arith, is, more)

  pub below : (fits : Bool) (made : Option Value) → IsBelow (meant.frames_turn hash P fits made number s call frames m)
  below false made e = absurd (cc (e))
  below true None e = let is = ap version_in e in omega (arith, is, there)
  below true (Some v) e = committed_below v (nat_eq (suc s.version) (length m.versions)) e

module _ (hash : Hash) (code : Code) (slice : ℕ) {A : Type 0} (shared : Shared) (number : ℕ) where
  -- a session whose run ended, by how it was settled
  pub proved_turn : (s : meant.Session) (frames : List Frame) (t : meant.Turned) (session : Session A) (bytes : List ℕ) → Shares hash (program_of code) shared t.shared
      → session.running ≡ None → ((left : meant.Session) → t.sessions ≡ meant.one_session number left → left.version < length t.shared.versions)
      → bytes ≡ frame_bytes frames → session.ring ≡ kept s.kept (after_frames frames s.recent) → IsSettled number s frames (Proved session.version) t
      → IsTurned hash code slice shared number (record { session = Some session; reply = Some (reply.Proof number bytes) }) t
  proved_turn s frames t session bytes shares idle below told ring h =
      let left : meant.Session = record { version = session.version; kept = s.kept; recent = after_frames frames s.recent; running = None } in
      let stands : IsSession hash code slice (nodes_in shared.store) t.shared.versions session left = record {
        at_version = refl;
        there = below left h.0;
        holds = ring;
        runs = subst (λ o. Runs hash code slice (nodes_in shared.store) (meant.version_at t.shared.versions session.version) o None) (sym idle) tt;
      } in
      record {
        shares = shares;
        left = subst (λ xs. IsLeft hash code slice (nodes_in shared.store) t.shared.versions number (Some session) xs) (sym h.0) (refl, stands);
        replies = ap (λ b. message.Proof number b ∷ []) told ∙ sym h.1;
      }

  pub stale_turn : (s : meant.Session) (frames : List Frame) (t : meant.Turned) (state : List ℕ) → Shares hash (program_of code) shared t.shared → IsSettled number s frames (Stale state) t
      → IsTurned hash code slice {A = A} shared number (record { session = None; reply = Some (reply.Stale number state) }) t
  stale_turn s frames t state shares h = record {
    shares = shares;
    left = subst (λ xs. IsLeft hash code slice {A = A} (nodes_in shared.store) t.shared.versions number None xs) (sym h.0) tt;
    replies = sym h.1;
  }

  -- its proof is too long
  pub long_turn : (s : meant.Session) (call : RoleCall) (frames : List Frame) (made : Option Value) (m : meant.Shared) (cause : ℕ) → cause ≡ refusal_cause LongProof
      → Shares hash (program_of code) shared m → meant.fits_message frames ≡ false
      → IsTurned hash code slice {A = A} shared number (record { session = None; reply = Some (reply.Refused number cause) })
      (meant.frames_turn hash (program_of code) (meant.fits_message frames) made number s call frames m)
  long_turn s call frames made m cause is shares long =
      subst (λ fits. IsTurned hash code slice {A = A} shared number (record { session = None; reply = Some (reply.Refused number cause) })
      (meant.frames_turn hash (program_of code) fits made number s call frames m)) (sym long)
      (record { shares = shares; left = tt; replies = ap (λ c. message.Refused number c ∷ []) is })

pub none_told : {B : Type 0} (o : Option B) (b : Bool) → is_some o ≡ not b → b ≡ true → o ≡ None
none_told None b e t = refl
none_told (Some x) true e t = absurd (cc (e))
none_told (Some x) false e t = absurd (cc (t))

one_more : (turns slice : ℕ) → turns * slice + slice ≡ suc turns * slice
one_more turns slice = omega arith

-- A session stands for the same one, and one whose call is a turn ahead does, when nodes are put behind and versions are added.
module _ (hash : Hash) (code : Code) (slice : ℕ) {A : Type 0} (old new : List Node) (versions more : List Value) (session : Session A) (s : meant.Session) (grows : Grows old new) where
  abbrev state_then : Value
  state_then = meant.version_at versions s.version

  state_stays : s.version < length versions → meant.version_at (versions ++ more) s.version ≡ state_then
  state_stays there = extends_at versions (versions ++ more) s.version (more, refl) there

  still_there : s.version < length versions → s.version < length (versions ++ more)
  still_there there = let count = length-append versions more in omega (arith, count, there)

  run_stays : (c : SessionCall A) (call : RoleCall) (made : ℕ) → IsRunOf hash code old c.run c.call state_then call made → IsRunOf hash code new c.run c.call state_then call made
  run_stays c call made i = (running_stays hash code old new c.run (role_in (program_of code) call.role).function (call_values state_then call.argument) call.fuel made grows i.0, i.1)

  pub session_stays : IsSession hash code slice old versions session s → IsSession hash code slice new (versions ++ more) session s
  session_stays h =
      record {
        at_version = h.at_version;
        there = still_there h.there;
        holds = h.holds;
        runs = subst (λ state. Runs hash code slice new state session.running s.running) (sym (state_stays h.there)) (by session.running s.running h.runs);
      }
    where
      by : (c : Option (SessionCall A)) (r : Option meant.Running) → Runs hash code slice old state_then c r → Runs hash code slice new state_then c r
      by None None i = tt
      by (Some c) (Some r) i = (run_stays c r.call (r.turns * slice) i.0, i.1)
      by None (Some r) i = elim i [ ]
      by (Some c) None i = elim i [ ]

  pub ahead_stays : IsAhead hash code slice old versions session s → IsAhead hash code slice new (versions ++ more) session s
  ahead_stays h =
      record {
        at_version = h.at_version;
        there = still_there h.there;
        holds = h.holds;
        runs = subst (λ state. RunsAhead hash code slice new state session.running s.running) (sym (state_stays h.there)) (by session.running s.running h.runs);
      }
    where
      by : (c : Option (SessionCall A)) (r : Option meant.Running) → RunsAhead hash code slice old state_then c r → RunsAhead hash code slice new state_then c r
      by None None i = tt
      by (Some c) (Some r) i = IfOk-weaker c.run.last _ _ (λ told j. (run_stays c r.call (r.turns * slice + slice) j.0, j.1)) i
      by None (Some r) i = elim i [ ]
      by (Some c) None i = elim i [ ]

-- A session whose call is a turn ahead, over what is shared: what its turn comes to.
module _ (hash : Hash) (code : Code) (slice : ℕ) {A : Type 0} (shared : Shared) (m : meant.Shared) (session : Session A) (s : meant.Session)
    (h : IsAhead hash code slice (nodes_in shared.store) m.versions session s) (number : ℕ) where
  abbrev state : Value
  state = meant.version_at m.versions s.version

  abbrev nodes : List Node
  nodes = nodes_in shared.store

  abbrev turn_by : Option meant.Running → meant.Turned
  turn_by r = meant.turn_of hash (program_of code) (meant.last_turn slice) r number s m

  abbrev ends_in : meant.Running → Bool
  ends_in r = nat_le (meant.last_turn slice (calls_of (program_of code) state r.call)) (suc r.turns)

  -- no call runs
  pub idle_turn : Shares hash (program_of code) shared m → session.running ≡ None
      → IsTurned hash code slice {A = A} shared number (record { session = Some (record { version = session.version; ring = session.ring; running = None }); reply = None }) (turn_by s.running)
  idle_turn shares e = by s.running refl (subst (λ o. RunsAhead hash code slice nodes state o s.running) e h.runs)
    where
      by : (o : Option meant.Running) → s.running ≡ o → RunsAhead hash code slice {A = A} nodes state None o
          → IsTurned hash code slice {A = A} shared number (record { session = Some (record { version = session.version; ring = session.ring; running = None }); reply = None }) (turn_by o)
      by None idle i = record {
        shares = shares;
        left = (
          refl,
          record {
            at_version = h.at_version;
            there = h.there;
            holds = h.holds;
            runs = subst (λ o. Runs hash code slice {A = A} nodes state None o) (sym idle) tt;
          },
        );
        replies = refl;
      }
      by (Some r) idle i = elim i [ ]

  -- a call runs, and its turn came to this
  module _ (c : SessionCall A) (e : session.running ≡ Some c) (told : Option (Outcome Ref)) (last : c.run.last ≡ Ok told) where
    pub record IsFurther : Type 0 where
      pub r : meant.Running
      pub runs : s.running ≡ Some r
      pub run : IsRunOf hash code nodes c.run c.call state r.call (r.turns * slice + slice)
      pub ends : is_some told ≡ ends_in r

    pub further : IsFurther
    further = by s.running refl (subst (λ o. RunsAhead hash code slice nodes state o s.running) e h.runs)
      where
        by : (o : Option meant.Running) → s.running ≡ o → RunsAhead hash code slice nodes state (Some c) o → IsFurther
        by None is i = elim i [ ]
        by (Some r) is i =
            let j = subst (λ last. IfOk last (λ told. IsRunOf hash code nodes c.run c.call state r.call (r.turns * slice + slice) × (is_some told ≡ ends_in r))) last i in
            record { r = r; runs = is; run = j.0; ends = j.1 }

    turn_is : (b : Bool) → is_some told ≡ b → turn_by s.running ≡ meant.run_turn hash (program_of code) (meant.last_turn slice) b number s further.r state m
    turn_is b t = ap turn_by further.runs ∙ ap (λ b. meant.run_turn hash (program_of code) (meant.last_turn slice) b number s further.r state m) (sym further.ends ∙ t)

    -- its run ends in this turn
    pub end_is : is_some told ≡ true → turn_by s.running ≡ meant.end_turn hash (program_of code) number s further.r.call state m
    end_is t = turn_is true t

    -- or goes on
    pub on_turn : Shares hash (program_of code) shared m → told ≡ None
        → IsTurned hash code slice {A = A} shared number (record { session = Some (record { version = session.version; ring = session.ring; running = Some c }); reply = None }) (turn_by s.running)
    on_turn shares none =
        let r = further.r in
        let left = meant.with_run s r.call (suc r.turns) in
        let stands : IsSession hash code slice nodes m.versions (record { version = session.version; ring = session.ring; running = Some c }) left = record {
          at_version = h.at_version;
          there = h.there;
          holds = h.holds;
          runs = (subst (λ n. IsRunOf hash code nodes c.run c.call state r.call n) (one_more r.turns slice) further.run, last ∙ ap Ok none);
        } in
        subst (λ t. IsTurned hash code slice {A = A} shared number (record { session = Some (record { version = session.version; ring = session.ring; running = Some c }); reply = None }) t)
        (sym (turn_is false (ap is_some none))) (record { shares = shares; left = (refl, stands); replies = refl })
