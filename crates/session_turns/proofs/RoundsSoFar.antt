-- Rounds so far: what they leave, and what the rest will be.
use Rattle.std.proofs.Common.{◌≡◌, ℕ, suc, zero, inr, true, false, ◌||◌, is_some, List, [], ◌∷◌, ◌++◌, map, Option, Some, None, refl, sym, ap, ◌∙◌, subst, append_assoc, append-nil}
use Rattle.std.specs.List.{list_any}
use Rattle.core_terms.specs.Formats.{Hash}
use Rattle.core_terms.specs.Values.{Value}
use Rattle.code_gen.specs.declared.code.Code.{Code}
use Rattle.mode_vm.specs.Meanings.{program_of}
use Rattle.session_meaning.specs.Server as meant
use Rattle.session_meaning.specs.Stopped.{RoundsReach}
use Rattle.session_meaning.specs.Tables.{Numbered}
use Rattle.session_tables.specs.declared.table.Entry.{Entry}
use Rattle.value_store.specs.Stores.{nodes_in}
use Rattle.wire_form.specs.MessageViews.{reply_meant}
use Rattle.wire_form.specs.declared.message.Reply.{Reply}
use Rattle.session_turns.specs.Rounds.{AreSessions, IsRound, runs}
use Rattle.session_turns.specs.Sessions.{Runs}
use Rattle.session_turns.specs.Sharing.{Shares}
use Rattle.session_turns.specs.declared.session.Session.{Session}
use Rattle.session_turns.specs.declared.session.SessionCall.{SessionCall}
use Rattle.session_turns.specs.declared.shared.Shared.{Shared}
use Rattle.session_turns.proofs.RoundSoFar.{round}

-- these turns, and then others of what they leave
abbrev followed : meant.Turned → meant.Turned → meant.Turned
followed first others = record { sessions = others.sessions; shared = others.shared; replies = first.replies ++ others.replies }

module _ (hash : Hash) (code : Code) (slice : ℕ) where
  abbrev pub rounds : ℕ → List (Numbered meant.Session) → meant.Shared → meant.Turned
  rounds n xs m = meant.rounds hash (program_of code) (meant.last_turn slice) n xs m

  abbrev Reach : ℕ → List (Numbered meant.Session) → meant.Shared → meant.Shared → Type 0
  Reach n xs m r = RoundsReach hash (program_of code) (meant.last_turn slice) n xs m r

module _ (hash : Hash) (code : Code) (slice : ℕ) {A : Type 0} where
  one_runs : (shared : Shared) (state : Value) (c : Option (SessionCall A)) (r : Option meant.Running) → Runs hash code slice (nodes_in shared.store) state c r → is_some c ≡ is_some r
  one_runs shared state None None h = refl
  one_runs shared state (Some c) (Some r) h = refl
  one_runs shared state None (Some r) h = elim h [ ]
  one_runs shared state (Some c) None h = elim h [ ]

  -- a call runs in the code where one runs in the definitions
  pub runs_alike : (shared : Shared) (versions : List Value) (entries : List (Entry (Session A))) (xs : List (Numbered meant.Session)) → AreSessions hash code slice shared versions entries xs
      → list_any runs entries ≡ meant.any_runs xs
  runs_alike shared versions [] [] h = refl
  runs_alike shared versions (s ∷ ss) (x ∷ xs) h =
      ap (λ b. b || list_any runs ss) (one_runs shared _ s.value.running x.value.running h.0.session.runs)
      ∙ ap (λ b. is_some x.value.running || b) (runs_alike shared versions ss xs h.1)
  runs_alike shared versions [] (x ∷ xs) h = elim h [ ]
  runs_alike shared versions (s ∷ ss) [] h = elim h [ ]

  -- Of n rounds, so many are left.
  pub record IsLeftOf (n left : ℕ) (m : meant.Shared) (xs : List (Numbered meant.Session)) (shared : Shared) (entries : List (Entry (Session A))) (old new : List Reply) : Type 0 where
    pub sofar : meant.Turned
    pub stands : IsRound hash code slice shared entries old new sofar
    pub whole : followed sofar (rounds hash code slice left sofar.sessions sofar.shared) ≡ rounds hash code slice n xs m
    pub reached : (r : meant.Shared) → Reach hash code slice left sofar.sessions sofar.shared r → Reach hash code slice n xs m r

  pub all_left : (n : ℕ) (m : meant.Shared) (xs : List (Numbered meant.Session)) (shared : Shared) (entries : List (Entry (Session A))) (old : List Reply)
      → Shares hash (program_of code) shared m → AreSessions hash code slice shared m.versions entries xs → IsLeftOf n n m xs shared entries old old
  all_left n m xs shared entries old h are = record {
    sofar = record { sessions = xs; shared = m; replies = [] };
    stands = record { shares = h; left = are; replies = sym (append-nil (map reply_meant old)) };
    whole = refl;
    reached = λ r i. i;
  }

  pub one_less : (n k : ℕ) (m : meant.Shared) (xs : List (Numbered meant.Session)) (shared after : Shared) (entries behind : List (Entry (Session A))) (old mid new : List Reply)
      → (h : IsLeftOf n (suc k) m xs shared entries old mid) → list_any runs entries ≡ true → IsRound hash code slice after behind mid new (round hash code slice h.sofar.sessions h.sofar.shared)
      → IsLeftOf n k m xs after behind old new
  one_less n k m xs shared after entries behind old mid new h some q =
      let first = round hash code slice h.sofar.sessions h.sofar.shared in
      let rest = rounds hash code slice k first.sessions first.shared in
      let run : meant.any_runs h.sofar.sessions ≡ true = sym (runs_alike shared h.sofar.shared.versions entries h.sofar.sessions h.stands.left) ∙ some in
      record {
        sofar = followed h.sofar first;
        stands = record { shares = q.shares; left = q.left; replies = q.replies ∙ ap (λ l. l ++ first.replies) h.stands.replies ∙ append_assoc (map reply_meant old) h.sofar.replies first.replies };
        whole = ap (λ l. record { sessions = rest.sessions; shared = rest.shared; replies = l }) (append_assoc h.sofar.replies first.replies rest.replies)
            ∙ ap (λ b. followed h.sofar (meant.round_then hash (program_of code) (meant.last_turn slice) b (rounds hash code slice k) h.sofar.sessions h.sofar.shared)) (sym run) ∙ h.whole;
        reached = λ r i. h.reached r (inr (run, i));
      }

  -- none is left, or no call runs
  ended : (n k : ℕ) (m : meant.Shared) (xs : List (Numbered meant.Session)) (shared : Shared) (entries : List (Entry (Session A))) (old new : List Reply) → (h : IsLeftOf n k m xs shared entries old new)
      → rounds hash code slice k h.sofar.sessions h.sofar.shared ≡ record { sessions = h.sofar.sessions; shared = h.sofar.shared; replies = [] }
      → IsRound hash code slice shared entries old new (rounds hash code slice n xs m)
  ended n k m xs shared entries old new h e =
      let none = ap (λ l. record { sessions = h.sofar.sessions; shared = h.sofar.shared; replies = l }) (append-nil h.sofar.replies) in
      subst (λ t. IsRound hash code slice shared entries old new t) (sym none ∙ ap (λ t. followed h.sofar t) (sym e) ∙ h.whole) h.stands

  pub none_left : (n k : ℕ) (m : meant.Shared) (xs : List (Numbered meant.Session)) (shared : Shared) (entries : List (Entry (Session A))) (old new : List Reply) → k ≡ 0
      → IsLeftOf n k m xs shared entries old new → IsRound hash code slice shared entries old new (rounds hash code slice n xs m)
  none_left n zero m xs shared entries old new e h = ended n zero m xs shared entries old new h refl
  none_left n (suc k) m xs shared entries old new e h = absurd (cc (e))

  pub none_runs : (n k : ℕ) (m : meant.Shared) (xs : List (Numbered meant.Session)) (shared : Shared) (entries : List (Entry (Session A))) (old new : List Reply) → list_any runs entries ≡ false
      → IsLeftOf n k m xs shared entries old new → IsRound hash code slice shared entries old new (rounds hash code slice n xs m)
  none_runs n zero m xs shared entries old new e h = ended n zero m xs shared entries old new h refl
  none_runs n (suc k) m xs shared entries old new e h =
      let stop : meant.any_runs h.sofar.sessions ≡ false = sym (runs_alike shared h.sofar.shared.versions entries h.sofar.sessions h.stands.left) ∙ e in
      ended n (suc k) m xs shared entries old new h (ap (λ b. meant.round_then hash (program_of code) (meant.last_turn slice) b (rounds hash code slice k) h.sofar.sessions h.sofar.shared) stop)
