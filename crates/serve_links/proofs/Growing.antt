-- The commits of a server only grow: for answer.
use Rattle.std.proofs.Common.{inl, inr, ℕ, zero, suc, List, [], ◌∷◌, ◌++◌, nat_lt, if◌then◌else◌, sym, ap, subst, ◌∙◌, append_assoc, append-nil}
use Rattle.core_terms.specs.Formats.{Hash}
use Rattle.core_terms.specs.Terms.{Program}
use Rattle.session_meaning.specs.Calls.{RoleCall}
use Rattle.session_meaning.specs.Messages.{Hello, Call, Go, Bye}
use Rattle.session_meaning.specs.Tables.{Numbered}
use Rattle.session_meaning.specs.Server.{Session, Shared, Server as TheServer, Heard, Hears, HearsBad, HearsEnd, handle, turn, messages_limit}
use Rattle.session_meaning.specs.Stopped.{IsStopped, Reaches, RoundReaches, RoundsReach}
use Rattle.session_meaning.proofs.Keeping.{round_keeps}
use Rattle.session_meaning.proofs.ServerRun.{only_updates_commit}
use Rattle.session_meaning.specs.Beginnings.{IsFront}
use Rattle.serve_core.proofs.StoppedBehind.{reaches_whole}

pub same_front : {A : Type 0} (xs : List A) → IsFront xs xs
same_front xs = ([], sym (append-nil xs))

front_more : {A : Type 0} (front xs ys : List A) → IsFront front xs → IsFront front (xs ++ ys)
front_more front xs ys h = (h.0 ++ ys, ap (λ l. l ++ ys) h.1 ∙ append_assoc front h.0 ys)

module _ (hash : Hash) (P : Program) (own : List ℕ) (ending : ℕ → ℕ) (told : List RoleCall) where
  -- the commits begin with those
  abbrev Holds : Shared → Type 0
  Holds shared = IsFront told shared.commits

  turn_holds : (number : ℕ) (s : Session) (shared : Shared) → Holds shared → Holds (turn hash P ending number s shared).shared
  turn_holds number s shared h = elim (only_updates_commit hash P ending number s shared) [
    | inl same ↦ subst Holds (sym same) h
    | inr (r, w, f, k, b, m, l, made) ↦ subst Holds (sym made) (front_more told shared.commits (r.call ∷ []) h)
  ]

  round_reached : (ss : List (Numbered Session)) (shared reached : Shared) → Holds shared → RoundReaches hash P ending ss shared reached → Holds reached
  round_reached [] shared reached h r = subst Holds (sym r) h
  round_reached (s ∷ ss) shared reached h (inl e) = subst Holds (sym e) h
  round_reached (s ∷ ss) shared reached h (inr r) = round_reached ss _ reached (turn_holds s.number s.value shared h) r

  rounds_reached : (n : ℕ) (ss : List (Numbered Session)) (shared reached : Shared) → Holds shared → RoundsReach hash P ending n ss shared reached → Holds reached
  rounds_reached zero ss shared reached h r = subst Holds (sym r) h
  rounds_reached (suc n) ss shared reached h (inl r) = round_reached ss shared reached h r
  rounds_reached (suc n) ss shared reached h (inr r) = rounds_reached n _ _ reached (round_keeps hash P own ending Holds turn_holds ss shared h) r.1

  step_reached : (server : TheServer) (m : Heard) (reached : Shared) → Holds server.shared → Reaches hash P ending server m reached → Holds reached
  step_reached server (Hears (Go n)) reached h r = rounds_reached (if nat_lt server.heard messages_limit then n else 0) server.sessions server.shared reached h r
  step_reached server (Hears (Hello number program n state)) reached h r = subst Holds (sym r) h
  step_reached server (Hears (Call number role fuel argument)) reached h r = subst Holds (sym r) h
  step_reached server (Hears (Bye number)) reached h r = subst Holds (sym r) h
  step_reached server HearsBad reached h r = subst Holds (sym r) h
  step_reached server HearsEnd reached h r = subst Holds (sym r) h

module _ (hash : Hash) (P : Program) (own : List ℕ) (ending : ℕ → ℕ) (server : TheServer) (m : Heard) where
  pub stopped_grows : (stopped : TheServer) → IsStopped hash P ending server m stopped → IsFront server.shared.commits stopped.shared.commits
  stopped_grows stopped is = step_reached hash P own ending server.shared.commits server m stopped.shared (same_front server.shared.commits) is.0

  pub step_grows : IsFront server.shared.commits (handle hash P own ending server m).server.shared.commits
  step_grows =
      step_reached hash P own ending server.shared.commits server m (handle hash P own ending server m).server.shared (same_front server.shared.commits)
      (reaches_whole hash P ending own server m)
