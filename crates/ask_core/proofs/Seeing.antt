-- What is seen of a session: `waiting`, `state`.
use Rattle.std.proofs.Common.{◌≡◌, ℕ, List, Option, Some, None, refl, sym, ap}
use Rattle.core_terms.specs.Terms.{Program}
use Rattle.session_meaning.specs.Client as meant
use Rattle.session_meaning.specs.Tables.{Numbered, find}
use Rattle.session_tables.specs.Related.{AreSame}
use Rattle.session_tables.proofs.Related.{find_related}
use Rattle.ask_core.specs.Clients.{IsClient, Stands}
use Rattle.ask_core.specs.Turns.{state_in, waits_in}
use Rattle.ask_core.specs.declared.standing.Standing.{Standing}
use Rattle.ask_core.specs.declared.standing.Standing.TheVariants.{Greeting, Idle, Calling, Leaving, FailedBy, BrokenBy}

module _ (P : Program) where
  waits_same : (s : Option Standing) (m : Option meant.Standing) → AreSame (Stands P) s m → waits_in s ≡ meant.is_waiting m
  waits_same None None r = refl
  waits_same (Some (Greeting known)) (Some (meant.Greeting k)) r = refl
  waits_same (Some (Idle known)) (Some (meant.Idle k)) r = refl
  waits_same (Some (Calling known asked)) (Some (meant.Calling k a)) r = refl
  waits_same (Some (Leaving known)) (Some (meant.Leaving k)) r = refl
  waits_same (Some (FailedBy cause)) (Some (meant.FailedBy d)) r = refl
  waits_same (Some (BrokenBy kind)) (Some (meant.BrokenBy k)) r = refl
  waits_same s m r = elim r [ ]

  state_same : (s : Option Standing) (m : Option meant.Standing) → AreSame (Stands P) s m → state_in s ≡ meant.known_state m
  state_same None None r = refl
  state_same (Some (Greeting known)) (Some (meant.Greeting k)) r = refl
  state_same (Some (Idle known)) (Some (meant.Idle k)) r = ap (λ (b : List ℕ). Some b) (sym r.state)
  state_same (Some (Calling known asked)) (Some (meant.Calling k a)) r = ap (λ (b : List ℕ). Some b) (sym r.0.state)
  state_same (Some (Leaving known)) (Some (meant.Leaving k)) r = refl
  state_same (Some (FailedBy cause)) (Some (meant.FailedBy d)) r = refl
  state_same (Some (BrokenBy kind)) (Some (meant.BrokenBy k)) r = refl
  state_same s m r = elim r [ ]

  module _ (closed : Option ℕ) (rows : List (Numbered Standing)) (c : meant.Client) (is : IsClient P closed rows c) (n : ℕ) where
    pub waits_seen : waits_in (find n rows) ≡ meant.waits c n
    waits_seen = waits_same (find n rows) (find n c.sessions) (find_related (Stands P) n rows c.sessions is.sessions)

    pub state_seen : state_in (find n rows) ≡ meant.state_of c n
    state_seen = state_same (find n rows) (find n c.sessions) (find_related (Stands P) n rows c.sessions is.sessions)
