-- What is seen of all sessions, and what is called: `any_waits`, `any_calls`, `called`.
use Rattle.std.proofs.Common.{◌≡◌, ℕ, Bool, false, ◌||◌, List, [], ◌∷◌, Option, Some, None, refl, sym, ap, subst, ◌∙◌}
use Rattle.std.specs.List.{list_any}
use Rattle.core_terms.specs.Terms.{Program}
use Rattle.core_terms.specs.Types.{Ty}
use Rattle.session_meaning.specs.Client as meant
use Rattle.session_meaning.specs.Tables.{Numbered, find}
use Rattle.session_tables.specs.Related.{AreRows, AreSame}
use Rattle.session_tables.proofs.Related.{find_related}
use Rattle.session_tables.specs.Rows.{rows_in}
use Rattle.session_tables.specs.declared.table.Entry.{Entry}
use Rattle.ask_core.specs.Clients.{Stands}
use Rattle.ask_core.specs.Sessions.{IsCalledRole}
use Rattle.session_meaning.specs.Waiting.{calls_at, is_calling, waits_at}
use Rattle.ask_core.specs.declared.seen.CalledRole.{CalledRole}
use Rattle.ask_core.specs.Turns.{standing_called, standing_calls, standing_waits}
use Rattle.ask_core.specs.declared.standing.Standing.{Standing}
use Rattle.ask_core.specs.declared.standing.Standing.TheVariants.{Greeting, Idle, Calling, Leaving, FailedBy, BrokenBy}

module _ (P : Program) where
  waits_same : (s : Standing) (m : meant.Standing) → Stands P s m → standing_waits s ≡ meant.is_waiting (Some m)
  waits_same (Greeting known) (meant.Greeting k) r = refl
  waits_same (Idle known) (meant.Idle k) r = refl
  waits_same (Calling known asked) (meant.Calling k a) r = refl
  waits_same (Leaving known) (meant.Leaving k) r = refl
  waits_same (FailedBy cause) (meant.FailedBy d) r = refl
  waits_same (BrokenBy kind) (meant.BrokenBy k) r = refl
  waits_same s m r = elim r [ ]

  calls_same : (s : Standing) (m : meant.Standing) → Stands P s m → standing_calls s ≡ is_calling (Some m)
  calls_same (Greeting known) (meant.Greeting k) r = refl
  calls_same (Idle known) (meant.Idle k) r = refl
  calls_same (Calling known asked) (meant.Calling k a) r = refl
  calls_same (Leaving known) (meant.Leaving k) r = refl
  calls_same (FailedBy cause) (meant.FailedBy d) r = refl
  calls_same (BrokenBy kind) (meant.BrokenBy k) r = refl
  calls_same s m r = elim r [ ]

  pub some_waits_same : (entries : List (Entry Standing)) (rows : List (Numbered meant.Standing)) → AreRows (Stands P) (rows_in entries) rows
      → list_any (λ e. standing_waits e.value) entries ≡ list_any waits_at rows
  some_waits_same [] [] h = refl
  some_waits_same (x ∷ xs) (y ∷ ys) h =
      ap (λ (b : Bool). b || list_any (λ e. standing_waits e.value) xs) (waits_same x.value y.value h.1)
      ∙ ap (λ (b : Bool). waits_at y || b) (some_waits_same xs ys h.2)
  some_waits_same [] (y ∷ ys) h = absurd h
  some_waits_same (x ∷ xs) [] h = absurd h

  pub some_calls_same : (entries : List (Entry Standing)) (rows : List (Numbered meant.Standing)) → AreRows (Stands P) (rows_in entries) rows
      → list_any (λ e. standing_calls e.value) entries ≡ list_any calls_at rows
  some_calls_same [] [] h = refl
  some_calls_same (x ∷ xs) (y ∷ ys) h =
      ap (λ (b : Bool). b || list_any (λ e. standing_calls e.value) xs) (calls_same x.value y.value h.1)
      ∙ ap (λ (b : Bool). calls_at y || b) (some_calls_same xs ys h.2)
  some_calls_same [] (y ∷ ys) h = absurd h
  some_calls_same (x ∷ xs) [] h = absurd h

  pub none_called : (s : Standing) (m : meant.Standing) → Stands P s m → standing_called s ≡ None → is_calling (Some m) ≡ false
  none_called s m r e = sym (calls_same s m r) ∙ by s e
    where
      by : (s : Standing) → standing_called s ≡ None → standing_calls s ≡ false
      by (Greeting known) e = refl
      by (Idle known) e = refl
      by (Calling known asked) e = absurd (cc)
      by (Leaving known) e = refl
      by (FailedBy cause) e = refl
      by (BrokenBy kind) e = refl

  module _ (types : List Ty) (n : ℕ) (rows : List (Numbered Standing)) (sessions : List (Numbered meant.Standing)) (are : AreRows (Stands P) rows sessions) where
    pub seen_called : (s : Standing) (called : Option CalledRole) → find n rows ≡ Some s
        → ((m : meant.Standing) → Stands P s m → IsCalledRole types P (Some m) called) → IsCalledRole types P (find n sessions) called
    seen_called s called e tells =
        by (find n sessions) (subst (λ o. AreSame (Stands P) o (find n sessions)) e (find_related (Stands P) n rows sessions are))
      where
        by : (o : Option meant.Standing) → AreSame (Stands P) (Some s) o → IsCalledRole types P o called
        by (Some m) r = tells m r
        by None r = absurd r

    pub seen_absent : find n rows ≡ None → is_calling (find n sessions) ≡ false
    seen_absent e = by (find n sessions) (subst (λ o. AreSame (Stands P) o (find n sessions)) e (find_related (Stands P) n rows sessions are))
      where
        by : (o : Option meant.Standing) → AreSame (Stands P) None o → is_calling o ≡ false
        by (Some m) r = absurd r
        by None r = refl
