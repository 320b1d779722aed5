-- What a core serves behind a change.
use Rattle.std.proofs.Common.{◌≡◌, ℕ, suc, ◌+◌, List, [], ◌∷◌, length}
use Rattle.std.proofs.Common.{Option, Some, None, false, is_some, option_copied, if◌then◌else◌, Bor, Result, Ok, Err, IfOk, OnOk, OnErr, refl, sym, ap, ◌∙◌, subst}
use Rattle.core_terms.specs.Formats.{Hash}
use Rattle.core_terms.specs.Values.{Value}
use Rattle.mode_vm.specs.Meanings.{program_of}
use Rattle.session_meaning.specs.Causes as cause
use Rattle.session_meaning.specs.Server as meant
use Rattle.session_meaning.specs.Tables.{Ascend, Numbered, find, remove}
use Rattle.session_meaning.proofs.TableFacts.{same_or_not}
use Rattle.session_tables.specs.Related.{AreRows, AreSame}
use Rattle.session_tables.specs.Tables.{rows_of}
use Rattle.session_tables.proofs.Related.{find_related}
use Rattle.session_turns.specs.Refusals.{IsTestedAs, refusal_meant}
use Rattle.session_turns.specs.Sessions.{IsSession}
use Rattle.session_turns.specs.Sharing.{AreKept, Shares}
use Rattle.session_turns.specs.declared.refusal.Denial.{Denial}
use Rattle.session_turns.specs.declared.refusal.Denial.TheVariants.{Refused, NoMemory}
use Rattle.session_turns.specs.declared.refusal.Refusal.{Refusal}
use Rattle.session_turns.specs.declared.session.Session.{Session}
use Rattle.session_turns.specs.declared.shared.Shared.{Shared}
use Rattle.value_store.specs.Stores.{nodes_in}
use Rattle.serve_core.specs.Requests.{IsDenied, IsRefusal}
use Rattle.serve_core.specs.Serving.{HandlesAs, Serves}
use Rattle.serve_core.specs.declared.server.ServeCore.{ServeCore}
use Rattle.serve_core.specs.declared.heard.Replies.{Replies}

-- ROWS
module _ {A B : Type 0} (R : A → B → Type 0) where
  pub rows_length : (xs : List (Numbered A)) (ys : List (Numbered B)) → AreRows R xs ys → length xs ≡ length ys
  rows_length [] [] h = refl
  rows_length (x ∷ xs) (y ∷ ys) h = ap suc (rows_length xs ys h.2)
  rows_length [] (y ∷ ys) h = elim h [ ]
  rows_length (x ∷ xs) [] h = elim h [ ]

  pub rows_ascend : (least : ℕ) (xs : List (Numbered A)) (ys : List (Numbered B)) → AreRows R xs ys → Ascend least ys → Ascend least xs
  rows_ascend least [] [] h up = tt
  rows_ascend least (x ∷ xs) (y ∷ ys) h up =
      subst (λ n. Ascend least (record { number = n; value = x.value } ∷ xs)) (sym h.0)
      (up.0, rows_ascend (1 + y.number) xs ys h.2 up.1)
  rows_ascend least [] (y ∷ ys) h up = elim h [ ]
  rows_ascend least (x ∷ xs) [] h up = elim h [ ]

  pub ascend_rows : (least : ℕ) (xs : List (Numbered A)) (ys : List (Numbered B)) → AreRows R xs ys → Ascend least xs → Ascend least ys
  ascend_rows least [] [] h up = tt
  ascend_rows least (x ∷ xs) (y ∷ ys) h up =
      subst (λ n. Ascend least (record { number = n; value = y.value } ∷ ys)) h.0
      (up.0, ascend_rows (1 + x.number) xs ys h.2 up.1)
  ascend_rows least [] (y ∷ ys) h up = elim h [ ]
  ascend_rows least (x ∷ xs) [] h up = elim h [ ]

  -- what stands under a number on one side is related to what stands there on the other
  pub none_also : (n : ℕ) (xs : List (Numbered A)) (ys : List (Numbered B)) → AreRows R xs ys → find n xs ≡ None → find n ys ≡ None
  none_also n xs ys h e = by (find n ys) (subst (λ o. AreSame R o (find n ys)) e (find_related R n xs ys h))
    where
      by : (o : Option B) → AreSame R None o → o ≡ None
      by None i = refl
      by (Some b) i = elim i [ ]

  pub some_also : (n : ℕ) (xs : List (Numbered A)) (ys : List (Numbered B)) (a : A) → AreRows R xs ys → find n xs ≡ Some a → (b : B) × (find n ys ≡ Some b) × R a b
  some_also n xs ys a h e = by (find n ys) refl (subst (λ o. AreSame R o (find n ys)) e (find_related R n xs ys h))
    where
      by : (o : Option B) → find n ys ≡ o → AreSame R (Some a) o → (b : B) × (find n ys ≡ Some b) × R a b
      by None f i = elim i [ ]
      by (Some b) f i = (b, f, i)

  -- both are found
  pub both_found : (n : ℕ) (xs : List (Numbered A)) (ys : List (Numbered B)) (a : A) (b : B) → AreRows R xs ys → find n xs ≡ Some a → find n ys ≡ Some b → R a b
  both_found n xs ys a b h e f = subst (λ o. AreSame R (Some a) o) f (subst (λ o. AreSame R o (find n ys)) e (find_related R n xs ys h))

  pub not_none : (n : ℕ) (xs : List (Numbered A)) (ys : List (Numbered B)) (b : B) → AreRows R xs ys → find n xs ≡ None → find n ys ≡ Some b → ⊥
  not_none n xs ys b h e f = let g = sym (none_also n xs ys h e) ∙ f in absurd (cc (g))

  some_same : (a : Option A) (b : Option B) → AreSame R a b → is_some a ≡ is_some b
  some_same None None h = refl
  some_same (Some a) (Some b) h = refl
  some_same None (Some b) h = elim h [ ]
  some_same (Some a) None h = elim h [ ]

  pub some_found : (n : ℕ) (xs : List (Numbered A)) (ys : List (Numbered B)) → AreRows R xs ys → is_some (find n xs) ≡ is_some (find n ys)
  some_found n xs ys h = some_same (find n xs) (find n ys) (find_related R n xs ys h)

module _ {A : Type 0} where
  -- nothing is taken out where nothing stands
  pub none_removed : (n : ℕ) (xs : List (Numbered A)) → find n xs ≡ None → remove n xs ≡ xs
  none_removed n [] e = refl
  none_removed n (x ∷ xs) e =
      same_or_not (λ t. (if t then Some x.value else find n xs) ≡ None → (if t then remove n xs else x ∷ remove n xs) ≡ x ∷ xs) x.number n
      (λ f g. absurd (cc (g))) (λ f g. ap (λ l. x ∷ l) (none_removed n xs g)) e

  pub none_there : (o : Option A) → ((x : A) → o ≡ Some x → ⊥) → o ≡ None
  none_there None other = refl
  none_there (Some x) other = absurd (other x refl)

  pub copied_some : (o : Option (Bor A)) → is_some o ≡ is_some (option_copied o)
  copied_some None = refl
  copied_some (Some a) = refl

  pub is_none : (o : Option A) → is_some o ≡ false → o ≡ None
  is_none None e = refl
  is_none (Some x) e = absurd (cc (e))

  -- the test of a greeting, where it is denied
  pub as_denied : (denial : Denial) (tested : Result A cause.Refusal) → IsTestedAs {A = A} (Err denial) tested → IsDenied denial tested
  as_denied (Refused refusal) tested h = h
  as_denied NoMemory tested h = tt

-- RESULTS
module _ {A E : Type 0} where
  pub if_oks : (P Q R : A → Type 0) → ((a : A) → P a → Q a → R a) → (r : Result A E) → IfOk r P → IfOk r Q → IfOk r R
  if_oks P Q R f (Ok a) h i = f a h i
  if_oks P Q R f (Err e) h i = tt

  pub ok_then : (X : Type 0) (Q : A → Type 0) → ((a : A) → X → Q a) → (r : Result A E) → OnOk r X → IfOk r Q
  ok_then X Q f (Ok a) h = f a h
  ok_then X Q f (Err e) h = tt

  pub err_then : (X Y : Type 0) → (X → Y) → (r : Result A E) → OnErr r X → OnErr r Y
  err_then X Y f (Ok a) h = tt
  err_then X Y f (Err e) h = f h

module _ (hash : Hash) {A G : Type 0} where
  abbrev pub Rows : ServeCore A G → List Value → List (Numbered (Session A)) → List (Numbered meant.Session) → Type 0
  Rows core versions xs ys = AreRows (IsSession hash core.code core.slice (nodes_in core.shared.store) versions) xs ys

  -- the same but for the sessions
  pub record IsBeside (core new : ServeCore A G) : Type 0 where
    pub shared : new.shared ≡ core.shared
    pub code : new.code ≡ core.code
    pub slice : new.slice ≡ core.slice
    pub heard : new.heard ≡ core.heard

  -- the core with other sessions
  pub with_sessions : (core new : ServeCore A G) (server : meant.Server) (ss : List (Numbered meant.Session)) → IsBeside core new → Serves hash core server
      → Rows core server.shared.versions (rows_of new.sessions) ss → Serves hash new (record server { sessions = ss })
  with_sessions core new server ss same h rows = record {
    shares =
        subst (λ code. Shares hash (program_of code) new.shared server.shared) (sym same.code)
        (subst (λ shared. Shares hash (program_of core.code) shared server.shared) (sym same.shared) h.shares);
    heard = same.heard ∙ h.heard;
    sessions =
        subst (λ code. AreRows (IsSession hash code new.slice (nodes_in new.shared.store) server.shared.versions) (rows_of new.sessions) ss) (sym same.code)
        (subst (λ slice. AreRows (IsSession hash core.code slice (nodes_in new.shared.store) server.shared.versions) (rows_of new.sessions) ss) (sym same.slice)
        (subst (λ shared. AreRows (IsSession hash core.code core.slice (nodes_in shared.store) server.shared.versions) (rows_of new.sessions) ss) (sym same.shared) rows));
  }

  -- the core with so many messages more
  pub with_heard : (core new : ServeCore A G) (server : meant.Server) (n : ℕ) → new.shared ≡ core.shared → new.code ≡ core.code → new.slice ≡ core.slice
      → new.sessions ≡ core.sessions → new.heard ≡ n → Serves hash core server → Serves hash new (record server { heard = n })
  with_heard core new server n shared code slice sessions heard h =
      let rows = subst (λ t. Rows core server.shared.versions (rows_of t) server.sessions) (sym sessions) h.sessions in
      record {
        shares = subst (λ code. Shares hash (program_of code) new.shared server.shared) (sym code)
            (subst (λ shared. Shares hash (program_of core.code) shared server.shared) (sym shared) h.shares);
        heard = heard;
        sessions =
            subst (λ code. AreRows (IsSession hash code new.slice (nodes_in new.shared.store) server.shared.versions) (rows_of new.sessions) server.sessions) (sym code)
            (subst (λ slice. AreRows (IsSession hash core.code slice (nodes_in new.shared.store) server.shared.versions) (rows_of new.sessions) server.sessions) (sym slice)
            (subst (λ shared. AreRows (IsSession hash core.code core.slice (nodes_in shared.store) server.shared.versions) (rows_of new.sessions) server.sessions) (sym shared) rows));
      }

  -- the core with other known digests
  pub still_serves : (core : ServeCore A G) (server : meant.Server) (shared : Shared) → AreKept core.shared shared → Shares hash (program_of core.code) shared server.shared
      → Serves hash core server → Serves hash (record core { shared = shared }) server
  still_serves core server shared kept shares h = record {
    shares = shares;
    heard = h.heard;
    sessions = subst (λ store. AreRows (IsSession hash core.code core.slice (nodes_in store) server.shared.versions) (rows_of core.sessions) server.sessions) (sym kept.store) h.sessions;
  }

  -- the core without sessions, before its next connection
  pub without_sessions : (new : ServeCore A G) (m : meant.Shared) → Shares hash (program_of new.code) new.shared m → rows_of new.sessions ≡ [] → new.heard ≡ 0
      → Serves hash new (record { shared = m; heard = 0; sessions = [] })
  without_sessions new m shares none heard = record {
    shares = shares;
    heard = heard;
    sessions = subst (λ xs. AreRows (IsSession hash new.code new.slice (nodes_in new.shared.store) m.versions) xs []) (sym none) tt;
  }

  -- a request is refused, and nothing changes
  pub refused_step : (core new : ServeCore A G) (server : meant.Server) (number : ℕ) (replies : Replies) (refusal : Refusal) → IsBeside core new → rows_of new.sessions ≡ rows_of core.sessions
      → Serves hash core server → IsRefusal number (Refused refusal) replies → HandlesAs hash new replies (meant.refusal_step server number (refusal_meant refusal))
  refused_step core new server number replies refusal same rows h told = record {
    serves = with_sessions core new server server.sessions same h (subst (λ xs. Rows core server.shared.versions xs server.sessions) (sym rows) h.sessions);
    list = told.0;
    closing = told.1;
  }

  -- where a test denies it
  pub denied : (core new : ServeCore A G) (server : meant.Server) (number : ℕ) (replies : Replies) (denial : Denial) {B : Type 0}
      (step : Result B cause.Refusal → meant.Step) (tested : Result B cause.Refusal) → IsBeside core new → rows_of new.sessions ≡ rows_of core.sessions → ((refusal : cause.Refusal) → step (Err refusal) ≡ meant.refusal_step server number refusal)
      → Serves hash core server → IsDenied denial tested → IsRefusal number denial replies → HandlesAs hash new replies (step tested)
  denied core new server number replies (Refused refusal) step tested same rows is h denies told =
      subst (λ t. HandlesAs hash new replies (step t)) (sym denies)
      (subst (λ t. HandlesAs hash new replies t) (sym (is (refusal_meant refusal))) (refused_step core new server number replies refusal same rows h told))
  denied core new server number replies NoMemory step tested same rows is h denies told = elim told [ ]
