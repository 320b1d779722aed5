-- A round so far: what is turned, and what the rest will be.
use Rattle.std.proofs.Common.{◌≡◌, ℕ, inl, inr, List, [], ◌∷◌, ◌++◌, ◌+◌, length, map, Option, Some, None, Result, Ok, Err, OnErr, arith, refl, sym, ap, ◌∙◌, subst, append_assoc, append-nil}
use Rattle.core_terms.specs.Formats.{Hash}
use Rattle.core_terms.specs.Terms.{Program}
use Rattle.core_terms.specs.Values.{Value}
use Rattle.code_gen.specs.declared.code.Code.{Code}
use Rattle.mode_vm.specs.Meanings.{program_of}
use Rattle.session_meaning.specs.Server as meant
use Rattle.session_meaning.specs.Stopped.{RoundReaches}
use Rattle.session_meaning.specs.Tables.{Numbered}
use Rattle.session_meaning.proofs.RoundLoop.{joined, round_step}
use Rattle.session_meaning.proofs.Turns.{Extends, extends_same, turn_extends}
use Rattle.value_store.specs.Standing.{Grows}
use Rattle.session_tables.specs.declared.table.Entry.{Entry}
use Rattle.value_store.specs.Stores.{nodes_in}
use Rattle.wire_form.specs.MessageViews.{reply_meant}
use Rattle.wire_form.specs.declared.message.Reply.{Reply}
use Rattle.session_turns.specs.Ahead.{AreAhead, IsAhead, IsNumberedAhead}
use Rattle.session_turns.specs.Rounds.{AreSessions, IsNumbered, IsRound, entries_of}
use Rattle.session_turns.specs.Sessions.{IsLeft, IsSession, IsTurned, replies_told}
use Rattle.session_turns.specs.Sharing.{Shares}
use Rattle.session_turns.specs.declared.session.Session.{Session}
use Rattle.session_turns.specs.declared.session.Turned.{Turned}
use Rattle.session_turns.specs.declared.shared.Shared.{Shared}
use Rattle.session_turns.proofs.Rows.{alike_kept, alike_more}
use Rattle.session_turns.proofs.SessionTurns.{ahead_stays, session_stays}

-- the session under its number
abbrev pub entered : {A : Type 0} → ℕ → Option (Session A) → Option (Entry (Session A))
entered number None = None
entered number (Some session) = Some (record { number = number; value = session })

abbrev pub with_reply : List Reply → Option Reply → List Reply
with_reply before None = before
with_reply before (Some reply) = before ++ reply ∷ []

map_more : (xs ys : List Reply) → map reply_meant (xs ++ ys) ≡ map reply_meant xs ++ map reply_meant ys
map_more [] ys = refl
map_more (x ∷ xs) ys = ap (λ l. reply_meant x ∷ l) (map_more xs ys)

told : (before : List Reply) (o : Option Reply) → map reply_meant (with_reply before o) ≡ map reply_meant before ++ replies_told o
told before None = sym (append-nil (map reply_meant before))
told before (Some reply) = map_more before (reply ∷ [])

-- nothing more is turned
pub at_once : (hash : Hash) (P : Program) (ending : ℕ → ℕ) (xs : List (Numbered meant.Session)) (m : meant.Shared) → RoundReaches hash P ending xs m m
at_once hash P ending [] m = refl
at_once hash P ending (x ∷ xs) m = inl refl

-- of a failure holds what holds
pub on_err : {A E : Type 0} (r : Result A E) (X : Type 0) → X → OnErr r X
on_err (Ok a) X x = tt
on_err (Err e) X x = x

-- the count of those to come, as one of them is taken
pub one_taken : {A : Type 0} (xs ys : List A) (x : A) (n k : ℕ) → xs ≡ x ∷ ys → k + 1 ≡ n → n ≡ length xs → k ≡ length ys
one_taken xs ys x n k e one count = let same = ap length e in omega (arith, same, one, count)

pub none_left : {A : Type 0} (xs : List A) (n : ℕ) → n ≡ 0 → n ≡ length xs → xs ≡ []
none_left [] n z count = refl
none_left (x ∷ xs) n z count = absurd (omega arith)

module _ (hash : Hash) (code : Code) (slice : ℕ) where
  abbrev P : Program
  P = program_of code

  abbrev turn : Numbered meant.Session → meant.Shared → meant.Turned
  turn x m = meant.turn hash P (meant.last_turn slice) x.number x.value m

  abbrev pub round : List (Numbered meant.Session) → meant.Shared → meant.Turned
  round xs m = meant.round hash P (meant.last_turn slice) xs m

  abbrev Reaches : List (Numbered meant.Session) → meant.Shared → meant.Shared → Type 0
  Reaches xs m reached = RoundReaches hash P (meant.last_turn slice) xs m reached

module _ (hash : Hash) (code : Code) (slice : ℕ) {A : Type 0} where
  left_row : (shared : Shared) (versions : List Value) (number : ℕ) (o : Option (Session A)) (ys : List (Numbered meant.Session))
      → IsLeft hash code slice (nodes_in shared.store) versions number o ys → AreSessions hash code slice shared versions (entries_of (entered number o)) ys
  left_row shared versions number None [] l = tt
  left_row shared versions number (Some session) (y ∷ []) l = (record { number = sym l.0; session = l.1 }, tt)
  left_row shared versions number o ys l = elim l [ ]

  -- a turn of a session is one of its entry
  pub entry_turned : (shared : Shared) (number : ℕ) (turned : Turned A) (x : Numbered meant.Session) (m : meant.Shared) (o : Option (Session A)) (before behind : List Reply)
      → number ≡ x.number → turned.session ≡ o → with_reply before turned.reply ≡ behind
      → IsTurned hash code slice shared number turned (meant.turn hash (program_of code) (meant.last_turn slice) number x.value m)
      → IsRound hash code slice shared (entries_of (entered number o)) before behind (turn hash code slice x m)
  entry_turned shared number turned x m o before behind is left replied h =
      subst (λ n. IsRound hash code slice shared (entries_of (entered number o)) before behind (meant.turn hash (program_of code) (meant.last_turn slice) n x.value m)) is
      (record {
        shares = h.shares;
        left = let t = meant.turn hash (program_of code) (meant.last_turn slice) number x.value m in
            left_row shared t.shared.versions number o t.sessions (subst (λ s. IsLeft hash code slice (nodes_in shared.store) t.shared.versions number s t.sessions) left h.left);
        replies = ap (map reply_meant) (sym replied) ∙ told before turned.reply ∙ ap (λ l. map reply_meant before ++ l) h.replies;
      })

  -- the sessions stay as others are settled
  row_stays : (old new : Shared) (vs ws : List Value) (entries : List (Entry (Session A))) (xs : List (Numbered meant.Session)) → Grows (nodes_in old.store) (nodes_in new.store)
      → Extends vs ws → AreSessions hash code slice old vs entries xs → AreSessions hash code slice new ws entries xs
  row_stays old new vs ws entries xs grows more h = alike_kept (IsNumbered hash code slice old vs) (IsNumbered hash code slice new ws) stays entries xs h
    where
      stays : (entry : Entry (Session A)) (x : Numbered meant.Session) → IsNumbered hash code slice old vs entry x → IsNumbered hash code slice new ws entry x
      stays entry x i = record {
        number = i.number;
        session = subst (λ l. IsSession hash code slice (nodes_in new.store) l entry.value x.value) (sym more.1)
            (session_stays hash code slice (nodes_in old.store) (nodes_in new.store) vs more.0 entry.value x.value grows i.session);
      }

  -- and those whose turns aren't settled yet
  ahead_row_stays : (old new : Shared) (vs ws : List Value) (entries : List (Entry (Session A))) (xs : List (Numbered meant.Session)) → Grows (nodes_in old.store) (nodes_in new.store)
      → Extends vs ws → AreAhead hash code slice old vs entries xs → AreAhead hash code slice new ws entries xs
  ahead_row_stays old new vs ws entries xs grows more h = alike_kept (IsNumberedAhead hash code slice old vs) (IsNumberedAhead hash code slice new ws) stays entries xs h
    where
      stays : (entry : Entry (Session A)) (x : Numbered meant.Session) → IsNumberedAhead hash code slice old vs entry x → IsNumberedAhead hash code slice new ws entry x
      stays entry x i = record {
        number = i.number;
        session = subst (λ l. IsAhead hash code slice (nodes_in new.store) l entry.value x.value) (sym more.1)
            (ahead_stays hash code slice (nodes_in old.store) (nodes_in new.store) vs more.0 entry.value x.value grows i.session);
      }

  -- As the turns of xs over m are settled: those of some of them are, and those of the rest are still to come.
  pub record IsSofar (m : meant.Shared) (xs : List (Numbered meant.Session)) (shared : Shared) (entries kept : List (Entry (Session A))) (old new : List Reply) : Type 0 where
    pub sofar : meant.Turned
    pub rest : List (Numbered meant.Session)
    pub shares : Shares hash (program_of code) shared sofar.shared
    pub are_kept : AreSessions hash code slice shared sofar.shared.versions kept sofar.sessions
    pub stand : AreAhead hash code slice shared sofar.shared.versions entries rest
    pub are_told : map reply_meant new ≡ map reply_meant old ++ sofar.replies
    pub whole : joined sofar (round hash code slice rest sofar.shared) ≡ round hash code slice xs m
    pub reached : (r : meant.Shared) → Reaches hash code slice rest sofar.shared r → Reaches hash code slice xs m r

  pub begins : (shared : Shared) (entries : List (Entry (Session A))) (old : List Reply) (m : meant.Shared) (xs : List (Numbered meant.Session))
      → Shares hash (program_of code) shared m → AreAhead hash code slice shared m.versions entries xs → IsSofar m xs shared entries [] old old
  begins shared entries old m xs h r = record {
    sofar = record { sessions = []; shared = m; replies = [] };
    rest = xs;
    shares = h;
    are_kept = tt;
    stand = r;
    are_told = sym (append-nil (map reply_meant old));
    whole = refl;
    reached = λ r h. h;
  }

  module _ (m : meant.Shared) (xs : List (Numbered meant.Session)) (shared : Shared) (entry : Entry (Session A)) (entries kept : List (Entry (Session A))) (old mid : List Reply)
      (h : IsSofar m xs shared (entry ∷ entries) kept old mid) where
    -- the next of them
    pub record IsNext : Type 0 where
      pub x : Numbered meant.Session
      pub ys : List (Numbered meant.Session)
      pub is : h.rest ≡ x ∷ ys
      pub this : IsNumberedAhead hash code slice shared h.sofar.shared.versions entry x
      pub others : AreAhead hash code slice shared h.sofar.shared.versions entries ys

    pub next : IsNext
    next = by h.rest refl h.stand
      where
        by : (rest : List (Numbered meant.Session)) → h.rest ≡ rest → AreAhead hash code slice shared h.sofar.shared.versions (entry ∷ entries) rest → IsNext
        by [] e r = elim r [ ]
        by (x ∷ ys) e r = record { x = x; ys = ys; is = e; this = r.0; others = r.1 }

    pub goes_on : (after : Shared) (new : List Reply) (left : Option (Entry (Session A))) → Grows (nodes_in shared.store) (nodes_in after.store)
        → IsRound hash code slice after (entries_of left) mid new (turn hash code slice next.x h.sofar.shared) → IsSofar m xs after entries (kept ++ entries_of left) old new
    goes_on after new left grows q =
        let x = next.x in
        let ys = next.ys in
        let t = turn hash code slice x h.sofar.shared in
        let more = turn_extends hash (program_of code) (meant.last_turn slice) h.sofar.shared.versions x.number x.value h.sofar.shared (extends_same h.sofar.shared.versions) in
        let stay = row_stays shared after h.sofar.shared.versions t.shared.versions kept h.sofar.sessions grows more h.are_kept in
        record {
          sofar = joined h.sofar t;
          rest = ys;
          shares = q.shares;
          are_kept = alike_more (IsNumbered hash code slice after t.shared.versions) kept (entries_of left) h.sofar.sessions t.sessions stay q.left;
          stand = ahead_row_stays shared after h.sofar.shared.versions t.shared.versions entries ys grows more next.others;
          are_told = q.replies ∙ ap (λ l. l ++ t.replies) h.are_told ∙ append_assoc (map reply_meant old) h.sofar.replies t.replies;
          whole = sym (round_step hash (program_of code) (meant.last_turn slice) h.sofar x ys)
              ∙ subst (λ l. joined h.sofar (round hash code slice l h.sofar.shared) ≡ round hash code slice xs m) next.is h.whole;
          reached = λ r i. h.reached r (subst (λ l. Reaches hash code slice l h.sofar.shared r) (sym next.is) (inr i));
        }

    -- where its turn stops, what is shared is as before it or behind it
    pub stops : (r : meant.Shared) → Reaches hash code slice (next.x ∷ []) h.sofar.shared r → Reaches hash code slice xs m r
    stops r i = h.reached r (subst (λ l. Reaches hash code slice l h.sofar.shared r) (sym next.is) (by i))
      where
        by : Reaches hash code slice (next.x ∷ []) h.sofar.shared r → Reaches hash code slice (next.x ∷ next.ys) h.sofar.shared r
        by (inl e) = inl e
        by (inr e) = inr (subst (λ s. Reaches hash code slice next.ys (turn hash code slice next.x h.sofar.shared).shared s) (sym e) (at_once hash (program_of code) (meant.last_turn slice) next.ys (turn hash code slice next.x h.sofar.shared).shared))

  pub ends : (m : meant.Shared) (xs : List (Numbered meant.Session)) (shared : Shared) (entries kept : List (Entry (Session A))) (old new : List Reply) → entries ≡ []
      → IsSofar m xs shared entries kept old new → IsRound hash code slice shared kept old new (round hash code slice xs m)
  ends m xs shared [] kept old new e h = by h.rest h.stand h.whole
    where
      by : (rest : List (Numbered meant.Session)) → AreAhead hash code slice {A = A} shared h.sofar.shared.versions [] rest → joined h.sofar (round hash code slice rest h.sofar.shared) ≡ round hash code slice xs m
          → IsRound hash code slice shared kept old new (round hash code slice xs m)
      by (x ∷ ys) r w = elim r [ ]
      by [] r w =
          let sessions = ap (λ l. record { sessions = l; shared = h.sofar.shared; replies = h.sofar.replies ++ [] }) (append-nil h.sofar.sessions) in
          let replies = ap (λ l. record { sessions = h.sofar.sessions; shared = h.sofar.shared; replies = l }) (append-nil h.sofar.replies) in
          subst (λ t. IsRound hash code slice shared kept old new t) (sym replies ∙ sym sessions ∙ w)
          (record { shares = h.shares; left = h.are_kept; replies = h.are_told })
  ends m xs shared (s ∷ ss) kept old new e h = absurd (cc (e))
