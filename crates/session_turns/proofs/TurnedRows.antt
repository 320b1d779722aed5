-- Rows of sessions as their turns are taken, each by itself.
use Rattle.std.proofs.Common.{◌≡◌, ℕ, ◌*◌, ◌<◌, List, [], ◌∷◌, ◌++◌, length, take, drop, Option, Some, None, refl, sym, ap, ◌∙◌, subst, append-nil}
use Rattle.std.proofs.lemmas.Result.{IfOk-weaker}
use Rattle.std.proofs.Math.Seq.{take-length}
use Rattle.std.proofs.lemmas.List.{take-append-drop}
use Rattle.core_terms.specs.Formats.{Hash}
use Rattle.core_terms.specs.Values.{Value}
use Rattle.code_gen.specs.declared.code.Code.{Code}
use Rattle.ideal_meaning.specs.Headline.{call_values}
use Rattle.mode_vm.specs.Meanings.{program_of}
use Rattle.session_meaning.specs.Calls.{calls_of, role_in}
use Rattle.session_meaning.specs.Server as meant
use Rattle.session_meaning.specs.Tables.{Numbered}
use Rattle.session_tables.specs.declared.table.Entry.{Entry}
use Rattle.value_store.specs.Nodes.{Node}
use Rattle.value_store.specs.Stores.{nodes_in}
use Rattle.session_turns.specs.Ahead.{AreAhead, IsNumberedAhead, RunsAhead}
use Rattle.session_turns.specs.Rounds.{AreSessions, IsNumbered}
use Rattle.session_turns.specs.Sessions.{Runs}
use Rattle.session_turns.specs.Sharing.{IsCommit}
use Rattle.session_turns.specs.Turning.{AllGoOn, AllTurned, CallRunsTo, MayTakeTurn, IsTurnOf}
use Rattle.session_turns.specs.declared.session.Session.{Session}
use Rattle.session_turns.specs.declared.session.SessionCall.{SessionCall}
use Rattle.session_turns.specs.declared.shared.Shared.{Shared}
use Rattle.session_turns.proofs.Rows.{alike_more}
use Rattle.session_turns.proofs.Turns.{same_turn}

module _ (hash : Hash) (code : Code) (base : List Node) {A : Type 0} where
  -- HALVES
  pub front_goes_on : (entries front back : List (Entry (Session A))) → entries ≡ front ++ back → AllGoOn hash code base entries → AllGoOn hash code base front
  front_goes_on entries front back is h = by front (subst (λ xs. AllGoOn hash code base xs) is h)
    where
      by : (front : List (Entry (Session A))) → AllGoOn hash code base (front ++ back) → AllGoOn hash code base front
      by [] h = tt
      by (e ∷ front) h = (h.0, by front h.1)

  pub back_goes_on : (entries front back : List (Entry (Session A))) → entries ≡ front ++ back → AllGoOn hash code base entries → AllGoOn hash code base back
  back_goes_on entries front back is h = by front (subst (λ xs. AllGoOn hash code base xs) is h)
    where
      by : (front : List (Entry (Session A))) → AllGoOn hash code base (front ++ back) → AllGoOn hash code base back
      by [] h = h
      by (e ∷ front) h = by front h.1

  pub halves_turned : (units m : ℕ) (old front back : List (Entry (Session A))) → AllTurned hash code base units (take m old) front → AllTurned hash code base units (drop m old) back
      → AllTurned hash code base units old (front ++ back)
  halves_turned units m old front back p q =
      subst (λ xs. AllTurned hash code base units xs (front ++ back)) (take-append-drop m old)
      (alike_more (IsTurnOf hash code base units) (take m old) (drop m old) front back p q)

-- SESSIONS THAT TAKE A TURN
module _ (hash : Hash) (code : Code) (slice : ℕ) {A : Type 0} (shared : Shared) (versions : List Value) where
  goes_on : (state : Value) (c : Option (SessionCall A)) (r : Option meant.Running) → Runs hash code slice (nodes_in shared.store) state c r → MayTakeTurn hash code (nodes_in shared.store) c
  goes_on state None None h = tt
  goes_on state (Some c) (Some r) h =
      ((role_in (program_of code) r.call.role).function, call_values state r.call.argument, r.call.fuel, r.turns * slice, h.0.0, h.1)
  goes_on state None (Some r) h = elim h [ ]
  goes_on state (Some c) None h = elim h [ ]

  pub all_go_on : (entries : List (Entry (Session A))) (xs : List (Numbered meant.Session)) → AreSessions hash code slice shared versions entries xs → AllGoOn hash code (nodes_in shared.store) entries
  all_go_on [] [] h = tt
  all_go_on (e ∷ es) (x ∷ xs) h = (goes_on _ e.value.running x.value.running h.0.session.runs, all_go_on es xs h.1)
  all_go_on [] (x ∷ xs) h = elim h [ ]
  all_go_on (e ∷ es) [] h = elim h [ ]

  module _ (some : 0 < slice) where
    run_ahead : (state : Value) (c d : Option (SessionCall A)) (r : Option meant.Running) → Runs hash code slice (nodes_in shared.store) state c r
        → CallRunsTo hash code (nodes_in shared.store) slice c d → RunsAhead hash code slice (nodes_in shared.store) state d r
    run_ahead state None None None h t = tt
    run_ahead state (Some c) (Some d) (Some r) h t =
        let P = program_of code in
        let turned = t.0 (role_in P r.call.role).function (call_values state r.call.argument) r.call.fuel (r.turns * slice) h.0.0 in
        IfOk-weaker d.run.last _ _ (λ told e. ((turned.0, subst (λ k. IsCommit k r.call) (sym t.1) h.0.1), e ∙ same_turn slice (calls_of P state r.call) r.turns some)) turned.1
    run_ahead state (Some c) None r h t = elim t [ ]
    run_ahead state None (Some d) r h t = elim t [ ]
    run_ahead state None None (Some r) h t = elim h [ ]
    run_ahead state (Some c) (Some d) None h t = elim h [ ]

    entry_ahead : (old new : Entry (Session A)) (x : Numbered meant.Session) → IsNumbered hash code slice shared versions old x
        → IsTurnOf hash code (nodes_in shared.store) slice old new → IsNumberedAhead hash code slice shared versions new x
    entry_ahead old new x h t = record {
      number = t.number ∙ h.number;
      session = record {
        at_version = t.version ∙ h.session.at_version;
        there = h.session.there;
        holds = t.ring ∙ h.session.holds;
        runs = run_ahead (meant.version_at versions x.value.version) old.value.running new.value.running x.value.running h.session.runs t.running;
      };
    }

    pub all_ahead : (old new : List (Entry (Session A))) (xs : List (Numbered meant.Session)) → AreSessions hash code slice shared versions old xs
        → AllTurned hash code (nodes_in shared.store) slice old new → AreAhead hash code slice shared versions new xs
    all_ahead [] [] [] h t = tt
    all_ahead (o ∷ os) (n ∷ ns) (x ∷ xs) h t = (entry_ahead o n x h.0 t.0, all_ahead os ns xs h.1 t.1)
    all_ahead [] [] (x ∷ xs) h t = elim h [ ]
    all_ahead [] (n ∷ ns) xs h t = elim t [ ]
    all_ahead (o ∷ os) [] xs h t = elim t [ ]
    all_ahead (o ∷ os) (n ∷ ns) [] h t = elim h [ ]

-- a list of which all was written
none_behind : {A : Type 0} (old : List A) → drop (length old) old ≡ []
none_behind [] = refl
none_behind (x ∷ xs) = none_behind xs

pub all_written : {A : Type 0} (n : ℕ) (old new : List A) → n ≡ length old → length old ≡ length new → take n (new ++ drop (length new) old) ≡ new
all_written n old new count same =
    ap (λ m. take n (new ++ drop m old)) (sym same) ∙ ap (λ l. take n (new ++ l)) (none_behind old) ∙ ap (take n) (append-nil new)
    ∙ ap (λ m. take m new) (count ∙ same) ∙ take-length new
