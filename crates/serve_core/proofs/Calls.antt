-- The tests of a call, and its start.
use Rattle.std.proofs.Common.{◌≡◌, ℕ, suc, ◌*◌, ◌<◌, ◌≤◌, Bool, true, false, not, nat_lt, if◌then◌else◌, List, [], ◌∷◌, length, get_or}
use Rattle.std.proofs.Common.{Option, Some, None, is_some, Result, Ok, Err, refl, ap, ◌∙◌, subst, arith, ltb-false}
use Rattle.core_terms.specs.Formats.{Hash}
use Rattle.core_terms.specs.Limits.{most_fuel}
use Rattle.core_terms.specs.Projection.{read_at}
use Rattle.core_terms.specs.Spelling.{AreBytes}
use Rattle.core_terms.specs.Terms.{Program}
use Rattle.core_terms.specs.Values.{Value}
use Rattle.core_terms.proofs.ReadOnly.{read_spells}
use Rattle.code_gen.specs.declared.code.Code.{Code}
use Rattle.ideal_meaning.specs.Headline.{call_values}
use Rattle.mode_vm.specs.Meanings.{program_of}
use Rattle.session_meaning.specs.Calls.{RoleCall, reads_state, role_in}
use Rattle.session_meaning.specs.Causes as cause
use Rattle.session_meaning.specs.Server as meant
use Rattle.session_meaning.specs.Tables.{find}
use Rattle.session_meaning.proofs.Orderly.{call_ok}
use Rattle.session_turns.specs.Granting.{IsGranted}
use Rattle.session_turns.specs.Running.{IsRunning}
use Rattle.session_turns.specs.Sessions.{IsSession, Runs}
use Rattle.session_turns.specs.Sharing.{IsCommit}
use Rattle.session_turns.specs.declared.grants.Granted.{Granted}
use Rattle.session_turns.specs.declared.refusal.Denial.{Denial}
use Rattle.session_turns.specs.declared.refusal.Denial.TheVariants.{Refused, NoMemory}
use Rattle.session_turns.specs.declared.session.Session.{Session}
use Rattle.session_turns.specs.declared.session.SessionCall.{SessionCall}
use Rattle.value_store.specs.Nodes.{Node}
use Rattle.serve_core.specs.Requests.{IsAdmitted}

module _ (hash : Hash) (P : Program) (own : List ℕ) (ending : ℕ → ℕ) where
  abbrev session_test : Option meant.Session → ℕ → ℕ → ℕ → List ℕ → Result meant.Admitted cause.Refusal
  session_test o versions role fuel argument = meant.session_test hash P own ending o versions role fuel argument

  -- a call that is admitted has no more fuel than there may be
  pub fuel_fits : (o : Option meant.Session) (versions role fuel : ℕ) (argument : List ℕ) (a : meant.Admitted)
      → session_test o versions role fuel argument ≡ Ok a → fuel ≤ most_fuel
  fuel_fits None versions role fuel argument a e = absurd (cc (e))
  fuel_fits (Some s) versions role fuel argument a e =
      by (is_some s.running) (reads_state (role_in P role).kind) (nat_lt most_fuel fuel)
      (meant.argument_test hash P own ending (read_at P (role_in P role).argument argument) versions s role fuel) refl e
    where
      by : (runs reads much : Bool) (read : Result meant.Admitted cause.Refusal) → nat_lt most_fuel fuel ≡ much
          → (if runs then Err cause.CallRuns else (if not reads then Err cause.NoRole else (if much then Err cause.MuchFuel else read))) ≡ Ok a → fuel ≤ most_fuel
      by true reads much read f e = absurd (cc (e))
      by false false much read f e = absurd (cc (e))
      by false true true read f e = absurd (cc (e))
      by false true false read f e = ltb-false _ _ f

  pub no_session : (server : meant.Server) (number role fuel : ℕ) (argument : List ℕ) → find number server.sessions ≡ None
      → meant.call_test hash P own ending server number role fuel argument ≡ Err cause.NoSession
  no_session server number role fuel argument e = ap (λ o. session_test o (length server.shared.versions) role fuel argument) e

  pub call_runs : (server : meant.Server) (number role fuel : ℕ) (argument : List ℕ) (s : meant.Session) → find number server.sessions ≡ Some s → is_some s.running ≡ true
      → meant.call_test hash P own ending server number role fuel argument ≡ Err cause.CallRuns
  call_runs server number role fuel argument s e runs =
      ap (λ o. session_test o (length server.shared.versions) role fuel argument) e
      ∙ ap (λ b. if b then Err cause.CallRuns else (if not (reads_state (role_in P role).kind) then Err cause.NoRole
      else (if nat_lt most_fuel fuel then Err cause.MuchFuel
      else meant.argument_test hash P own ending (read_at P (role_in P role).argument argument) (length server.shared.versions) s role fuel))) runs

  -- what is granted in the session that is found is admitted
  pub admitted : (nodes : List Node) (server : meant.Server) (number role fuel : ℕ) (argument : List ℕ) (s : meant.Session) (result : Result Granted Denial) → find number server.sessions ≡ Some s
      → AreBytes argument → IsGranted hash P s role fuel nodes result (session_test (Some s) (length server.shared.versions) role fuel argument)
      → IsAdmitted hash P nodes role fuel argument result (meant.call_test hash P own ending server number role fuel argument)
  admitted nodes server number role fuel argument s (Ok granted) e bytes h =
      let is = ap (λ o. session_test o (length server.shared.versions) role fuel argument) e ∙ h.1 in
      let good = (call_ok hash P own ending server number role fuel argument (record { session = s; call = record { role = role; argument = h.0; fuel = fuel } }) is).good in
      (s, h.0, is, h.2, (read_spells P.types P.format.limit argument (role_in P role).argument h.0 _ _ bytes good).is)
  admitted nodes server number role fuel argument s (Err (Refused refusal)) e bytes h =
      ap (λ o. session_test o (length server.shared.versions) role fuel argument) e ∙ h
  admitted nodes server number role fuel argument s (Err NoMemory) e bytes h = tt

none_made : (slice : ℕ) → 0 ≡ 0 * slice
none_made slice = omega arith

module _ (hash : Hash) (code : Code) (slice : ℕ) {A : Type 0} (nodes : List Node) where
  -- a call runs in the code where one runs in the definitions
  pub runs_alike : (state : Value) (c : Option (SessionCall A)) (r : Option meant.Running) → Runs hash code slice nodes state c r → is_some c ≡ is_some r
  runs_alike state None None h = refl
  runs_alike state (Some c) (Some r) h = refl
  runs_alike state None (Some r) h = elim h [ ]
  runs_alike state (Some c) None h = elim h [ ]

  -- a session in which a call has begun to run
  pub begins : (versions : List Value) (old : Session A) (new : SessionCall A) (s : meant.Session) (call : RoleCall) → IsSession hash code slice nodes versions old s
      → IsRunning hash code nodes new.run (role_in (program_of code) call.role).function (call_values (meant.version_at versions s.version) call.argument) new.call.fuel 0
      → new.run.last ≡ Ok None → IsCommit new.call call
      → IsSession hash code slice nodes versions (record { version = old.version; ring = old.ring; running = Some new }) (meant.with_run s call 0)
  begins versions old new s call h runs waits is =
      let f = (role_in (program_of code) call.role).function in
      let vs = call_values (meant.version_at versions s.version) call.argument in
      record {
        at_version = h.at_version;
        there = h.there;
        holds = h.holds;
        runs = ((subst (λ n. IsRunning hash code nodes new.run f vs call.fuel n) (none_made slice) (subst (λ k. IsRunning hash code nodes new.run f vs k 0) is.fuel runs), is), waits);
      }
