-- Sessions whose calls have taken a turn that isn't settled yet.
use Rattle.std.specs.Prelude.{◌≡◌, ℕ, suc, ◌<◌, ◌+◌, ◌*◌, List, Option, Some, None, IfOk, is_some, length, nat_le}
use Rattle.core_terms.specs.Formats.{Hash}
use Rattle.core_terms.specs.Values.{Value}
use Rattle.code_gen.specs.declared.code.Code.{Code}
use Rattle.mode_vm.specs.Meanings.{program_of}
use Rattle.reuse_buffer.specs.Kept.{kept}
use Rattle.session_meaning.specs.Calls.{calls_of}
use Rattle.session_meaning.specs.Server as meant
use Rattle.session_meaning.specs.Tables.{Numbered}
use Rattle.session_tables.specs.declared.table.Entry.{Entry}
use Rattle.value_store.specs.Nodes.{Node}
use Rattle.value_store.specs.Stores.{nodes_in}
use Rattle.session_turns.specs.RoleRuns.{IsRunOf}
use Rattle.session_turns.specs.Rows.{AreAlike}
use Rattle.session_turns.specs.declared.session.Session.{Session}
use Rattle.session_turns.specs.declared.session.SessionCall.{SessionCall}
use Rattle.session_turns.specs.declared.shared.Shared.{Shared}

-- Where a turn makes at most `slice` calls of functions.
module _ (hash : Hash) (code : Code) (slice : ℕ) {A : Type 0} where
  -- The call is this one, a turn further, and has run exactly where this was its last turn; or memory was wanting in the turn. Or none runs.
  abbrev pub RunsAhead : List Node → (state : Value) → Option (SessionCall A) → Option meant.Running → Type 0
  RunsAhead nodes state (Some c) (Some r) = IfOk c.run.last (λ told. IsRunOf hash code nodes c.run c.call state r.call (r.turns * slice + slice)
      × (is_some told ≡ nat_le (meant.last_turn slice (calls_of (program_of code) state r.call)) (suc r.turns)))
  RunsAhead nodes state None None = Unit {0}
  RunsAhead nodes state c r = ⊥

  -- Over these nodes and versions it stands for this session, but that its call is a turn ahead.
  pub record IsAhead (nodes : List Node) (versions : List Value) (session : Session A) (s : meant.Session) : Type 0 where
    pub at_version : session.version ≡ s.version
    pub there : s.version < length versions
    pub holds : session.ring ≡ kept s.kept s.recent
    pub runs : RunsAhead nodes (meant.version_at versions s.version) session.running s.running

  -- under the same number, over what is shared
  pub record IsNumberedAhead (shared : Shared) (versions : List Value) (entry : Entry (Session A)) (x : Numbered meant.Session) : Type 0 where
    pub number : entry.number ≡ x.number
    pub session : IsAhead (nodes_in shared.store) versions entry.value x.value

  -- the sessions of the code are these, each a turn ahead, in this order
  abbrev pub AreAhead : Shared → List Value → List (Entry (Session A)) → List (Numbered meant.Session) → Type 0
  AreAhead shared versions entries xs = AreAlike (IsNumberedAhead shared versions) entries xs
