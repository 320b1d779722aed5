-- Turns of sessions in a row, each on its own nodes over a base that stays, before any of them is settled.
use Rattle.std.specs.Prelude.{◌≡◌, ℕ, List, [], ◌∷◌, Option, Some, None, Ok}
use Rattle.core_terms.specs.Formats.{Hash}
use Rattle.core_terms.specs.Values.{Values}
use Rattle.code_gen.specs.declared.code.Code.{Code}
use Rattle.session_tables.specs.declared.table.Entry.{Entry}
use Rattle.value_store.specs.Nodes.{Node}
use Rattle.session_turns.specs.Rows.{AreAlike}
use Rattle.session_turns.specs.Running.{IsRunning, RunsTo}
use Rattle.session_turns.specs.declared.session.Session.{Session}
use Rattle.session_turns.specs.declared.session.SessionCall.{SessionCall}

module _ (hash : Hash) (code : Code) (base : List Node) {A : Type 0} where
  -- the call may take a turn: it stands behind some calls of functions, and hasn't come to its end
  abbrev pub MayTakeTurn : Option (SessionCall A) → Type 0
  MayTakeTurn (Some c) = (f : ℕ) × (vs : Values) × (k : ℕ) × (made : ℕ) × IsRunning hash code base c.run f vs k made × (c.run.last ≡ Ok None)
  MayTakeTurn None = Unit {0}

  -- so it is with the calls of all of them
  abbrev pub AllGoOn : List (Entry (Session A)) → Type 0
  AllGoOn [] = Unit {0}
  AllGoOn (entry ∷ entries) = MayTakeTurn entry.value.running × AllGoOn entries

  module _ (units : ℕ) where
    -- a call is as its own turn leaves it
    abbrev pub CallRunsTo : Option (SessionCall A) → Option (SessionCall A) → Type 0
    CallRunsTo (Some c) (Some d) = RunsTo hash code base units c.run d.run × (d.call ≡ c.call)
    CallRunsTo None None = Unit {0}
    CallRunsTo c d = ⊥

    -- A session is as the turn of its own call leaves it, and all else of it stays.
    pub record IsTurnOf (old new : Entry (Session A)) : Type 0 where
      pub number : new.number ≡ old.number
      pub version : new.value.version ≡ old.value.version
      pub ring : new.value.ring ≡ old.value.ring
      pub running : CallRunsTo old.value.running new.value.running

    -- so are all of them, each by itself, in the same order
    abbrev pub AllTurned : List (Entry (Session A)) → List (Entry (Session A)) → Type 0
    AllTurned = AreAlike IsTurnOf
