-- Sessions in a row as rows of a table, and back.
use Rattle.std.proofs.Common.{ℕ, List, [], ◌∷◌}
use Rattle.core_terms.specs.Formats.{Hash}
use Rattle.core_terms.specs.Values.{Value}
use Rattle.code_gen.specs.declared.code.Code.{Code}
use Rattle.session_meaning.specs.Server as meant
use Rattle.session_meaning.specs.Tables.{Numbered}
use Rattle.session_tables.specs.Related.{AreRows}
use Rattle.session_tables.specs.Rows.{rows_in}
use Rattle.session_tables.specs.declared.table.Entry.{Entry}
use Rattle.value_store.specs.Stores.{nodes_in}
use Rattle.session_turns.specs.Rounds.{AreSessions}
use Rattle.session_turns.specs.Sessions.{IsSession}
use Rattle.session_turns.specs.declared.session.Session.{Session}
use Rattle.session_turns.specs.declared.shared.Shared.{Shared}

module _ (hash : Hash) (code : Code) (slice : ℕ) {A : Type 0} (shared : Shared) (versions : List Value) where
  abbrev Rows : List (Entry (Session A)) → List (Numbered meant.Session) → Type 0
  Rows entries xs = AreRows (IsSession hash code slice {A = A} (nodes_in shared.store) versions) (rows_in entries) xs

  pub rows_of_sessions : (entries : List (Entry (Session A))) (xs : List (Numbered meant.Session)) → AreSessions hash code slice shared versions entries xs → Rows entries xs
  rows_of_sessions [] [] h = tt
  rows_of_sessions (e ∷ es) (x ∷ xs) h = (h.0.number, h.0.session, rows_of_sessions es xs h.1)
  rows_of_sessions [] (x ∷ xs) h = elim h [ ]
  rows_of_sessions (e ∷ es) [] h = elim h [ ]

  pub sessions_of_rows : (entries : List (Entry (Session A))) (xs : List (Numbered meant.Session)) → Rows entries xs → AreSessions hash code slice shared versions entries xs
  sessions_of_rows [] [] h = tt
  sessions_of_rows (e ∷ es) (x ∷ xs) h = (record { number = h.0; session = h.1 }, sessions_of_rows es xs h.2)
  sessions_of_rows [] (x ∷ xs) h = elim h [ ]
  sessions_of_rows (e ∷ es) [] h = elim h [ ]
