-- What sessions in a row stand for, and what a round of turns leaves of them.
use Rattle.std.specs.Prelude.{◌≡◌, ℕ, List, [], ◌∷◌, ◌++◌, map, Option, Some, None, Bool, is_some}
use Rattle.core_terms.specs.Formats.{Hash}
use Rattle.core_terms.specs.Values.{Value}
use Rattle.code_gen.specs.declared.code.Code.{Code}
use Rattle.mode_vm.specs.Meanings.{program_of}
use Rattle.session_meaning.specs.Server as meant
use Rattle.session_meaning.specs.Tables.{Numbered}
use Rattle.session_tables.specs.declared.table.Entry.{Entry}
use Rattle.value_store.specs.Stores.{nodes_in}
use Rattle.wire_form.specs.MessageViews.{reply_meant}
use Rattle.wire_form.specs.declared.message.Reply.{Reply}
use Rattle.session_turns.specs.Rows.{AreAlike}
use Rattle.session_turns.specs.Sessions.{IsSession}
use Rattle.session_turns.specs.Sharing.{Shares}
use Rattle.session_turns.specs.declared.session.Session.{Session}
use Rattle.session_turns.specs.declared.shared.Shared.{Shared}

-- what a turn leaves of a session: it, or nothing
abbrev pub entries_of : {A : Type 0} → Option (Entry (Session A)) → List (Entry (Session A))
entries_of None = []
entries_of (Some entry) = entry ∷ []

-- a call of the session runs
abbrev pub runs : {A : Type 0} → Entry (Session A) → Bool
runs entry = is_some entry.value.running

-- Where a turn makes at most `slice` calls of functions.
module _ (hash : Hash) (code : Code) (slice : ℕ) {A : Type 0} (shared : Shared) where
  -- a session of the code is this one: under the same number, over what is shared
  pub record IsNumbered (versions : List Value) (entry : Entry (Session A)) (x : Numbered meant.Session) : Type 0 where
    pub number : entry.number ≡ x.number
    pub session : IsSession hash code slice (nodes_in shared.store) versions entry.value x.value

  -- the sessions of the code are these, in this order
  abbrev pub AreSessions : List Value → List (Entry (Session A)) → List (Numbered meant.Session) → Type 0
  AreSessions versions entries xs = AreAlike (IsNumbered versions) entries xs

  -- Turns leave what those of the definitions leave: of what is shared, and of the sessions; and their replies are behind those before.
  pub record IsRound (entries : List (Entry (Session A))) (before behind : List Reply) (t : meant.Turned) : Type 0 where
    pub shares : Shares hash (program_of code) shared t.shared
    pub left : AreSessions t.shared.versions entries t.sessions
    pub replies : map reply_meant behind ≡ map reply_meant before ++ t.replies
