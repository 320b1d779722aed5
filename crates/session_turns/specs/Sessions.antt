-- What a session of the code stands for, and what a turn leaves of it.
use Rattle.std.specs.Prelude.{◌≡◌, ℕ, ◌<◌, ◌*◌, List, [], ◌∷◌, Option, Some, None, Ok, length}
use Rattle.core_terms.specs.Formats.{Hash}
use Rattle.core_terms.specs.Values.{Value}
use Rattle.code_gen.specs.declared.code.Code.{Code}
use Rattle.mode_vm.specs.Meanings.{program_of}
use Rattle.reuse_buffer.specs.Kept.{kept}
use Rattle.session_meaning.specs.Messages as message
use Rattle.session_meaning.specs.Server as meant
use Rattle.session_meaning.specs.Tables.{Numbered}
use Rattle.value_store.specs.Nodes.{Node}
use Rattle.value_store.specs.Stores.{nodes_in}
use Rattle.wire_form.specs.MessageViews.{reply_meant}
use Rattle.wire_form.specs.declared.message.Reply.{Reply}
use Rattle.session_turns.specs.RoleRuns.{IsRunOf}
use Rattle.session_turns.specs.Sharing.{Shares}
use Rattle.session_turns.specs.declared.session.Session.{Session}
use Rattle.session_turns.specs.declared.session.SessionCall.{SessionCall}
use Rattle.session_turns.specs.declared.session.Turned.{Turned}
use Rattle.session_turns.specs.declared.shared.Shared.{Shared}

-- the replies that a turn gives: one or none
abbrev pub replies_told : Option Reply → List message.Reply
replies_told None = []
replies_told (Some reply) = reply_meant reply ∷ []

-- Where a turn makes at most `slice` calls of functions.
module _ (hash : Hash) (code : Code) (slice : ℕ) where
  -- The call that runs is this one, on this state, and has taken its turns whole: it hasn't come to its end. Or none runs.
  abbrev pub Runs : {A : Type 0} → List Node → (state : Value) → Option (SessionCall A) → Option meant.Running → Type 0
  Runs nodes state (Some c) (Some r) = IsRunOf hash code nodes c.run c.call state r.call (r.turns * slice) × (c.run.last ≡ Ok None)
  Runs nodes state None None = Unit {0}
  Runs nodes state c r = ⊥

  -- Over these nodes and versions it stands for this session: at the same version, which is there, with a ring that holds the last
  -- new pieces, and with the same call.
  pub record IsSession {A : Type 0} (nodes : List Node) (versions : List Value) (session : Session A) (s : meant.Session) : Type 0 where
    pub at_version : session.version ≡ s.version
    pub there : s.version < length versions
    pub holds : session.ring ≡ kept s.kept s.recent
    pub runs : Runs nodes (meant.version_at versions s.version) session.running s.running

  -- what is left of the session with this number, or that it has ended
  abbrev pub IsLeft : {A : Type 0} → List Node → List Value → (number : ℕ) → Option (Session A) → List (Numbered meant.Session) → Type 0
  IsLeft nodes versions number (Some session) (x ∷ []) = (x.number ≡ number) × IsSession nodes versions session x.value
  IsLeft nodes versions number None [] = Unit {0}
  IsLeft nodes versions number session xs = ⊥

  -- A turn leaves what that of the definitions leaves: of what is shared, and of the session; with its reply.
  pub record IsTurned {A : Type 0} (shared : Shared) (number : ℕ) (turned : Turned A) (t : meant.Turned) : Type 0 where
    pub shares : Shares hash (program_of code) shared t.shared
    pub left : IsLeft (nodes_in shared.store) t.shared.versions number turned.session t.sessions
    pub replies : replies_told turned.reply ≡ t.replies
