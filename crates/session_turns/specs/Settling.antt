-- How the end of a run is settled.
use Rattle.std.specs.Prelude.{◌≡◌, ℕ, true, List, [], ◌∷◌, ◌++◌, take, Option, Some, None}
use Rattle.core_terms.specs.Formats.{Hash}
use Rattle.core_terms.specs.Terms.{Program}
use Rattle.core_terms.specs.Values.{Value}
use Rattle.ideal_meaning.specs.Frames.{Frame, frame_bytes}
use Rattle.ideal_meaning.specs.Following.{after_frames}
use Rattle.session_meaning.specs.Calls.{RoleCall}
use Rattle.session_meaning.specs.Messages as message
use Rattle.session_meaning.specs.Server as meant
use Rattle.value_store.specs.Nodes.{Node}
use Rattle.value_store.specs.Overs.{own_nodes}
use Rattle.value_store.specs.declared.node.Ref.{Ref}
use Rattle.session_turns.specs.Sharing.{IsCommit}
use Rattle.session_turns.specs.Versions.{IsVersion}
use Rattle.session_turns.specs.declared.settling.RunEnd.{RunEnd}
use Rattle.session_turns.specs.declared.settling.Settled.{Settled}
use Rattle.session_turns.specs.declared.settling.Settled.TheVariants.{Proved, Stale}

-- the node of the state that a run made stands for it, and it made none where there is no node
abbrev pub IsMade : Hash → Program → List Node → Option Ref → Option Value → Type 0
IsMade hash P nodes (Some r) (Some v) = IsVersion hash P nodes r v
IsMade hash P nodes None None = Unit {0}
IsMade hash P nodes r v = ⊥

-- The end of a run of this call in a session, with these frames, which fit into a message, and this state that it made: its own nodes
-- stand behind the first ones of the store.
pub record EndsSo (hash : Hash) (P : Program) (nodes : List Node) (ended : RunEnd) (s : meant.Session) (call : RoleCall) (frames : List Frame) (made : Option Value) : Type 0 where
  pub on_version : ended.version ≡ s.version
  pub fits : meant.fits_message frames ≡ true
  pub has_made : IsMade hash P (take ended.from nodes ++ own_nodes ended.own) ended.made made
  pub of_call : IsCommit ended.call call

-- What the turn leaves of the session, and its reply.
abbrev pub IsSettled : (number : ℕ) → meant.Session → List Frame → Settled → meant.Turned → Type 0
IsSettled number s frames (Proved version) t =
    (t.sessions ≡ meant.one_session number (record { version = version; kept = s.kept; recent = after_frames frames s.recent; running = None }))
    × (t.replies ≡ message.Proof number (frame_bytes frames) ∷ [])
IsSettled number s frames (Stale state) t = (t.sessions ≡ []) × (t.replies ≡ message.Stale number state ∷ [])
