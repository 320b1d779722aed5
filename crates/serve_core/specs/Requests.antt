-- What requests come to, one by one.
use Rattle.std.specs.Prelude.{◌≡◌, ℕ, List, [], ◌∷◌, map, false, Result, Ok, Err, ⊤}
use Rattle.core_terms.specs.Formats.{Hash}
use Rattle.core_terms.specs.Spelling.{spelling}
use Rattle.core_terms.specs.Terms.{Program}
use Rattle.core_terms.specs.Values.{Value}
use Rattle.session_meaning.specs.Causes as cause
use Rattle.session_meaning.specs.Messages as message
use Rattle.session_meaning.specs.Server as meant
use Rattle.session_meaning.specs.Stopped.{RoundsReach}
use Rattle.session_turns.specs.Granting.{HoldsCall}
use Rattle.session_turns.specs.Refusals.{refusal_meant}
use Rattle.session_turns.specs.declared.grants.Granted.{Granted}
use Rattle.session_turns.specs.declared.refusal.Denial.{Denial}
use Rattle.session_turns.specs.declared.refusal.Denial.TheVariants.{Refused, NoMemory}
use Rattle.value_store.specs.Nodes.{Node}
use Rattle.wire_form.specs.MessageViews.{reply_meant}
use Rattle.serve_core.specs.declared.heard.Replies.{Replies}

-- what is denied was refused for the same cause; where memory is wanting nothing is said
abbrev pub IsDenied : {A : Type 0} → Denial → Result A cause.Refusal → Type 0
IsDenied (Refused refusal) tested = tested ≡ Err (refusal_meant refusal)
IsDenied NoMemory tested = ⊤

-- the replies to what is denied in a session; none where memory is wanting
abbrev pub IsRefusal : ℕ → Denial → Replies → Type 0
IsRefusal number (Refused refusal) replies =
    (map reply_meant replies.list.items ≡ message.Refused number (cause.refusal_cause (refusal_meant refusal)) ∷ []) × (replies.closing ≡ false)
IsRefusal number NoMemory replies = ⊥

module _ (hash : Hash) (P : Program) where
  -- What is granted is the call on the value that the bytes spell, in the session that the test finds.
  abbrev pub IsAdmitted : List Node → (role fuel : ℕ) → List ℕ → Result Granted Denial → Result meant.Admitted cause.Refusal → Type 0
  IsAdmitted nodes role fuel argument (Ok granted) tested =
      (s : meant.Session) × (a : Value) × (tested ≡ Ok (record { session = s; call = record { role = role; argument = a; fuel = fuel } }))
      × HoldsCall hash P nodes granted role a × (argument ≡ spelling a)
  IsAdmitted nodes role fuel argument (Err denial) tested = IsDenied denial tested

  -- what is shared after some of the turns of a request that counts
  abbrev pub RequestReaches : (ending : ℕ → ℕ) → meant.Server → message.Request → meant.Shared → Type 0
  RequestReaches ending server (message.Go n) reached = RoundsReach hash P ending n server.sessions server.shared reached
  RequestReaches ending server request reached = reached ≡ server.shared
