-- What is found of the bytes of a state and of a call before they are sent.
use Rattle.std.specs.Prelude.{◌≡◌, ℕ, true, false, List, Option, Some, None, Result, Ok, Err, ⊤}
use Rattle.core_terms.specs.Projection.{read_at}
use Rattle.core_terms.specs.Reading.{Read, Good, BadAt}
use Rattle.core_terms.specs.RoleViews.{role_of}
use Rattle.core_terms.specs.Terms.{Program}
use Rattle.core_terms.specs.Types.{Ty}
use Rattle.core_terms.specs.Values.{Value}
use Rattle.core_terms.specs.declared.roles.Role.{Role}
use Rattle.session_meaning.specs.Calls.{reads_state, role_in}
use Rattle.ask_core.specs.declared.asked.Asked.{Asked}
use Rattle.ask_core.specs.declared.told.AskFault.{AskFault}
use Rattle.ask_core.specs.declared.told.AskFault.TheVariants.{BadState, BadArgument, OutOfTurn, Rejected, Stranger, WrongReply, Failed, Broken, Closed, NoMemory}

-- the bytes spell a value
abbrev pub IsGood : Read Value → Type 0
IsGood read = (v : Value) × (rest : List ℕ) × (end : ℕ) × (read ≡ Good v rest end)

-- the role with a number, where it reads the state; none where it doesn't
abbrev pub IsCalled : List Ty → Program → ℕ → Option Role → Type 0
IsCalled types P number (Some role) = (role_of types role ≡ role_in P number) × (reads_state (role_in P number).kind ≡ true)
IsCalled types P number None = reads_state (role_in P number).kind ≡ false

-- the state is spelled
abbrev pub StateRead : {A : Type 0} → Program → List ℕ → Result A AskFault → Type 0
StateRead P state (Ok unit) = IsGood (read_at P P.state state)
StateRead P state (Err (BadState offset)) = read_at P P.state state ≡ BadAt offset
StateRead P state (Err NoMemory) = ⊤
StateRead P state (Err (BadArgument offset)) = ⊥
StateRead P state (Err OutOfTurn) = ⊥
StateRead P state (Err (Rejected session cause)) = ⊥
StateRead P state (Err (Stranger session)) = ⊥
StateRead P state (Err (WrongReply kind)) = ⊥
StateRead P state (Err (Failed cause)) = ⊥
StateRead P state (Err (Broken kind)) = ⊥
StateRead P state (Err (Closed cause)) = ⊥

-- The role reads the state and the argument is spelled, and the call keeps what was passed.
abbrev pub CallRead : Program → (role fuel : ℕ) → List ℕ → Result Asked AskFault → Type 0
CallRead P role fuel argument (Ok asked) =
    (asked.role ≡ role) × (asked.argument ≡ argument) × (asked.fuel ≡ fuel) × (reads_state (role_in P role).kind ≡ true)
    × IsGood (read_at P (role_in P role).argument argument)
CallRead P role fuel argument (Err (BadArgument offset)) =
    (reads_state (role_in P role).kind ≡ true) × (read_at P (role_in P role).argument argument ≡ BadAt offset)
CallRead P role fuel argument (Err OutOfTurn) = reads_state (role_in P role).kind ≡ false
CallRead P role fuel argument (Err NoMemory) = ⊤
CallRead P role fuel argument (Err (BadState offset)) = ⊥
CallRead P role fuel argument (Err (Rejected session cause)) = ⊥
CallRead P role fuel argument (Err (Stranger session)) = ⊥
CallRead P role fuel argument (Err (WrongReply kind)) = ⊥
CallRead P role fuel argument (Err (Failed cause)) = ⊥
CallRead P role fuel argument (Err (Broken kind)) = ⊥
CallRead P role fuel argument (Err (Closed cause)) = ⊥
