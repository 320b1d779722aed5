-- What the fields of a body's front say, as the definitions of messages go on with them.
use Rattle.std.specs.Prelude.{◌≡◌, ℕ, List, Result, Ok, Err, ⊤}
use Rattle.session_meaning.specs.Messages as meant
use Rattle.wire_form.specs.declared.body.BodyFault.{BodyFault}
use Rattle.wire_form.specs.declared.body.BodyFault.TheVariants.{At, NoMemory}

-- the body has its first fault at this offset; want of memory says nothing of it
abbrev pub Faults : {A : Type 0} → meant.Body A → BodyFault → Type 0
Faults body (At offset) = body ≡ meant.FaultAt offset
Faults body NoMemory = ⊤

-- the body says this message, or has its first fault at this offset
abbrev pub SaysOf : {A M : Type 0} → (M → A) → meant.Body A → Result M BodyFault → Type 0
SaysOf meaning body (Ok message) = body ≡ meant.Says (meaning message)
SaysOf meaning body (Err fault) = Faults body fault

-- a field has the first fault of its body, whatever would follow, and no memory is wanted for it
abbrev pub FieldFaults : {A G : Type 0} → (G → meant.Body A) → BodyFault → Type 0
FieldFaults {G = G} field (At offset) = (go : G) → field go ≡ meant.FaultAt offset
FieldFaults field NoMemory = ⊥

-- A field is gone on with, by what it says and by the bytes behind it; or it has the first fault.
abbrev pub TakesField : {A X R : Type 0} → (R → X) → (R → List ℕ) → ((X → List ℕ → meant.Body A) → meant.Body A) → Result R BodyFault → Type 0
TakesField {A = A} {X = X} said behind field (Ok taken) = (go : X → List ℕ → meant.Body A) → field go ≡ go (said taken) (behind taken)
TakesField said behind field (Err fault) = FieldFaults field fault

-- the same of a field that says nothing
abbrev pub TakesNothing : {A R : Type 0} → (R → List ℕ) → ((List ℕ → meant.Body A) → meant.Body A) → Result R BodyFault → Type 0
TakesNothing {A = A} behind field (Ok taken) = (go : List ℕ → meant.Body A) → field go ≡ go (behind taken)
TakesNothing behind field (Err fault) = FieldFaults field fault

-- nothing is left behind the message, or the first fault is that something is
abbrev pub Ends : {A T : Type 0} → (A → meant.Body A) → Result T BodyFault → Type 0
Ends {A = A} body (Ok done) = (message : A) → body message ≡ meant.Says message
Ends body (Err fault) = FieldFaults body fault
