-- How the fields of a body are gone on with: for the functions of body.rt and fields.rt.
use Rattle.std.proofs.Common.{◌≡◌, ℕ, zero, suc, false, arith, List, Result, Ok, Err, IsErrAnd, nat_eq, if◌then◌else◌, refl, sym, subst, ◌∙◌}
use Rattle.std.proofs.lemmas.Grind.{common_steps}
use Rattle.session_meaning.specs.Messages as meant
use Rattle.session_meaning.specs.Messages.{Request, Reply}
use Rattle.wire_form.specs.TakenFields.{FieldFaults, Faults, SaysOf, TakesField, TakesNothing}
use Rattle.wire_form.specs.declared.body.BodyFault.{BodyFault}
use Rattle.wire_form.specs.declared.body.BodyFault.TheVariants.{At, NoMemory}

-- a fault is handed on, of a body that has it
pub handed_on : {A M : Type 0} (meaning : M → A) (body : meant.Body A) (fault : BodyFault) (result : Result M BodyFault)
    → IsErrAnd result (λ e. e ≡ fault) → Faults body fault → SaysOf meaning body result
handed_on meaning body fault (Ok message) handed faults = absurd handed
handed_on meaning body fault (Err e) handed faults = let P : BodyFault → Type 0 = λ e. Faults body e in subst P (sym handed) faults

-- a body that goes on with a faulty field has its fault
pub of_field : {A G : Type 0} (field : G → meant.Body A) (fault : BodyFault) (body : meant.Body A) (go : G) → body ≡ field go → FieldFaults field fault → Faults body fault
of_field field (At offset) body go is faults = is ∙ faults go
of_field field NoMemory body go is faults = tt

-- a fault of a field within another one is handed on
pub handed_field : {A X R G : Type 0} (said : R → X) (behind : R → List ℕ) (field : (X → List ℕ → meant.Body A) → meant.Body A)
    (inner : G → meant.Body A) (within : (X → List ℕ → meant.Body A) → G) (fault : BodyFault) (result : Result R BodyFault)
    → ((go : X → List ℕ → meant.Body A) → field go ≡ inner (within go)) → IsErrAnd result (λ e. e ≡ fault) → FieldFaults inner fault → TakesField said behind field result
handed_field said behind field inner within fault (Ok taken) is handed faults = absurd handed
handed_field said behind field inner within (At offset) (Err e) is handed faults =
    let P : BodyFault → Type 0 = λ e. FieldFaults field e in subst P (sym handed) (λ go. is go ∙ faults (within go))
handed_field said behind field inner within NoMemory (Err e) is handed faults = absurd faults

-- the same within a field that says nothing
pub handed_nothing : {A R G : Type 0} (behind : R → List ℕ) (field : (List ℕ → meant.Body A) → meant.Body A)
    (inner : G → meant.Body A) (within : (List ℕ → meant.Body A) → G) (fault : BodyFault) (result : Result R BodyFault)
    → ((go : List ℕ → meant.Body A) → field go ≡ inner (within go)) → IsErrAnd result (λ e. e ≡ fault) → FieldFaults inner fault → TakesNothing behind field result
handed_nothing behind field inner within fault (Ok taken) is handed faults = absurd handed
handed_nothing behind field inner within (At offset) (Err e) is handed faults =
    let P : BodyFault → Type 0 = λ e. FieldFaults field e in subst P (sym handed) (λ go. is go ∙ faults (within go))
handed_nothing behind field inner within NoMemory (Err e) is handed faults = absurd faults

-- a session that isn't 0, and one that is
abbrev pub unless_zero : {A : Type 0} → (ℕ → List ℕ → meant.Body A) → ℕ → List ℕ → meant.Body A
unless_zero go session rest = if nat_eq session 0 then meant.FaultAt 1 else go session rest

abbrev pub where_zero : {A : Type 0} → (List ℕ → meant.Body A) → ℕ → List ℕ → meant.Body A
where_zero go session rest = if nat_eq session 0 then go rest else meant.FaultAt 1

pub refused_zero : {A : Type 0} (go : ℕ → List ℕ → meant.Body A) (session : ℕ) (rest : List ℕ) → session ≡ 0 → unless_zero go session rest ≡ meant.FaultAt 1
refused_zero go session rest is = rw is refl

pub taken_session : {A : Type 0} (go : ℕ → List ℕ → meant.Body A) (session : ℕ) (rest : List ℕ) → (session ≡ 0 → ⊥) → unless_zero go session rest ≡ go session rest
taken_session go zero rest differs = absurd (differs refl)
taken_session go (suc session) rest differs = let e : nat_eq (suc session) 0 ≡ false = grind (arith, common_steps) in rw e refl

pub taken_zero : {A : Type 0} (go : List ℕ → meant.Body A) (session : ℕ) (rest : List ℕ) → session ≡ 0 → where_zero go session rest ≡ go rest
taken_zero go session rest is = rw is refl

pub refused_session : {A : Type 0} (go : List ℕ → meant.Body A) (session : ℕ) (rest : List ℕ) → (session ≡ 0 → ⊥) → where_zero go session rest ≡ meant.FaultAt 1
refused_session go zero rest differs = absurd (differs refl)
refused_session go (suc session) rest differs = let e : nat_eq (suc session) 0 ≡ false = grind (arith, common_steps) in rw e refl

-- what each request goes on with behind a field
abbrev pub hello_end : ℕ → List ℕ → ℕ → List ℕ → meant.Body Request
hello_end session program n state = meant.Says (meant.Hello session program n state)

abbrev pub hello_number : ℕ → List ℕ → List ℕ → meant.Body Request
hello_number session program rest = meant.field 2 meant.u16_in 35 rest (hello_end session program)

abbrev pub hello_program : ℕ → List ℕ → meant.Body Request
hello_program session rest = meant.program_field rest (hello_number session)

abbrev pub call_end : ℕ → ℕ → ℕ → List ℕ → meant.Body Request
call_end session role fuel argument = meant.Says (meant.Call session role fuel argument)

abbrev pub call_fuel : ℕ → ℕ → List ℕ → meant.Body Request
call_fuel session role rest = meant.field 8 meant.u64_in 5 rest (call_end session role)

abbrev pub call_role : ℕ → List ℕ → meant.Body Request
call_role session rest = meant.field 2 meant.u16_in 3 rest (call_fuel session)

abbrev pub go_end : ℕ → List ℕ → meant.Body Request
go_end rounds rest = meant.ends_at 7 rest (meant.Go rounds)

abbrev pub go_rounds : List ℕ → meant.Body Request
go_rounds rest = meant.field 4 meant.u32_in 3 rest go_end

abbrev pub bye_end : ℕ → List ℕ → meant.Body Request
bye_end session rest = meant.ends_at 3 rest (meant.Bye session)

-- and each reply
abbrev pub welcome_end : ℕ → List ℕ → meant.Body Reply
welcome_end session rest = meant.ends_at 3 rest (meant.Welcome session)

abbrev pub cause_end : (ℕ → ℕ → Reply) → ℕ → ℕ → List ℕ → meant.Body Reply
cause_end make session cause rest = meant.ends_at 4 rest (make session cause)

abbrev pub cause_number : (ℕ → ℕ → Reply) → ℕ → List ℕ → meant.Body Reply
cause_number make session rest = meant.field 1 meant.u8_in 3 rest (cause_end make session)
