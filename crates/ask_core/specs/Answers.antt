-- What a core answers for the client of the definitions.
use Rattle.std.specs.Prelude.{◌≡◌, Result, Ok, Err, ⊤}
use Rattle.ideal_meaning.specs.Told.{cause_told}
use Rattle.session_meaning.specs.Client as meant
use Rattle.wire_form.specs.MessageViews.{request_meant}
use Rattle.wire_form.specs.declared.message.Request.{Request}
use Rattle.ask_core.specs.declared.told.AskFault.{AskFault}
use Rattle.ask_core.specs.declared.told.AskFault.TheVariants.{BadState, BadArgument, OutOfTurn, Rejected, Stranger, WrongReply, Failed, Broken, Closed, NoMemory}

-- the answer that a fault tells
abbrev pub fault_told : AskFault → meant.Answer
fault_told (BadState offset) = meant.StateFault offset
fault_told (BadArgument offset) = meant.ArgumentFault offset
fault_told OutOfTurn = meant.OutOfTurn
fault_told (Rejected session cause) = meant.IsRejected session (cause_told cause)
fault_told (Stranger session) = meant.IsStranger session
fault_told (WrongReply kind) = meant.IsWrongReply kind
fault_told (Failed cause) = meant.HasFailed (cause_told cause)
fault_told (Broken kind) = meant.IsBroken kind
fault_told (Closed cause) = meant.IsClosed cause
fault_told NoMemory = meant.WantsMemory

-- A fault of a step that leaves the client as it was; for want of memory nothing is said of the step.
abbrev pub Refuses : meant.Client → meant.Taken → AskFault → Type 0
Refuses c t NoMemory = ⊤
Refuses c t (BadState offset) = t ≡ meant.same_step c (fault_told (BadState offset))
Refuses c t (BadArgument offset) = t ≡ meant.same_step c (fault_told (BadArgument offset))
Refuses c t OutOfTurn = t ≡ meant.same_step c (fault_told OutOfTurn)
Refuses c t (Rejected session cause) = t ≡ meant.same_step c (fault_told (Rejected session cause))
Refuses c t (Stranger session) = t ≡ meant.same_step c (fault_told (Stranger session))
Refuses c t (WrongReply kind) = t ≡ meant.same_step c (fault_told (WrongReply kind))
Refuses c t (Failed cause) = t ≡ meant.same_step c (fault_told (Failed cause))
Refuses c t (Broken kind) = t ≡ meant.same_step c (fault_told (Broken kind))
Refuses c t (Closed cause) = t ≡ meant.same_step c (fault_told (Closed cause))

-- The step of the client c sends this request, and the client behind it is this one; or it is refused so, and this is still c.
abbrev pub Asks : (meant.Client → Type 0) → meant.Client → meant.Taken → Result Request AskFault → Type 0
Asks Is c t (Ok request) = (t.answer ≡ meant.Sends (request_meant request)) × Is t.client
Asks Is c t (Err fault) = Refuses c t fault × Is c
