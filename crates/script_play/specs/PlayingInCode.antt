-- The play of a script, as its functions tell it.
use Rattle.std.specs.Prelude.{◌≡◌, ℕ, Bool, true, false, List, [], ◌∷◌, take, Option, Result, Ok, Err, ⊤, ◌<◌, length}
use Rattle.std.specs.Option.{option_or}
use Rattle.std.specs.Io.KnownBytes.{append_known}
use Rattle.lam_outside.specs.Causes.{Rose}
use Rattle.core_terms.specs.Formats.{Hash}
use Rattle.core_terms.specs.Programs.{constructor_names}
use Rattle.core_terms.specs.Terms.{Program}
use Rattle.code_gen.specs.Programs.{program_in}
use Rattle.code_gen.specs.declared.code.Code.{Code}
use Rattle.printed_syntax.specs.Literals.{ConstructorNames}
use Rattle.session_meaning.specs.Client as meant
use Rattle.session_meaning.specs.Messages.{Messages, NoMore, Then, Reply, Request, request_bytes}
use Rattle.wire_form.specs.MessageViews.{request_meant}
use Rattle.wire_form.specs.declared.message.Request.{Request as AskedRequest}
use Rattle.ask_core.specs.Answers.{fault_told}
use Rattle.session_meaning.specs.Waiting.{some_waits}
use Rattle.ask_core.specs.declared.told.AskFault.{AskFault}
use Rattle.ask_core.specs.declared.told.AskFault.TheVariants.{BadState, BadArgument, OutOfTurn, Rejected, Stranger, WrongReply, Failed, Broken, Closed, NoMemory as NoAskMemory}
use Rattle.script_play.specs.DeedLines.{deed_line}
use Rattle.script_play.specs.Plays.{Deed, Stops, Play, behind, ends, goes_behind, hears, if_goes, deed_made, rests, told_of}
use Rattle.script_play.specs.declared.play_stop.PlayStop.{PlayStop}
use Rattle.script_play.specs.declared.play_stop.PlayStop.TheVariants.{Ended, LinkFault, WriteFault, NoMemory}
use Rattle.script_play.specs.declared.taking.Whose.{Whose}
use Rattle.script_play.specs.declared.taking.Whose.TheVariants.{One, All}
use Rattle.script_play.specs.declared.telling.Telling.{Telling}
use Rattle.script_play.specs.Playing.{done}

module _ (P : Program) (names : ConstructorNames) where
  -- the line of a deed, the state that it makes, and whether the script goes on behind it
  pub record IsTelling (deed : Deed) (goes : Bool) (telling : Telling) : Type 0 where
    pub line : telling.line.items ≡ deed_line P names deed
    pub made : telling.made ≡ deed_made deed
    pub goes_on : telling.goes_on ≡ goes

-- It was told, and the script goes on, or not; or the sink took a front of its line.
abbrev pub TellingIsTold : Telling → (written written' last last' : Option (List ℕ)) → Result (Unit {0}) PlayStop → Type 0
TellingIsTold telling written written' last last' (Ok told) = (telling.goes_on ≡ true) × (written' ≡ append_known written telling.line.items) × (last' ≡ option_or telling.made last)
TellingIsTold telling written written' last last' (Err Ended) = (telling.goes_on ≡ false) × (written' ≡ append_known written telling.line.items) × (last' ≡ option_or telling.made last)
TellingIsTold telling written written' last last' (Err WriteFault) =
    (count : ℕ) × (written' ≡ append_known written (take count telling.line.items)) × (last' ≡ option_or telling.made last)
TellingIsTold telling written written' last last' (Err LinkFault) = ⊥
TellingIsTold telling written written' last last' (Err NoMemory) = ⊥

-- the names of the constructors of a program, and the digest of its text
abbrev pub names_of : Code → ConstructorNames
names_of code = constructor_names (program_in code).types.named.items

abbrev pub own_of : Code → List ℕ
own_of code = (program_in code).text_digest.0

-- what is found fails only for the link or for want of memory
abbrev pub IsCutShort : PlayStop → Type 0
IsCutShort LinkFault = Unit {0}
IsCutShort NoMemory = Unit {0}
IsCutShort Ended = ⊥
IsCutShort WriteFault = ⊥

-- The next of the coming replies is taken, and what it tells is told.
abbrev pub take_one : Hash → Program → (own : List ℕ) → meant.Client → Messages Reply → Play
take_one hash P own c (NoMore stop) = behind (Stops stop ∷ []) (ends c (NoMore stop))
take_one hash P own c (Then reply more) =
    behind (told_of hash P own c reply ∷ []) (if_goes (goes_behind (hears hash P own c reply).answer) (hears hash P own c reply).client more rests)

-- The client answers so to what it is asked, and stands so then; for want of memory nothing is said.
abbrev pub ClientAnswers : (meant.Client → Type 0) → meant.Taken → Result AskedRequest AskFault → Type 0
ClientAnswers Is t (Ok request) = (t.answer ≡ meant.Sends (request_meant request)) × Is t.client
ClientAnswers Is t (Err NoAskMemory) = ⊤
ClientAnswers Is t (Err (BadState offset)) = (t.answer ≡ fault_told (BadState offset)) × Is t.client
ClientAnswers Is t (Err (BadArgument offset)) = (t.answer ≡ fault_told (BadArgument offset)) × Is t.client
ClientAnswers Is t (Err OutOfTurn) = (t.answer ≡ fault_told OutOfTurn) × Is t.client
ClientAnswers Is t (Err (Rejected session cause)) = (t.answer ≡ fault_told (Rejected session cause)) × Is t.client
ClientAnswers Is t (Err (Stranger session)) = (t.answer ≡ fault_told (Stranger session)) × Is t.client
ClientAnswers Is t (Err (WrongReply kind)) = (t.answer ≡ fault_told (WrongReply kind)) × Is t.client
ClientAnswers Is t (Err (Failed cause)) = (t.answer ≡ fault_told (Failed cause)) × Is t.client
ClientAnswers Is t (Err (Broken kind)) = (t.answer ≡ fault_told (Broken kind)) × Is t.client
ClientAnswers Is t (Err (Closed cause)) = (t.answer ≡ fault_told (Closed cause)) × Is t.client

-- memory wasn't wanting for it
abbrev pub IsAnswered : Result AskedRequest AskFault → Type 0
IsAnswered (Err NoAskMemory) = ⊥
IsAnswered answered = Unit {0}

-- a request is sent
abbrev pub is_sending : meant.Answer → Bool
is_sending (meant.Sends request) = true
is_sending answer = false

-- a reply of these is waited for
abbrev pub waits_for : Whose → meant.Client → Bool
waits_for (One session) c = meant.waits c session
waits_for All c = some_waits c

-- the link's count of faults rose at a link fault alone, the sink's at a write fault alone
abbrev pub PlayCause : {T : Type 0} → (link link' sink sink' : ℕ) → Result T PlayStop → Type 0
PlayCause link link' sink sink' (Ok played) = (link' ≡ link) × (sink' ≡ sink)
PlayCause link link' sink sink' (Err Ended) = (link' ≡ link) × (sink' ≡ sink)
PlayCause link link' sink sink' (Err LinkFault) = Rose link link' × (sink' ≡ sink)
PlayCause link link' sink sink' (Err NoMemory) = (link' ≡ link) × (sink' ≡ sink)
PlayCause link link' sink sink' (Err WriteFault) = (link' ≡ link) × Rose sink sink'

-- a request is sent whole, or a front of it; not all of it where the link failed
abbrev pub SendsRequest : Request → Option (List ℕ) → Option (List ℕ) → Result (Unit {0}) PlayStop → Type 0
SendsRequest request sent sent' (Ok done) = sent' ≡ append_known sent (request_bytes request)
SendsRequest request sent sent' (Err LinkFault) = (count : ℕ) × (count < length (request_bytes request)) × (sent' ≡ append_known sent (take count (request_bytes request)))
SendsRequest request sent sent' (Err NoMemory) = (count : ℕ) × (sent' ≡ append_known sent (take count (request_bytes request)))
SendsRequest request sent sent' (Err Ended) = ⊥
SendsRequest request sent sent' (Err WriteFault) = ⊥
