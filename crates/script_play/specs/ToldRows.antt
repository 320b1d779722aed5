-- Rows for what a play tells: the lines of answers, what is told of a reply, and the events that a play comes of. What each word takes, and what it
-- refuses.
use Rattle.std.specs.Prelude.{◌≡◌, ◌<◌, ℕ, Bool, true, false, List, [], ◌∷◌, ◌++◌, take, map, codes, Option, Some, None, Result, Ok, Err, Vec, refl}
use Rattle.std.specs.Fmt.{digits}
use Rattle.std.specs.Io.KnownBytes.{append_known}
use Rattle.std.specs.Option.{option_or}
use Rattle.std.specs.declared.alloc.Global.{Global}
use Rattle.std.proofs.Common.{inl, inr, lit<}
use Rattle.core_terms.specs.Formats.{Hash}
use Rattle.core_terms.specs.Roles.{Role}
use Rattle.core_terms.specs.Terms.{Program, Init, Query, Update}
use Rattle.core_terms.specs.Types.{Ty, UnitTy}
use Rattle.core_terms.specs.Projection.{projection}
use Rattle.core_terms.specs.Spelling.{spelling}
use Rattle.core_terms.specs.Values.{IsIdeal, Value}
use Rattle.core_terms.specs.declared.byte_string.ByteString.{ByteString as Spelling}
use Rattle.core_terms.specs.declared.outcome.Outcome.{Outcome}
use Rattle.core_terms.specs.declared.cause.Cause.{Cause}
use Rattle.core_terms.specs.declared.outcome.Outcome.TheVariants as told
use Rattle.core_terms.specs.declared.roles.RoleKind.TheVariants as role_kind
use Rattle.ideal_meaning.specs.Checked.{Short}
use Rattle.ideal_meaning.specs.Examples.{toy, bool_program}
use Rattle.ideal_meaning.specs.Ideal.{Done, Out}
use Rattle.ideal_meaning.specs.Told.{cause_told}
use Rattle.session_meaning.specs.Calls.{no_role, role_in}
use Rattle.session_meaning.specs.Client as client
use Rattle.session_meaning.specs.Client.{Answer, Client, Event, Known, Taken, Hellos, Hears, new_client}
use Rattle.session_meaning.specs.ToldCalls.{BeginsWith, TrueUpToSplit, told_calls}
use Rattle.session_meaning.specs.MessageLaws.{all_of}
use Rattle.session_meaning.specs.MessageRows.{text_digest}
use Rattle.session_meaning.specs.Messages.{Hello, Bye, Go, Welcome, AtEnd, IsCut, TooLong, BadMessage, Messages, NoMore, Reply, Request, messages, reply_bytes, reply_of, request_bytes}
use Rattle.session_meaning.specs.Tables.{find}
use Rattle.wire_form.specs.MessageViews.{request_meant}
use Rattle.wire_form.specs.declared.message.ReadStop.{ReadStop}
use Rattle.wire_form.specs.declared.message.ReadStop.TheVariants as stop
use Rattle.wire_form.specs.declared.message.Request.{Request as AskedRequest}
use Rattle.printed_lines.specs.OutcomeLines.{out_line}
use Rattle.printed_syntax.specs.Literals.{ConstructorNames}
use Rattle.ask_core.specs.Replies.{IsAnswer, called_type}
use Rattle.ask_core.specs.Sessions.{IsCalledRole}
use Rattle.session_meaning.specs.Waiting.{called_in}
use Rattle.ask_core.specs.declared.seen.CalledRole.{CalledRole}
use Rattle.ask_core.specs.declared.told.AskFault.{AskFault}
use Rattle.ask_core.specs.declared.told.AskFault.TheVariants.{BadState, BadArgument, OutOfTurn, Rejected, Stranger, WrongReply, Failed, Broken, Closed, NoMemory as NoAskMemory}
use Rattle.ask_core.specs.declared.told.Told.{Told}
use Rattle.ask_core.specs.declared.told.Told.TheVariants.{Ended as TellsEnd, Outcome as TellsOutcome, Welcome as TellsWelcome}
use Rattle.ask_script.specs.Scripts.{Opens}
use Rattle.script_play.specs.DeedLines.{answer_line, deed_bytes, deed_line, outcome_line}
use Rattle.script_play.specs.PlayRows.{no_names, played, state}
use Rattle.script_play.specs.PlayRuns.{DeedsFollow, TellsTruth, begin_with, client_behind, replies_heard}
use Rattle.script_play.specs.Playing.{AreComing, BreaksOff, FailsAtLine, PlaysAs, World, world}
use Rattle.script_play.specs.PlayingInCode.{SendsRequest, ClientAnswers, IsAnswered, IsTelling, TellingIsTold, PlayCause, is_sending, take_one, waits_for}
use Rattle.script_play.specs.Plays.{Deed, Play, Sends, Tells, behind, deed_made, if_goes, rests}
use Rattle.script_play.specs.Tellings.{IsNext, IsStop, IsStopLine, IsStopTold, OfAnswer, called_updates, is_outcome, is_update, makes, makes_state, state_if, told_done, told_goes}
use Rattle.script_play.specs.declared.play_stop.PlayStop.TheVariants.{Ended, LinkFault, WriteFault, NoMemory}
use Rattle.script_play.specs.declared.taking.Whose.TheVariants.{One, All}
use Rattle.script_play.specs.declared.telling.Telling.{Telling}

-- LINES
-- each answer that a play tells has its line
pub lines_of_answers : map (λ answer. answer_line bool_program no_names 1 no_role answer)
    (client.TellsEnded ∷ client.TellsStale [] ∷ client.TellsRefused 7 ∷ client.OutOfTurn ∷ client.IsRejected 1 (Short 0) ∷ client.HasFailed (Short 0) ∷ client.IsStranger 2
    ∷ client.IsWrongReply 133 ∷ client.IsBroken 133 ∷ client.IsClosed 11 ∷ [])
    ≡ codes "1 closed\n" ∷ codes "1 stale\n" ∷ codes "1 refused 7\n" ∷ codes "1 out of turn\n" ∷ codes "1 rejected short 0\n" ∷ codes "1 rejected short 0\n"
    ∷ codes "bad reply 1 stranger\n" ∷ codes "bad reply 1 wrong 133\n" ∷ codes "bad reply 1 wrong 133\n" ∷ codes "server closed 11\n" ∷ []
unfolding digits
lines_of_answers = refl

-- and what it doesn't tell has none
pub no_lines : (offset : ℕ) (r : Request) → map (λ answer. answer_line bool_program no_names 1 no_role answer)
    (client.StateFault offset ∷ client.ArgumentFault offset ∷ client.WantsMemory ∷ client.Sends r ∷ []) ≡ [] ∷ [] ∷ [] ∷ [] ∷ []
no_lines offset r = refl

pub out_is_told : outcome_line bool_program no_names UnitTy Out ≡ out_line
out_is_told = refl

-- WHOLE PLAYS
-- a script that opens a session, where it is welcomed, and where another is
abbrev pub opened_by : ℕ → Play
opened_by session = played (Opens 1 1 ∷ []) (messages reply_of (reply_bytes (Welcome session)))

abbrev pub hello : List ℕ
hello = request_bytes (Hello 1 text_digest 1 state)

abbrev pub start : World
start = world (Some []) (Some []) None

pub replies_come : AreComing (Some (reply_bytes (Welcome 1))) (all_of (Welcome 1 ∷ []))
replies_come = record { bytes = reply_bytes (Welcome 1); told = refl; are = refl }

pub untold_is_none : (ms : Messages Reply) → AreComing None ms → ⊥
untold_is_none ms c = let e : None ≡ Some c.bytes = c.told in cc (e)

pub opened_is_played : PlaysAs bool_program no_names {T = Unit {0}} (λ c. c ≡ (opened_by 1).client) (Some []) start (world (Some hello) (Some (codes "1 welcome\n")) None) (opened_by 1) (Ok tt)
unfolding digits
opened_is_played = (refl, refl, refl, record { bytes = []; told = refl; are = refl })

pub stranger_is_played : PlaysAs bool_program no_names {T = Unit {0}} (λ c. c ≡ new_client) (Some []) start (world (Some hello) (Some (codes "bad reply 2 stranger\n")) None) (opened_by 2) (Err Ended)
unfolding digits
stranger_is_played = (refl, refl)

-- three bytes of the greeting were sent; and two bytes of the line were written
pub broken_off : BreaksOff bool_program no_names start (world (Some (take 3 hello)) (Some []) None) (opened_by 1).deeds
broken_off = record { front = []; left = (opened_by 1).deeds; parted = refl; count = 3; sent = refl; written = refl; last = refl }

pub written_in_part : FailsAtLine bool_program no_names start (world (Some hello) (Some (codes "1 ")) None) (opened_by 1).deeds
unfolding digits
written_in_part = record {
  front = Sends (Hello 1 text_digest 1 state) ∷ [];
  next = Tells 1 no_role client.TellsWelcome;
  left = [];
  parted = refl;
  count = 2;
  sent = refl;
  written = refl;
  last = refl;
}

-- SENDING
pub sends_whole : (r : Request) (sent : Option (List ℕ)) → SendsRequest r sent (append_known sent (request_bytes r)) (Ok tt)
sends_whole r sent = refl

-- a front was sent; at a link fault not all
pub sends_part : SendsRequest (Bye 1) (Some []) (Some (0 ∷ 0 ∷ [])) (Err LinkFault) × SendsRequest (Bye 1) (Some []) (Some (0 ∷ 0 ∷ [])) (Err NoMemory)
    × SendsRequest (Bye 1) (Some []) (Some (request_bytes (Bye 1))) (Err NoMemory)
sends_part = ((2, lit< tt, refl), (2, refl), (7, refl))

pub is_sent : (r : Request) → map is_sending (client.Sends r ∷ client.OutOfTurn ∷ client.TellsWelcome ∷ client.WantsMemory ∷ []) ≡ true ∷ false ∷ false ∷ false ∷ []
is_sent r = refl

pub answered : (r : AskedRequest) → IsAnswered (Ok r) × IsAnswered (Err OutOfTurn) × (IsAnswered (Err NoAskMemory) → ⊥)
answered r = (tt, tt, (λ a. a))

-- The client answers as it is asked to, and stands so.
module _ (Is : Client → Type 0) (t : Taken) where
  pub sends : (r : AskedRequest) → ClientAnswers Is t (Ok r) → (t.answer ≡ client.Sends (request_meant r)) × Is t.client
  sends r a = a

  pub of_faults : (session offset kind cause : ℕ) → (ClientAnswers Is t (Err (BadState offset)) → (t.answer ≡ client.StateFault offset) × Is t.client)
      × (ClientAnswers Is t (Err (BadArgument offset)) → (t.answer ≡ client.ArgumentFault offset) × Is t.client) × (ClientAnswers Is t (Err OutOfTurn) → (t.answer ≡ client.OutOfTurn) × Is t.client)
      × (ClientAnswers Is t (Err (Stranger session)) → (t.answer ≡ client.IsStranger session) × Is t.client) × (ClientAnswers Is t (Err (WrongReply kind)) → (t.answer ≡ client.IsWrongReply kind) × Is t.client)
      × (ClientAnswers Is t (Err (Broken kind)) → (t.answer ≡ client.IsBroken kind) × Is t.client) × (ClientAnswers Is t (Err (Closed cause)) → (t.answer ≡ client.IsClosed cause) × Is t.client)
  of_faults session offset kind cause = ((λ a. a), (λ a. a), (λ a. a), (λ a. a), (λ a. a), (λ a. a), (λ a. a))

  pub of_rejections : (session : ℕ) (cause : Cause) → (ClientAnswers Is t (Err (Rejected session cause)) → (t.answer ≡ client.IsRejected session (cause_told cause)) × Is t.client)
      × (ClientAnswers Is t (Err (Failed cause)) → (t.answer ≡ client.HasFailed (cause_told cause)) × Is t.client)
  of_rejections session cause = ((λ a. a), (λ a. a))

  pub memory_says_nothing : ClientAnswers Is t (Err NoAskMemory)
  memory_says_nothing = tt

-- a session that greets is waited for, and no other
abbrev pub greeting : Client
greeting = (played (Opens 1 1 ∷ []) (NoMore AtEnd)).client

pub waiting : (waits_for (One 1) greeting ≡ true) × (waits_for (One 2) greeting ≡ false) × (waits_for All greeting ≡ true) × (waits_for All new_client ≡ false)
waiting = (refl, refl, refl, refl)

-- WHAT IS TOLD
-- the script goes on behind it, or has ended; or a front of its line was written
module _ (t : Telling) (written last : Option (List ℕ)) where
  pub goes_on : t.goes_on ≡ true → TellingIsTold t written (append_known written t.line.items) last (option_or t.made last) (Ok tt)
  goes_on goes = (goes, refl, refl)

  pub ends : t.goes_on ≡ false → TellingIsTold t written (append_known written t.line.items) last (option_or t.made last) (Err Ended)
  ends goes = (goes, refl, refl)

  pub told_in_part : (n : ℕ) → TellingIsTold t written (append_known written (take n t.line.items)) last (option_or t.made last) (Err WriteFault)
  told_in_part n = (n, refl, refl)

  pub no_other_end : (TellingIsTold t written written last last (Err LinkFault) → ⊥) × (TellingIsTold t written written last last (Err NoMemory) → ⊥)
  no_other_end = ((λ t. t), (λ t. t))

-- a telling has the deed's line and the state that it makes, and goes on as it is said
pub telling_is : (P : Program) (names : ConstructorNames) (deed : Deed) (goes : Bool) (t : Telling) (is : IsTelling P names deed goes t)
    → (t.line.items ≡ deed_line P names deed) × (t.made ≡ deed_made deed) × (t.goes_on ≡ goes)
telling_is P names deed goes t is = (is.line, is.made, is.goes_on)

pub no_cause : PlayCause {T = Unit {0}} 3 3 4 4 (Ok tt) × PlayCause {T = Unit {0}} 3 3 4 4 (Err Ended)
no_cause = ((refl, refl), (refl, refl))

pub outcomes : (o : Outcome Spelling) → (is_outcome (Ok (TellsOutcome o)) ≡ true) × (is_outcome (Ok TellsWelcome) ≡ false) × (is_outcome (Err OutOfTurn) ≡ false)
outcomes o = (refl, refl, refl)

pub done_told : (bytes : Spelling) → map told_done (Ok (TellsOutcome (told.Done bytes)) ∷ Ok (TellsOutcome told.Out) ∷ Ok TellsWelcome ∷ Err OutOfTurn ∷ []) ≡ true ∷ false ∷ false ∷ false ∷ []
done_told bytes = refl

-- an update's value makes a state
pub updates : map is_update (role_kind.Init ∷ role_kind.Query ∷ role_kind.Update ∷ []) ≡ false ∷ false ∷ true ∷ []
updates = refl

pub makers : (v : Value) → (makes Update (Done v) ≡ true) × (makes Update Out ≡ false) × (makes Query (Done v) ≡ false) × (makes Init (Done v) ≡ false)
makers v = (refl, refl, refl, refl)

pub made_by : (v : Value) → (makes_state (role_in bool_program 2) (client.Tells (Done v)) ≡ true) × (makes_state (role_in bool_program 1) (client.Tells (Done v)) ≡ false)
    × (makes_state (role_in bool_program 2) client.TellsWelcome ≡ false)
made_by v = (refl, refl, refl)

pub state_made_if : (bytes : List ℕ) → (state_if true (Some bytes) ≡ Some bytes) × (state_if false (Some bytes) ≡ None)
state_made_if bytes = (refl, refl)

pub called_update : (called : CalledRole) → (called_updates (Some called) ≡ is_update called.kind) × (called_updates None ≡ false)
called_update called = (refl, refl)

-- the script goes on behind what a good server tells, and behind a line out of turn
pub goes_behind_told : map told_goes (Ok TellsWelcome ∷ Ok TellsEnd ∷ Err OutOfTurn ∷ Err (Stranger 1) ∷ Err NoAskMemory ∷ []) ≡ true ∷ true ∷ true ∷ false ∷ false ∷ []
goes_behind_told = refl

pub of_answer : (types : List Ty) (P : Program) (called : Option CalledRole) (told : Result Told AskFault) (Q : Role → Answer → Type 0) → OfAnswer types P called told Q
    → (found : Option client.Standing) (answer : Answer) → IsCalledRole types P found called → IsAnswer P (called_type P found) answer told → Q (called_in P found) answer
of_answer types P called told Q of = of

-- why no more replies are read, with its line; and nothing is told of a link fault, or for want of memory
pub stops : IsStop stop.End AtEnd × IsStop stop.Cut IsCut × IsStop (stop.TooLong 16777217) (TooLong 16777217) × IsStop (stop.BadMessage 4 0) (BadMessage 4 0)
    × (IsStop stop.LinkFault AtEnd → ⊥) × (IsStop stop.NoMemory AtEnd → ⊥)
stops = (refl, refl, refl, refl, (λ s. s), (λ s. s))

end_is_no_fault : stop.End ≡ stop.LinkFault → ⊥
end_is_no_fault e = cc (e)

pub stop_lines : (line : Vec ℕ Global) → line.items ≡ codes "reply ended\n" → IsStopLine stop.End (Ok line) × IsStopLine stop.LinkFault (Err LinkFault) × IsStopLine stop.End (Err NoMemory)
stop_lines line is = ((AtEnd, refl, is), refl, end_is_no_fault)

pub no_stop_lines : (s : ReadStop) → (IsStopLine stop.LinkFault (Err NoMemory) → ⊥) × (IsStopLine s (Err Ended) → ⊥) × (IsStopLine s (Err WriteFault) → ⊥)
no_stop_lines s = ((λ n. n refl), (λ n. n), (λ n. n))

pub stops_told : (telling : Telling) → telling.line.items ≡ codes "reply cut\n" → telling.made ≡ None → telling.goes_on ≡ false
    → IsStopTold stop.Cut (Ok telling) × IsStopTold stop.LinkFault (Err LinkFault) × IsStopTold stop.End (Err NoMemory)
stops_told telling line made goes = ((IsCut, refl, line, made, goes), refl, end_is_no_fault)

pub no_stops_told : (s : ReadStop) → (IsStopTold stop.LinkFault (Err NoMemory) → ⊥) × (IsStopTold s (Err Ended) → ⊥) × (IsStopTold s (Err WriteFault) → ⊥)
no_stops_told s = ((λ n. n refl), (λ n. n), (λ n. n))

-- what is taken next is told, sends nothing, and where it goes on the client and the bytes stand so
pub next_is_told : (hash : Hash) (P : Program) (names : ConstructorNames) (own : List ℕ) (Is : Client → Type 0) (left : Option (List ℕ)) (c : Client) (ms : Messages Reply) (telling : Telling)
    (n : IsNext hash P names own Is left c ms telling) → (take_one hash P own c ms ≡ behind (n.deed ∷ []) (if_goes n.goes n.later n.coming rests)) × (deed_bytes n.deed ≡ [])
    × IsTelling P names n.deed n.goes telling × (n.goes ≡ true → Is n.later) × (n.goes ≡ true → AreComing left n.coming)
next_is_told hash P names own Is left c ms telling n = (n.takes, n.silent, n.tells, n.stands, n.comes)

-- EVENTS
pub heard : (replies_heard (Hellos 1 1 state ∷ Hears (Welcome 1) ∷ Hears (Welcome 2) ∷ []) ≡ Welcome 1 ∷ Welcome 2 ∷ [])
    × (begin_with (Welcome 1 ∷ []) (NoMore AtEnd) ≡ all_of (Welcome 1 ∷ []))
heard = (refl, refl)

pub stands_behind : client_behind toy bool_program text_digest new_client (Hellos 1 1 state ∷ Hears (Welcome 1) ∷ []) ≡ (opened_by 1).client
stands_behind = refl

-- each deed comes of its event, and GO of none
pub opening_follows : DeedsFollow toy bool_program text_digest new_client (opened_by 1).deeds (Hellos 1 1 state ∷ Hears (Welcome 1) ∷ []) (opened_by 1).client
opening_follows = inr (Hellos 1 1 state, Hears (Welcome 1) ∷ [], refl, refl, inr (Hears (Welcome 1), [], refl, refl, (refl, refl)))

pub go_follows : DeedsFollow toy bool_program text_digest new_client (Sends (Go 1) ∷ []) [] new_client
go_follows = inl (tt, (refl, refl))

-- the events hear the replies that came
pub told_of_what_came : (hash : Hash) (P : Program) (own : List ℕ) (came coming : Messages Reply) (deeds : List Deed) (t : TellsTruth hash P own came coming deeds)
    → (came ≡ begin_with (replies_heard t.events) coming) × DeedsFollow hash P own new_client deeds t.events t.client
told_of_what_came hash P own came coming deeds t = (t.heard, t.follows)

-- and from where a session begins at an ideal state's projection on, what is told is true up to a split
pub told_is_true : (hash : Hash) (P : Program) (own : List ℕ) (came coming : Messages Reply) (deeds : List Deed) (t : TellsTruth hash P own came coming deeds)
    → (before behind : List Event) → t.events ≡ before ++ behind → (session : ℕ) (known : Known) → BeginsWith known (find session (client_behind hash P own new_client before).sessions)
    → (v : Value) → IsIdeal P.types P.state v → known.state ≡ spelling (projection hash P P.state v)
    → TrueUpToSplit hash P v (told_calls hash P own session (client_behind hash P own new_client before) behind)
told_is_true hash P own came coming deeds t = t.truth
