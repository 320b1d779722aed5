-- The bytes that the deeds of a play send, and the lines that they print.
use Rattle.std.specs.Prelude.{ℕ, List, []}
use Rattle.std.specs.List.{flat_map}
use Rattle.core_terms.specs.Roles.{Role}
use Rattle.core_terms.specs.Terms.{Program}
use Rattle.core_terms.specs.Types.{Ty}
use Rattle.ideal_meaning.specs.Ideal.{Outcome, Done, Trapped, Out}
use Rattle.printed_lines.specs.Lines.{bad_message_line, cut_line, long_message_line, no_reply_line, rejected_line}
use Rattle.printed_lines.specs.OutcomeLines.{named_done_line, out_line, trap_line}
use Rattle.printed_lines.specs.SessionLines.{ended_line, out_of_turn_line, refused_line, server_closed_line, session_line, stale_line, stranger_line, welcome_line, wrong_reply_line}
use Rattle.printed_syntax.specs.Literals.{ConstructorNames}
use Rattle.session_meaning.specs.Client as client
use Rattle.session_meaning.specs.Client.{Answer}
use Rattle.session_meaning.specs.Messages.{Stop, AtEnd, IsCut, TooLong, BadMessage, request_bytes}
use Rattle.script_play.specs.Plays.{Deed, Sends, Tells, Stops}

-- the bytes that are sent
abbrev pub deed_bytes : Deed → List ℕ
deed_bytes (Sends request) = request_bytes request
deed_bytes deed = []

abbrev pub bytes_sent : List Deed → List ℕ
bytes_sent deeds = flat_map deed_bytes deeds

-- why no more replies are read
abbrev pub stop_line : Stop → List ℕ
stop_line AtEnd = no_reply_line
stop_line IsCut = cut_line
stop_line (TooLong len) = long_message_line len
stop_line (BadMessage kind offset) = bad_message_line kind offset

module _ (P : Program) (names : ConstructorNames) where
  -- an outcome, whose value has this type
  abbrev pub outcome_line : Ty → Outcome → List ℕ
  outcome_line t (Done v) = named_done_line P.types names t v
  outcome_line t (Trapped trap) = trap_line trap
  outcome_line t Out = out_line

  -- What is told of a session that called this role. What has failed is told as it was told when it failed. A state or an argument
  -- that is no spelling, and want of memory, have no line here: a script that was read and a state that was judged have none of those.
  abbrev pub answer_line : ℕ → Role → Answer → List ℕ
  answer_line session called client.TellsWelcome = welcome_line session
  answer_line session called client.TellsEnded = ended_line session
  answer_line session called (client.Tells o) = session_line session (outcome_line called.result o)
  answer_line session called (client.TellsStale state) = stale_line session
  answer_line session called (client.TellsRefused cause) = refused_line session cause
  answer_line session called client.OutOfTurn = out_of_turn_line session
  answer_line session called (client.IsRejected number cause) = session_line session (rejected_line cause)
  answer_line session called (client.HasFailed cause) = session_line session (rejected_line cause)
  answer_line session called (client.IsStranger number) = stranger_line session
  answer_line session called (client.IsWrongReply kind) = wrong_reply_line session kind
  answer_line session called (client.IsBroken kind) = wrong_reply_line session kind
  answer_line session called (client.IsClosed cause) = server_closed_line cause
  answer_line session called (client.StateFault offset) = []
  answer_line session called (client.ArgumentFault offset) = []
  answer_line session called client.WantsMemory = []
  answer_line session called (client.Sends request) = []

  abbrev pub deed_line : Deed → List ℕ
  deed_line (Sends request) = []
  deed_line (Tells session called answer) = answer_line session called answer
  deed_line (Stops stop) = stop_line stop

  abbrev pub lines_told : List Deed → List ℕ
  lines_told deeds = flat_map deed_line deeds
