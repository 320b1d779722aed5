-- Worked clients, and both sides against each other. Each equation holds by computing both sides.
use Rattle.std.specs.Prelude.{◌≡◌, ℕ, Bool, true, false, List, [], ◌∷◌, ◌++◌, replicate, None, Option, Some, refl}
use Rattle.core_terms.specs.Values.{UnitV, BoolV, PairV, DigestV}
use Rattle.core_terms.specs.Terms.{Program}
use Rattle.ideal_meaning.specs.Run.{Overflow}
use Rattle.ideal_meaning.specs.Ideal.{Done, Trapped}
use Rattle.ideal_meaning.specs.Checked.{Short, Leftover, BadUse, BadState, BadArgument}
use Rattle.ideal_meaning.specs.Examples.{toy, unit_program, bool_program}
use Rattle.session_meaning.specs.Messages.{Hello, Call, Bye, Reply, Welcome, Proof, Stale, Refused, Closed, Read, Got, Stops, AtEnd, NoMore, Then, request_bytes, reply_of, messages}
use Rattle.session_meaning.specs.MessageFields.{read_reply}
use Rattle.session_meaning.specs.Server.{last_turn, new_server}
use Rattle.session_meaning.specs.Client.{Idle, Client, Event, Hellos, Calls, Byes, Hears, Forgets, Answer, Sends, TellsWelcome, Tells, TellsStale, TellsRefused, TellsEnded, StateFault, ArgumentFault, OutOfTurn, IsRejected, IsStranger, IsWrongReply, HasFailed, IsBroken, IsClosed, WantsMemory, waits, state_of, take_event, verdict_step, client_after, new_client}
use Rattle.session_meaning.specs.ToldCalls.{told_calls}
use Rattle.session_meaning.specs.Exchange.{Exchange, Move, Greets, Asks, Leaves, Goes, Takes, after_move, new_exchange}
use Rattle.session_meaning.specs.MessageRows.{text_digest, hello_bytes, call_bytes, bye_bytes}

-- the answers of a client of a program to a list of events
abbrev pub answers : Program → Client → List Event → List Answer
answers P c [] = []
answers P c (e ∷ es) = let t = take_event toy P text_digest c e in t.answer ∷ answers P t.client es

-- A CLIENT OF `unit_program`
abbrev pub opened : List Event
opened = Hellos 1 0 (toy []) ∷ Hears (Welcome 1) ∷ []

abbrev pub called : List Event
called = opened ++ Calls 1 1 1 [] ∷ []

abbrev pub opened_answers : List Answer
opened_answers = Sends (Hello 1 text_digest 0 (toy [])) ∷ TellsWelcome ∷ []

abbrev pub called_answers : List Answer
called_answers = opened_answers ++ Sends (Call 1 1 1 []) ∷ []

-- a whole session: what it sends is read by a server, what comes is read from a link
pub whole_session : answers unit_program new_client (called ++ Hears (Proof 1 (0 ∷ 0 ∷ 0 ∷ 0 ∷ 0 ∷ [])) ∷ Byes 1 ∷ Hears (Closed 1 0) ∷ [])
    ≡ called_answers ++ Tells (Done UnitV) ∷ Sends (Bye 1) ∷ TellsEnded ∷ []
whole_session = refl

pub its_requests : request_bytes (Hello 1 text_digest 0 (toy [])) ++ (request_bytes (Call 1 1 1 []) ++ request_bytes (Bye 1))
    ≡ hello_bytes ++ (call_bytes ++ bye_bytes)
its_requests = refl

pub its_replies : messages reply_of (0 ∷ 0 ∷ 0 ∷ 3 ∷ 0x81 ∷ 0 ∷ 1 ∷ 0 ∷ 0 ∷ 0 ∷ 8 ∷ 0x82 ∷ 0 ∷ 1 ∷ 0 ∷ 0 ∷ 0 ∷ 0 ∷ 0 ∷ 0 ∷ 0 ∷ 0 ∷ 4 ∷ 0x85 ∷ 0 ∷ 1 ∷ 0 ∷ [])
    ≡ Then (Welcome 1) (Then (Proof 1 (0 ∷ 0 ∷ 0 ∷ 0 ∷ 0 ∷ [])) (Then (Closed 1 0) (NoMore AtEnd)))
its_replies = refl

-- the told calls of the session, from its greeting on
pub one_told : told_calls toy unit_program text_digest 1 (client_after toy unit_program text_digest new_client (Hellos 1 0 (toy []) ∷ []))
    (Hears (Welcome 1) ∷ Calls 1 1 1 [] ∷ Hears (Proof 1 (0 ∷ 0 ∷ 0 ∷ 0 ∷ 0 ∷ [])) ∷ Calls 1 1 1 [] ∷ Hears (Proof 1 []) ∷ Byes 1 ∷ [])
    ≡ record {
      known = record { state = toy []; kept = 0; recent = [] };
      asked = record { role = 1; argument = []; fuel = 1 };
      frames = 0 ∷ 0 ∷ 0 ∷ 0 ∷ 0 ∷ [];
      outcome = Done UnitV;
    } ∷ []
one_told = refl

-- REPLIES, READ FROM A LINK
abbrev pub answer_in : Client → Read Reply → Option Answer
answer_in c (Got r rest) = Some (take_event toy unit_program text_digest c (Hears r)).answer
answer_in c (Stops stop) = None

abbrev pub answer_to : List Event → List ℕ → Option Answer
answer_to before bytes = answer_in (client_after toy unit_program text_digest new_client before) (read_reply bytes)

-- while the session greets: a reply to another, a proof, an end for all
pub to_another : answer_to (Hellos 1 0 (toy []) ∷ []) (0 ∷ 0 ∷ 0 ∷ 4 ∷ 0x85 ∷ 0 ∷ 2 ∷ 0 ∷ []) ≡ Some (IsStranger 2)
to_another = refl

pub proof_of_nothing : answer_to (Hellos 1 0 (toy []) ∷ []) (0 ∷ 0 ∷ 0 ∷ 3 ∷ 0x82 ∷ 0 ∷ 1 ∷ []) ≡ Some (IsWrongReply 130)
proof_of_nothing = refl

pub end_for_all : answer_to (Hellos 1 0 (toy []) ∷ []) (0 ∷ 0 ∷ 0 ∷ 4 ∷ 0x84 ∷ 0 ∷ 0 ∷ 11 ∷ []) ≡ Some (IsClosed 11)
end_for_all = refl

-- while it calls: a proof with a byte too many, one of a kept piece, and one without frames
pub left_over : answer_to called (0 ∷ 0 ∷ 0 ∷ 9 ∷ 0x82 ∷ 0 ∷ 1 ∷ 0 ∷ 0 ∷ 0 ∷ 0 ∷ 0 ∷ 0 ∷ []) ≡ Some (IsRejected 1 (Leftover 1))
left_over = refl

pub not_kept : answer_to called (0 ∷ 0 ∷ 0 ∷ 6 ∷ 0x82 ∷ 0 ∷ 1 ∷ 1 ∷ 0 ∷ 0 ∷ []) ≡ Some (IsRejected 1 (BadUse 0 0 0))
not_kept = refl

pub no_frames : answer_to called (0 ∷ 0 ∷ 0 ∷ 3 ∷ 0x82 ∷ 0 ∷ 1 ∷ []) ≡ Some (IsRejected 1 (Short 0))
no_frames = refl

-- WHAT IS KEPT
-- A rejection, a wrong reply and an end for all answer each later call and reply; the last comes before the others.
pub failed : answers unit_program new_client (called ++ Hears (Proof 1 []) ∷ Hellos 1 0 (toy []) ∷ Calls 1 1 1 [] ∷ Byes 1 ∷ Hears (Welcome 1)
    ∷ Hears (Closed 1 0) ∷ [])
    ≡ called_answers ++ IsRejected 1 (Short 0) ∷ replicate 5 (HasFailed (Short 0))
failed = refl

pub broken : answers unit_program new_client (opened ++ Calls 1 1 1 [] ∷ Hears (Welcome 1) ∷ Hellos 1 0 (toy []) ∷ Calls 1 1 1 [] ∷ Byes 1
    ∷ Hears (Proof 1 []) ∷ [])
    ≡ called_answers ++ IsWrongReply 129 ∷ replicate 4 (IsBroken 129)
broken = refl

pub closed : answers unit_program new_client (called ++ Hears (Proof 1 []) ∷ Hears (Closed 0 1) ∷ Hellos 2 0 (toy []) ∷ Calls 1 1 1 [] ∷ Byes 1
    ∷ Hears (Refused 0 11) ∷ Hears (Welcome 1) ∷ [])
    ≡ called_answers ++ IsRejected 1 (Short 0) ∷ replicate 6 (IsClosed 1)
closed = refl

-- another session goes on
pub one_failed : answers unit_program new_client (called ++ Hellos 2 0 (toy []) ∷ Hears (Proof 1 []) ∷ Hears (Welcome 2) ∷ Calls 2 1 1 []
    ∷ Hears (Proof 2 (0 ∷ 0 ∷ 0 ∷ 0 ∷ 0 ∷ [])) ∷ [])
    ≡ called_answers ++ Sends (Hello 2 text_digest 0 (toy [])) ∷ IsRejected 1 (Short 0) ∷ TellsWelcome ∷ Sends (Call 2 1 1 []) ∷ Tells (Done UnitV) ∷ []
one_failed = refl

-- EACH STANDING
-- absent: only a greeting is in turn, of a state that is spelled
pub absent : answers unit_program new_client (Calls 1 1 1 [] ∷ Byes 1 ∷ Hears (Welcome 1) ∷ Hellos 1 0 (replicate 31 0) ∷ Hellos 1 0 (replicate 33 0) ∷ [])
    ≡ OutOfTurn ∷ OutOfTurn ∷ IsStranger 1 ∷ StateFault 0 ∷ StateFault 32 ∷ []
absent = refl

-- greeting: nothing is in turn; a refusal of whatever cause ends it
pub greeting : answers unit_program new_client (Hellos 1 0 (toy []) ∷ Hellos 1 0 [] ∷ Calls 1 1 1 [] ∷ Byes 1 ∷ Hears (Refused 1 5) ∷ Calls 1 1 1 [] ∷ [])
    ≡ Sends (Hello 1 text_digest 0 (toy [])) ∷ OutOfTurn ∷ OutOfTurn ∷ OutOfTurn ∷ TellsRefused 5 ∷ OutOfTurn ∷ []
greeting = refl

-- idle: a greeting is out of turn, a reply is a stranger's, an argument must be spelled, and nothing of these changes it
pub idle : answers unit_program new_client (opened ++ Hellos 1 0 (toy []) ∷ Hears (Welcome 1) ∷ Hears (Closed 1 0)
    ∷ Calls 1 1 1 (0 ∷ []) ∷ Calls 1 0 1 [] ∷ Calls 1 1 1 [] ∷ [])
    ≡ opened_answers ++ OutOfTurn ∷ IsStranger 1 ∷ IsStranger 1 ∷ ArgumentFault 0 ∷ OutOfTurn ∷ Sends (Call 1 1 1 []) ∷ []
idle = refl

-- calling: nothing is in turn; a refusal ends it for two causes, and else it is idle again; a query is never stale
pub calling : answers unit_program new_client (called ++ Hellos 1 0 (toy []) ∷ Calls 1 1 1 [] ∷ Byes 1 ∷ Hears (Refused 1 7) ∷ Calls 1 1 1 []
    ∷ Hears (Refused 1 13) ∷ Calls 1 1 1 [] ∷ [])
    ≡ called_answers ++ OutOfTurn ∷ OutOfTurn ∷ OutOfTurn ∷ TellsRefused 7 ∷ Sends (Call 1 1 1 []) ∷ TellsRefused 13 ∷ OutOfTurn ∷ []
calling = refl

pub calling_nobody : answers unit_program new_client (called ++ Hears (Refused 1 3) ∷ Byes 1 ∷ []) ≡ called_answers ++ TellsRefused 3 ∷ OutOfTurn ∷ []
calling_nobody = refl

pub query_is_not_stale : answers unit_program new_client (called ++ Hears (Stale 1 (toy [])) ∷ []) ≡ called_answers ++ IsWrongReply 131 ∷ []
query_is_not_stale = refl

-- leaving: it ends for whatever cause, and may be greeted again; another reply is wrong
pub leaving : answers unit_program new_client (opened ++ Byes 1 ∷ Byes 1 ∷ Hellos 1 0 (toy []) ∷ Hears (Closed 1 7) ∷ Hellos 1 0 (toy []) ∷ [])
    ≡ opened_answers ++ Sends (Bye 1) ∷ OutOfTurn ∷ OutOfTurn ∷ TellsEnded ∷ Sends (Hello 1 text_digest 0 (toy [])) ∷ []
leaving = refl

pub leaving_refused : answers unit_program new_client (opened ++ Byes 1 ∷ Hears (Refused 1 3) ∷ []) ≡ opened_answers ++ Sends (Bye 1) ∷ IsWrongReply 132 ∷ []
leaving_refused = refl

-- for want of memory the session is absent, and another is as before
pub forgotten : answers unit_program new_client (called ++ Hellos 2 0 (toy []) ∷ Forgets 1 ∷ Hellos 1 0 (toy []) ∷ Hears (Welcome 2) ∷ [])
    ≡ called_answers ++ Sends (Hello 2 text_digest 0 (toy [])) ∷ WantsMemory ∷ Sends (Hello 1 text_digest 0 (toy [])) ∷ TellsWelcome ∷ []
forgotten = refl

-- what is waited for, and which state is known, of an absent session, a greeting, an idle, a calling, a leaving and a failed one
abbrev pub seen_after : List Event → Bool × Option (List ℕ)
seen_after events = let c = client_after toy unit_program text_digest new_client events in (waits c 1, state_of c 1)

pub seen_absent : seen_after [] ≡ (false, None)
seen_absent = refl

pub seen_greeting : seen_after (Hellos 1 0 (toy []) ∷ []) ≡ (true, None)
seen_greeting = refl

pub seen_idle : seen_after opened ≡ (false, Some (toy []))
seen_idle = refl

pub seen_calling : seen_after called ≡ (true, Some (toy []))
seen_calling = refl

pub seen_leaving : seen_after (opened ++ Byes 1 ∷ []) ≡ (true, None)
seen_leaving = refl

pub seen_failed : seen_after (called ++ Hears (Proof 1 []) ∷ []) ≡ (false, None)
seen_failed = refl

-- A CLIENT OF `bool_program`
-- An update's state is kept, with the new pieces; a trap keeps the state; a stale update ends the session.
abbrev pub bool_events : List Event
bool_events =
    Hellos 1 1 (toy (1 ∷ [])) ∷ Hears (Welcome 1) ∷ Calls 1 2 1 [] ∷ Hears (Proof 1 (0 ∷ 0 ∷ 0 ∷ 0 ∷ 1 ∷ 1 ∷ [])) ∷ Calls 1 3 1 [] ∷ Hears
    (Proof 1 (0 ∷ 0 ∷ 0 ∷ 0 ∷ 1 ∷ 0 ∷ [])) ∷ []

pub flipped : answers bool_program new_client (bool_events ++ Calls 1 2 1 [] ∷ Hears (Stale 1 (toy (1 ∷ []))) ∷ Hellos 1 1 (toy (1 ∷ [])) ∷ [])
    ≡ Sends (Hello 1 text_digest 1 (toy (1 ∷ []))) ∷ TellsWelcome ∷ Sends (Call 1 2 1 []) ∷ Tells (Done (PairV (DigestV (toy (0 ∷ []))) (BoolV true)))
    ∷ Sends (Call 1 3 1 []) ∷ Tells (Trapped Overflow) ∷ Sends (Call 1 2 1 []) ∷ TellsStale (toy (1 ∷ [])) ∷ Sends (Hello 1 text_digest 1 (toy (1 ∷ []))) ∷ []
flipped = refl

pub kept : client_after toy bool_program text_digest new_client bool_events
    ≡ record {
      closed = None;
      sessions = record {
        number = 1;
        value = Idle
            (record { state = toy (0 ∷ []); kept = 1; recent = (0 ∷ []) ∷ (1 ∷ []) ∷ [] });
      } ∷ [];
    }
kept = refl

-- VERDICTS ON WHAT IS NO SPELLING
-- a state and an argument that are none are told apart, and with their offsets
pub no_state : (verdict_step toy unit_program (BadState 3) new_client 1 (record { state = toy []; kept = 0; recent = [] }) (record { role = 1; argument = []; fuel = 1 }) []).answer
    ≡ StateFault 3
no_state = refl

pub no_argument : (verdict_step toy unit_program (BadArgument 5) new_client 1 (record { state = toy []; kept = 0; recent = [] }) (record { role = 1; argument = []; fuel = 1 }) []).answer
    ≡ ArgumentFault 5
no_argument = refl

-- BOTH SIDES
-- the answers of a client that asks an honest server
abbrev pub exchanged : Exchange → List Move → List (Option Answer)
exchanged x [] = []
exchanged x (m ∷ ms) = let q = after_move toy bool_program text_digest (last_turn 1) x m in q.answer ∷ exchanged q.exchange ms

pub flipped_and_read : exchanged (new_exchange (new_server (BoolV true)).shared) (Greets 1 1 (toy (1 ∷ [])) ∷ Takes ∷ Asks 1 2 100 [] ∷ Goes 1 ∷ Takes ∷ Asks 1 1 100 [] ∷ Goes 1
    ∷ Takes ∷ Leaves 1 ∷ Takes ∷ Takes ∷ [])
    ≡ Some (Sends (Hello 1 text_digest 1 (toy (1 ∷ [])))) ∷ Some TellsWelcome ∷ Some (Sends (Call 1 2 100 [])) ∷ None
    ∷ Some (Tells (Done (PairV (DigestV (toy (0 ∷ []))) (BoolV true)))) ∷ Some (Sends (Call 1 1 100 [])) ∷ None
    ∷ Some (Tells (Done (PairV (BoolV false) (BoolV false)))) ∷ Some (Sends (Bye 1)) ∷ Some TellsEnded ∷ None ∷ []
flipped_and_read = refl
