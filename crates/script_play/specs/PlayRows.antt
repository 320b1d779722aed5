-- Worked plays. Each equation holds by computing both sides.
use Rattle.std.specs.Prelude.{◌≡◌, ℕ, true, false, List, [], ◌∷◌, ◌++◌, codes, refl}
use Rattle.std.specs.Fmt.{digits}
use Rattle.core_terms.specs.Values.{BoolV, PairV, DigestV}
use Rattle.ideal_meaning.specs.Checked.{Short}
use Rattle.ideal_meaning.specs.Examples.{toy, bool_program}
use Rattle.ideal_meaning.specs.Ideal.{Done}
use Rattle.session_meaning.specs.Calls.{no_role, role_in}
use Rattle.session_meaning.specs.Client as client
use Rattle.session_meaning.specs.Client.{Answer, new_client}
use Rattle.session_meaning.specs.Messages.{Hello, Call, Go, Bye, Reply, Welcome, Proof, Stale, Refused, Closed, AtEnd, IsCut, TooLong, BadMessage, Messages, NoMore, reply_of, messages, request_bytes}
use Rattle.session_meaning.specs.MessageLaws.{all_of}
use Rattle.session_meaning.specs.MessageRows.{text_digest}
use Rattle.printed_syntax.specs.Literals.{ConstructorNames}
use Rattle.ask_script.specs.Scripts.{UserStep, Opens, Calls, Goes, Closes}
use Rattle.script_play.specs.DeedLines.{bytes_sent, deed_line, lines_told}
use Rattle.script_play.specs.Plays.{Deed, Sends, Tells, Stops, Play, play, last_state}

-- A user of `bool_program`, whose state is the authenticated `true`. The roles are 1 `both`, 2 `flip` and 3 `over`, which traps.
abbrev pub state : List ℕ
state = toy (1 ∷ [])

abbrev pub played : List UserStep → Messages Reply → Play
played steps ms = play toy bool_program text_digest state steps new_client ms

abbrev pub no_names : ConstructorNames
no_names type = []

abbrev pub lines : List Deed → List ℕ
lines deeds = lines_told bool_program no_names deeds

-- what opening a session does, where it is welcomed
abbrev pub opened : (session : ℕ) → List Deed
opened session = Sends (Hello session text_digest 1 state) ∷ Tells session no_role client.TellsWelcome ∷ []

-- frames that open the authenticated `true`
abbrev pub frames : List ℕ
frames = 0 ∷ 0 ∷ 0 ∷ 0 ∷ 1 ∷ 1 ∷ []

abbrev pub flipped : Answer
flipped = client.Tells (Done (PairV (DigestV (toy (0 ∷ []))) (BoolV true)))

-- A WHOLE SCRIPT
abbrev pub whole : Play
whole = played (Opens 1 1 ∷ Calls 1 2 1 [] ∷ Goes ∷ Closes 1 ∷ []) (all_of (Welcome 1 ∷ Proof 1 frames ∷ Closed 1 0 ∷ []))

pub whole_is_played : whole ≡ record {
  deeds = opened 1 ++ (Sends (Call 1 2 1 []) ∷ Sends (Go 4294967295) ∷ Tells 1 (role_in bool_program 2) flipped ∷ Sends (Bye 1)
      ∷ Tells 1 no_role client.TellsEnded ∷ []);
  client = new_client;
  coming = NoMore AtEnd;
  goes_on = true;
}
whole_is_played = refl

-- the state that the update made is told last; where none was told it is that of the start
pub state_is_told : last_state state whole.deeds ≡ toy (0 ∷ [])
state_is_told = refl

pub no_state_is_told : last_state state (opened 1) ≡ state
no_state_is_told = refl

pub whole_is_sent : bytes_sent whole.deeds
    ≡ request_bytes (Hello 1 text_digest 1 state) ++ (request_bytes (Call 1 2 1 []) ++ (request_bytes (Go 4294967295) ++ request_bytes (Bye 1)))
whole_is_sent = refl

-- A trap and a query's value keep the state, and their lines stand behind the number of the session.
abbrev pub asked : Play
asked = played (Opens 1 1 ∷ Calls 1 3 1 [] ∷ Goes ∷ Calls 1 1 1 [] ∷ Goes ∷ [])
    (all_of (Welcome 1 ∷ Proof 1 frames ∷ Proof 1 (1 ∷ 0 ∷ 0 ∷ 1 ∷ 0 ∷ 0 ∷ []) ∷ []))

pub asked_is_told : lines asked.deeds ≡ codes "1 welcome\n1 trap overflow\n1 done (true, true)\n"
unfolding digits
asked_is_told = refl

pub state_is_kept : last_state state asked.deeds ≡ state
state_is_kept = refl

-- LINES THAT SEND NOTHING
-- a line out of turn is told, reads nothing, and the script goes on
pub out_of_turn : played (Calls 7 1 1 [] ∷ Closes 7 ∷ []) (all_of (Welcome 1 ∷ []))
    ≡ record {
      deeds = Tells 7 no_role client.OutOfTurn ∷ Tells 7 no_role client.OutOfTurn ∷ [];
      client = new_client;
      coming = all_of (Welcome 1 ∷ []);
      goes_on = true;
    }
out_of_turn = refl

-- where no session calls nothing is to run
pub nothing_runs : played (Goes ∷ []) (NoMore AtEnd) ≡ record { deeds = []; client = new_client; coming = NoMore AtEnd; goes_on = true }
nothing_runs = refl

-- REPLIES
-- Both sessions' replies are read, in the order in which they come, and none behind them.
abbrev pub two_called : List Reply → Play
two_called replies = played (Opens 1 1 ∷ Opens 2 1 ∷ Calls 1 2 1 [] ∷ Calls 2 2 1 [] ∷ Goes ∷ []) (all_of (Welcome 1 ∷ Welcome 2 ∷ replies))

abbrev pub two_sent : List Deed
two_sent = opened 1 ++ (opened 2 ++ (Sends (Call 1 2 1 []) ∷ Sends (Call 2 2 1 []) ∷ Sends (Go 4294967295) ∷ []))

pub both_are_read : let p = two_called (Stale 2 (toy (0 ∷ [])) ∷ Refused 1 7 ∷ Closed 0 1 ∷ []) in
    (p.deeds ≡ two_sent ++ (Tells 2 (role_in bool_program 2) (client.TellsStale (toy (0 ∷ []))) ∷ Tells 1 (role_in bool_program 2) (client.TellsRefused 7) ∷ []))
    × (p.coming ≡ all_of (Closed 0 1 ∷ [])) × (p.goes_on ≡ true)
both_are_read = (refl, refl, refl)

-- a rejection ends the play, though another session waits
pub rejection_ends : let p = two_called (Proof 2 [] ∷ Refused 1 7 ∷ []) in
    (p.deeds ≡ two_sent ++ Tells 2 (role_in bool_program 2) (client.IsRejected 2 (Short 0)) ∷ []) × (p.goes_on ≡ false)
rejection_ends = (refl, refl)

-- what ends a play that opens session 1, and how it is told
abbrev pub first_play : Messages Reply → Play
first_play ms = played (Opens 1 1 ∷ Goes ∷ []) ms

abbrev pub Ends : Messages Reply → Deed → List ℕ → Type 0
Ends ms deed line =
    let p = first_play ms in (p.deeds ≡ Sends (Hello 1 text_digest 1 state) ∷ deed ∷ []) × (p.goes_on ≡ false) × (deed_line bool_program no_names deed ≡ line)

pub stranger_ends : Ends (all_of (Welcome 2 ∷ [])) (Tells 2 no_role (client.IsStranger 2)) (codes "bad reply 2 stranger\n")
unfolding digits
stranger_ends = (refl, refl, refl)

pub wrong_reply_ends : Ends (all_of (Closed 1 0 ∷ [])) (Tells 1 no_role (client.IsWrongReply 133)) (codes "bad reply 1 wrong 133\n")
unfolding digits
wrong_reply_ends = (refl, refl, refl)

pub closed_ends : Ends (all_of (Refused 0 11 ∷ [])) (Tells 0 no_role (client.IsClosed 11)) (codes "server closed 11\n")
unfolding digits
closed_ends = (refl, refl, refl)

pub no_reply_ends : Ends (NoMore AtEnd) (Stops AtEnd) (codes "reply ended\n")
no_reply_ends = (refl, refl, refl)

pub cut_reply_ends : Ends (messages reply_of (0 ∷ 0 ∷ 0 ∷ [])) (Stops IsCut) (codes "reply cut\n")
cut_reply_ends = (refl, refl, refl)

pub long_reply_ends : Ends (messages reply_of (1 ∷ 0 ∷ 0 ∷ 1 ∷ [])) (Stops (TooLong 16777217)) (codes "message too long 16777217\n")
unfolding digits
long_reply_ends = (refl, refl, refl)

pub bad_reply_ends : Ends (messages reply_of (0 ∷ 0 ∷ 0 ∷ 3 ∷ 4 ∷ 0 ∷ 1 ∷ [])) (Stops (BadMessage 4 0)) (codes "bad message 4 0\n")
unfolding digits
bad_reply_ends = (refl, refl, refl)

-- a refused greeting ends nothing: the session is absent
pub refusal_goes_on : let p = first_play (all_of (Refused 1 2 ∷ [])) in
    (lines p.deeds ≡ codes "1 refused 2\n") × (p.client ≡ new_client) × (p.goes_on ≡ true)
unfolding digits
refusal_goes_on = (refl, refl, refl)
