-- The laws of isolation, of an honest exchange and of what is told, each applied to a run of two sessions. A premise that no run meets would leave
-- these without a proof, and so would a conclusion that says nothing of the run.
use Rattle.std.specs.Prelude.{◌≡◌, ℕ, Bool, true, false, List, [], ◌∷◌, ◌++◌, map, Option, Some, None, refl}
use Rattle.std.proofs.Common.{arith, lit<}
use Rattle.core_terms.specs.Values.{Value, BoolV, PairV, DigestV}
use Rattle.core_terms.proofs.LawProofs.{first_format_is_format, typing_test_is_exact}
use Rattle.ideal_meaning.specs.Ideal.{Done}
use Rattle.ideal_meaning.specs.Examples.{toy, bool_program}
use Rattle.ideal_meaning.specs.ExampleProofs.{toy_gives_32_bytes}
use Rattle.session_meaning.specs.Messages.{Request, Hello, Call, Go, Bye, Reply, Welcome, Proof, Stale, Closed}
use Rattle.session_meaning.specs.Server.{Heard, Hears, HearsBad, HearsEnd, last_turn, new_server, replies_of}
use Rattle.session_meaning.specs.Client.{Answer, new_client, Sends, Tells, TellsStale, TellsEnded}
use Rattle.session_meaning.specs.Exchange.{Move, Greets, Asks, Leaves, Goes, Takes, IsTold, RepliesAreTaken, after_move, exchange_after, new_exchange, with_request}
use Rattle.session_meaning.specs.Fates.{replies_to}
use Rattle.session_meaning.specs.Isolation.{IsQuietRun, SessionsAreIsolated, own_messages, welcomes, welcomes_in}
use Rattle.session_meaning.specs.MessageRows.{text_digest}

-- the bytes of a proof that opens this bool twice
abbrev pub seen_twice : (byte : List ℕ) → List ℕ
seen_twice byte = 0 ∷ 0 ∷ 0 ∷ 0 ∷ 1 ∷ (byte ++ 0 ∷ 0 ∷ 0 ∷ 0 ∷ 1 ∷ byte)

-- ISOLATION
-- A server of `bool_program` hears session 1 ask twice for the same bool. In the first run its state has this bool at first, and session 2 changes it
-- while session 1 calls; in the second run session 2 makes it, before session 1 is greeted, and leaves later.
abbrev pub changed_meanwhile : List Request
changed_meanwhile =
    Hello 2 text_digest 0 (toy (1 ∷ [])) ∷ Go 1 ∷ Hello 1 text_digest 0 (toy (1 ∷ [])) ∷ Call 2 2 1 [] ∷ Call 1 1 1 [] ∷ Go 1 ∷ Call 1 1 1 [] ∷ Go 1 ∷ Bye 1 ∷ []

abbrev pub made_before : List Request
made_before =
    Hello 2 text_digest 0 (toy (0 ∷ [])) ∷ Call 2 2 1 [] ∷ Go 1 ∷ Hello 1 text_digest 0 (toy (1 ∷ [])) ∷ Call 2 9 1 [] ∷ Call 1 1 1 [] ∷ Go 1 ∷ Bye 2
    ∷ Call 1 1 1 [] ∷ Go 1 ∷ Bye 1 ∷ []

abbrev pub own_requests : List Request
own_requests = Go 1 ∷ Hello 1 text_digest 0 (toy (1 ∷ [])) ∷ Call 1 1 1 [] ∷ Go 1 ∷ Call 1 1 1 [] ∷ Go 1 ∷ Bye 1 ∷ []

pub own_are_the_same : (own_messages 1 (map Hears changed_meanwhile) ≡ own_requests) × (own_messages 1 (map Hears made_before) ≡ own_requests)
own_are_the_same = (refl, refl)

-- what is no message, and an end, are none of its own
pub ends_are_not_own : own_messages 1 (HearsBad ∷ HearsEnd ∷ Hears (Bye 1) ∷ Hears (Call 2 1 1 []) ∷ Hears (Call 1 1 1 []) ∷ []) ≡ Bye 1 ∷ Call 1 1 1 [] ∷ []
ends_are_not_own = refl

-- the replies to a session, of such a server that begins with a bool
abbrev pub replies_from : Bool → ℕ → List Heard → List Reply
replies_from first number heard = replies_to number (replies_of toy bool_program text_digest (last_turn 1) (new_server (BoolV first)) heard)

abbrev pub IsQuietFrom : Bool → ℕ → List Heard → Type 0
IsQuietFrom first number heard = IsQuietRun toy bool_program text_digest (last_turn 1) number (new_server (BoolV first)) heard

abbrev pub welcomes_from : Bool → ℕ → List Heard → List Value
welcomes_from first number heard = welcomes toy bool_program text_digest (last_turn 1) number (new_server (BoolV first)) heard

pub changed_is_quiet : IsQuietFrom true 1 (map Hears changed_meanwhile)
changed_is_quiet = (refl, tt, (refl, tt, (refl, (refl, tt), (refl, tt, (refl, tt, (refl, (refl, tt), (refl, tt, (refl, (refl, tt), (refl, (refl, tt), tt)))))))))

pub made_is_quiet : IsQuietFrom false 1 (map Hears made_before)
made_is_quiet = (refl, tt, (refl, tt, (refl, tt, (refl, (refl, tt), (refl, tt, (refl, tt, (refl, (refl, tt), (refl, tt, (refl, tt, (refl, (refl, tt), (refl, (refl, tt), tt)))))))))))

pub isolated : SessionsAreIsolated → replies_from true 1 (map Hears changed_meanwhile) ≡ replies_from false 1 (map Hears made_before)
isolated law = law toy bool_program text_digest (last_turn 1) 1 (new_server (BoolV true)).shared (new_server (BoolV false)).shared (map Hears changed_meanwhile) (map Hears made_before) refl changed_is_quiet made_is_quiet refl

pub its_replies : replies_from true 1 (map Hears changed_meanwhile) ≡ Welcome 1 ∷ Proof 1 (seen_twice (1 ∷ [])) ∷ Proof 1 (seen_twice (1 ∷ [])) ∷ Closed 1 0 ∷ []
its_replies = refl

-- it stands at the bool at each WELCOME: session 2 does so too, at another in each run, and where it is greeted anew
pub its_welcomes : (welcomes_from true 1 (map Hears changed_meanwhile) ≡ BoolV true ∷ []) × (welcomes_from false 1 (map Hears made_before) ≡ BoolV true ∷ [])
its_welcomes = (refl, refl)

pub other_welcomes : welcomes_from false 2 (map Hears (made_before ++ Hello 2 text_digest 0 (toy (1 ∷ [])) ∷ Hello 3 text_digest 0 (toy (0 ∷ [])) ∷ [])) ≡ BoolV false ∷ BoolV true ∷ []
other_welcomes = refl

pub welcomes_of_replies : (v : Value) → welcomes_in (Closed 1 0 ∷ Welcome 1 ∷ Proof 1 [] ∷ Welcome 1 ∷ []) v ≡ v ∷ v ∷ []
welcomes_of_replies v = refl

-- The run isn't quiet to a session that is told of others: that its update is stale, or that its state is of no version. Nor is one in which the
-- connection ends.
abbrev pub both_change : List Request
both_change = Hello 1 text_digest 0 (toy (1 ∷ [])) ∷ Hello 2 text_digest 0 (toy (1 ∷ [])) ∷ Call 1 2 1 [] ∷ Call 2 2 1 [] ∷ Go 1 ∷ []

false_is_true : false ≡ true → ⊥
false_is_true e = cc (e)

true_is_false : true ≡ false → ⊥
true_is_false e = cc (e)

pub stale_is_told : replies_from true 2 (map Hears both_change) ≡ Welcome 2 ∷ Stale 2 (toy (0 ∷ [])) ∷ []
stale_is_told = refl

pub stale_is_not_quiet : IsQuietFrom true 2 (map Hears both_change) → ⊥
stale_is_not_quiet run = false_is_true run.2.2.2.2.1.0

pub no_version_is_not_quiet : IsQuietFrom true 1 (Hears (Hello 1 text_digest 0 (toy (0 ∷ []))) ∷ []) → ⊥
no_version_is_not_quiet run = false_is_true run.1.0

pub bad_is_not_quiet : IsQuietFrom true 1 (Hears (Go 1) ∷ HearsBad ∷ []) → ⊥
bad_is_not_quiet run = true_is_false run.2.0

pub end_is_not_quiet : IsQuietFrom true 1 (Hears (Go 1) ∷ HearsEnd ∷ []) → ⊥
end_is_not_quiet run = run.2.0

-- AN HONEST EXCHANGE
-- Two sessions are greeted, and both call for one round, behind a call that is asked too early.
abbrev pub two_sessions : List Move
two_sessions = Greets 1 0 (toy (1 ∷ [])) ∷ Greets 2 1 (toy (1 ∷ [])) ∷ Asks 1 2 1 [] ∷ Takes ∷ Takes ∷ Asks 1 2 1 [] ∷ Asks 2 2 1 [] ∷ Goes 1 ∷ []

abbrev pub answer_after : List Move → Move → Option Answer
answer_after moves m =
    (after_move toy bool_program text_digest (last_turn 1) (exchange_after toy bool_program text_digest (last_turn 1) (new_exchange (new_server (BoolV true)).shared) moves) m).answer

-- the law says of each of the moves behind it that it is well answered
pub each_is_taken : RepliesAreTaken → IsTold (answer_after two_sessions Takes) × IsTold (answer_after (two_sessions ++ Takes ∷ []) Takes)
each_is_taken law =
    let says = law toy toy_gives_32_bytes bool_program (first_format_is_format 1024 (lit< tt)) ((typing_test_is_exact bool_program).0 refl) refl text_digest (last_turn 1) (new_server (BoolV true)).shared
    (record { ideal = tt; fits = record { size_fits = omega arith; depth_fits = omega arith }; deep = (record { size_fits = omega arith; depth_fits = omega arith }, tt) }, tt) in (
      says two_sessions (tt, (tt, (tt, (tt, (tt, (tt, (tt, (tt, tt)))))))) Takes tt,
      says (two_sessions ++ Takes ∷ []) (tt, (tt, (tt, (tt, (tt, (tt, (tt, (tt, (tt, tt))))))))) Takes tt,
    )

pub first_is_told : answer_after two_sessions Takes ≡ Some (Tells (Done (PairV (DigestV (toy (0 ∷ []))) (BoolV true))))
first_is_told = refl

pub second_is_told : answer_after (two_sessions ++ Takes ∷ []) Takes ≡ Some (TellsStale (toy (0 ∷ [])))
second_is_told = refl

-- no reply has come, and the first session is to leave
pub none_has_come : answer_after (two_sessions ++ Takes ∷ Takes ∷ []) Takes ≡ None
none_has_come = refl

pub leaves : answer_after (two_sessions ++ Takes ∷ Takes ∷ []) (Leaves 1) ≡ Some (Sends (Bye 1))
leaves = refl

pub left : answer_after (two_sessions ++ Takes ∷ Takes ∷ Leaves 1 ∷ []) Takes ≡ Some TellsEnded
left = refl

-- where the connection isn't open nothing is heard
pub not_heard : (r : Request) → with_request toy bool_program text_digest (last_turn 1) false (new_server (BoolV true)) new_client (Welcome 1 ∷ []) r
    ≡ record { server = new_server (BoolV true); client = new_client; coming = Welcome 1 ∷ []; is_open = false }
not_heard r = refl
