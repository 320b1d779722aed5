-- Rows for what is a message: the ranges of its fields and its length. What each word takes, and what it refuses.
use Rattle.std.specs.Prelude.{◌≡◌, ◌<◌, ◌≤◌, ℕ, List, [], ◌∷◌, length, replicate, refl}
use Rattle.std.proofs.Common.{arith, lit<, lit≤}
use Rattle.session_meaning.specs.Messages.{Request, Hello, Call, Go, Bye, Reply, Welcome, Proof, Stale, Refused, Closed, AtEnd, NoMore, Then, kind_of, request_body, reply_body, session_of}
use Rattle.session_meaning.specs.MessageFields.{HasFields, HasReplyFields, IsReply, IsRequest, IsSession}
use Rattle.session_meaning.specs.MessageLaws.{all_of}
use Rattle.session_meaning.specs.Client.{Calls, Hellos, Byes}
use Rattle.session_meaning.specs.Server.{Hears}
use Rattle.session_meaning.specs.ReplyLaws.{IsWithinMessages, IsHeard}
use Rattle.session_meaning.specs.MessageRows.{text_digest}

-- a session's number is 1 to 65,535
pub least_session : IsSession 1
least_session = record { least = lit≤ tt; fits = lit< tt }

pub greatest_session : IsSession 65535
greatest_session = record { least = lit≤ tt; fits = lit< tt }

pub no_session_0 : IsSession 0 → ⊥
no_session_0 s = let k : 1 ≤ 0 = s.least in omega (arith, k)

pub no_session_beyond : IsSession 65536 → ⊥
no_session_beyond s = let k : 65536 < 65536 = s.fits in omega (arith, k)

-- the greatest fields of each request, whose session is one
pub greatest_fields : HasFields (Hello 65535 text_digest 65535 []) × HasFields (Call 1 65535 18446744073709551615 []) × HasFields (Go 4294967295) × HasFields (Bye 1)
greatest_fields = ((greatest_session, refl, lit< tt), (least_session, lit< tt, lit< tt), lit< tt, least_session)

pub sessions_of_requests : (n role fuel : ℕ) (state : List ℕ) → (HasFields (Hello 0 text_digest n state) → ⊥) × (HasFields (Call 0 role fuel state) → ⊥) × (HasFields (Bye 0) → ⊥)
sessions_of_requests n role fuel state = ((λ h. no_session_0 h.0), (λ h. no_session_0 h.0), (λ h. no_session_0 h))

pub no_short_digest : HasFields (Hello 1 (replicate 31 7) 0 []) → ⊥
no_short_digest h = let k : 31 ≡ 32 = h.1 in omega (arith, k)

pub no_long_digest : HasFields (Hello 1 (replicate 33 7) 0 []) → ⊥
no_long_digest h = let k : 33 ≡ 32 = h.1 in omega (arith, k)

pub no_larger_ring : HasFields (Hello 1 text_digest 65536 []) → ⊥
no_larger_ring h = let k : 65536 < 65536 = h.2 in omega (arith, k)

pub no_greater_role : HasFields (Call 1 65536 0 []) → ⊥
no_greater_role h = let k : 65536 < 65536 = h.1 in omega (arith, k)

pub no_more_fuel : HasFields (Call 1 0 18446744073709551616 []) → ⊥
no_more_fuel h = let k : 18446744073709551616 < 18446744073709551616 = h.2 in omega (arith, k)

pub no_more_rounds : HasFields (Go 4294967296) → ⊥
no_more_rounds h = let k : 4294967296 < 4294967296 = h in omega (arith, k)

-- the same of replies: a refusal and an end may be for all
pub greatest_reply_fields : (bytes : List ℕ) → HasReplyFields (Welcome 1) × HasReplyFields (Proof 65535 bytes) × HasReplyFields (Stale 1 bytes) × HasReplyFields (Refused 0 255)
    × HasReplyFields (Closed 65535 0)
greatest_reply_fields bytes = (least_session, greatest_session, least_session, (lit< tt, lit< tt), (lit< tt, lit< tt))

pub sessions_of_replies : (bytes : List ℕ) → (HasReplyFields (Welcome 0) → ⊥) × (HasReplyFields (Proof 0 bytes) → ⊥) × (HasReplyFields (Stale 0 bytes) → ⊥)
sessions_of_replies bytes = ((λ h. no_session_0 h), (λ h. no_session_0 h), (λ h. no_session_0 h))

pub no_refusal_beyond : HasReplyFields (Refused 65536 0) → ⊥
no_refusal_beyond h = let k : 65536 < 65536 = h.0 in omega (arith, k)

pub no_end_beyond : HasReplyFields (Closed 65536 0) → ⊥
no_end_beyond h = let k : 65536 < 65536 = h.0 in omega (arith, k)

pub no_greater_cause : HasReplyFields (Refused 0 256) → ⊥
no_greater_cause h = let k : 256 < 256 = h.1 in omega (arith, k)

pub no_greater_end : HasReplyFields (Closed 0 256) → ⊥
no_greater_end h = let k : 256 < 256 = h.1 in omega (arith, k)

-- a message is no longer than 16,777,216 bytes
pub longest_is_one : (r : Request) → HasFields r → length (request_body r) ≡ 16777216 → IsRequest r
longest_is_one r fields is = record { fields = fields; length_fits = omega (arith, is) }

pub longer_is_none : (r : Request) → length (request_body r) ≡ 16777217 → IsRequest r → ⊥
longer_is_none r is m = omega (arith, is, m.length_fits)

pub longest_reply_is_one : (r : Reply) → HasReplyFields r → length (reply_body r) ≡ 16777216 → IsReply r
longest_reply_is_one r fields is = record { fields = fields; length_fits = omega (arith, is) }

pub longer_reply_is_none : (r : Reply) → length (reply_body r) ≡ 16777217 → IsReply r → ⊥
longer_reply_is_none r is m = omega (arith, is, m.length_fits)

-- of each reply its session, and its kind, with which its body begins
pub sessions : (bytes : List ℕ) → (session_of (Welcome 1) ≡ 1) × (session_of (Proof 2 bytes) ≡ 2) × (session_of (Stale 3 bytes) ≡ 3) × (session_of (Refused 4 9) ≡ 4) × (session_of (Closed 5 9) ≡ 5)
sessions bytes = (refl, refl, refl, refl, refl)

pub kinds : (bytes : List ℕ) → (kind_of (Welcome 1) ≡ 0x81) × (kind_of (Proof 2 bytes) ≡ 0x82) × (kind_of (Stale 3 bytes) ≡ 0x83) × (kind_of (Refused 4 9) ≡ 0x84) × (kind_of (Closed 5 9) ≡ 0x85)
kinds bytes = (refl, refl, refl, refl, refl)

pub all_messages : all_of (Go 1 ∷ Bye 1 ∷ []) ≡ Then (Go 1) (Then (Bye 1) (NoMore AtEnd))
all_messages = refl

-- what is heard is a message with an argument of bytes; what is asked is within the ranges of messages
pub heard_call : IsHeard (Hears (Call 1 0 0 (255 ∷ [])))
heard_call = (record { fields = (least_session, lit< tt, lit< tt); length_fits = lit≤ tt }, (lit< tt, tt))

pub no_message_is_heard : IsHeard (Hears (Bye 0)) → ⊥
no_message_is_heard h = no_session_0 h.0.fields

pub no_argument_is_heard : IsHeard (Hears (Call 1 0 0 (256 ∷ []))) → ⊥
no_argument_is_heard h = let k : 256 < 256 = h.1.0 in omega (arith, k)

pub greatest_asked : (bytes : List ℕ) → IsWithinMessages (Hellos 65535 65535 bytes) × IsWithinMessages (Calls 1 65535 18446744073709551615 bytes) × IsWithinMessages (Byes 1)
greatest_asked bytes = ((greatest_session, lit< tt), (least_session, lit< tt, lit< tt), least_session)

pub sessions_asked : (n role fuel : ℕ) (bytes : List ℕ) → (IsWithinMessages (Hellos 0 n bytes) → ⊥) × (IsWithinMessages (Calls 0 role fuel bytes) → ⊥) × (IsWithinMessages (Byes 0) → ⊥)
sessions_asked n role fuel bytes = ((λ h. no_session_0 h.0), (λ h. no_session_0 h.0), (λ h. no_session_0 h))

pub no_larger_ring_asked : (bytes : List ℕ) → IsWithinMessages (Hellos 1 65536 bytes) → ⊥
no_larger_ring_asked bytes h = let k : 65536 < 65536 = h.1 in omega (arith, k)

pub no_greater_role_asked : (bytes : List ℕ) → IsWithinMessages (Calls 1 65536 0 bytes) → ⊥
no_greater_role_asked bytes h = let k : 65536 < 65536 = h.1 in omega (arith, k)

pub no_more_fuel_asked : (bytes : List ℕ) → IsWithinMessages (Calls 1 0 18446744073709551616 bytes) → ⊥
no_more_fuel_asked bytes h = let k : 18446744073709551616 < 18446744073709551616 = h.2 in omega (arith, k)
