-- Worked messages. Each equation holds by computing both sides.
use Rattle.std.specs.Prelude.{◌≡◌, ℕ, List, [], ◌∷◌, ◌++◌, replicate, refl}
use Rattle.ideal_meaning.specs.Examples.{toy}
use Rattle.session_meaning.specs.Messages.{Hello, Call, Go, Bye, Welcome, Proof, Stale, Refused, Closed, AtEnd, IsCut, TooLong, BadMessage, Got, Stops, request_bytes, reply_bytes, rest_of, NoMore, Then, left_by, request_of, reply_of, messages, u8_in}
use Rattle.session_meaning.specs.MessageFields.{read_request, read_reply}

-- the digest of a program's text, in these examples
abbrev pub text_digest : List ℕ
text_digest = replicate 32 7

-- the bytes of each kind of message
abbrev pub hello_bytes : List ℕ
hello_bytes = 0 ∷ 0 ∷ 0 ∷ 0x45 ∷ 1 ∷ 0 ∷ 1 ∷ (text_digest ++ 0 ∷ 0 ∷ toy [])

abbrev pub call_bytes : List ℕ
call_bytes = 0 ∷ 0 ∷ 0 ∷ 13 ∷ 2 ∷ 0 ∷ 1 ∷ 0 ∷ 1 ∷ 0 ∷ 0 ∷ 0 ∷ 0 ∷ 0 ∷ 0 ∷ 0 ∷ 1 ∷ []

abbrev pub go_bytes : List ℕ
go_bytes = 0 ∷ 0 ∷ 0 ∷ 7 ∷ 3 ∷ 0 ∷ 0 ∷ 0 ∷ 0 ∷ 0 ∷ 1 ∷ []

abbrev pub bye_bytes : List ℕ
bye_bytes = 0 ∷ 0 ∷ 0 ∷ 3 ∷ 4 ∷ 0 ∷ 1 ∷ []

pub hello_is_written : request_bytes (Hello 1 text_digest 0 (toy [])) ≡ hello_bytes
hello_is_written = refl

pub call_is_written : request_bytes (Call 1 1 1 []) ≡ call_bytes
call_is_written = refl

pub go_is_written : request_bytes (Go 1) ≡ go_bytes
go_is_written = refl

pub all_rounds_are_written : request_bytes (Go 4294967295) ≡ 0 ∷ 0 ∷ 0 ∷ 7 ∷ 3 ∷ 0 ∷ 0 ∷ 255 ∷ 255 ∷ 255 ∷ 255 ∷ []
all_rounds_are_written = refl

pub bye_is_written : request_bytes (Bye 1) ≡ bye_bytes
bye_is_written = refl

pub fields_are_big_endian : request_bytes (Call 258 772 1286 (9 ∷ [])) ≡ 0 ∷ 0 ∷ 0 ∷ 14 ∷ 2 ∷ 1 ∷ 2 ∷ 3 ∷ 4 ∷ 0 ∷ 0 ∷ 0 ∷ 0 ∷ 0 ∷ 0 ∷ 5 ∷ 6 ∷ 9 ∷ []
fields_are_big_endian = refl

pub welcome_is_written : reply_bytes (Welcome 1) ≡ 0 ∷ 0 ∷ 0 ∷ 3 ∷ 0x81 ∷ 0 ∷ 1 ∷ []
welcome_is_written = refl

pub proof_is_written : reply_bytes (Proof 1 (0 ∷ 0 ∷ 0 ∷ 0 ∷ 0 ∷ [])) ≡ 0 ∷ 0 ∷ 0 ∷ 8 ∷ 0x82 ∷ 0 ∷ 1 ∷ 0 ∷ 0 ∷ 0 ∷ 0 ∷ 0 ∷ []
proof_is_written = refl

pub stale_is_written : reply_bytes (Stale 1 (5 ∷ [])) ≡ 0 ∷ 0 ∷ 0 ∷ 4 ∷ 0x83 ∷ 0 ∷ 1 ∷ 5 ∷ []
stale_is_written = refl

pub refused_is_written : reply_bytes (Refused 0 11) ≡ 0 ∷ 0 ∷ 0 ∷ 4 ∷ 0x84 ∷ 0 ∷ 0 ∷ 11 ∷ []
refused_is_written = refl

pub closed_is_written : reply_bytes (Closed 1 0) ≡ 0 ∷ 0 ∷ 0 ∷ 4 ∷ 0x85 ∷ 0 ∷ 1 ∷ 0 ∷ []
closed_is_written = refl

-- reading: the first message, and what is behind it
pub hello_is_read : read_request (hello_bytes ++ 9 ∷ []) ≡ Got (Hello 1 text_digest 0 (toy [])) (9 ∷ [])
hello_is_read = refl

pub call_is_read : read_request call_bytes ≡ Got (Call 1 1 1 []) []
call_is_read = refl

pub messages_are_read : messages request_of (go_bytes ++ (bye_bytes ++ 0 ∷ 0 ∷ 0 ∷ 1 ∷ 9 ∷ bye_bytes)) ≡ Then (Go 1) (Then (Bye 1) (NoMore (BadMessage 9 0)))
messages_are_read = refl

pub replies_are_read : messages reply_of (reply_bytes (Welcome 1) ++ reply_bytes (Closed 0 1)) ≡ Then (Welcome 1) (Then (Closed 0 1) (NoMore AtEnd))
replies_are_read = refl

-- a session that is cut; a body without a kind; a reply's kind as a request; a byte too many
pub session_is_cut : read_request (0 ∷ 0 ∷ 0 ∷ 2 ∷ 1 ∷ 0 ∷ []) ≡ Stops (BadMessage 1 1)
session_is_cut = refl

pub no_kind : read_request (0 ∷ 0 ∷ 0 ∷ 0 ∷ []) ≡ Stops (BadMessage 0 0)
no_kind = refl

pub a_replys_kind : read_request (0 ∷ 0 ∷ 0 ∷ 3 ∷ 0x82 ∷ 0 ∷ 1 ∷ []) ≡ Stops (BadMessage 130 0)
a_replys_kind = refl

pub a_byte_more : read_request (0 ∷ 0 ∷ 0 ∷ 4 ∷ 4 ∷ 0 ∷ 1 ∷ 0 ∷ []) ≡ Stops (BadMessage 4 3)
a_byte_more = refl

-- each field of a greeting and of a call that isn't whole, at its offset
pub hello_without_program : read_request (0 ∷ 0 ∷ 0 ∷ 34 ∷ 1 ∷ 0 ∷ 1 ∷ replicate 31 7) ≡ Stops (BadMessage 1 3)
hello_without_program = refl

pub hello_without_size : read_request (0 ∷ 0 ∷ 0 ∷ 36 ∷ 1 ∷ 0 ∷ 1 ∷ (text_digest ++ 0 ∷ [])) ≡ Stops (BadMessage 1 35)
hello_without_size = refl

pub call_without_role : read_request (0 ∷ 0 ∷ 0 ∷ 4 ∷ 2 ∷ 0 ∷ 1 ∷ 0 ∷ []) ≡ Stops (BadMessage 2 3)
call_without_role = refl

pub call_without_fuel : read_request (0 ∷ 0 ∷ 0 ∷ 12 ∷ 2 ∷ 0 ∷ 1 ∷ 0 ∷ 1 ∷ replicate 7 0) ≡ Stops (BadMessage 2 5)
call_without_fuel = refl

-- GO has session 0, and no other request has; its rounds are whole, and nothing is behind them
pub go_of_a_session : read_request (0 ∷ 0 ∷ 0 ∷ 7 ∷ 3 ∷ 0 ∷ 1 ∷ 0 ∷ 0 ∷ 0 ∷ 1 ∷ []) ≡ Stops (BadMessage 3 1)
go_of_a_session = refl

pub go_without_rounds : read_request (0 ∷ 0 ∷ 0 ∷ 6 ∷ 3 ∷ 0 ∷ 0 ∷ 0 ∷ 0 ∷ 0 ∷ []) ≡ Stops (BadMessage 3 3)
go_without_rounds = refl

pub go_with_more : read_request (0 ∷ 0 ∷ 0 ∷ 8 ∷ 3 ∷ 0 ∷ 0 ∷ 0 ∷ 0 ∷ 0 ∷ 1 ∷ 0 ∷ []) ≡ Stops (BadMessage 3 7)
go_with_more = refl

pub bye_to_all : read_request (0 ∷ 0 ∷ 0 ∷ 3 ∷ 4 ∷ 0 ∷ 0 ∷ []) ≡ Stops (BadMessage 4 1)
bye_to_all = refl

-- a request's kind as a reply; a cause that is missing; a byte behind a cause; a welcome to all
pub a_requests_kind : read_reply (0 ∷ 0 ∷ 0 ∷ 3 ∷ 1 ∷ 0 ∷ 1 ∷ []) ≡ Stops (BadMessage 1 0)
a_requests_kind = refl

pub no_cause : read_reply (0 ∷ 0 ∷ 0 ∷ 3 ∷ 0x85 ∷ 0 ∷ 1 ∷ []) ≡ Stops (BadMessage 133 3)
no_cause = refl

pub behind_a_cause : read_reply (0 ∷ 0 ∷ 0 ∷ 5 ∷ 0x84 ∷ 0 ∷ 1 ∷ 1 ∷ 1 ∷ []) ≡ Stops (BadMessage 132 4)
behind_a_cause = refl

pub welcome_to_all : read_reply (0 ∷ 0 ∷ 0 ∷ 3 ∷ 0x81 ∷ 0 ∷ 0 ∷ []) ≡ Stops (BadMessage 129 1)
welcome_to_all = refl

-- no byte; an end in the length, and in the body; a length over the limit, also before an end
pub no_bytes : read_reply [] ≡ Stops AtEnd
no_bytes = refl

pub cut_in_length : read_reply (0 ∷ 0 ∷ 0 ∷ []) ≡ Stops IsCut
cut_in_length = refl

pub cut_in_body : read_reply (0 ∷ 0 ∷ 0 ∷ 3 ∷ 0x81 ∷ 0 ∷ []) ≡ Stops IsCut
cut_in_body = refl

pub cut_before_a_fault : read_request (0 ∷ 0 ∷ 0 ∷ 3 ∷ 9 ∷ []) ≡ Stops IsCut
cut_before_a_fault = refl

pub longest : read_request (1 ∷ 0 ∷ 0 ∷ 0 ∷ 9 ∷ []) ≡ Stops IsCut
longest = refl

pub too_long : read_request (1 ∷ 0 ∷ 0 ∷ 1 ∷ []) ≡ Stops (TooLong 16777217)
too_long = refl

-- what is left: all behind a length over the limit, and what is behind a body that is none
pub left_behind_a_length : rest_of (read_request (1 ∷ 0 ∷ 0 ∷ 1 ∷ 5 ∷ 6 ∷ [])) (1 ∷ 0 ∷ 0 ∷ 1 ∷ 5 ∷ 6 ∷ []) ≡ 5 ∷ 6 ∷ []
left_behind_a_length = refl

pub left_behind_a_body : rest_of (read_request (0 ∷ 0 ∷ 0 ∷ 1 ∷ 9 ∷ 5 ∷ 6 ∷ [])) (0 ∷ 0 ∷ 0 ∷ 1 ∷ 9 ∷ 5 ∷ 6 ∷ []) ≡ 5 ∷ 6 ∷ []
left_behind_a_body = refl

-- a program's digest that ends its body; a body without a session; a byte too many behind WELCOME; frames that are none
pub hello_behind_its_program : read_request (0 ∷ 0 ∷ 0 ∷ 35 ∷ 1 ∷ 0 ∷ 1 ∷ text_digest) ≡ Stops (BadMessage 1 35)
hello_behind_its_program = refl

pub go_without_session : read_request (0 ∷ 0 ∷ 0 ∷ 1 ∷ 3 ∷ []) ≡ Stops (BadMessage 3 1)
go_without_session = refl

pub refusal_without_session : read_reply (0 ∷ 0 ∷ 0 ∷ 1 ∷ 0x84 ∷ []) ≡ Stops (BadMessage 0x84 1)
refusal_without_session = refl

pub welcome_with_more : read_reply (0 ∷ 0 ∷ 0 ∷ 4 ∷ 0x81 ∷ 0 ∷ 1 ∷ 9 ∷ []) ≡ Stops (BadMessage 0x81 3)
welcome_with_more = refl

pub proof_without_frames : read_reply (0 ∷ 0 ∷ 0 ∷ 3 ∷ 0x82 ∷ 0 ∷ 1 ∷ []) ≡ Got (Proof 1 []) []
proof_without_frames = refl

-- of no byte there is no number, and behind an end and a cut nothing is left
pub no_byte : u8_in [] ≡ 0
no_byte = refl

pub left_behind_an_end : left_by AtEnd (1 ∷ 2 ∷ 3 ∷ 4 ∷ 5 ∷ []) ≡ []
left_behind_an_end = refl

pub left_behind_a_cut : rest_of (read_request (0 ∷ 0 ∷ 0 ∷ 3 ∷ 4 ∷ [])) (0 ∷ 0 ∷ 0 ∷ 3 ∷ 4 ∷ []) ≡ []
left_behind_a_cut = refl
