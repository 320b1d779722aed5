-- What the body of a message says is one: for request_in and reply_in.
use Rattle.std.proofs.Common.{◌≡◌, ◌<◌, ◌≤◌, ℕ, suc, List, [], ◌∷◌, ◌++◌, length, take, drop, get_or, ap₂, subst, ◌∙◌, arith}
use Rattle.std.proofs.lemmas.List.{append-nil, take_all, drop_all}
use Rattle.std.specs.Int.{w16, w32, w64, to_be_bytes}
use Rattle.std.proofs.lemmas.Nat.{from_be_bytes-to_be_bytes_4}
use Rattle.core_terms.specs.Spelling.{AreBytes}
use Rattle.core_terms.proofs.ByteLists.{are_bytes}
use Rattle.session_meaning.specs.Messages as meant
use Rattle.session_meaning.specs.MessageFields as message_fields
use Rattle.session_meaning.specs.Messages.{message_limit}
use Rattle.session_meaning.specs.ReplyLaws.{HasArgumentBytes}
use Rattle.session_meaning.proofs.OnlyMessages.{only_replies_are_read, only_requests_are_read}
use Rattle.wire_form.specs.Incoming.{length_field}
use Rattle.wire_form.proofs.Coming.{whole_read}

-- so are those of a length field
framed : (body : List ℕ) → AreBytes body → AreBytes (meant.message body)
framed body bytes = (omega arith, (omega arith, (omega arith, (omega arith, bytes))))

-- a message with nothing behind it is read by its body
read_alone : {A : Type 0} (of : ℕ → List ℕ → meant.Body A) (body : List ℕ) → length body ≤ message_limit
    → meant.read_message of (meant.message body) ≡ meant.read_body of body []
read_alone of body fits =
    let F : ℕ → Type 0 = λ n. n ≤ message_limit → n ≤ length body → meant.read_message of (meant.message body) ≡ meant.read_body of (take n body) (drop n body) in
    let same : length_field (meant.message body) ≡ length body = from_be_bytes-to_be_bytes_4 (length body) (omega (arith, fits)) in
    subst F same (whole_read of (meant.message body) (omega arith)) fits (omega arith)
    ∙ ap₂ (λ front behind. meant.read_body of front behind) (take_all (length body) body (omega arith)) (drop_all (length body) body (omega arith))

pub is_request : (body : List ℕ) (request : meant.Request) → length body ≤ message_limit → ((i : ℕ) → get_or body i 0 < 256)
    → meant.read_body meant.request_of body [] ≡ meant.Got request [] → message_fields.IsRequest request
is_request body request fits below says =
    (only_requests_are_read (meant.message body) request [] (framed body (are_bytes body below)) (read_alone meant.request_of body fits ∙ says)).0

-- what stands behind bytes of a string of bytes is one too
behind : (first bytes : List ℕ) → AreBytes (first ++ bytes) → AreBytes bytes
behind [] bytes all = all
behind (b ∷ first) bytes all = behind first bytes all.1

argument_in : (request : meant.Request) → AreBytes (meant.request_bytes request) → HasArgumentBytes request
argument_in (meant.Hello session program n state) all = tt
argument_in (meant.Call session role fuel argument) all =
    let body = behind (to_be_bytes w32 (length (meant.request_body (meant.Call session role fuel argument)))) (meant.request_body (meant.Call session role fuel argument)) all in
    behind (to_be_bytes w64 fuel) argument
    (behind (to_be_bytes w16 role) (to_be_bytes w64 fuel ++ argument) (behind (to_be_bytes w16 session) (to_be_bytes w16 role ++ (to_be_bytes w64 fuel ++ argument)) body.1))
argument_in (meant.Go rounds) all = tt
argument_in (meant.Bye session) all = tt

-- the argument of a call is one, since the body is
pub has_argument : (body : List ℕ) (request : meant.Request) → length body ≤ message_limit → ((i : ℕ) → get_or body i 0 < 256)
    → meant.read_body meant.request_of body [] ≡ meant.Got request [] → HasArgumentBytes request
has_argument body request fits below says =
    let bytes = framed body (are_bytes body below) in
    let is = (only_requests_are_read (meant.message body) request [] bytes (read_alone meant.request_of body fits ∙ says)).1 in
    argument_in request (subst AreBytes (is ∙ append-nil (meant.request_bytes request)) bytes)

pub is_reply : (body : List ℕ) (reply : meant.Reply) → length body ≤ message_limit → ((i : ℕ) → get_or body i 0 < 256)
    → meant.read_body meant.reply_of body [] ≡ meant.Got reply [] → message_fields.IsReply reply
is_reply body reply fits below says =
    (only_replies_are_read (meant.message body) reply [] (framed body (are_bytes body below)) (read_alone meant.reply_of body fits ∙ says)).0
