-- Messages of a mirror, computed.
use Rattle.std.specs.Prelude.{◌≡◌, refl, ℕ, List, [], ◌∷◌, ◌++◌}
use Rattle.ideal_meaning.specs.Wire as wire
use Rattle.ideal_meaning.specs.Fetched.{IsPiece, IsLack, IsBroken}
use Rattle.session_meaning.specs.Messages.{Got as Reads, Stops, BadMessage}
use Rattle.session_meaning.specs.FetchMessages.{fetch_bytes, answer_bytes, read_fetch, read_answer, next_answer, answers_sent}

abbrev digest : List ℕ
digest = 1 ∷ 2 ∷ 3 ∷ 4 ∷ 5 ∷ 6 ∷ 7 ∷ 8 ∷ 9 ∷ 10 ∷ 11 ∷ 12 ∷ 13 ∷ 14 ∷ 15 ∷ 16 ∷ 17 ∷ 18 ∷ 19 ∷ 20 ∷ 21 ∷ 22 ∷ 23 ∷ 24 ∷ 25 ∷ 26 ∷ 27 ∷ 28 ∷ 29 ∷ 30 ∷ 31 ∷ 32 ∷ []

fetch_is_read : read_fetch (fetch_bytes digest ++ 7 ∷ []) ≡ Reads digest (7 ∷ [])
fetch_is_read = refl

piece_is_written : answer_bytes (IsPiece (9 ∷ 8 ∷ [])) ≡ 0 ∷ 0 ∷ 0 ∷ 5 ∷ 0x86 ∷ 0 ∷ 0 ∷ 9 ∷ 8 ∷ []
piece_is_written = refl

lack_is_written : answer_bytes IsLack ≡ 0 ∷ 0 ∷ 0 ∷ 3 ∷ 0x87 ∷ 0 ∷ 0 ∷ []
lack_is_written = refl

piece_is_read : read_answer (0 ∷ 0 ∷ 0 ∷ 5 ∷ 0x86 ∷ 0 ∷ 0 ∷ 9 ∷ 8 ∷ []) ≡ Reads (IsPiece (9 ∷ 8 ∷ [])) []
piece_is_read = refl

lack_is_read : read_answer (0 ∷ 0 ∷ 0 ∷ 3 ∷ 0x87 ∷ 0 ∷ 0 ∷ []) ≡ Reads IsLack []
lack_is_read = refl

-- another session, a byte too many, another kind
other_session : next_answer (read_answer (0 ∷ 0 ∷ 0 ∷ 3 ∷ 0x87 ∷ 0 ∷ 1 ∷ [])) ≡ IsBroken (wire.BadMessage 0x87 1)
other_session = refl

byte_too_many : next_answer (read_answer (0 ∷ 0 ∷ 0 ∷ 4 ∷ 0x87 ∷ 0 ∷ 0 ∷ 5 ∷ [])) ≡ IsBroken (wire.BadMessage 0x87 3)
byte_too_many = refl

other_kind : read_fetch (0 ∷ 0 ∷ 0 ∷ 3 ∷ 0x87 ∷ 0 ∷ 0 ∷ []) ≡ Stops (BadMessage 0x87 0)
other_kind = refl

-- an answer to each of the first so many, and none to what isn't asked
one_of_two : answers_sent 1 (λ d. IsLack) (fetch_bytes digest ++ fetch_bytes digest) ≡ answer_bytes IsLack
one_of_two = refl

up_to_another : answers_sent 5 (λ d. IsPiece d) (fetch_bytes digest ++ (answer_bytes IsLack ++ fetch_bytes digest)) ≡ answer_bytes (IsPiece digest)
up_to_another = refl
