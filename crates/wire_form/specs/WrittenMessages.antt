-- What a write of a message sends.
use Rattle.std.specs.Prelude.{◌≡◌, ℕ, ◌<◌, List, [], ◌∷◌, ◌++◌, length, take, Option, Result, Ok, Err}
use Rattle.std.specs.Int.{w16, w32, w64, to_be_bytes}
use Rattle.std.specs.Io.KnownBytes.{append_known}
use Rattle.lam_outside.specs.Causes.{Rose}
use Rattle.session_meaning.specs.Messages as meant
use Rattle.wire_form.specs.declared.message.WriteStop.{WriteStop}
use Rattle.wire_form.specs.declared.message.WriteStop.TheVariants.{LinkFault, NoMemory}

-- all of these bytes were sent, or a front of them, but not all
abbrev pub Sends : List ℕ → Option (List ℕ) → Option (List ℕ) → Result (Unit {0}) WriteStop → Type 0
Sends bytes sent sent' (Ok done) = sent' ≡ append_known sent bytes
Sends bytes sent sent' (Err stop) = (n : ℕ) × (n < length bytes) × (sent' ≡ append_known sent (take n bytes))

-- the count of the link's faults rose at a link fault, and nowhere else
abbrev pub WriteCause : ℕ → ℕ → Result (Unit {0}) WriteStop → Type 0
WriteCause before now (Ok done) = now ≡ before
WriteCause before now (Err LinkFault) = Rose before now
WriteCause before now (Err NoMemory) = now ≡ before

-- The body of a request is its fields and then its tail: the last field, where that has no fixed length.
abbrev pub request_fields : meant.Request → List ℕ
request_fields (meant.Hello session program n state) = 1 ∷ (to_be_bytes w16 session ++ (program ++ to_be_bytes w16 n))
request_fields (meant.Call session role fuel argument) = 2 ∷ (to_be_bytes w16 session ++ (to_be_bytes w16 role ++ to_be_bytes w64 fuel))
request_fields (meant.Go rounds) = 3 ∷ (to_be_bytes w16 0 ++ to_be_bytes w32 rounds)
request_fields (meant.Bye session) = 4 ∷ to_be_bytes w16 session

abbrev pub request_tail : meant.Request → List ℕ
request_tail (meant.Hello session program n state) = state
request_tail (meant.Call session role fuel argument) = argument
request_tail (meant.Go rounds) = []
request_tail (meant.Bye session) = []

-- the same of a reply
abbrev pub reply_fields : meant.Reply → List ℕ
reply_fields (meant.Welcome session) = 0x81 ∷ to_be_bytes w16 session
reply_fields (meant.Proof session frames) = 0x82 ∷ to_be_bytes w16 session
reply_fields (meant.Stale session state) = 0x83 ∷ to_be_bytes w16 session
reply_fields (meant.Refused session cause) = 0x84 ∷ (to_be_bytes w16 session ++ cause ∷ [])
reply_fields (meant.Closed session cause) = 0x85 ∷ (to_be_bytes w16 session ++ cause ∷ [])

abbrev pub reply_tail : meant.Reply → List ℕ
reply_tail (meant.Welcome session) = []
reply_tail (meant.Proof session frames) = frames
reply_tail (meant.Stale session state) = state
reply_tail (meant.Refused session cause) = []
reply_tail (meant.Closed session cause) = []
