-- What a read of a message answers, and which bytes it takes.
use Rattle.std.specs.Prelude.{◌≡◌, ◌⊎◌, ℕ, ◌+◌, List, [], take, drop, Option, Some, Result, Ok, Err, ⊤}
use Rattle.session_meaning.specs.Messages as meant
use Rattle.lam_outside.specs.Told.{TookAtMost}
use Rattle.wire_form.specs.Incoming.{length_field}
use Rattle.wire_form.specs.declared.message.ReadStop.{ReadStop}
use Rattle.wire_form.specs.declared.message.ReadStop.TheVariants.{BadMessage, TooLong, End, Cut, LinkFault, NoMemory}

-- nothing is read, since there are no bytes, or they end inside of a message
abbrev pub StopsShort : {A : Type 0} → meant.Read A → Type 0
StopsShort found = (found ≡ meant.Stops meant.AtEnd) ⊎ (found ≡ meant.Stops meant.IsCut)

-- The first message of the bytes was read, and no byte behind it was taken; or the bytes are none or cut, and all were taken;
-- or the length is too great, and its field was taken; or they are no message, and that many bytes were taken; or the link
-- failed where what had been taken was none, or the cut front of a message; or memory was wanting, and no byte behind the
-- message was taken.
abbrev pub ReadsMessage : {A M : Type 0} → (M → A) → (List ℕ → meant.Read A) → List ℕ → Option (List ℕ) → Result M ReadStop → Type 0
ReadsMessage meaning read bytes left' (Ok message) = (rest : List ℕ) × (read bytes ≡ meant.Got (meaning message) rest) × (left' ≡ Some rest)
ReadsMessage meaning read bytes left' (Err End) = (read bytes ≡ meant.Stops meant.AtEnd) × (left' ≡ Some [])
ReadsMessage meaning read bytes left' (Err Cut) = (read bytes ≡ meant.Stops meant.IsCut) × (left' ≡ Some [])
ReadsMessage meaning read bytes left' (Err (TooLong len)) = (read bytes ≡ meant.Stops (meant.TooLong len)) × (left' ≡ Some (drop 4 bytes))
ReadsMessage meaning read bytes left' (Err (BadMessage kind offset)) =
    (read bytes ≡ meant.Stops (meant.BadMessage kind offset)) × (left' ≡ Some (drop (4 + length_field bytes) bytes))
ReadsMessage meaning read bytes left' (Err LinkFault) = (taken : ℕ) × (left' ≡ Some (drop taken bytes)) × StopsShort (read (take taken bytes))
ReadsMessage meaning read bytes left' (Err NoMemory) = TookAtMost (4 + length_field bytes) bytes left'

-- the body of a message says this message, or has its first fault there, by its kind; bytes that stand behind it are left
abbrev pub SaysWhole : {A M : Type 0} → (M → A) → (ℕ → List ℕ → meant.Body A) → List ℕ → Result M ReadStop → Type 0
SaysWhole meaning of body (Ok message) = (rest : List ℕ) → meant.read_body of body rest ≡ meant.Got (meaning message) rest
SaysWhole meaning of body (Err (BadMessage kind offset)) = (rest : List ℕ) → meant.read_body of body rest ≡ meant.Stops (meant.BadMessage kind offset)
SaysWhole meaning of body (Err NoMemory) = ⊤
SaysWhole meaning of body (Err End) = ⊥
SaysWhole meaning of body (Err Cut) = ⊥
SaysWhole meaning of body (Err LinkFault) = ⊥
SaysWhole meaning of body (Err (TooLong len)) = ⊥
