-- The bytes of a message as they come on a link: its length field, and its body.
use Rattle.std.specs.Prelude.{◌≡◌, ◌⊎◌, ℕ, ◌<◌, ◌≤◌, ◌+◌, List, [], length, take, drop, Option, Some, Result, Ok, Err, Vec}
use Rattle.std.specs.declared.alloc.Global.{Global}
use Rattle.lam_outside.specs.Causes.{Rose}
use Rattle.lam_outside.specs.Told.{TookAtMost}
use Rattle.session_meaning.specs.Messages.{u32_in, message_limit}
use Rattle.wire_form.specs.declared.message.ReadStop.{ReadStop}
use Rattle.wire_form.specs.declared.message.ReadStop.TheVariants.{BadMessage, TooLong, End, Cut, LinkFault, NoMemory}

-- fewer than n of these bytes were taken, from their front
abbrev pub TookLess : ℕ → List ℕ → Option (List ℕ) → Type 0
TookLess n bytes left' = (taken : ℕ) × (taken < n) × (left' ≡ Some (drop taken bytes))

-- there are bytes, and they end inside the message with which they begin
abbrev pub IsCutOff : List ℕ → Type 0
IsCutOff bytes = (0 < length bytes) × ((length bytes < 4) ⊎ ((4 ≤ length bytes) × (u32_in (take 4 bytes) ≤ message_limit) × (length (drop 4 bytes) < u32_in (take 4 bytes))))

-- Some of these bytes were taken, from their front, which are none, or end inside of the message with which they begin.
pub record TookUnfinished (bytes : List ℕ) (left' : Option (List ℕ)) : Type 0 where
  pub taken : ℕ
  pub left : left' ≡ Some (drop taken bytes)
  pub unfinished : (take taken bytes ≡ []) ⊎ IsCutOff (take taken bytes)

-- the length field of the message with which the bytes begin
abbrev pub length_field : List ℕ → ℕ
length_field bytes = u32_in (take 4 bytes)

-- The length field was read, and is within the limit; or there is no byte, or fewer than 4; or it says too much; or the link
-- failed, or memory was wanting, before the 4 bytes had come.
abbrev pub LengthCame : List ℕ → Option (List ℕ) → Result ℕ ReadStop → Type 0
LengthCame bytes left' (Ok len) = (4 ≤ length bytes) × (len ≡ length_field bytes) × (len ≤ message_limit) × (left' ≡ Some (drop 4 bytes))
LengthCame bytes left' (Err End) = (bytes ≡ []) × (left' ≡ Some [])
LengthCame bytes left' (Err Cut) = (0 < length bytes) × (length bytes < 4) × (left' ≡ Some [])
LengthCame bytes left' (Err (TooLong len)) = (4 ≤ length bytes) × (len ≡ length_field bytes) × (message_limit < len) × (left' ≡ Some (drop 4 bytes))
LengthCame bytes left' (Err LinkFault) = TookLess 4 bytes left'
LengthCame bytes left' (Err NoMemory) = ⊥
LengthCame bytes left' (Err (BadMessage kind offset)) = ⊥

-- a length within the limit, or one that is too great
abbrev pub IsWithinLimit : ℕ → Result ℕ ReadStop → Type 0
IsWithinLimit len (Ok n) = (n ≡ len) × (len ≤ message_limit)
IsWithinLimit len (Err (TooLong n)) = (n ≡ len) × (message_limit < len)
IsWithinLimit len (Err End) = ⊥
IsWithinLimit len (Err Cut) = ⊥
IsWithinLimit len (Err LinkFault) = ⊥
IsWithinLimit len (Err NoMemory) = ⊥
IsWithinLimit len (Err (BadMessage kind offset)) = ⊥

-- The body of so many bytes was read; or the input ends before them; or the link failed, or memory was wanting, before they had come.
abbrev pub BodyCame : ℕ → List ℕ → Option (List ℕ) → Result (Vec ℕ Global) ReadStop → Type 0
BodyCame len bytes left' (Ok body) = (len ≤ length bytes) × (body.items ≡ take len bytes) × (left' ≡ Some (drop len bytes))
BodyCame len bytes left' (Err Cut) = (length bytes < len) × (left' ≡ Some [])
BodyCame len bytes left' (Err LinkFault) = TookLess len bytes left'
BodyCame len bytes left' (Err NoMemory) = TookAtMost len bytes left'
BodyCame len bytes left' (Err End) = ⊥
BodyCame len bytes left' (Err (TooLong most)) = ⊥
BodyCame len bytes left' (Err (BadMessage kind offset)) = ⊥

-- The body of the message with which the bytes begin was read; or there is no byte, or the bytes are cut; or the length is too
-- great; or the link failed, or memory was wanting, before the whole had come.
abbrev pub WholeCame : List ℕ → Option (List ℕ) → Result (Vec ℕ Global) ReadStop → Type 0
WholeCame bytes left' (Ok body) =
    let len = length_field bytes in
    (4 ≤ length bytes) × (len ≤ message_limit) × (len ≤ length (drop 4 bytes)) × (body.items ≡ take len (drop 4 bytes)) × (left' ≡ Some (drop len (drop 4 bytes)))
WholeCame bytes left' (Err End) = (bytes ≡ []) × (left' ≡ Some [])
WholeCame bytes left' (Err Cut) = IsCutOff bytes × (left' ≡ Some [])
WholeCame bytes left' (Err (TooLong len)) = (4 ≤ length bytes) × (len ≡ length_field bytes) × (message_limit < len) × (left' ≡ Some (drop 4 bytes))
WholeCame bytes left' (Err LinkFault) = TookUnfinished bytes left'
WholeCame bytes left' (Err NoMemory) = TookAtMost (4 + length_field bytes) bytes left'
WholeCame bytes left' (Err (BadMessage kind offset)) = ⊥

-- the count of the link's faults rose at a link fault, and nowhere else
abbrev pub ReadCause : {T : Type 0} → ℕ → ℕ → Result T ReadStop → Type 0
ReadCause before now (Ok read) = now ≡ before
ReadCause before now (Err LinkFault) = Rose before now
ReadCause before now (Err End) = now ≡ before
ReadCause before now (Err Cut) = now ≡ before
ReadCause before now (Err NoMemory) = now ≡ before
ReadCause before now (Err (TooLong len)) = now ≡ before
ReadCause before now (Err (BadMessage kind offset)) = now ≡ before
