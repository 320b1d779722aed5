-- The parts of a frame as they come from a source.
use Rattle.std.specs.Prelude.{◌≡◌, ℕ, ◌<◌, ◌≤◌, List, [], length, take, drop, slice_index, Option, Some, Result, Ok, Err}
use Rattle.std.specs.Int.{w16, w32, from_be_bytes}
use Rattle.lam_outside.specs.Causes.{Rose}
use Rattle.lam_outside.specs.Told.{TookAtMost}
use Rattle.proof_stream.specs.declared.frame.FrameEnd.{FrameEnd}
use Rattle.proof_stream.specs.declared.frame.FrameEnd.TheVariants.{End, BadKind, Cut, PieceLong, ReadFault, NoMemory}

-- The first byte was read; or there is none; or the source failed before it had come.
abbrev pub KindCame : List ℕ → Option (List ℕ) → Result ℕ FrameEnd → Type 0
KindCame bytes left' (Ok kind) = (1 ≤ length bytes) × (kind ≡ slice_index bytes 0) × (left' ≡ Some (drop 1 bytes))
KindCame bytes left' (Err End) = (bytes ≡ []) × (left' ≡ Some [])
KindCame bytes left' (Err ReadFault) = TookAtMost 1 bytes left'
KindCame bytes left' (Err (BadKind kind)) = ⊥
KindCame bytes left' (Err Cut) = ⊥
KindCame bytes left' (Err (PieceLong len)) = ⊥
KindCame bytes left' (Err NoMemory) = ⊥

-- The 2 bytes of a number were read; or there are fewer; or the source failed before they had come.
abbrev pub NumberCame : List ℕ → Option (List ℕ) → Result ℕ FrameEnd → Type 0
NumberCame bytes left' (Ok number) = (2 ≤ length bytes) × (number ≡ from_be_bytes w16 (take 2 bytes)) × (left' ≡ Some (drop 2 bytes))
NumberCame bytes left' (Err Cut) = (length bytes < 2) × (left' ≡ Some [])
NumberCame bytes left' (Err ReadFault) = TookAtMost 2 bytes left'
NumberCame bytes left' (Err End) = ⊥
NumberCame bytes left' (Err (BadKind kind)) = ⊥
NumberCame bytes left' (Err (PieceLong len)) = ⊥
NumberCame bytes left' (Err NoMemory) = ⊥

-- the length of a piece, behind the first byte of its frame
abbrev pub length_field : List ℕ → ℕ
length_field bytes = from_be_bytes w32 (take 4 bytes)

-- The 4 bytes of a length were read, and it is within the limit; or there are fewer; or it isn't; or the source failed before they
-- had come.
abbrev pub LengthCame : (limit : ℕ) → List ℕ → Option (List ℕ) → Result ℕ FrameEnd → Type 0
LengthCame limit bytes left' (Ok len) = (4 ≤ length bytes) × (len ≡ length_field bytes) × (len ≤ limit) × (left' ≡ Some (drop 4 bytes))
LengthCame limit bytes left' (Err Cut) = (length bytes < 4) × (left' ≡ Some [])
LengthCame limit bytes left' (Err (PieceLong len)) = (4 ≤ length bytes) × (len ≡ length_field bytes) × (limit < len) × (left' ≡ Some (drop 4 bytes))
LengthCame limit bytes left' (Err ReadFault) = TookAtMost 4 bytes left'
LengthCame limit bytes left' (Err End) = ⊥
LengthCame limit bytes left' (Err (BadKind kind)) = ⊥
LengthCame limit bytes left' (Err NoMemory) = ⊥

-- a length within the limit, or one that is too great
abbrev pub IsWithin : (limit : ℕ) → ℕ → Result ℕ FrameEnd → Type 0
IsWithin limit len (Ok n) = (n ≡ len) × (len ≤ limit)
IsWithin limit len (Err (PieceLong n)) = (n ≡ len) × (limit < len)
IsWithin limit len (Err End) = ⊥
IsWithin limit len (Err (BadKind kind)) = ⊥
IsWithin limit len (Err Cut) = ⊥
IsWithin limit len (Err ReadFault) = ⊥
IsWithin limit len (Err NoMemory) = ⊥

-- The bytes of a piece were read; or there are fewer; or the source failed, or memory was wanting, before they had come.
abbrev pub PieceCame : (len : ℕ) (bytes piece : List ℕ) → Option (List ℕ) → Result (Unit {0}) FrameEnd → Type 0
PieceCame len bytes piece left' (Ok done) = (len ≤ length bytes) × (piece ≡ take len bytes) × (left' ≡ Some (drop len bytes))
PieceCame len bytes piece left' (Err Cut) = (length bytes < len) × (left' ≡ Some [])
PieceCame len bytes piece left' (Err ReadFault) = TookAtMost len bytes left'
PieceCame len bytes piece left' (Err NoMemory) = TookAtMost len bytes left'
PieceCame len bytes piece left' (Err End) = ⊥
PieceCame len bytes piece left' (Err (BadKind kind)) = ⊥
PieceCame len bytes piece left' (Err (PieceLong most)) = ⊥

-- the count of the source's faults rose where the source failed, and nowhere else
abbrev pub FrameCause : {T : Type 0} → ℕ → ℕ → Result T FrameEnd → Type 0
FrameCause before now (Ok read) = now ≡ before
FrameCause before now (Err ReadFault) = Rose before now
FrameCause before now (Err End) = now ≡ before
FrameCause before now (Err (BadKind kind)) = now ≡ before
FrameCause before now (Err Cut) = now ≡ before
FrameCause before now (Err (PieceLong len)) = now ≡ before
FrameCause before now (Err NoMemory) = now ≡ before
