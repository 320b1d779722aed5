-- What a reader takes of the bytes of a proof: the header, the next frame by what is offered from it on, and what is left over.
use Rattle.std.specs.Prelude.{◌≡◌, ℕ, ◌+◌, ◌≤◌, min, List, [], ◌∷◌, length, take, drop, Option, Some, None, slice_get, Result, Ok, Err}
use Rattle.lam_outside.specs.Causes.{Rose}
use Rattle.lam_outside.specs.declared.traits.Failed.{Failed}
use Rattle.core_terms.specs.Formats.{Format}
use Rattle.ideal_meaning.specs.Frames.{NoByte, IsCut, KindIs, LongBy, NoMore, Offers, header, offered, used_piece}
use Rattle.ideal_meaning.specs.Frames as meant
use Rattle.ideal_meaning.specs.Following.{after_bytes, after_used}
use Rattle.proof_stream.specs.declared.frame.Frame.{Frame}
use Rattle.proof_stream.specs.declared.frame.Frame.TheVariants.{New, Back}
use Rattle.proof_stream.specs.declared.frame.FrameEnd.{FrameEnd}
use Rattle.proof_stream.specs.declared.frame.FrameEnd.TheVariants.{End, BadKind, Cut, PieceLong, ReadFault, NoMemory}
use Rattle.proof_stream.specs.declared.frame.HeadEnd.{HeadEnd}
use Rattle.proof_stream.specs.declared.frame.HeadEnd.TheVariants as head
use Rattle.lam_outside.specs.Told.{TookAtMost}

-- The bytes offer this piece, which is new, and then what `rest` offers, whatever came before and however many pieces are kept.
abbrev pub OffersNew : (limit : ℕ) (bytes piece rest : List ℕ) → Type 0
OffersNew limit bytes piece rest = (n : ℕ) (recent : List (List ℕ)) →
    (offered limit bytes n recent ≡ Offers piece (length rest) (offered limit rest n (piece ∷ recent)))
    × (after_bytes limit bytes n recent ≡ after_bytes limit rest n (piece ∷ recent))

-- The bytes offer the k-th last piece of those that are kept, where it is, and then what `rest` offers.
abbrev pub OffersBack : (limit : ℕ) (bytes : List ℕ) (k : ℕ) (rest : List ℕ) → Type 0
OffersBack limit bytes k rest = (n : ℕ) (recent : List (List ℕ)) →
    (offered limit bytes n recent ≡ used_piece (slice_get (take n recent) k) k (length (take n recent)) rest (λ rest. offered limit rest n recent))
    × (after_bytes limit bytes n recent ≡ after_used (slice_get (take n recent) k) recent rest (λ recent rest. after_bytes limit rest n recent))

-- the bytes offer nothing, and this is why
abbrev pub OffersNothing : (limit : ℕ) (bytes : List ℕ) → meant.End → Type 0
OffersNothing limit bytes e = (n : ℕ) (recent : List (List ℕ)) → (offered limit bytes n recent ≡ NoMore e) × (after_bytes limit bytes n recent ≡ recent)

-- Why there is no next frame, and what is left: behind all bytes, behind the first byte of an unknown kind, or behind a length
-- that is too great. Where the source failed or memory was wanting, at most the bytes of one frame were taken.
abbrev pub EndsBy : (limit : ℕ) (bytes : List ℕ) → Option (List ℕ) → FrameEnd → Type 0
EndsBy limit bytes left' End = OffersNothing limit bytes NoByte × (left' ≡ Some [])
EndsBy limit bytes left' Cut = OffersNothing limit bytes IsCut × (left' ≡ Some [])
EndsBy limit bytes left' (BadKind kind) = OffersNothing limit bytes (KindIs kind) × (left' ≡ Some (drop 1 bytes))
EndsBy limit bytes left' (PieceLong len) = OffersNothing limit bytes (LongBy len) × (left' ≡ Some (drop 5 bytes))
EndsBy limit bytes left' ReadFault = TookAtMost (5 + limit) bytes left'
EndsBy limit bytes left' NoMemory = TookAtMost (5 + limit) bytes left'

-- The next frame of these bytes was taken, with its piece in hand where it is a new one; or there is none.
abbrev pub TakesFrame : (limit : ℕ) (bytes piece : List ℕ) → Option (List ℕ) → Result Frame FrameEnd → Type 0
TakesFrame limit bytes piece left' (Ok New) = (rest : List ℕ) × OffersNew limit bytes piece rest × (left' ≡ Some rest)
TakesFrame limit bytes piece left' (Ok (Back k)) = (rest : List ℕ) × OffersBack limit bytes k rest × (left' ≡ Some rest)
TakesFrame limit bytes piece left' (Err e) = EndsBy limit bytes left' e

-- A new piece is within the limit, also where the source tells nothing; a frame that names a kept piece leaves the one in hand.
abbrev pub HasInHand : (limit : ℕ) (before now : List ℕ) → Result Frame FrameEnd → Type 0
HasInHand limit before now (Ok New) = length now ≤ limit
HasInHand limit before now (Ok (Back k)) = now ≡ before
HasInHand limit before now (Err e) = Unit {0}

-- A header was taken, in a format with this magic that keeps at most so many pieces; or the bytes have none.
abbrev pub TakesHeader : (magic : List ℕ) (most : ℕ) (bytes : List ℕ) → Option (List ℕ) → Result ℕ HeadEnd → Type 0
TakesHeader magic most bytes left' (Ok n) =
    ((format : Format) → format.magic ≡ magic → format.most_kept ≡ most → header format bytes ≡ Some n) × (left' ≡ Some (drop 6 bytes))
TakesHeader magic most bytes left' (Err head.Header) =
    ((format : Format) → format.magic ≡ magic → format.most_kept ≡ most → header format bytes ≡ None) × (left' ≡ Some (drop 6 bytes))
TakesHeader magic most bytes left' (Err head.ReadFault) = TookAtMost 6 bytes left'

abbrev pub HeadCause : {T : Type 0} → ℕ → ℕ → Result T HeadEnd → Type 0
HeadCause before now (Ok read) = now ≡ before
HeadCause before now (Err head.Header) = now ≡ before
HeadCause before now (Err head.ReadFault) = Rose before now

-- The bytes left were counted, up to 65,536.
abbrev pub CountsLeft : (bytes : List ℕ) → Option (List ℕ) → Result ℕ Failed → Type 0
CountsLeft bytes left' (Ok n) = (n ≡ min (length bytes) 65536) × (left' ≡ Some (drop n bytes))
CountsLeft bytes left' (Err failed) = TookAtMost 65536 bytes left'
