-- The ring of kept pieces, in plain words: a USE frame names one of the last new pieces, and whatever was used in between doesn't count.
use Rattle.std.specs.Prelude.{◌≡◌, ℕ, ◌<◌, ◌≤◌, ◌^◌, min, List, [], ◌∷◌, ◌++◌, length, reverse}
use Rattle.ideal_meaning.specs.Frames.{Offer, NoMore, Offers, UseIs, offered, Frame, New, Use, honest_frames, frame_bytes}

-- p is the k-th last of the pieces, 0 being the last: so many stand behind it
abbrev pub IsKthLast : (k : ℕ) → List (List ℕ) → List ℕ → Type 0
IsKthLast k pieces p = (earlier : List (List ℕ)) × (later : List (List ℕ)) × (pieces ≡ earlier ++ p ∷ later) × (length later ≡ k)

-- the frame can be written, where pieces have at most `limit` bytes: the number of a USE frame has 2 bytes
abbrev pub CanBeWritten : (limit : ℕ) → List Frame → Type 0
CanBeWritten limit [] = Unit {0}
CanBeWritten limit (New p ∷ frames) = (length p ≤ limit) × CanBeWritten limit frames
CanBeWritten limit (Use k ∷ frames) = (k < 2 ^ 16) × CanBeWritten limit frames

-- The offer is that of these frames and what stands behind them, with a ring of n, where `so_far` are the new pieces so far, in their
-- order. A NEW frame offers its piece, which is one more new piece. USE k offers the k-th last of the new pieces so far where k is
-- below n and below their number; else the offer ends there, and tells the smaller of the two.
abbrev pub OffersFrames : (n : ℕ) → (so_far : List (List ℕ)) → List Frame → Offer → Type 0
OffersFrames n so_far [] offer = Unit {0}
OffersFrames n so_far (New p ∷ frames) offer =
    (left : ℕ) × (more : Offer) × (offer ≡ Offers p left more) × OffersFrames n (so_far ++ p ∷ []) frames more
OffersFrames n so_far (Use k ∷ frames) offer =
    (k < min n (length so_far) → (p : List ℕ) × (left : ℕ) × (more : Offer) × IsKthLast k so_far p × (offer ≡ Offers p left more) × OffersFrames n so_far frames more)
    × (min n (length so_far) ≤ k → offer ≡ NoMore (UseIs k (min n (length so_far))))

-- The ring of a verifier, whoever made the frames, whatever stands behind them, and whatever new pieces came before them.
abbrev pub RingOfVerifier : Type 0
RingOfVerifier = (limit : ℕ) → limit < 2 ^ 32 → (n : ℕ) (before : List (List ℕ)) (frames : List Frame) (behind : List ℕ) → CanBeWritten limit frames
    → OffersFrames n before frames (offered limit (frame_bytes frames ++ behind) n (reverse before))

-- The frame of a piece: USE with the least k, below n, for which the piece is the k-th last of the new ones so far; NEW where there is none.
abbrev pub IsFrameOf : (n : ℕ) → (so_far : List (List ℕ)) → List ℕ → Frame → Type 0
IsFrameOf n so_far p (Use k) = (k < n) × IsKthLast k so_far p × ((j : ℕ) → j < k → IsKthLast j so_far p → ⊥)
IsFrameOf n so_far p (New bytes) = (bytes ≡ p) × ((j : ℕ) → j < n → IsKthLast j so_far p → ⊥)

-- the new piece of a frame, where it has one
abbrev pub new_in : Frame → List (List ℕ)
new_in (New p) = p ∷ []
new_in (Use k) = []

-- each frame is that of its piece
abbrev pub AreFramesOf : (n : ℕ) → (so_far : List (List ℕ)) → List (List ℕ) → List Frame → Type 0
AreFramesOf n so_far [] [] = Unit {0}
AreFramesOf n so_far (p ∷ pieces) (frame ∷ frames) = IsFrameOf n so_far p frame × AreFramesOf n (so_far ++ new_in frame) pieces frames
AreFramesOf n so_far pieces frames = ⊥

-- The ring of an honest prover, whatever new pieces came before.
abbrev pub RingOfProver : Type 0
RingOfProver = (n : ℕ) (before pieces : List (List ℕ)) → AreFramesOf n before pieces (honest_frames n (reverse before) pieces)
