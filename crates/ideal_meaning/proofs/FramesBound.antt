-- A string has no more frames than bytes, so a greater bound on their number offers the same pieces.
use Rattle.std.proofs.Common.{◌≡◌, ℕ, zero, suc, ◌+◌, ◌≤◌, List, [], ◌∷◌, length, take, drop, Option, Some, None, slice_get, nat_lt, if◌then◌else◌, refl, ap, arith, length-drop, le_refl}
use Rattle.std.specs.Int.{w16, w32, from_be_bytes}
use Rattle.ideal_meaning.specs.Frames.{Offer, NoMore, IsCut, LongBy, Offers, new_frame, used_piece, use_frame, frames}
use Rattle.ideal_meaning.specs.Laws.{FrameBoundIsEnough}

-- a new piece, where the ways to go on are alike on no more bytes than these
new_alike : (limit : ℕ) (recent : List (List ℕ)) (rest : List ℕ) (f g : List (List ℕ) → List ℕ → Offer)
    → ((later : List (List ℕ)) (left : List ℕ) → length left ≤ length rest → f later left ≡ g later left) → new_frame limit recent rest f ≡ new_frame limit recent rest g
new_alike limit recent rest f g h =
    let len = from_be_bytes w32 (take 4 rest) in
    let bytes = take len (drop 4 rest) in
    let left = drop len (drop 4 rest) in
    let fewer : length left ≤ length rest = omega (arith, length-drop len (drop 4 rest), length-drop 4 rest) in
    ap (λ more. if nat_lt (length rest) 4 then NoMore IsCut
    else (if nat_lt limit len then NoMore (LongBy len)
    else (if nat_lt (length rest) (4 + len) then NoMore IsCut
    else Offers bytes (length left) more))) (h (bytes ∷ recent) left fewer)

-- a kept piece likewise
used_alike : (o : Option (List ℕ)) (k held : ℕ) (left : List ℕ) (f g : List ℕ → Offer) → f left ≡ g left → used_piece o k held left f ≡ used_piece o k held left g
used_alike None k held left f g h = refl
used_alike (Some bytes) k held left f g h = ap (λ more. Offers bytes (length left) more) h

use_alike : (n : ℕ) (recent : List (List ℕ)) (rest : List ℕ) (f g : List (List ℕ) → List ℕ → Offer)
    → ((later : List (List ℕ)) (left : List ℕ) → length left ≤ length rest → f later left ≡ g later left) → use_frame n recent rest f ≡ use_frame n recent rest g
use_alike n recent rest f g h =
    let k = from_be_bytes w16 (take 2 rest) in
    let fewer : length (drop 2 rest) ≤ length rest = omega (arith, length-drop 2 rest) in
    ap (λ used. if nat_lt (length rest) 2 then NoMore IsCut else used)
    (used_alike (slice_get (take n recent) k) k (length (take n recent)) (drop 2 rest) (f recent) (g recent) (h recent (drop 2 rest) fewer))

frames_alike : (limit n a b : ℕ) (recent : List (List ℕ)) (bytes : List ℕ) → length bytes ≤ a → length bytes ≤ b → frames limit a n recent bytes ≡ frames limit b n recent bytes
frames_alike limit n zero zero recent bytes h j = refl
frames_alike limit n zero (suc b) recent [] h j = refl
frames_alike limit n zero (suc b) recent (x ∷ rest) h j = absurd (omega arith)
frames_alike limit n (suc a) zero recent [] h j = refl
frames_alike limit n (suc a) zero recent (x ∷ rest) h j = absurd (omega arith)
frames_alike limit n (suc a) (suc b) recent [] h j = refl
frames_alike limit n (suc a) (suc b) recent (zero ∷ rest) h j =
    new_alike limit recent rest (frames limit a n) (frames limit b n) (λ later left l. frames_alike limit n a b later left (omega (arith, l)) (omega (arith, l)))
frames_alike limit n (suc a) (suc b) recent (suc zero ∷ rest) h j =
    use_alike n recent rest (frames limit a n) (frames limit b n) (λ later left l. frames_alike limit n a b later left (omega (arith, l)) (omega (arith, l)))
frames_alike limit n (suc a) (suc b) recent (suc (suc x) ∷ rest) h j = refl

pub frame_bound_is_enough : FrameBoundIsEnough
frame_bound_is_enough limit most n recent bytes h = frames_alike limit n most (length bytes) recent bytes h (le_refl (length bytes))
