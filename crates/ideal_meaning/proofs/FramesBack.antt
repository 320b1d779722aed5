-- What frames offer: those of an honest prover offer its pieces and no byte behind them, and each piece takes a byte at least.
use Rattle.std.proofs.Common.{le_refl, ◌≡◌, ℕ, zero, suc, ◌+◌, ◌<◌, ◌≤◌, ◌^◌, Bool, true, false, ◌&&◌, List, [], ◌∷◌, ◌++◌, length, take, drop, Option, Some, None, option_map, slice_get, nat_lt, nat_le, bytes_eq, if◌then◌else◌, refl, sym, ap, ap₂, subst, arith, length-append, le-ltb, le-leb, length-take}
use Rattle.std.specs.Prelude.{All}
use Rattle.std.specs.Int.{w16, w32, to_be_bytes, from_be_bytes}
use Rattle.std.proofs.lemmas.Slice.Eq.{bytes_eq-Decides}
use Rattle.std.proofs.lemmas.Nat.{from_be_bytes-to_be_bytes_2, from_be_bytes-to_be_bytes_4}
use Rattle.std.proofs.lemmas.Option.{slice_get_within}
use Rattle.std.proofs.Math.Seq.{take-append_seam, drop-append_seam}
use Rattle.core_terms.specs.Formats.{Format, IsFormat}
use Rattle.ideal_meaning.specs.Laws.{ProofFileIsReadBack}
use Rattle.ideal_meaning.specs.Frames.{offered, NoByte, IsCut, LongBy, Offer, NoMore, Offers, new_frame, used_piece, use_frame, frames, offered_pieces, header, Frame, New, Use, place_of, frame_at, honest_frames, frame_bytes, proof_file}

-- a new piece within the limit is read back
pub new_back : (limit : ℕ) (p rest : List ℕ) (recent : List (List ℕ)) (more : List (List ℕ) → List ℕ → Offer) → limit < 2 ^ 32 → length p ≤ limit
    → new_frame limit recent (to_be_bytes w32 (length p) ++ (p ++ rest)) more ≡ Offers p (length rest) (more (p ∷ recent) rest)
new_back limit p rest recent more fits h =
    let F : ℕ → Type 0 = λ len. body len ≡ Offers p (length rest) (more (p ∷ recent) rest) in
    let small : length p < 2 ^ 32 = omega arith in
    subst F (sym (from_be_bytes-to_be_bytes_4 (length p) small)) at
  where
    body : ℕ → Offer
    body len =
        if nat_lt (length (to_be_bytes w32 (length p) ++ (p ++ rest))) 4 then NoMore IsCut
        else (if nat_lt limit len then NoMore (LongBy len)
        else (if nat_lt (length (to_be_bytes w32 (length p) ++ (p ++ rest))) (4 + len) then NoMore IsCut
        else Offers (take len (p ++ rest)) (length (drop len (p ++ rest))) (more (take len (p ++ rest) ∷ recent) (drop len (p ++ rest)))))

    a : nat_lt (length (to_be_bytes w32 (length p) ++ (p ++ rest))) 4 ≡ false
    a = le-ltb _ _ (omega (arith, length-append p rest))

    b : nat_lt limit (length p) ≡ false
    b = le-ltb _ _ h

    c : nat_lt (length (to_be_bytes w32 (length p) ++ (p ++ rest))) (4 + length p) ≡ false
    c = le-ltb _ _ (omega (arith, length-append p rest))

    at : body (length p) ≡ Offers p (length rest) (more (p ∷ recent) rest)
    at = rw (a, b, c) (ap₂ (λ xs ys. Offers xs (length ys) (more (xs ∷ recent) ys)) (take-append_seam p rest) (drop-append_seam p rest))

-- a kept piece is read back
use_back : (n k : ℕ) (p rest : List ℕ) (recent : List (List ℕ)) (more : List (List ℕ) → List ℕ → Offer) → n < 2 ^ 16 → slice_get (take n recent) k ≡ Some p
    → use_frame n recent (to_be_bytes w16 k ++ rest) more ≡ Offers p (length rest) (more recent rest)
use_back n k p rest recent more small e =
    let F : ℕ → Type 0 = λ k. body k ≡ Offers p (length rest) (more recent rest) in
    let within : k < length (take n recent) = slice_get_within (take n recent) k p e in
    let low : k < 2 ^ 16 = omega (arith, length-take n recent) in
    subst F (sym (from_be_bytes-to_be_bytes_2 k low)) (rw (a, e) refl)
  where
    body : ℕ → Offer
    body k =
        if nat_lt (length (to_be_bytes w16 k ++ rest)) 2 then NoMore IsCut
        else used_piece (slice_get (take n recent) k) k (length (take n recent)) rest (more recent)

    a : nat_lt (length (to_be_bytes w16 k ++ rest)) 2 ≡ false
    a = le-ltb _ _ (omega arith)

-- the place that is found holds the piece
found_then : (p q : List ℕ) (qs : List (List ℕ)) (b : Bool) (o : Option ℕ) (k : ℕ) → (if b then Some 0 else option_map suc o) ≡ Some k
    → (b ≡ true → q ≡ p) → ((m : ℕ) → o ≡ Some m → slice_get qs m ≡ Some p) → slice_get (q ∷ qs) k ≡ Some p
found_then p q qs true o zero e h ih = ap Some (h refl)
found_then p q qs true o (suc k) e h ih = cc
found_then p q qs false None k e h ih = cc
found_then p q qs false (Some m) zero e h ih = cc
found_then p q qs false (Some m) (suc k) e h ih = let same : m ≡ k = cc in subst (λ k. slice_get qs k ≡ Some p) same (ih m refl)

pub place_found : (p : List ℕ) (qs : List (List ℕ)) (k : ℕ) → place_of p qs ≡ Some k → slice_get qs k ≡ Some p
place_found p [] k e = cc
place_found p (q ∷ qs) k e = found_then p q qs (bytes_eq q p) (place_of p qs) k e (bytes_eq-Decides q p).0 (place_found p qs)

-- every piece is within the limit
abbrev pub AllShort : ℕ → List (List ℕ) → Type 0
AllShort limit [] = Unit {0}
AllShort limit (p ∷ ps) = (length p ≤ limit) × AllShort limit ps

-- the bytes left behind the last piece, where so many are left before the first
abbrev pub last_left : ℕ → Offer → ℕ
last_left n (NoMore e) = n
last_left n (Offers bytes left more) = last_left left more

-- exactly these pieces are offered, and no byte is left behind them
pub record OffersAll (ps : List (List ℕ)) (left : ℕ) (o : Offer) : Type 0 where
  pub pieces : offered_pieces o ≡ ps
  pub lefts : last_left left o ≡ 0

offers_more : (p : List ℕ) (ps : List (List ℕ)) (m n : ℕ) (o : Offer) → OffersAll ps n o → OffersAll (p ∷ ps) m (Offers p n o)
offers_more p ps m n o h = record { pieces = ap (λ l. p ∷ l) h.pieces; lefts = h.lefts }

-- The frames of an honest prover for pieces within the limit, with a ring of n, offer these pieces and no byte behind them.
module _ (limit n : ℕ) (fits : limit < 2 ^ 32) (small : n < 2 ^ 16) where
  -- these frames offer these pieces, read with a bound of `most`
  abbrev AreBack : ℕ → List (List ℕ) → List Frame → List (List ℕ) → Type 0
  AreBack most recent fs ps = OffersAll ps (length (frame_bytes fs)) (frames limit most n recent (frame_bytes fs))

  new_then : (most : ℕ) (recent : List (List ℕ)) (p : List ℕ) (ps : List (List ℕ)) (fs : List Frame) → length p ≤ limit → length (frame_bytes (New p ∷ fs)) ≤ most
      → ((most : ℕ) → length (frame_bytes fs) ≤ most → AreBack most (p ∷ recent) fs ps) → AreBack most recent (New p ∷ fs) (p ∷ ps)
  new_then zero recent p ps fs short h ih = absurd (omega arith)
  new_then (suc most) recent p ps fs short h ih =
      subst (λ o. OffersAll (p ∷ ps) (length (frame_bytes (New p ∷ fs))) o) (sym (new_back limit p (frame_bytes fs) recent (frames limit most n) fits short))
      (offers_more p ps _ _ _ (ih most (omega (arith, length-append p (frame_bytes fs)))))

  use_then : (most : ℕ) (recent : List (List ℕ)) (k : ℕ) (p : List ℕ) (ps : List (List ℕ)) (fs : List Frame) → slice_get (take n recent) k ≡ Some p → length (frame_bytes (Use k ∷ fs)) ≤ most
      → ((most : ℕ) → length (frame_bytes fs) ≤ most → AreBack most recent fs ps) → AreBack most recent (Use k ∷ fs) (p ∷ ps)
  use_then zero recent k p ps fs e h ih = absurd (omega arith)
  use_then (suc most) recent k p ps fs e h ih =
      subst (λ o. OffersAll (p ∷ ps) (length (frame_bytes (Use k ∷ fs))) o) (sym (use_back n k p (frame_bytes fs) recent (frames limit most n) small e))
      (offers_more p ps _ _ _ (ih most (omega arith)))

  pub frames_back : (most : ℕ) (recent ps : List (List ℕ)) → AllShort limit ps → length (frame_bytes (honest_frames n recent ps)) ≤ most
      → OffersAll ps (length (frame_bytes (honest_frames n recent ps))) (frames limit most n recent (frame_bytes (honest_frames n recent ps)))
  frames_back zero recent [] short h = record { pieces = refl; lefts = refl }
  frames_back (suc most) recent [] short h = record { pieces = refl; lefts = refl }
  frames_back most recent (p ∷ ps) short h = by (place_of p (take n recent)) refl h (λ most recent h. frames_back most recent ps short.1 h)
    where
      by : (o : Option ℕ) → place_of p (take n recent) ≡ o → length (frame_bytes (frame_at o p recent (λ recent. honest_frames n recent ps))) ≤ most
          → ((most : ℕ) (recent : List (List ℕ)) → length (frame_bytes (honest_frames n recent ps)) ≤ most → AreBack most recent (honest_frames n recent ps) ps)
          → AreBack most recent (frame_at o p recent (λ recent. honest_frames n recent ps)) (p ∷ ps)
      by None e h ih = new_then most recent p ps (honest_frames n (p ∷ recent) ps) short.0 h (λ most h. ih most (p ∷ recent) h)
      by (Some k) e h ih = use_then most recent k p ps (honest_frames n recent ps) (place_found p (take n recent) k e) h (λ most h. ih most recent h)

-- the header of a proof file is a good one
header_then : (magic rest : List ℕ) (most n : ℕ) → length magic ≡ 4 → n < 2 ^ 16 → n ≤ most
    → let bytes = magic ++ (to_be_bytes w16 n ++ rest) in
    let m = from_be_bytes w16 (take 2 (drop 4 bytes)) in
    (if nat_le 6 (length bytes) && bytes_eq (take 4 bytes) magic && nat_le m most then Some m else None) ≡ Some n
header_then (a ∷ b ∷ c ∷ d ∷ []) rest most n e low small =
    let F : ℕ → Type 0 = λ m. body m ≡ Some n in
    subst F (sym (from_be_bytes-to_be_bytes_2 n low)) (rw (long, same, le-leb n most small) refl)
  where
    magic : List ℕ
    magic = a ∷ b ∷ c ∷ d ∷ []

    body : ℕ → Option ℕ
    body m = if nat_le 6 (length (magic ++ (to_be_bytes w16 n ++ rest))) && bytes_eq magic magic && nat_le m most then Some m else None

    long : nat_le 6 (length (magic ++ (to_be_bytes w16 n ++ rest))) ≡ true
    long = le-leb _ _ (omega arith)

    same : bytes_eq magic magic ≡ true
    same = (bytes_eq-Decides magic magic).1 refl
header_then magic rest most n e low small = absurd (omega arith)

pub header_back : (format : Format) (n : ℕ) (ps : List (List ℕ)) → IsFormat format → n ≤ format.most_kept → header format (proof_file format n ps) ≡ Some n
header_back format n ps is small =
    header_then format.magic (frame_bytes (honest_frames n [] ps)) format.most_kept n is.magic_length (omega (arith, is.kept_fits)) small

-- the frames of a proof file stand behind its first six bytes
behind_magic : (magic rest : List ℕ) (n : ℕ) → length magic ≡ 4 → drop 6 (magic ++ (to_be_bytes w16 n ++ rest)) ≡ rest
behind_magic (a ∷ b ∷ c ∷ d ∷ []) rest n e = refl
behind_magic magic rest n e = absurd (omega arith)

pub behind_header : (format : Format) (n : ℕ) (ps : List (List ℕ)) → IsFormat format → drop 6 (proof_file format n ps) ≡ frame_bytes (honest_frames n [] ps)
behind_header format n ps is = behind_magic format.magic (frame_bytes (honest_frames n [] ps)) n is.magic_length

-- pieces that are each within the limit, by their places
pub all_short : (limit : ℕ) (ps : List (List ℕ)) → All (λ p. length p ≤ limit) ps → AllShort limit ps
all_short limit [] h = tt
all_short limit (p ∷ ps) h = (h 0 [] (omega arith), all_short limit ps (λ k d l. h (suc k) d (omega (arith, l))))

-- the proof file of pieces within the limit is read back
pub proof_file_back : ProofFileIsReadBack
proof_file_back format is n small ps short =
    let fs = frame_bytes (honest_frames n [] ps) in
    let back = frames_back format.limit n is.limit_fits (omega (arith, is.kept_fits)) (length fs) [] ps (all_short format.limit ps short) (le_refl (length fs)) in
    let offers : offered_pieces (offered format.limit fs n []) ≡ ps = back.pieces in
    (header_back format n ps is small, subst (λ bytes. offered_pieces (offered format.limit bytes n []) ≡ ps) (sym (behind_header format n ps is)) offers)

-- an offer of given pieces, without frames
abbrev pub offer_of : List (List ℕ) → Offer
offer_of [] = NoMore NoByte
offer_of (p ∷ ps) = Offers p 0 (offer_of ps)

pub offers_of : (ps : List (List ℕ)) → offered_pieces (offer_of ps) ≡ ps
offers_of [] = refl
offers_of (p ∷ ps) = ap (λ l. p ∷ l) (offers_of ps)

-- before each piece a byte at least is left
abbrev pub Coherent : ℕ → Offer → Type 0
Coherent n (NoMore e) = Unit {0}
Coherent n (Offers bytes left more) = (0 < n) × Coherent left more

use_coherent : (o : Option (List ℕ)) (n k held : ℕ) (left : List ℕ) (more : List ℕ → Offer) → 0 < n
    → ((bs : List ℕ) → Coherent (length bs) (more bs)) → Coherent n (used_piece o k held left more)
use_coherent None n k held left more h c = tt
use_coherent (Some p) n k held left more h c = (h, c left)

if_coherent : (b : Bool) (n : ℕ) (x y : Offer) → Coherent n x → Coherent n y → Coherent n (if b then x else y)
if_coherent true n x y h j = h
if_coherent false n x y h j = j

-- each offered piece took a byte at least
pub frames_coherent : (limit most n : ℕ) (recent : List (List ℕ)) (bytes : List ℕ) → Coherent (length bytes) (frames limit most n recent bytes)
frames_coherent limit zero n recent bytes = tt
frames_coherent limit (suc most) n recent [] = tt
frames_coherent limit (suc most) n recent (zero ∷ rest) =
    let len = from_be_bytes w32 (take 4 rest) in
    let p = take len (drop 4 rest) in
    let left = drop len (drop 4 rest) in
    if_coherent (nat_lt (length rest) 4) _ _ _ tt (if_coherent (nat_lt limit len) _ _ _ tt
    (if_coherent (nat_lt (length rest) (4 + len)) _ _ _ tt (omega arith, frames_coherent limit most n (p ∷ recent) left)))
frames_coherent limit (suc most) n recent (suc zero ∷ rest) =
    if_coherent (nat_lt (length rest) 2) _ _ _ tt
    (use_coherent (slice_get (take n recent) (from_be_bytes w16 (take 2 rest))) _ _ _ _ (frames limit most n recent) (omega arith) (frames_coherent limit most n recent))
frames_coherent limit (suc most) n recent (suc (suc b) ∷ rest) = tt
